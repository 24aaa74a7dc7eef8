use Rattle.plan_base.proofs.Common.{sym, ⊤, hash_map_updates_str}
use Rattle.std.proofs.lemmas.Option.{MatchOption-at_some}
use Rattle.region_build.specs.{inside.at, inside.listed, AreDaysBy}
use Rattle.region_build.proofs.ServiceLaws.{known_more}
use Rattle.region_build.proofs.services.Services.days_of.Goals as goal

pub returns-in-Some-clause-runs : goal.returns-in-Some-clause-runs
returns-in-Some-clause-runs c =
    let id = c.args.id.now in
    MatchOption-at_some ⊤ (AreDaysBy c.args.days.now (at c.args.self.now.rules id) (listed c.args.self.now.added id) (listed c.args.self.now.removed id))
    c.in-Some.set.now (sym c.in-Some.ensures.value) (c.requires id)

pub returns-clause-known : goal.returns-clause-known
returns-clause-known c =
    known_more c.args.days.now (at c.args.self.now.rules) (listed c.args.self.now.added) (listed c.args.self.now.removed) (at c.args.known.now) (at c.insert.new.self) c.args.id.now c.run_days-set.result
    c.requires c.run_days-set.ensures (hash_map_updates_str c.args.id.now c.args.known.now c.insert.new.self _ c.in_ok-insert.ensures.updates)
