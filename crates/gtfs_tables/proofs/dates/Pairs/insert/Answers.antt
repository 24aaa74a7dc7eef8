use Rattle.plan_base.proofs.Common.{ℕ, List, ◌∙◌, sym, ap, not, list_any}
use Rattle.gtfs_tables.specs.{is_same_pair}
use Rattle.gtfs_tables.proofs.ListLemmas.{list_any-map}
use Rattle.gtfs_tables.proofs.dates.Pairs.insert.Goals as goal

pub returns-clause-new : goal.returns-clause-new
returns-clause-new c =
    let keys = c.self.inside.pairs.keys in
    let copied = ap (λ (id : List ℕ). list_any (λ key. is_same_pair (id, c.args.date) (key.0.items, key.1)) keys) c.in_ok-id.ensures.items in
    let seen = sym (list_any-map (λ key. (key.0.items, key.1)) (is_same_pair (c.args.id.now, c.args.date)) keys) ∙ ap (list_any (is_same_pair (c.args.id.now, c.args.date))) c.self.view_is in
    c.in_ok-new.ensures.added ∙ ap not (copied ∙ seen)
