use Rattle.plan_base.proofs.Common.{ℕ, List, Option, map, Vec, subst, option_map, Global}
use Rattle.compile_commands.specs.inside.{IsListsOutcome}
use Rattle.compile_commands.proofs.{FeedLemmas.lists_fail, ResultLemmas.err_more}
use Rattle.compile_commands.proofs.feeds.read_feed_in.Goals as goal

pub returns-clause-err : goal.returns-clause-err
returns-clause-err g c =
    let caps = c.args.caps.now in
    err_more c.lists.result
    (λ outcome h.
    lists_fail caps (g.F.Shelf.meaning c.args.shelf.now) (g.F.Shelf.meaning c.read_tables.new.shelf) c.args.folder.now
    (map (option_map (λ bytes. bytes.items)) c.in_ok-texts.texts.items) c.in_ok-texts.ensures.ok outcome
    (subst (λ (x : List (Option (Vec ℕ Global))). IsListsOutcome caps (map (option_map (λ bytes. bytes.items)) x) outcome) c.deref.ensures.value h)) c.lists.ensures.err
