use Rattle.product_search.proofs.StartLemmas.{match_places}
use Rattle.product_search.proofs.start_check.first_open_start.Goals as goal

pub returns-then-is_before : goal.returns-then-is_before
returns-then-is_before g c =
    match_places (g.L.Labels.automaton c.args.labels.now) c.args.starts.now c.args.dep c.args.arrival c.args.list.now c.first_unlisted_start.result
    (c.is_before.ensures.before.0 c.if-is_before.true) c.first_unlisted_start.ensures
