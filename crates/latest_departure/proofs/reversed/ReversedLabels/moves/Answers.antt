use Rattle.plan_base.proofs.Common.{length, ap, arith, length-map}
use Rattle.latest_departure.specs.{StateLists, view_of}
use Rattle.latest_departure.proofs.TurnedLemmas.{view_read}
use Rattle.latest_departure.proofs.reversed.ReversedLabels.moves.Goals as goal

pub overflow_cast-result : goal.overflow_cast-result
overflow_cast-result c =
    let states = c.args.self.now.states.items in
    let lt = c.requires in
    let view = view_read states c.args.q c.index.result.now (omega (arith, length-map states view_of)) c.index.ensures in
    omega (arith, ap (λ (v : StateLists). length v.moves) view, c.args.self.now.lawful.few_moves c.args.q lt)
