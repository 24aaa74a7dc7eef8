use Rattle.mode_expression.proofs.PlacesLemmas.{places_parts}
use Rattle.mode_expression.proofs.size.+count_places.Goals as goal

pub returns-after-loop-part : goal.returns-after-loop-part
returns-after-loop-part t c =
    places_parts c.args.expr.now c.in-Seq.parts c.deref-part-items.result.now c.loop-part.part-index c.loop-part.count c.in-Seq.is
    c.deref-part-items.ensures.value c.loop-part-test.false c.loop-part.invariant
