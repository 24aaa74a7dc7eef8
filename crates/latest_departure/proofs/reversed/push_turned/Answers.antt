use Rattle.plan_base.proofs.Common.{◌++◌, ◌∙◌, ap}
use Rattle.search_laws.specs.{Move}
use Rattle.latest_departure.specs.{turned_move}
use Rattle.latest_departure.proofs.TurnedLemmas.{turned_pushed}
use Rattle.latest_departure.proofs.reversed.push_turned.Goals as goal

pub loop-i-preserved : goal.loop-i-preserved
loop-i-preserved g c =
    turned_pushed (g.L.Labels.automaton c.args.inner.now) c.args.r c.args.q c.loop-i.i c.args.moves.now.items c.loop-i.moves.items c.push_if.new.moves.items c.loop-i.invariant
    (c.in_ok-push_if.ensures ∙ ap (λ (m : Move). c.loop-i.moves.items ++ turned_move c.args.r c.args.q m) c.move_at.ensures)
