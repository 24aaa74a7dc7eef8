use Rattle.plan_base.proofs.Common.{ℕ, nat_le, ◌∙◌, ap, rules, of_calls, always_returns_same}
use Rattle.timetable_arcs.specs.{Board, rides_end}
use Rattle.plain_graph.proofs.LetterTies.{past_found}
use Rattle.plain_graph.proofs.plain.past_board.Goals as goal

pub returns : goal.returns
returns c =
    past_found c.args.timetable.now c.args.stop c.args.i c.partition_point-place.result c.rides_before.result c.boards-boards.result.now c.boards-boards.ensures c.requires.ride
    c.partition_point-place.ensures.bound (c.partition_point-place.ensures.partitioned (λ (b : Board). nat_le b.before c.args.i) (always_returns_same _ _ _ (λ a r f k. search (rules, of_calls))))
    (c.rides_before.ensures ∙ ap (λ (n : ℕ). rides_end c.boards-boards.result.now n c.partition_point-place.result) c.rides.ensures)
