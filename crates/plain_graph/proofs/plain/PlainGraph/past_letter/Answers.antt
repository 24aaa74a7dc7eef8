use Rattle.plan_base.proofs.Common.{arith}
use Rattle.timetable_arcs.proofs.TableLemmas.{rides_few}
use Rattle.plain_graph.proofs.plain.PlainGraph.past_letter.Goals as goal

pub overflow_add-result : goal.overflow_add-result
overflow_add-result c = omega (arith, c.past_board.ensures.within, rides_few c.args.self.now.timetable.now c.known.ensures c.in-None-Some.stop)
