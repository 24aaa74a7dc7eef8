use Rattle.plan_base.proofs.Common.{arith}
use Rattle.timetable_arcs.specs.inside.{lists_of}
use Rattle.timetable_arcs.proofs.TableLemmas.{patterns_few}
use Rattle.timetable_arcs.proofs.timetable.Timetable.patterns.Goals as goal

pub overflow_cast-result : goal.overflow_cast-result
overflow_cast-result c = omega (arith, patterns_few (lists_of c.self.inside) c.self.invariant.rules)
