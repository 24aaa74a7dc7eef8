use Rattle.timetable_arcs.proofs.TableLemmas.{rides_few}
use Rattle.plan_base.proofs.Common.{sym, subst, ◌<◌, ◌^◌}
use Rattle.plain_graph.proofs.plain.rides_at.Goals as goal

pub returns-clause-few : goal.returns-clause-few
returns-clause-few c = subst (λ k. k < 2 ^ 63) (sym c.rides.ensures) (rides_few c.args.timetable.now c.known.ensures c.args.stop)
