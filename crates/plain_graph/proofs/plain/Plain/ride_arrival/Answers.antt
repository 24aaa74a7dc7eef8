use Rattle.plan_base.proofs.Common.{◌∙◌, sym}
use Rattle.plain_graph.proofs.RunLemmas.{run_there}
use Rattle.plain_graph.proofs.plain.Plain.ride_arrival.Goals as goal

pub at-arrival-requires-clause-trip : goal.at-arrival-requires-clause-trip
at-arrival-requires-clause-trip c = (run_there c.args.self.now.timetable.now c.known.ensures c.args.ride c.requires c.args.t c.in_ok-run.run' (sym c.next.ensures.is ∙ c.in_ok-run.was)).trip

pub at-arrival-requires-clause-day : goal.at-arrival-requires-clause-day
at-arrival-requires-clause-day c = (run_there c.args.self.now.timetable.now c.known.ensures c.args.ride c.requires c.args.t c.in_ok-run.run' (sym c.next.ensures.is ∙ c.in_ok-run.was)).day

pub at-arrival-requires-clause-call : goal.at-arrival-requires-clause-call
at-arrival-requires-clause-call c = (run_there c.args.self.now.timetable.now c.known.ensures c.args.ride c.requires c.args.t c.in_ok-run.run' (sym c.next.ensures.is ∙ c.in_ok-run.was)).call
