use Rattle.timetable_arcs.specs.{IsIn}
use Rattle.ride_passes.proofs.RunLemmas.{run_there}
use Rattle.ride_passes.proofs.pass.arrival_at.Goals as goal

pub at-arrival-requires-clause-trip : goal.at-arrival-requires-clause-trip
at-arrival-requires-clause-trip c =
    let is_in : IsIn c.args.timetable.now c.args.pattern c.in_ok-run.run' = rw c.in_ok-run.was at c.requires.run in
    (run_there c.args.timetable.now c.known.ensures c.args.pattern c.in_ok-run.run' is_in c.args.place c.requires.call).trip

pub at-arrival-requires-clause-day : goal.at-arrival-requires-clause-day
at-arrival-requires-clause-day c =
    let is_in : IsIn c.args.timetable.now c.args.pattern c.in_ok-run.run' = rw c.in_ok-run.was at c.requires.run in
    (run_there c.args.timetable.now c.known.ensures c.args.pattern c.in_ok-run.run' is_in c.args.place c.requires.call).day

pub at-arrival-requires-clause-call : goal.at-arrival-requires-clause-call
at-arrival-requires-clause-call c =
    let is_in : IsIn c.args.timetable.now c.args.pattern c.in_ok-run.run' = rw c.in_ok-run.was at c.requires.run in
    (run_there c.args.timetable.now c.known.ensures c.args.pattern c.in_ok-run.run' is_in c.args.place c.requires.call).within
