use Rattle.timetable_arcs.proofs.TableLemmas.{ride_fits}
use Rattle.plain_graph.proofs.plain.Plain.inner_arc.Goals as goal

pub returns-in-None-Some-clause-ride : goal.returns-in-None-Some-clause-ride
returns-in-None-Some-clause-ride c =
    let fits = ride_fits c.args.self.now.timetable.now c.known.ensures c.in-None-Some.stop c.args.i c.ride.result c.ride.ensures in
    record { pattern = fits.pattern; later = fits.later; within = fits.within }
