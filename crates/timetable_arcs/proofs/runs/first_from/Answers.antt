use Rattle.timetable_arcs.specs.{Instance, plain_table, departs}
use Rattle.timetable_arcs.proofs.RunLemmas.{found_at_hint}
use Rattle.timetable_arcs.proofs.runs.first_from.Goals as goal

pub returns-then-is_first_from : goal.returns-then-is_first_from
returns-then-is_first_from c =
    found_at_hint (λ (run : Instance). departs (plain_table c.args.bases.now c.args.trips.now) run c.args.call) c.args.time c.args.runs.now c.args.hint c.requires
    c.if-is_first_from.ensures
