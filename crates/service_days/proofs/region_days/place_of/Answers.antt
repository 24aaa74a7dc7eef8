use Rattle.plan_base.proofs.Common.{sym, arith, Ok, Err}
use Rattle.std.proofs.lemmas.List.Sorted.{searched}
use Rattle.service_days.proofs.RisingLists.{found_at, not_found, non_decreasing}
use Rattle.service_days.proofs.region_days.place_of.Goals as goal

pub returns-in-Ok-clause-value : goal.returns-in-Ok-clause-value
returns-in-Ok-clause-value c =
    let found = searched c.args.dates.now c.args.date (Ok c.in-Ok.place) c.in-Ok.ensures.position (non_decreasing c.args.dates.now c.requires.rise) in
    sym (found_at c.args.dates.now c.args.date c.in-Ok.place c.requires.rise found.0 found.1)

pub returns-in-Err-clause-value : goal.returns-in-Err-clause-value
returns-in-Err-clause-value c =
    let found = searched c.args.dates.now c.args.date (Err c.in-Err.field-0) c.in-Err.ensures.position (non_decreasing c.args.dates.now c.requires.rise) in
    sym (not_found c.args.dates.now c.args.date (λ k h same. grind (arith, found.1 k, found.2 k, h, same)))
