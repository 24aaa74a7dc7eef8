use Rattle.plan_base.proofs.Common.{arith, nat_tests}
use Rattle.geo_length.proofs.LengthLaws.{northward-le, eastward-le}
use Rattle.geo_length.proofs.search.is_past.Goals as goal

pub returns : goal.returns
returns c =
    let north = northward-le c.args.place c.args.other in
    let east = eastward-le c.args.place c.args.other in
    grind (arith, nat_tests)
