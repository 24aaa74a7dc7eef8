use Rattle.plan_base.proofs.Common.{arith, ints}
use Rattle.std.proofs.lemmas.Int.{clamps}
use Rattle.geo_length.proofs.boxes.Bounds.with.Goals as goal

pub invariant_of-result : goal.invariant_of-result
invariant_of-result c =
    let p = c.args.place.in_range in
    let q = c.args.self.low.in_range in
    record { in_range = record { south = omega (arith, ints, clamps); north = omega (arith, ints, clamps); west = omega (arith, ints, clamps); east = omega (arith, ints, clamps) } }

pub invariant_of-result-2 : goal.invariant_of-result-2
invariant_of-result-2 c =
    let p = c.args.place.in_range in
    let q = c.args.self.high.in_range in
    record { in_range = record { south = omega (arith, ints, clamps); north = omega (arith, ints, clamps); west = omega (arith, ints, clamps); east = omega (arith, ints, clamps) } }

pub returns-clause-place : goal.returns-clause-place
returns-clause-place c = record { south = omega (arith, ints, clamps); north = omega (arith, ints, clamps); west = omega (arith, ints, clamps); east = omega (arith, ints, clamps) }

pub returns-clause-kept : goal.returns-clause-kept
returns-clause-kept c = λ other inside. record { south = omega (arith, ints, clamps, inside.south); north = omega (arith, ints, clamps, inside.north); west = omega (arith, ints, clamps, inside.west); east = omega (arith, ints, clamps, inside.east) }
