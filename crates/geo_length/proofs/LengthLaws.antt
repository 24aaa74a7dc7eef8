-- Bounds on lengths.
use Rattle.plan_base.proofs.Common.{◌≡◌, ℕ, ℤ, ◌≤ℤ◌, ◌<ℤ◌, ◌⊎◌, ⊎_elim, ◌-◌, ◌*◌, ◌/◌, ◌<◌, ◌≤◌, arith, min, ◌^◌, ◌-ℤ◌, unsigned_abs, mul-le-mul, nat_tests, ints, cases_lt}
use Rattle.plan_base.specs.{Place}
use Rattle.geo_length.specs.{width_at, short_way_around, eastward, length_between, square_between, mean_degree, northward, root}
use Rattle.geo_length.proofs.{RootLaws.root-ge, RootLaws.root_is, WidthLaws.width_at-le}

-- the short way around is the less of both ways
pub around_is : (d : ℕ) → d ≤ 3600000000 → short_way_around d ≡ min d (3600000000 - d)
around_is d h = grind (arith, nat_tests)

-- Past an interval of longitudes, one of its ends is nearest.
pub around_past : (x low high y : ℤ) → unsigned_abs x ≤ 1800000000 → unsigned_abs low ≤ 1800000000 → unsigned_abs high ≤ 1800000000 → low ≤ℤ y → y ≤ℤ high → (x <ℤ low) ⊎ (high <ℤ x) → min (short_way_around (unsigned_abs (x -ℤ low))) (short_way_around (unsigned_abs (x -ℤ high))) ≤ short_way_around (unsigned_abs (x -ℤ y))
around_past x low high y a b c south north past =
    let p = around_is (unsigned_abs (x -ℤ low)) (omega (arith, ints)) in
    let q = around_is (unsigned_abs (x -ℤ high)) (omega (arith, ints)) in
    let r = around_is (unsigned_abs (x -ℤ y)) (omega (arith, ints)) in
    rw (p, q, r) (⊎_elim (λ h. omega (arith, ints)) (λ h. omega (arith, ints)) past)

pub northward-le : (a b : Place) → northward a b ≤ length_between a b
unfolding length_between
northward-le a b = root-ge _ (northward a b) (omega arith)

pub eastward-le : (a b : Place) → eastward a b ≤ length_between a b
unfolding length_between
eastward-le a b = root-ge _ (eastward a b) (omega arith)

-- a lesser difference and a lesser width make no longer way
pub eastward-ge : (a b : Place) (difference width : ℕ) → difference ≤ short_way_around (unsigned_abs (a.lon -ℤ b.lon)) → width ≤ width_at (mean_degree a b) → difference * 11132 * width / 10 ^ 7 ≤ eastward a b
unfolding eastward
eastward-ge a b difference width less narrower =
    let product : difference * width ≤ short_way_around (unsigned_abs (a.lon -ℤ b.lon)) * width_at (mean_degree a b) = mul-le-mul less narrower in
    omega (arith, product)

northward-few : (a b : Place) → northward a b ≤ 2 ^ 35
unfolding northward
northward-few a b = omega (arith, ints, a.in_range.south, a.in_range.north, b.in_range.south, b.in_range.north)

eastward-few : (a b : Place) → eastward a b ≤ 2 ^ 35
unfolding eastward
eastward-few a b =
    let wide = around_is (unsigned_abs (a.lon -ℤ b.lon)) (omega (arith, ints, a.in_range.west, a.in_range.east, b.in_range.west, b.in_range.east)) in
    let few : short_way_around (unsigned_abs (a.lon -ℤ b.lon)) ≤ 1800000000 = omega (arith, wide) in
    let most : short_way_around (unsigned_abs (a.lon -ℤ b.lon)) * width_at (mean_degree a b) ≤ 1800000000 * 10000 = mul-le-mul few (width_at-le (mean_degree a b)) in
    omega (arith, most)

-- no two places are further apart than the circumference
pub length-few : (a b : Place) → length_between a b < 2 ^ 40
unfolding length_between
length-few a b =
    let north = mul-le-mul (northward-few a b) (northward-few a b) in
    let east = mul-le-mul (eastward-few a b) (eastward-few a b) in
    let square = (root_is (square_between a b)).square in
    ⊎_elim (λ few. few) (λ (long : 2 ^ 40 ≤ root (square_between a b)). let longer = mul-le-mul long long in absurd (omega (arith, longer, square, north, east))) (cases_lt (root (square_between a b)) (2 ^ 40))
