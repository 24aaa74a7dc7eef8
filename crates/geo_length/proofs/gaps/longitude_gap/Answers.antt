use Rattle.plan_base.proofs.Common.{arith, ◌⊎◌, inl, inr, ◌<ℤ◌, ints}
use Rattle.geo_length.proofs.{LengthLaws.around_past, gaps.longitude_gap.Goals.else-bounds-place-via-then-bounds-place+else-place-bounds, gaps.longitude_gap.Goals.else-bounds-place-via-else-bounds-place}
use Rattle.geo_length.proofs.gaps.longitude_gap.Goals as goal

past : (c : goal.After-min) → (c.args.place.lon <ℤ c.args.bounds.now.low.lon) ⊎ (c.args.bounds.now.high.lon <ℤ c.args.place.lon)
past c =
    elim c.else-bounds-place.branch [ else-bounds-place-via-then-bounds-place+else-place-bounds w ↦ inr (omega (arith, ints)) | else-bounds-place-via-else-bounds-place w ↦ inl (omega (arith, ints)) ]

pub returns-else-bounds-place-clause-value : goal.returns-else-bounds-place-clause-value
returns-else-bounds-place-clause-value c = λ other inside.
    let p = c.args.place.in_range in
    let low = c.args.bounds.now.low.in_range in
    let high = c.args.bounds.now.high.in_range in
    rw (c.min.ensures, c.longitude_between.ensures.value, c.longitude_between-else-bounds-place.ensures.value) (
    around_past c.args.place.lon c.args.bounds.now.low.lon c.args.bounds.now.high.lon other.lon (omega (arith, ints)) (omega (arith, ints)) (omega (arith, ints)) inside.west inside.east (past c)
    )
