use Rattle.plan_base.proofs.Common.{◌+◌, ◌-◌, ◌/◌, ◌++◌, ◌∷◌, [], ◌-ℤ◌, sym, ap₂, ◌∙◌, arith, rules, FitsSigned, w64, length, ℤ, unsigned_abs, to_z-of_z}
use Rattle.jiff_core.proofs.SignedLemmas.{signed_arith}
use Rattle.service_days.specs.{have_day_lengths, zone_base, zone_of, is_day_length}
use Rattle.service_days.proofs.{PlainDays.one_more, ZoneDays.have_day_lengths-zero, ZoneDays.have_day_lengths-more, ZoneDays.lengths_fail, ZoneDays.at_next_noon, ZoneDays.and_fails, ZoneDays.and_holds}
use Rattle.service_days.proofs.zones.zone_bases.Goals as goal

pub loop-day-init : goal.loop-day-init
loop-day-init c =
    let fits : FitsSigned w64 c.noon-start.result = omega (arith, signed_arith, c.noon-start.ensures.bound) in
    simp to_z-of_z (
      record { first = c.noon-start.ensures.value; now = c.noon-start.ensures.value; first_within = c.noon-start.ensures.bound; within = c.noon-start.ensures.bound; later = omega (arith, signed_arith) },
      have_day_lengths-zero (zone_of c.args.zone.now) c.args.dates.now,
      c.new-bases.ensures.items,
    )

pub returns-then-not-is_day_length-clause-err : goal.returns-then-not-is_day_length-clause-err
returns-then-not-is_day_length-clause-err c =
    let zone = zone_of c.args.zone.now in
    let dates = c.args.dates.now in
    let fits : FitsSigned w64 c.noon-next.result = omega (arith, signed_arith, c.noon-next.ensures.bound) in
    let short = simp to_z-of_z at (sym c.is_day_length.ensures ∙ c.if-not-is_day_length.true) in
    let noons = ap₂ is_day_length c.loop-day.invariant.0.now c.noon-next.ensures.value in
    lengths_fail zone dates (c.loop-day.day + 1) (length dates - 1) (search rules)
    (have_day_lengths-more zone dates c.loop-day.day ∙ and_fails (have_day_lengths zone dates c.loop-day.day) _ (noons ∙ short))

pub loop-day-preserved : goal.loop-day-preserved
loop-day-preserved c =
    let zone = zone_of c.args.zone.now in
    let dates = c.args.dates.now in
    let day = c.loop-day.day in
    let start_fits : FitsSigned w64 c.noon-start.result = omega (arith, signed_arith, c.noon-start.ensures.bound) in
    let fits : FitsSigned w64 c.noon-next.result = omega (arith, signed_arith, c.noon-next.ensures.bound) in
    let long = simp to_z-of_z at (sym c.is_day_length.ensures ∙ c.if-not-is_day_length.false) in
    let next_at = at_next_noon zone dates day _ _ c.noon-next.result c.loop-day.invariant.0 c.noon-next.ensures.value c.noon-next.ensures.bound long in
    let noons = ap₂ is_day_length c.loop-day.invariant.0.now c.noon-next.ensures.value in
    let base = c.milliseconds.ensures ∙ ap₂ (λ (here : ℤ) (start : ℤ). unsigned_abs (here -ℤ start) / 1000000) (sym c.loop-day.invariant.0.now) (sym c.loop-day.invariant.0.first) in
    let plain = simp to_z-of_z at next_at in (
      simp to_z-of_z plain,
      have_day_lengths-more zone dates day ∙ and_holds (have_day_lengths zone dates day) _ c.loop-day.invariant.1 (noons ∙ long),
      c.in-Ok.ensures.items ∙ ap₂ (λ bases b. bases ++ b ∷ []) c.loop-day.invariant.2 base ∙ sym (one_more (zone_base zone dates) day),
    )
