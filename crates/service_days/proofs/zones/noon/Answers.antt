use Rattle.plan_base.proofs.Common.{◌≡◌, refl, sym, ap, ap₂, ◌∙◌, arith, ℤ, pos, ◌+ℤ◌, ◌-ℤ◌, ◌*ℤ◌, FitsSigned, w32, w64, to_z-of_z}
use Rattle.jiff_core.proofs.SignedLemmas.{signed_arith}
use Rattle.jiff_core.specs.Timestamp.{nanos_of_seconds}
use Rattle.jiff_tz.specs.Ambiguous.{compatible_offset}
use Rattle.service_days.specs.{epoch_day_of}
use Rattle.service_days.proofs.Noons.{epoch_day_is, noon_offsets_are, wall_noon_is, noon_seconds_is}
use Rattle.service_days.proofs.zones.noon.Goals as goal

pub returns-clause-value : goal.returns-clause-value
returns-clause-value c =
    let n = c.args.date in
    let tz = c.args.zone.now in
    let day = epoch_day_is n c.civil_date-date.result c.civil_date-date.ensures in
    let offsets = noon_offsets_are tz.std_offset tz.dst n _ c.civil_date-date.ensures.0 (wall_noon_is n _ day refl) in
    let offset = c.compatible-offset.ensures ∙ ap compatible_offset (c.to_ambiguous_offset.ensures ∙ offsets) in
    let fits : FitsSigned w64 c.noon_seconds.result = omega (arith, signed_arith, c.noon_seconds.ensures.bound) in
    let day_fits : FitsSigned w32 c.to_unix_epoch_day.result = omega (arith, signed_arith, c.to_unix_epoch_day.ensures.bound) in
    let offset_fits : FitsSigned w32 c.compatible-offset.result.seconds = omega (arith, signed_arith, c.compatible-offset.result.in_range) in
    let seconds : c.noon_seconds.result ≡ (epoch_day_of n *ℤ pos 86400) +ℤ pos 43200 -ℤ c.compatible-offset.result.seconds =
    c.noon_seconds.ensures.value ∙ ap₂ (λ (d : ℤ) (o : ℤ). (d *ℤ pos 86400) +ℤ pos 43200 -ℤ o)
    (to_z-of_z w32 c.to_unix_epoch_day.result day_fits ∙ c.to_unix_epoch_day.ensures.value ∙ day) (to_z-of_z w32 c.compatible-offset.result.seconds offset_fits) in
    simp to_z-of_z
    (ap₂ (λ (noon : ℤ) (seconds : ℤ). noon -ℤ nanos_of_seconds seconds) refl (ap (λ o. o.seconds) (sym offset))
    ∙ noon_seconds_is (epoch_day_of n) c.compatible-offset.result.seconds c.noon_seconds.result seconds)
