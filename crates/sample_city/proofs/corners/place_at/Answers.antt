use Rattle.plan_base.proofs.Common.{◌≡◌, ◌+◌, ◌*◌, ℤ, pos, to_z, w64, ◌∙◌, ap, arith}
use Rattle.std.proofs.lemmas.Int.{to_z_pos}
use Rattle.plan_base.specs.{place_of}
use Rattle.sample_city.proofs.corners.place_at.Goals as goal

pub returns : goal.returns
returns c =
    let lat : to_z w64 (480000000 + 10000 * c.from.result) ≡ pos (480000000 + 10000 * c.args.at.row) = to_z_pos w64 (480000000 + 10000 * c.from.result) (omega arith) ∙ ap (λ row. pos (480000000 + 10000 * row)) c.from.ensures in
    let lon : to_z w64 (110000000 + 10000 * c.from-2.result) ≡ pos (110000000 + 10000 * c.args.at.column) = to_z_pos w64 (110000000 + 10000 * c.from-2.result) (omega arith) ∙ ap (λ column. pos (110000000 + 10000 * column)) c.from-2.ensures in
    c.new.ensures.place ∙ ap (λ (north : ℤ). place_of north (to_z w64 (110000000 + 10000 * c.from-2.result))) lat
    ∙ ap (λ (east : ℤ). place_of (pos (480000000 + 10000 * c.args.at.row)) east) lon
