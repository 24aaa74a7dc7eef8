use Rattle.plan_base.proofs.Common.{rules, w64, SFits, to_z, ◌∙◌, ap, sym, Some, to_z-of_z}
use Rattle.mode_network.proofs.NearLemmas.{same_point}
use Rattle.mode_network.proofs.points.is_same.Goals as goal

pub returns-then-id-point : goal.returns-then-id-point
returns-then-id-point c =
    let fits : SFits w64 c.in-Some.id = search rules in
    let wide : SFits w64 c.args.point.0 = search rules in
    λ is. c.in-Some.is ∙ ap Some (same_point (c.in-Some.id, c.in-Some.place) c.args.point (sym (to_z-of_z w64 c.in-Some.id fits) ∙ ap (to_z w64) c.if-id-point.true ∙ to_z-of_z w64 c.args.point.0 wide) (sym c.eq.ensures ∙ is))
