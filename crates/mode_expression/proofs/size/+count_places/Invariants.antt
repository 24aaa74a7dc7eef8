use Rattle.plan_base.proofs.Common.{◌≡◌, ◌^◌, min, sum_by, take}
use Rattle.mode_expression.specs.{form_of, places}
use Rattle.mode_expression.proofs.size.+count_places.Given as goal

abbrev pub invariant-loop-part : goal.invariant-loop-part
invariant-loop-part l = l.count ≡ min (sum_by (λ part. places (form_of part)) (take l.part-index l.part-items)) (2 ^ 32)
