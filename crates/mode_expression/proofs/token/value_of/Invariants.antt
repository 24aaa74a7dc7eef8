use Rattle.plan_base.proofs.Common.{◌≡◌, ◌≤◌, take}
use Rattle.mode_expression.specs.{decimal}
use Rattle.mode_expression.proofs.token.value_of.Given as goal

abbrev pub invariant-loop-c : goal.invariant-loop-c
invariant-loop-c l =
    (l.value ≡ decimal (take l.c-index l.digits))
    × (l.c-index ≤ 0 → l.value ≤ 0) × (l.c-index ≤ 1 → l.value ≤ 207) × (l.c-index ≤ 2 → l.value ≤ 2277)
    × (l.c-index ≤ 3 → l.value ≤ 22977)
