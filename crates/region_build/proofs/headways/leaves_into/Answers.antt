use Rattle.plan_base.proofs.Common.{◌≡◌, ◌<◌, length, true, false, nat_lt, ◌∙◌, refl, arith, nat_tests, nil_from_length}
use Rattle.region_build.specs.{first_departure, lists_of, inside.kept_before}
use Rattle.region_build.proofs.LeavingLaws.{leaves_by_all, leaves_never, leaves_once}
use Rattle.region_build.proofs.headways.leaves_into.Goals as goal

pub returns-then-not-is_leaving : goal.returns-then-not-is_leaving
returns-then-not-is_leaving c = rw (leaves_never (lists_of c.args.source.now) (grind arith)) c.clear.ensures.items

pub returns-in_ok-push_all_leaves : goal.returns-in_ok-push_all_leaves
returns-in_ok-push_all_leaves c =
    let some : 0 < length c.args.source.now.frequencies.now = grind (arith, nat_tests) in
    rw (leaves_by_all (lists_of c.args.source.now) (grind arith) some, ← c.kept_before-before.ensures) (c.in_ok-push_all_leaves.ensures ∙ rw c.clear.ensures.items refl)

pub returns-in_ok-push : goal.returns-in_ok-push
returns-in_ok-push c =
    let none : length c.args.source.now.frequencies.now ≡ 0 = grind (arith, nat_tests) in
    let before : nat_lt (first_departure c.args.source.now.calls.now) (kept_before c.args.source.now.calls.now) ≡ true = grind (arith, nat_tests) in
    rw (leaves_once (lists_of c.args.source.now) (grind arith) (nil_from_length _ none), before) (let pushed = c.in_ok-push.ensures.items in let cleared = c.clear.ensures.items in grind (arith, pushed, cleared))

pub returns-else-first-before : goal.returns-else-first-before
returns-else-first-before c =
    let none : length c.args.source.now.frequencies.now ≡ 0 = grind (arith, nat_tests) in
    let behind : nat_lt (first_departure c.args.source.now.calls.now) (kept_before c.args.source.now.calls.now) ≡ false = grind (arith, nat_tests) in
    rw (leaves_once (lists_of c.args.source.now) (grind arith) (nil_from_length _ none), behind) c.clear.ensures.items
