use Rattle.plan_base.proofs.Common.{◌≡◌, ◌<◌, length, true, false, nat_lt, refl, subst, arith, nat_tests, nil_from_length, IfSome_then}
use Rattle.region_build.specs.{first_departure, lists_of, inside.AreRowCounts, inside.kept_before}
use Rattle.region_build.proofs.LeavingLaws.{none_counted, once_counted, rows_counted}
use Rattle.region_build.proofs.headways.count_copies.Goals as goal

pub returns-then-not-is_leaving : goal.returns-then-not-is_leaving
returns-then-not-is_leaving c = none_counted (lists_of c.args.source.now) (grind arith) _ refl refl

pub returns-then-not-is_empty : goal.returns-then-not-is_empty
returns-then-not-is_empty c =
    let some : 0 < length c.args.source.now.frequencies.now = grind (arith, nat_tests) in
    IfSome_then _ c.count_rows.ensures (λ counts are. rows_counted (lists_of c.args.source.now) (grind arith) some counts
    (subst (λ before. AreRowCounts before c.args.source.now.frequencies.now counts) c.kept_before-before.ensures are))

pub returns-then-first-before : goal.returns-then-first-before
returns-then-first-before c =
    let none : length c.args.source.now.frequencies.now ≡ 0 = grind (arith, nat_tests) in
    let before : nat_lt (first_departure c.args.source.now.calls.now) (kept_before c.args.source.now.calls.now) ≡ true = grind (arith, nat_tests) in
    once_counted (lists_of c.args.source.now) (grind arith) (nil_from_length _ none) _ refl (rw before refl)

pub returns-else-first-before : goal.returns-else-first-before
returns-else-first-before c =
    let none : length c.args.source.now.frequencies.now ≡ 0 = grind (arith, nat_tests) in
    let behind : nat_lt (first_departure c.args.source.now.calls.now) (kept_before c.args.source.now.calls.now) ≡ false = grind (arith, nat_tests) in
    once_counted (lists_of c.args.source.now) (grind arith) (nil_from_length _ none) _ refl (rw behind refl)
