-- The order of rows.
use Rattle.plan_base.proofs.Common.{◌≡◌, ℕ, ℤ, ◌≤◌, Bool, true, false, ◌&&◌, refl, arith, nat_eq, Some, ap, sym, ◌∙◌, IsTotalOrder, eq_by_cmp, int_cmp, int_eq, is_eq, is_lt, nat_cmp, ordering_then, Less, Equal, Greater, nat_tests, ints, int_cmp_total, nat_cmp_total, on_total, then_total, tied_itself, same_Some, Ordering}
use Rattle.plan_base.specs.{mode_numbered, number_of_mode, Mode, Foot, Bike, Car}
use Rattle.road_profile.specs.{RoadRow, AreParallel, row_cmp}

-- the order of the sort: at equal ends and an equal mode the time decides
abbrev pub full_cmp : RoadRow → RoadRow → Ordering
full_cmp a b = ordering_then (ordering_then (ordering_then (int_cmp a.from b.from) (int_cmp a.to b.to)) (nat_cmp (number_of_mode a.mode) (number_of_mode b.mode))) (nat_cmp a.ms b.ms)

abbrev pub same_key : RoadRow → RoadRow → Bool
same_key a b = int_eq a.from b.from && (int_eq a.to b.to && nat_eq (number_of_mode a.mode) (number_of_mode b.mode))

pub row_cmp_total : IsTotalOrder row_cmp
row_cmp_total =
    then_total (on_total (λ (r : RoadRow). r.from) int_cmp_total) (then_total (on_total (λ (r : RoadRow). r.to) int_cmp_total) (on_total (λ (r : RoadRow). number_of_mode r.mode) nat_cmp_total))

int_tie : (x y : ℤ) → int_eq x y ≡ is_eq (int_cmp x y)
int_tie x y = grind (arith, ints)

nat_tie : (x y : ℕ) → nat_eq x y ≡ is_eq (nat_cmp x y)
nat_tie x y = grind (arith, nat_tests)

then_tie : (p q : Ordering) → is_eq (ordering_then p q) ≡ is_eq p && is_eq q
then_tie Less q = refl
then_tie Equal q = refl
then_tie Greater q = refl

-- rows with one key are those that the order does not tell apart
pub same_key_ties : (a b : RoadRow) → same_key a b ≡ eq_by_cmp row_cmp a b
same_key_ties a b =
    rw (then_tie, then_tie, ← int_tie a.from b.from, ← int_tie a.to b.to, ← nat_tie (number_of_mode a.mode) (number_of_mode b.mode)) refl

then_earlier : (p q r s : Ordering) → is_lt (ordering_then (ordering_then (ordering_then p q) r) s) ≡ false → is_lt (ordering_then p (ordering_then q r)) ≡ false
then_earlier Less q r s h = h
then_earlier Greater q r s h = refl
then_earlier Equal Less r s h = h
then_earlier Equal Greater r s h = refl
then_earlier Equal Equal Less s h = h
then_earlier Equal Equal Equal s h = refl
then_earlier Equal Equal Greater s h = refl

-- what stands in order with the time stands in order without it
pub row_earlier : (a b : RoadRow) → is_lt (full_cmp b a) ≡ false → is_lt (row_cmp b a) ≡ false
row_earlier a b h = then_earlier (int_cmp b.from a.from) (int_cmp b.to a.to) (nat_cmp (number_of_mode b.mode) (number_of_mode a.mode)) (nat_cmp b.ms a.ms) h

-- a mode is that of its number
mode_by_number : (a b : Mode) → number_of_mode a ≡ number_of_mode b → a ≡ b
mode_by_number a b e = same_Some a b (numbered a ∙ (ap mode_numbered e ∙ sym (numbered b)))
  where
    numbered : (mode : Mode) → Some mode ≡ mode_numbered (number_of_mode mode)
    numbered Foot = refl
    numbered Bike = refl
    numbered Car = refl

pub parallel_from_same : (a b : RoadRow) → same_key a b ≡ true → AreParallel a b
parallel_from_same a b h =
    let numbers : number_of_mode a.mode ≡ number_of_mode b.mode = grind (arith, nat_tests) in
    record { from = grind (arith, ints); to = grind (arith, ints); mode = mode_by_number a.mode b.mode numbers }

pub parallel_ties : (a b : RoadRow) → AreParallel a b → row_cmp a b ≡ Equal
parallel_ties a b p =
    rw (p.from, p.to, p.mode, tied_itself int_cmp_total b.from, tied_itself int_cmp_total b.to) (tied_itself nat_cmp_total (number_of_mode b.mode))

-- of parallel rows in order the first takes no more time
pub parallel_least : (a b : RoadRow) → is_lt (full_cmp b a) ≡ false → AreParallel a b → a.ms ≤ b.ms
parallel_least a b h p =
    let from : int_cmp b.from a.from ≡ Equal = rw p.from (tied_itself int_cmp_total b.from) in
    let to : int_cmp b.to a.to ≡ Equal = rw p.to (tied_itself int_cmp_total b.to) in
    let mode : nat_cmp (number_of_mode b.mode) (number_of_mode a.mode) ≡ Equal = rw p.mode (tied_itself nat_cmp_total (number_of_mode b.mode)) in
    let late = rw (from, to, mode) at h in
    grind (arith, nat_tests, late)
