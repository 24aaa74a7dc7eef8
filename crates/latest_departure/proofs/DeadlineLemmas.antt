-- A deadline that a query line says is not before the region's first date, and small.
use Rattle.plan_base.proofs.Common.{◌≡◌, ℕ, ◌+◌, ◌^◌, ◌<◌, ◌≤◌, ◌⊎◌, ◌==◌, ◌&&◌, nat_le, nat_lt, nat_eq, Bool, true, false, cond, List, [], ◌∷◌, length, Option, Some, None, Ok, inl, inr, refl, subst, arith, option_and_then, option_map, ok_or, ltb-true, leb-true, nat_tests, position-Some}
use Rattle.plain_texts.specs.{fixed_at}
use Rattle.plain_texts.proofs.FixedDecimal.{fixed_takes}
use Rattle.service_days.specs.{AreDays, AreRisingDays, base_of, day_with_date, date_at}
use Rattle.mode_expression.specs.Form.{Form}
use Rattle.mode_network.specs.{Endpoint, NetworkLists.NetworkLists}
use Rattle.mode_network.proofs.RuleLemmas.{both, some_is}
use Rattle.journey.specs.{OutOfRange, part_at, millis_at, time_at, departure_on, departs_on, IsQuery}
use Rattle.latest_departure.specs.{first_moment}
use Rattle.latest_departure.proofs.OrderLemmas.{le_or_above}

bound : {X Y Z : Type 0} (f : X → Option Y) (o : Option X) (y : Y) → option_and_then f o ≡ Some y → ((x : X) → o ≡ Some x → f x ≡ Some y → Z) → Z
bound f None y e go = cc
bound f (Some x) y e go = go x refl e

guarded : {X : Type 0} (b : Bool) (o : Option X) (x : X) → cond b o None ≡ Some x → (b ≡ true) × (o ≡ Some x)
guarded true o x e = (refl, e)
guarded false o x e = cc

mapped : {X Y : Type 0} (f : X → Y) (o : Option X) (y : Y) → option_map f o ≡ Some y → (x : X) × (o ≡ Some x) × (f x ≡ y)
mapped f None y e = cc
mapped f (Some x) y e = (x, refl, some_is e)

part_small : (below tens ones n : ℕ) → part_at below tens ones ≡ Some n → n < below
part_small below tens ones n e =
    bound (λ (m : ℕ). cond (nat_lt m below) (Some m) None) (fixed_at (tens ∷ ones ∷ [])) n e
    (λ m is e. let kept = guarded (nat_lt m below) (Some m) n e in let same = some_is kept.1 in let less = ltb-true m below kept.0 in omega arith)

millis_small : (text : List ℕ) (ms : ℕ) → millis_at text ≡ Some ms → ms < 1000
millis_small [] ms e = let same = some_is e in omega arith
millis_small (point ∷ digits) ms e =
    let kept = guarded ((point == 46) && nat_eq (length digits) 3) (fixed_at digits) ms e in
    let three = (both (point == 46) (nat_eq (length digits) 3) kept.0).1 in
    let width : length digits ≡ 3 = grind (arith, nat_tests) in
    let fits = (fixed_takes digits ms kept.1).0.digits in
    subst (λ k. ms < 10 ^ k) width fits

time_small : (text : List ℕ) (ms : ℕ) → time_at text ≡ Some ms → ms < 86400000
time_small (a ∷ b ∷ c ∷ d ∷ e ∷ f ∷ g ∷ h ∷ rest) ms is =
    let kept = guarded ((c == 58) && (f == 58)) _ ms is in
    bound _ (part_at 24 a b) ms kept.1 (λ hours first is.
    bound _ (part_at 60 d e) ms is (λ minutes second is.
    bound _ (part_at 60 g h) ms is (λ seconds third is.
    let millis = mapped _ (millis_at rest) ms is in
    let x = part_small 24 a b hours first in
    let y = part_small 60 d e minutes second in
    let z = part_small 60 g h seconds third in
    let w = millis_small rest millis.0 millis.1 in
    let sum = millis.2 in
    omega arith)))
time_small _ ms is = cc

module _ (n : NetworkLists) (days : AreDays n.days) (order : AreRisingDays n.days) where
  record IsSoon (depart : ℕ) : Type 0 where
    not_before : first_moment n ≤ depart
    small : depart < 2 ^ 41

  base_after : (day : ℕ) → 7 ≤ day → day < n.days.count + 7 → first_moment n ≤ base_of n.days day
  base_after day late within = on_day (le_or_above day 7)
    where
      on_day : (day ≤ 7) ⊎ (7 < day) → first_moment n ≤ base_of n.days day
      on_day (inl first) = let same : 7 ≡ day = omega arith in subst (λ d. first_moment n ≤ base_of n.days d) same (omega arith)
      on_day (inr later) = let rise = order.bases_rise 7 day later (let long = days.bases_long in omega arith) in omega arith

  on_departure : (date ms depart : ℕ) → ms < 86400000 → departure_on n.days date ms ≡ Some depart → IsSoon depart
  on_departure date ms depart small e =
      bound (λ (day : ℕ). cond (nat_le 7 day) (Some (base_of n.days day + ms)) None) (day_with_date n.days date) depart e (λ day is e.
      let kept = guarded (nat_le 7 day) (Some (base_of n.days day + ms)) depart e in
      let sum = some_is kept.1 in
      let held = (position-Some (λ (other : ℕ). other == date) n.days.dates day 0 is).0 in
      let long = days.dates_long in
      let within : day < n.days.count + 7 = omega arith in
      let after = base_after day (leb-true 7 day kept.0) within in
      let low = order.bases_small day within in
      record { not_before = omega arith; small = omega arith })

  on_parts : (date time : Option ℕ) (depart : ℕ) → ((ms : ℕ) → time ≡ Some ms → ms < 86400000) → departs_on n.days date time ≡ Ok depart → IsSoon depart
  on_parts (Some date) (Some ms) depart small e = on_departure date ms depart (small ms refl) (found (departure_on n.days date ms) e)
    where
      found : (o : Option ℕ) → ok_or o OutOfRange ≡ Ok depart → o ≡ Some depart
      found None e = cc
      found (Some t) e = cc
  on_parts (Some date) None depart small e = cc
  on_parts None time depart small e = cc

  soon : (line : List ℕ) (from to : Endpoint) (depart : ℕ) (form : Form) → IsQuery n line from to depart form → IsSoon depart
  soon line from to depart form query =
      let shape = query.shape in
      on_parts (date_at shape.date) (time_at shape.time) depart (λ ms is. time_small shape.time ms is) query.reaches.departs.departs

  pub deadline_is_late : (line : List ℕ) (from to : Endpoint) (depart : ℕ) (form : Form) → IsQuery n line from to depart form → first_moment n ≤ depart
  deadline_is_late line from to depart form query = (soon line from to depart form query).not_before

  pub deadline_is_small : (line : List ℕ) (from to : Endpoint) (depart : ℕ) (form : Form) → IsQuery n line from to depart form → depart < 2 ^ 41
  deadline_is_small line from to depart form query = (soon line from to depart form query).small
