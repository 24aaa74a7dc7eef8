-- Cars move on each class of ways that they may use.
use Rattle.plan_base.proofs.Common.{◌≡◌, ℕ, ◌≤◌, List, [], ◌∷◌, Bool, true, false, Option, Some, None, IfSome, if◌then◌else◌, nat_le, refl, arith, bytes_eq, list_all, lookup, leb-true}
use Rattle.road_profile.specs.{Class, class_named, classes}

abbrev moves : Option ℕ → Bool
moves None = true
moves (Some speed) = nat_le 1 speed

abbrev row_moves : List ℕ × Class → Bool
row_moves row = moves row.1.car

first_passes : (row : List ℕ × Class) (rows : List (List ℕ × Class)) → list_all row_moves (row ∷ rows) ≡ true → row_moves row ≡ true
first_passes row rows h = grind arith

rest_passes : (row : List ℕ × Class) (rows : List (List ℕ × Class)) → list_all row_moves (row ∷ rows) ≡ true → list_all row_moves rows ≡ true
rest_passes row rows h = grind arith

speed_moves : (speed : Option ℕ) → moves speed ≡ true → IfSome speed (λ n. 1 ≤ n)
speed_moves None h = tt
speed_moves (Some n) h = leb-true 1 n h

lookup_moves : (test : List ℕ → Bool) (rows : List (List ℕ × Class)) → list_all row_moves rows ≡ true → IfSome (lookup test rows) (λ class. IfSome class.car (λ n. 1 ≤ n))
lookup_moves test [] h = tt
lookup_moves test (row ∷ rows) h =
    elim (test row.0) as (λ b. IfSome (if b then Some row.1 else lookup test rows) (λ class. IfSome class.car (λ n. 1 ≤ n))) [
      | true ↦ speed_moves row.1.car (first_passes row rows h)
      | false ↦ lookup_moves test rows (rest_passes row rows h)
    ]

pub class_moves : (highway : List ℕ) → IfSome (class_named highway) (λ class. IfSome class.car (λ n. 1 ≤ n))
unfolding class_named
class_moves highway = lookup_moves (λ name. bytes_eq name highway) classes refl
