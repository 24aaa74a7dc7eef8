-- Lists of values and of what they hold.
use Rattle.plan_base.proofs.Common.{◌≡◌, ℕ, List, [], ◌∷◌, map, filter_map, refl, ap, ap₂, Bool, not, cond, ◌||◌, ◌+◌, Some, None, nat_lt, true, false, length-map, position, list_any, position_or_len}

module _ {X Y : Type 0} (f : X → Y) (p : Y → Bool) where
  pub list_any-map : (xs : List X) → list_any p (map f xs) ≡ list_any (λ x. p (f x)) xs
  list_any-map [] = refl
  list_any-map (x ∷ xs) = ap (λ t. p (f x) || t) (list_any-map xs)

  position_or_len-map : (xs : List X) → position_or_len p (map f xs) ≡ position_or_len (λ x. p (f x)) xs
  position_or_len-map [] = refl
  position_or_len-map (x ∷ xs) = ap (λ n. cond (not (p (f x))) (1 + n) 0) (position_or_len-map xs)

  pub position-map : (xs : List X) → position p (map f xs) ≡ position (λ x. p (f x)) xs
  position-map xs = ap₂ (λ (n l : ℕ). cond (nat_lt n l) (Some n) None) (position_or_len-map xs) (length-map xs f)

-- what was put to others was not there, or was
pub was_new : (new there : Bool) → new ≡ not there → new ≡ true → there ≡ false
was_new new true e h = absurd cc
was_new new false e h = refl

pub was_known : (new there : Bool) → new ≡ not there → new ≡ false → there ≡ true
was_known new true e h = refl
was_known new false e h = absurd cc

pub filter_map-Some : {X : Type 0} (xs : List X) → filter_map Some xs ≡ xs
filter_map-Some [] = refl
filter_map-Some (x ∷ xs) = ap (λ ys. x ∷ ys) (filter_map-Some xs)
