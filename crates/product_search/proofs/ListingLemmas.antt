-- A list that is made item by item.
use Rattle.plan_base.proofs.Common.{◌≡◌, ℕ, ◌+◌, ◌<◌, ◌≤◌, Bool, true, false, cond, List, [], ◌∷◌, ◌++◌, length, get_or, Some, None, refl, sym, ◌∙◌, ap, subst, arith, filter_map, Option, option_to_list, take, length-append, length-take-le, take_all, take_more, filter_map-append}
use mir.Val.{bool_byte}

module _ {X Y : Type 0} (h : X → Option Y) (xs : List X) where
  -- what one gives
  one_gives : (x : X) (o : Option Y) → h x ≡ o → filter_map h (x ∷ []) ≡ option_to_list o
  one_gives x None is = rw is refl
  one_gives x (Some y) is = rw is refl

  -- one more
  pub gives_more : (i : ℕ) (d : X) (ys : List X) → ys ≡ xs → i < length ys
      → filter_map h (take (i + 1) xs) ≡ filter_map h (take i xs) ++ option_to_list (h (get_or ys i d))
  gives_more i d ys same lt = subst (λ zs. filter_map h (take (i + 1) xs) ≡ filter_map h (take i xs) ++ option_to_list (h (get_or zs i d))) (sym same)
      (ap (filter_map h) (take_more xs i d (omega (arith, lt, ap length same)))
      ∙ filter_map-append h (take i xs) (get_or xs i d ∷ []) ∙ ap (λ ys. filter_map h (take i xs) ++ ys) (one_gives (get_or xs i d) (h (get_or xs i d)) refl))

  -- all
  pub gives_all : (i : ℕ) (ys : List X) → ys ≡ xs → length ys ≤ i → filter_map h (take i xs) ≡ filter_map h xs
  gives_all i ys same all = ap (filter_map h) (take_all i xs (omega (arith, all, ap length same)))

  -- counted one by one
  pub counts_more : (i : ℕ) (d : X) (ys : List X) → ys ≡ xs → i < length ys
      → length (filter_map h (take (i + 1) xs)) ≡ length (filter_map h (take i xs)) + length (option_to_list (h (get_or ys i d)))
  counts_more i d ys same lt = ap length (gives_more i d ys same lt) ∙ length-append (filter_map h (take i xs)) (option_to_list (h (get_or ys i d)))

-- one where the test holds
pub one_if : {Y : Type 0} (b : Bool) (y : Y) → bool_byte b ≡ length (option_to_list (cond b (Some y) None))
one_if true y = refl
one_if false y = refl

pub one_at_most : (b : Bool) → bool_byte b ≤ 1
one_at_most true = omega arith
one_at_most false = omega arith

option_few : {Y : Type 0} (o : Option Y) → length (option_to_list o) ≤ 1
option_few None = omega arith
option_few (Some y) = omega arith

-- as many as the list is long, at most
few_given : {X Y : Type 0} (h : X → Option Y) (xs : List X) → length (filter_map h xs) ≤ length xs
few_given h [] = omega arith
few_given h (x ∷ xs) =
    let parts = ap length (filter_map-append h (x ∷ []) xs) ∙ length-append (filter_map h (x ∷ [])) (filter_map h xs) in
    let one = ap length (one_gives h xs x (h x) refl) in
    omega (arith, parts, one, option_few (h x), few_given h xs)

pub few_so_far : {X Y : Type 0} (h : X → Option Y) (xs ys : List X) → ys ≡ xs → (i : ℕ) → i ≤ length ys → length (filter_map h (take i xs)) ≤ i
few_so_far h xs ys same i le = omega (arith, few_given h (take i xs), length-take-le i xs (omega (arith, le, ap length same)))
