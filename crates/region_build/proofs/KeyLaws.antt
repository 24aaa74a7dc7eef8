-- Ends are found by their keys, and are put once by them.
use Rattle.plan_base.proofs.Common.{◌≡◌, ℕ, ℤ, ◌+◌, List, [], ◌∷◌, ◌++◌, map, Bool, true, false, not, ◌&&◌, cond, if◌then◌else◌, nat_lt, nat_eq, None, Some, refl, ap, ap₂, sym, ◌∙◌, list_any, position, prefix_len, int_eq, false≢true, length-map}
use Rattle.plan_base.specs.{number_of_mode}
use Rattle.road_profile.proofs.Lists.{list_any-map}
use Rattle.region_build.specs.{End, is_same_end, key_of_end, number_of_end}

abbrev pub same_end_key : ℤ × ℕ → ℤ × ℕ → Bool
same_end_key a b = int_eq a.0 b.0 && nat_eq a.1 b.1

known_by_key : (end : End) (ends : List End) → list_any (same_end_key (key_of_end end)) (map key_of_end ends) ≡ list_any (is_same_end end) ends
known_by_key end ends = sym (list_any-map (same_end_key (key_of_end end)) key_of_end ends)

prefix_by_key : (p : ℤ × ℕ → Bool) (ends : List End) → prefix_len p (map key_of_end ends) ≡ prefix_len (λ end. p (key_of_end end)) ends
prefix_by_key p [] = refl
prefix_by_key p (end ∷ ends) = ap (λ n. cond (p (key_of_end end)) (1 + n) 0) (prefix_by_key p ends)

pub number_by_key : (end : End) (ends : List End) → position (same_end_key (key_of_end end)) (map key_of_end ends) ≡ number_of_end ends end
unfolding number_of_end
number_by_key end ends =
    ap₂ (λ n long. cond (nat_lt n long) (Some n) None) (prefix_by_key (λ key. not (same_end_key (key_of_end end) key)) ends) (length-map ends key_of_end)

-- an end whose key was put to those of the ends that were seen: it was new where it was none of them
module _ (seen : List End) (keys : List (ℤ × ℕ)) (end : End) (number : ℕ) (new : Bool) (keyed : keys ≡ map key_of_end seen) (numbered : number ≡ number_of_mode end.1)
    (added : new ≡ not (list_any (same_end_key (end.0, number)) keys)) where
  tested : new ≡ not (list_any (is_same_end end) seen)
  tested =
      added ∙ ap not (ap (λ n. list_any (same_end_key (end.0, n)) keys) numbered ∙ ap (list_any (same_end_key (key_of_end end))) keyed ∙ known_by_key end seen)

  by_test : (test : Bool) → new ≡ not test → (new ≡ true → seen ++ end ∷ [] ≡ (if test then seen else seen ++ end ∷ [])) × (new ≡ false → seen ≡ (if test then seen else seen ++ end ∷ []))
  by_test true e = (λ is. absurd (false≢true (sym e ∙ is)), λ is. refl)
  by_test false e = (λ is. refl, λ is. absurd (false≢true (sym is ∙ e)))

  pub first_sight : new ≡ true → seen ++ end ∷ [] ≡ (if list_any (is_same_end end) seen then seen else seen ++ end ∷ [])
  first_sight = (by_test _ tested).0

  pub seen_before : new ≡ false → seen ≡ (if list_any (is_same_end end) seen then seen else seen ++ end ∷ [])
  seen_before = (by_test _ tested).1
