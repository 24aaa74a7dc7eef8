-- Which of two runs of a pattern is behind the other, and lists of sources.
use Rattle.plan_base.proofs.Common.{◌≡◌, ℕ, ◌<◌, ◌≤◌, ◌⊎◌, Bool, true, false, nat_lt, List, [], ◌∷◌, length, inl, inr, refl, sym, ◌∙◌, subst, arith, All, Contains, slice_index_or, flat_map, ltb-true, ltb-false, get_or_default, All-nil, All-append, Contains-append_left, Contains-append_right, Contains-append_cases}
use Rattle.timetable_arcs.specs.{Instance, TableLists, IsIn, IsBehind, pattern_trip, runs_of, departs, IsTable}
use Rattle.timetable_arcs.proofs.RunLemmas.{IsNoLater, in_order, within_patterns}

-- a number is at most another, or above it
pub le_or_above : (a b : ℕ) → (a ≤ b) ⊎ (b < a)
le_or_above a b = on_test (nat_lt b a) refl
  where
    on_test : (t : Bool) → nat_lt b a ≡ t → (a ≤ b) ⊎ (b < a)
    on_test true e = inr (ltb-true b a e)
    on_test false e = inl (ltb-false b a e)

-- ---- runs
module _ (t : TableLists) (table : IsTable t) (p : ℕ) where
  -- a run that departs at some call no later than another is no later at any call
  pub no_later : (a b : Instance) → IsIn t p a → IsIn t p b → (call : ℕ) → call < length (pattern_trip t p).calls → departs t a call ≤ departs t b call
      → (other : ℕ) → other < length (pattern_trip t p).calls → IsNoLater t table.patterns p a b other
  no_later a b (i, i_in, at_a) (j, j_in, at_b) call call_in le other other_in = by_place (le_or_above i j)
    where
      by_place : (i ≤ j) ⊎ (j < i) → IsNoLater t table.patterns p a b other
      by_place (inl first) = in_order t table.patterns p i j a b at_a at_b first j_in other other_in
      by_place (inr second) =
          let is = subst (λ (x : Instance). IsBehind t x a) at_b
          (subst (λ (y : Instance). IsBehind t (slice_index_or (runs_of t p) j b) y) (sym (get_or_default (runs_of t p) i a b i_in) ∙ at_a)
          (table.patterns.in_turn p (within_patterns t table.patterns p a (i, i_in, at_a)) j i b second i_in)) in
          let same = (table.patterns.alike p b (j, j_in, at_b)).calls in
          let later : departs t b call < departs t a call = is.departs_later call (omega arith) in
          absurd (omega arith)

-- ---- lists
module _ {X Y : Type 0} (f : X → List Y) where
  pub all_of_pieces : (P : Y → Type 0) (xs : List X) → ((x : X) → Contains xs x → All P (f x)) → All P (flat_map f xs)
  all_of_pieces P [] each = All-nil P
  all_of_pieces P (x ∷ xs) each =
      All-append P (f x) (flat_map f xs) (each x (Contains-append_left (x ∷ []) xs x (0, omega arith, refl)))
      (all_of_pieces P xs (λ y there. each y (Contains-append_right (x ∷ []) xs y there)))

  pub head_is : (first x : X) → Contains (first ∷ []) x → first ≡ x
  head_is first x (k, within, is) =
      let zero_place : k ≡ 0 = omega arith in
      subst (λ j. slice_index_or (first ∷ []) j x ≡ x) zero_place is

  pub in_piece : (xs : List X) (x : X) (y : Y) → Contains xs x → Contains (f x) y → Contains (flat_map f xs) y
  in_piece [] x y (k, within, is) there = absurd (omega arith)
  in_piece (first ∷ xs) x y held there = on_cases (Contains-append_cases (first ∷ []) xs x held) (λ later. in_piece xs x y later there)
    where
      on_cases : Contains (first ∷ []) x ⊎ Contains xs x → (Contains xs x → Contains (flat_map f xs) y) → Contains (flat_map f (first ∷ xs)) y
      on_cases (inl here) more = Contains-append_left (f first) (flat_map f xs) y (subst (λ (z : X). Contains (f z) y) (sym (head_is first x here)) there)
      on_cases (inr later) more = Contains-append_right (f first) (flat_map f xs) y (more later)
