-- One letter more of a word that is collapsed.
use Rattle.plan_base.proofs.Common.{◌≡◌, ℕ, ◌-◌, ◌∙◌, cond, ◌&&◌, ◌==◌, nat_lt, suc, List, [], ◌∷◌, ◌++◌, length, Some, Bool, true, false, refl, ap, sym, arith, slice_get, eqb-true}
use Rattle.mode_network.proofs.RuleLemmas.{both}
use Rattle.search_laws.specs.{collapse}
use Rattle.journey.specs.inside.{appended}

-- the last of a list
abbrev last_of : ℕ → List ℕ → ℕ
last_of c [] = c
last_of c (d ∷ word) = last_of d word

abbrev goes_on : ℕ → ℕ → Bool
goes_on c d = (c == d) && nat_lt c 3

-- a letter more after a word that is collapsed
abbrev pushed : List ℕ → ℕ → List ℕ
pushed [] d = d ∷ []
pushed (c ∷ word) d = cond (goes_on (last_of c word) d) (c ∷ word) ((c ∷ word) ++ d ∷ [])

both_ways : (s t : Bool) (c d : ℕ) (x y : List ℕ) → y ≡ cond t x (x ++ d ∷ [])
    → cond s y (c ∷ y) ≡ cond t (cond s x (c ∷ x)) (cond s x (c ∷ x) ++ d ∷ [])
both_ways true true c d x y e = e
both_ways true false c d x y e = e
both_ways false true c d x y e = ap (λ (l : List ℕ). c ∷ l) e
both_ways false false c d x y e = ap (λ (l : List ℕ). c ∷ l) e

same_of : (t : Bool) (c d : ℕ) → goes_on c d ≡ t → cond t (d ∷ []) (c ∷ d ∷ []) ≡ cond t (c ∷ []) (c ∷ d ∷ [])
same_of true c d e = ap (λ (x : ℕ). x ∷ []) (sym (eqb-true c d (both _ _ e).0))
same_of false c d e = refl

push_more : (c : ℕ) (word : List ℕ) (d : ℕ)
    → collapse ((c ∷ word) ++ d ∷ []) ≡ cond (goes_on (last_of c word) d) (collapse (c ∷ word)) (collapse (c ∷ word) ++ d ∷ [])
push_more c [] d = same_of (goes_on c d) c d refl
push_more c (e ∷ word) d = both_ways (goes_on c e) (goes_on (last_of e word) d) c d (collapse (e ∷ word)) (collapse (e ∷ (word ++ d ∷ []))) (push_more e word d)

-- what is collapsed ends as it did
record EndsAs (xs : List ℕ) (last : ℕ) : Type 0 where
  first : ℕ
  rest : List ℕ
  is : xs ≡ first ∷ rest
  ends : last_of first rest ≡ last

keeps_last : (c : ℕ) (word : List ℕ) → EndsAs (collapse (c ∷ word)) (last_of c word)
keeps_last c [] = record { first = c; rest = []; is = refl; ends = refl }
keeps_last c (e ∷ word) = on_test (goes_on c e) (keeps_last e word)
  where
    on_test : (t : Bool) → EndsAs (collapse (e ∷ word)) (last_of e word) → EndsAs (cond t (collapse (e ∷ word)) (c ∷ collapse (e ∷ word))) (last_of e word)
    on_test true ends = ends
    on_test false ends = record { first = c; rest = collapse (e ∷ word); is = refl; ends = ap (last_of c) ends.is ∙ ends.ends }

pushes : (word : List ℕ) (d : ℕ) → collapse (word ++ d ∷ []) ≡ pushed (collapse word) d
pushes [] d = refl
pushes (c ∷ word) d =
    let last = keeps_last c word in
    push_more c word d ∙ sym (rw (last.is, last.ends) (rw (← last.is) refl))

-- what is read at the end of a list
last_read : (c : ℕ) (word : List ℕ) → slice_get (c ∷ word) (length word) ≡ Some (last_of c word)
last_read c [] = refl
last_read c (e ∷ word) = last_read e word

pushed_is : (word : List ℕ) (d : ℕ) → pushed word d ≡ appended word d
pushed_is [] d = refl
pushed_is (c ∷ word) d =
    let at : suc (length word) - 1 ≡ length word = omega arith in
    rw (at, last_read c word) refl

pub collapse_more : (word : List ℕ) (d : ℕ) → collapse (word ++ d ∷ []) ≡ appended (collapse word) d
collapse_more word d = pushes word d ∙ pushed_is (collapse word) d
