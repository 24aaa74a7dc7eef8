-- What building adds, from what building the parts adds.
use Rattle.plan_base.proofs.Common.{◌≡◌, ℕ, ◌+◌, ◌-◌, Bool, true, false, ◌&&◌, ◌||◌, ◌==◌, List, [], ◌∷◌, ◌++◌, reverse, refl, sym, ap, ◌∙◌, subst, append_assoc, append-nil, arith, reverse-append}
use Rattle.automaton.specs.{Written.Written, nothing, nowhere, letter, sequence, choice, optional, plus, size, nullable, first, inside.PositionRow, inside.entry, inside.position_rows, inside.Built, inside.grown, inside.Adds}

grown-twice : (dry : Bool) (list more again : List PositionRow) → grown dry (grown dry list more) again ≡ grown dry list (more ++ again)
grown-twice true list more again = refl
grown-twice false list more again = append_assoc list more again

grown-none : (dry : Bool) (list : List PositionRow) → list ≡ grown dry list []
grown-none true list = refl
grown-none false list = sym (append-nil list)

module _ (old : Built) (K : ℕ → Bool) where
  pub adds_nothing : Adds old old nothing K K
  adds_nothing room = record { numbered = omega arith; same_mode = refl; entered = refl; rows_added = grown-none old.dry old.rows }

  pub adds_nowhere : Adds old old nowhere K (λ q. false)
  adds_nowhere room = record { numbered = omega arith; same_mode = refl; entered = refl; rows_added = grown-none old.dry old.rows }

sequence_entry : (a b : Written) (o : ℕ) (K : ℕ → Bool) → entry a o (entry b (o + size a) K) ≡ entry (sequence a b) o K
sequence_entry a b o K = λ i q. at (first a o q) (nullable a) (first b (o + size a) q) (nullable b) (K q) i
  where
    at : (f n g m k : Bool) → (f || (n && (g || (m && k)))) ≡ ((f || (n && g)) || ((n && m) && k))
    at true n g m k = refl
    at false true g m k = refl
    at false false g m k = refl

choice_entry : (a b : Written) (o : ℕ) (K : ℕ → Bool) → (λ q. entry a o K q || entry b (o + size a) K q) ≡ entry (choice a b) o K
choice_entry a b o K = λ i q. at (first a o q) (nullable a) (first b (o + size a) q) (nullable b) (K q) i
  where
    at : (f n g m k : Bool) → ((f || (n && k)) || (g || (m && k))) ≡ ((f || g) || ((n || m) && k))
    at true n g m k = refl
    at false true true m true = refl
    at false true true true false = refl
    at false true true false false = refl
    at false true false m true = refl
    at false true false true false = refl
    at false true false false false = refl
    at false false g m k = refl

optional_entry : (a : Written) (o : ℕ) (K : ℕ → Bool) → (λ q. K q || entry a o K q) ≡ entry (optional a) o K
optional_entry a o K = λ i q. at (first a o q) (nullable a) (K q) i
  where
    at : (f n k : Bool) → (k || (f || (n && k))) ≡ (f || (true && k))
    at true n true = refl
    at true n false = refl
    at false n true = refl
    at false true false = refl
    at false false false = refl

plus_entry : (a : Written) (o : ℕ) (K : ℕ → Bool) → entry a o (λ q. first a o q || K q) ≡ entry (plus a) o K
plus_entry a o K = λ i q. at (first a o q) (nullable a) (K q) i
  where
    at : (f n k : Bool) → (f || (n && (f || k))) ≡ (f || (n && k))
    at true n k = refl
    at false n k = refl

first_entry : (a : Written) (o : ℕ) → entry a o (λ q. false) ≡ first a o
first_entry a o = λ i q. at (first a o q) (nullable a) i
  where
    at : (f n : Bool) → (f || (n && false)) ≡ f
    at true n = refl
    at false true = refl
    at false false = refl

module _ (a b : Written) (old mid new : Built) (K E F : ℕ → Bool) where
  -- first the second part is added, and then the first
  pub adds_sequence : Adds old mid b K E → Adds mid new a E F → Adds old new (sequence a b) K F
  adds_sequence add_b add_a room =
      let in_b = add_b (omega arith) in
      let in_a = add_a (let n = in_b.numbered in omega arith) in
      let place : mid.at ≡ new.at + size a = sym in_a.numbered in
      let then_b = in_b.entered ∙ ap (λ o. entry b o K) place in
      record {
        numbered = let n = in_b.numbered in let m = in_a.numbered in omega arith;
        same_mode = in_a.same_mode ∙ in_b.same_mode;
        entered = in_a.entered ∙ ap (λ S. entry a new.at S) then_b ∙ sequence_entry a b new.at K;
        rows_added = in_a.rows_added ∙ ap (λ d. grown d mid.rows (reverse (position_rows a new.at E))) in_b.same_mode
            ∙ ap (λ l. grown old.dry l (reverse (position_rows a new.at E))) in_b.rows_added
            ∙ grown-twice old.dry old.rows (reverse (position_rows b mid.at K)) (reverse (position_rows a new.at E))
            ∙ ap (λ o. grown old.dry old.rows (reverse (position_rows b o K) ++ reverse (position_rows a new.at E))) place
            ∙ ap (λ S. grown old.dry old.rows (reverse (position_rows b (new.at + size a) K) ++ reverse (position_rows a new.at S))) then_b
            ∙ ap (λ l. grown old.dry old.rows l) (sym (reverse-append (position_rows a new.at (entry b (new.at + size a) K)) (position_rows b (new.at + size a) K)));
      }

  pub adds_choice : Adds old mid b K E → Adds mid new a K F → Adds old new (choice a b) K (λ q. F q || E q)
  adds_choice add_b add_a room =
      let in_b = add_b (omega arith) in
      let in_a = add_a (let n = in_b.numbered in omega arith) in
      let place : mid.at ≡ new.at + size a = sym in_a.numbered in
      let then_b = in_b.entered ∙ ap (λ o. entry b o K) place in
      record {
        numbered = let n = in_b.numbered in let m = in_a.numbered in omega arith;
        same_mode = in_a.same_mode ∙ in_b.same_mode;
        entered = ap (λ S. λ q. S q || E q) in_a.entered ∙ ap (λ S. λ q. entry a new.at K q || S q) then_b ∙ choice_entry a b new.at K;
        rows_added = in_a.rows_added ∙ ap (λ d. grown d mid.rows (reverse (position_rows a new.at K))) in_b.same_mode
            ∙ ap (λ l. grown old.dry l (reverse (position_rows a new.at K))) in_b.rows_added
            ∙ grown-twice old.dry old.rows (reverse (position_rows b mid.at K)) (reverse (position_rows a new.at K))
            ∙ ap (λ o. grown old.dry old.rows (reverse (position_rows b o K) ++ reverse (position_rows a new.at K))) place
            ∙ ap (λ l. grown old.dry old.rows l) (sym (reverse-append (position_rows a new.at K) (position_rows b (new.at + size a) K)));
      }

module _ (a : Written) (old new : Built) (K E : ℕ → Bool) where
  pub adds_optional : Adds old new a K E → Adds old new (optional a) K (λ q. K q || E q)
  adds_optional add_a room =
      let in_a = add_a room in
      record {
        numbered = in_a.numbered;
        same_mode = in_a.same_mode;
        entered = ap (λ S. λ q. K q || S q) in_a.entered ∙ optional_entry a new.at K;
        rows_added = in_a.rows_added;
      }

  -- where only what may be read first is looked for, one pass does
  pub adds_plus_dry : old.dry ≡ true → Adds old new a K E → Adds old new (plus a) K E
  adds_plus_dry dry add_a room =
      let in_a = add_a room in
      record {
        numbered = in_a.numbered;
        same_mode = in_a.same_mode;
        entered = in_a.entered;
        rows_added = in_a.rows_added ∙ ap (λ d. grown d old.rows (reverse (position_rows a new.at K))) dry
            ∙ sym (ap (λ d. grown d old.rows (reverse (position_rows a new.at (λ q. first a new.at q || K q)))) dry);
      }

-- else a dry pass finds what may be read first, and may come again
pub adds_plus : (a : Written) (old tried new : Built) (K F E : ℕ → Bool) → old.dry ≡ false
    → Adds (record { at = old.at; dry = true; rows = old.rows }) tried a (λ q. false) F
    → Adds (record { at = old.at; dry = false; rows = tried.rows }) new a (λ q. F q || K q) E
    → Adds old new (plus a) K E
adds_plus a old tried new K F E wet add_dry add_a room =
    let dry = add_dry room in
    let in_a = add_a room in
    let place : tried.at ≡ new.at = let n = dry.numbered in let m = in_a.numbered in omega arith in
    let firsts = dry.entered ∙ first_entry a tried.at ∙ ap (λ o. first a o) place in
    let around : (λ q. F q || K q) ≡ (λ q. first a new.at q || K q) = ap (λ S. λ q. S q || K q) firsts in
    record {
      numbered = in_a.numbered;
      same_mode = in_a.same_mode ∙ sym wet;
      entered = in_a.entered ∙ ap (λ S. entry a new.at S) around ∙ plus_entry a new.at K;
      rows_added = in_a.rows_added ∙ ap (λ l. l ++ reverse (position_rows a new.at (λ q. F q || K q))) dry.rows_added
          ∙ ap (λ S. old.rows ++ reverse (position_rows a new.at S)) around
          ∙ sym (ap (λ d. grown d old.rows (reverse (position_rows a new.at (λ q. first a new.at q || K q)))) wet);
    }

letter_entry : (bits o : ℕ) (K : ℕ → Bool) → (λ q. q == o + 1) ≡ entry (letter bits) o K
letter_entry bits o K = λ i q. at (q == o + 1) i
  where
    at : (f : Bool) → f ≡ (f || false)
    at true = refl
    at false = refl

-- a letter is the last position that has no number
pub adds_letter : (bits : ℕ) (old new : Built) (K E : ℕ → Bool) → E ≡ (λ q. q == old.at)
    → new ≡ record { at = old.at - 1; dry = old.dry; rows = grown old.dry old.rows (record { letters = bits; next = K } ∷ []) }
    → Adds old new (letter bits) K E
adds_letter bits old new K E here is room =
    let at : new.at ≡ old.at - 1 = ap (λ b. b.at) is in
    let number : old.at ≡ new.at + 1 = omega arith in
    record {
      numbered = omega arith;
      same_mode = ap (λ b. b.dry) is;
      entered = here ∙ ap (λ n. λ q. q == n) number ∙ letter_entry bits new.at K;
      rows_added = ap (λ b. b.rows) is;
    }

-- what was said of one written form or set, said of another that is the same
module _ (old new : Built) (e f : Written) (K L E F : ℕ → Bool) where
  pub adds_same : e ≡ f → K ≡ L → E ≡ F → Adds old new e K E → Adds old new f L F
  adds_same p q r adds = subst (λ G. Adds old new f L G) r (subst (λ M. Adds old new f M E) q (subst (λ w. Adds old new w K E) p adds))
