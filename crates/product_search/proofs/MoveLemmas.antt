-- The table of the moves of an automaton, and the states that it has after a letter.
use Rattle.plan_base.proofs.Common.{◌≡◌, ◌≢◌, ◌==◌, ◌⊎◌, Bool, true, false, if◌then◌else◌, ℕ, zero, suc, ◌+◌, ◌^◌, ◌<◌, ◌≤◌, ◌++◌, ◌∷◌, [], List, Some, length, get_or, add-one, ap, refl, sym, ◌∙◌, subst, inl, inr, arith, All, Contains, IsBitSet, slice_index_or, slice_set, bit_at, bit_and, get_or-append_seam, cases_lt, eq-eqb, eqb-true, append-nil, get_or_append_left, get_or-set_same, get_or-set_other, length-set, All-contains, All-push, Contains-push, Contains-append_left}
use Rattle.search_laws.specs.{IsLetter, letter_count, LabelsMeaning, HasMove, AllAfter, Move}
use Rattle.product_search.specs.inside.{AreTargets, AreTargetsWith, target_by, targets_below}
use Rattle.product_search.proofs.LetterLemmas.{bit_from_set, set_from_bit}

-- what holds of each element at its place, after one more
pub each_pushed : {X : Type 0} (P : ℕ → X → Type 0) (xs : List X) (x d : X) → ((k : ℕ) → k < length xs → P k (get_or xs k d)) → P (length xs) x
    → (k : ℕ) → k < length xs + 1 → P k (get_or (xs ++ x ∷ []) k d)
each_pushed P xs x d each last k lt = elim (cases_lt k (length xs)) [
  | inl below ↦ subst (P k) (sym (get_or_append_left xs (x ∷ []) d k below)) (each k below)
  | inr ge ↦ (let e : k ≡ length xs = omega arith in
      subst (λ j. P j (get_or (xs ++ x ∷ []) j d)) (sym e) (subst (P (length xs)) (sym (get_or-append_seam xs x [] d)) last))
]

-- lists that are all empty, and one more
pub still_none : (lists : List (List ℕ)) → ((c : ℕ) → slice_index_or lists c [] ≡ []) → (c : ℕ) → slice_index_or (lists ++ [] ∷ []) c [] ≡ []
still_none [] none zero = refl
still_none [] none (suc c) = refl
still_none (list ∷ lists) none zero = none zero
still_none (list ∷ lists) none (suc c) = still_none lists (λ k. none (suc k)) c

-- a move's target, added to the lists of its letters one by one
module _ (step : Move) (old : List (List ℕ)) where
  pub with_none : AreTargetsWith step 0 old old
  with_none = record { one_each = refl; by = λ c lt. absurd (omega arith); not_by = λ c lt. absurd (omega arith); above = λ c ge. refl }

  pub with_more : (n : ℕ) (mid new : List (List ℕ)) → AreTargetsWith step n old mid → n < length mid → IsBitSet step.letters n
      → new ≡ slice_set mid n (slice_index_or mid n [] ++ step.to ∷ []) → AreTargetsWith step (n + 1) old new
  with_more n mid new with_it inside set is =
      let added = slice_index_or mid n [] ++ step.to ∷ [] in
      let here : slice_index_or new n [] ≡ slice_index_or old n [] ++ step.to ∷ [] =
      ap (λ (xs : List (List ℕ)). slice_index_or xs n []) is ∙ get_or-set_same mid n added [] inside ∙ ap (λ (xs : List ℕ). xs ++ step.to ∷ []) (with_it.above n (omega arith)) in
      let other : (c : ℕ) → c ≢ n → slice_index_or new c [] ≡ slice_index_or mid c [] =
      λ c apart. ap (λ (xs : List (List ℕ)). slice_index_or xs c []) is ∙ get_or-set_other mid n c added [] apart in
      record {
        one_each = ap length is ∙ length-set mid n added ∙ with_it.one_each;
        by = λ c lt by. elim (cases_lt c n) [
          | inl below ↦ other c (λ e. absurd (omega arith)) ∙ with_it.by c below by
          | inr ge ↦ (let e : c ≡ n = omega arith in subst (λ k. slice_index_or new k [] ≡ slice_index_or old k [] ++ step.to ∷ []) (sym e) here)
        ];
        not_by = λ c lt not_by. elim (cases_lt c n) [
          | inl below ↦ other c (λ e. absurd (omega arith)) ∙ with_it.not_by c below not_by
          | inr ge ↦ (let e : c ≡ n = omega arith in absurd (not_by (subst (IsBitSet step.letters) (sym e) set)))
        ];
        above = λ c ge. other c (λ e. absurd (omega arith)) ∙ with_it.above c (omega arith);
      }

  pub with_same : (n : ℕ) (new : List (List ℕ)) → AreTargetsWith step n old new → (IsBitSet step.letters n → ⊥) → AreTargetsWith step (n + 1) old new
  with_same n new with_it not_set = record {
    one_each = with_it.one_each;
    by = λ c lt by. elim (cases_lt c n) [
      | inl below ↦ with_it.by c below by
      | inr ge ↦ (let e : c ≡ n = omega arith in absurd (not_set (subst (IsBitSet step.letters) e by)))
    ];
    not_by = λ c lt not_by. elim (cases_lt c n) [
      | inl below ↦ with_it.not_by c below not_by
      | inr ge ↦ with_it.above c ge
    ];
    above = λ c ge. with_it.above c (omega arith);
  }

  -- none of its letters is left
  pub with_all : (n : ℕ) (new : List (List ℕ)) → AreTargetsWith step n old new → n ≤ letter_count → ((c : ℕ) → IsBitSet step.letters c → c < n) → AreTargetsWith step letter_count old new
  with_all n new with_it few end = record {
    one_each = with_it.one_each;
    by = λ c lt by. with_it.by c (end c by) by;
    not_by = λ c lt not_by. elim (cases_lt c n) [
      | inl below ↦ with_it.not_by c below not_by
      | inr ge ↦ with_it.above c ge
    ];
    above = λ c ge. with_it.above c (omega arith);
  }

if_so : (b : Bool) (xs : List ℕ) → b ≡ true → (if b then xs else []) ≡ xs
if_so b xs e = rw e refl

if_not : (b : Bool) (xs : List ℕ) → (b ≡ true → ⊥) → (if b then xs else []) ≡ []
if_not true xs not_so = absurd (not_so refl)
if_not false xs not_so = refl

module _ (l : LabelsMeaning) (q c : ℕ) where
  -- these are the states that the first n moves lead to that are by the letter
  record AreTargetsBelow (n : ℕ) (targets : List ℕ) : Type 0 where
    pub are : All (HasMove l q c) targets
    pub each : (j : ℕ) → j < n → IsBitSet (l.move_at q j).letters c → Contains targets (l.move_at q j).to

  -- one move more that is by the letter, and one that is not
  targets_more : (n : ℕ) (targets : List ℕ) → AreTargetsBelow n targets → n < l.moves q → IsBitSet (l.move_at q n).letters c
      → AreTargetsBelow (n + 1) (targets ++ (l.move_at q n).to ∷ [])
  targets_more n targets are inside by = record {
    are = All-push (HasMove l q c) targets (l.move_at q n).to are.are (n, record { place = inside; letter = by; to = refl });
    each = λ j lt has. elim (cases_lt j n) [
      | inl below ↦ Contains-append_left targets ((l.move_at q n).to ∷ []) (l.move_at q j).to (are.each j below has)
      | inr ge ↦ (let e : j ≡ n = omega arith in
          subst (λ k. Contains (targets ++ (l.move_at q n).to ∷ []) (l.move_at q k).to) (sym e) (Contains-push targets (l.move_at q n).to))
    ];
  }

  targets_same : (n : ℕ) (targets : List ℕ) → AreTargetsBelow n targets → (IsBitSet (l.move_at q n).letters c → ⊥) → AreTargetsBelow (n + 1) targets
  targets_same n targets are not_by = record {
    are = are.are;
    each = λ j lt has. elim (cases_lt j n) [
      | inl below ↦ are.each j below has
      | inr ge ↦ (let e : j ≡ n = omega arith in absurd (not_by (subst (λ k. IsBitSet (l.move_at q k).letters c) e has)))
    ];
  }

  -- a move that is by the letter adds its target, and another one nothing
  target_there : (m : Move) → IsBitSet m.letters c → target_by c m ≡ m.to ∷ []
  target_there m by = if_so (bit_at m.letters c == 1) (m.to ∷ []) (eq-eqb (bit_at m.letters c) 1 (bit_from_set m.letters c by))

  no_target : (m : Move) → (IsBitSet m.letters c → ⊥) → target_by c m ≡ []
  no_target m not_by = if_not (bit_at m.letters c == 1) (m.to ∷ []) (λ yes. not_by (set_from_bit m.letters c (eqb-true (bit_at m.letters c) 1 yes)))

  by_or_not : (m : Move) → IsBitSet m.letters c ⊎ (IsBitSet m.letters c → ⊥)
  by_or_not m = elim (cases_lt (bit_and m.letters (2 ^ c)) 1) [
    | inl none ↦ inr (λ set. set (omega arith))
    | inr some ↦ inl (λ e. absurd (omega arith))
  ]

  -- one move more, whose target is added to the lists of its letters
  pub targets_with : (n : ℕ) (old new : List (List ℕ)) → AreTargetsWith (l.move_at q n) letter_count old new → IsLetter c
      → slice_index_or old c [] ≡ targets_below l q c n → slice_index_or new c [] ≡ targets_below l q c (n + 1)
  targets_with n old new with_it letter are = elim (by_or_not (l.move_at q n)) [
    | inl by ↦ rw add-one (with_it.by c letter by ∙ ap (λ (xs : List ℕ). xs ++ (l.move_at q n).to ∷ []) are ∙ ap (λ (ys : List ℕ). targets_below l q c n ++ ys) (sym (target_there (l.move_at q n) by)))
    | inr not_by ↦ rw add-one (with_it.not_by c letter not_by ∙ are ∙ sym (append-nil (targets_below l q c n)) ∙ ap (λ (ys : List ℕ). targets_below l q c n ++ ys) (sym (no_target (l.move_at q n) not_by)))
  ]

  -- so the list has the states that moves by the letter lead to
  below_are : (n : ℕ) → n ≤ l.moves q → AreTargetsBelow n (targets_below l q c n)
  below_are zero le = record { are = λ k d h. absurd (omega arith); each = λ j h by. absurd (omega arith) }
  below_are (suc n) le =
      let before = below_are n (omega arith) in
      elim (by_or_not (l.move_at q n)) [
        | inl by ↦ rw (target_there (l.move_at q n) by, ← add-one) (targets_more n (targets_below l q c n) before (omega arith) by)
        | inr not_by ↦ rw (no_target (l.move_at q n) not_by, append-nil, ← add-one) (targets_same n (targets_below l q c n) before not_by)
      ]

  pub targets_are : AreTargets l q c (targets_below l q c (l.moves q))
  targets_are = let all = below_are (l.moves q) (omega arith) in record { are = all.are; each = all.each }

  -- what holds of each of the states holds of each after the letter
  pub targets_after : (targets : List ℕ) → AreTargets l q c targets → (P : ℕ → Type 0) → All P targets → AllAfter l q (Some c) P
  targets_after targets are P all = λ j lt by. All-contains P targets (l.move_at q j).to all (are.each j lt by)
