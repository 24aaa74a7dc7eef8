-- A word is read from position to position exactly where the expression that is written out denotes it.
use Rattle.plan_base.proofs.Common.{◌≡◌, ℕ, zero, suc, ◌+◌, ◌<◌, Bool, true, false, ◌&&◌, ◌||◌, ◌==◌, ◌⊎◌, ◌↔◌, List, [], ◌∷◌, ◌++◌, length, IsTrue, IsBitSet, refl, sym, ap, ◌∙◌, subst, inl, inr, append_assoc, append-nil, length-append, arith, nat_tests}
use Rattle.mode_expression.specs.{IsJoined, IsPower}
use Rattle.automaton.specs.{Written.Written, nothing, nowhere, letter, sequence, choice, optional, plus, size, nullable, first, IsWritten, inside.entry}

pub or_in : (a b : Bool) → IsTrue a ⊎ IsTrue b → IsTrue (a || b)
or_in true b either = refl
or_in false b (inl fails) = absurd (cc)
or_in false b (inr holds) = holds

pub or_out : (a b : Bool) → IsTrue (a || b) → IsTrue a ⊎ IsTrue b
or_out true b holds = inl refl
or_out false b holds = inr holds

pub and_in : (a b : Bool) → IsTrue a → IsTrue b → IsTrue (a && b)
and_in true b holds also = also
and_in false b fails also = absurd (cc)

pub and_out : (a b : Bool) → IsTrue (a && b) → IsTrue a × IsTrue b
and_out true b holds = (refl, holds)
and_out false b fails = absurd (cc)

-- positions are numbered from o + 1 on
pub first_above : (e : Written) (o p : ℕ) → IsTrue (first e o p) → o < p
first_above nothing o p holds = absurd (cc)
first_above nowhere o p holds = absurd (cc)
first_above (letter bits) o p holds = grind (arith, nat_tests)
first_above (sequence a b) o p holds = by_part (or_out (first a o p) (nullable a && first b (o + size a) p) holds)
    (first_above a o p) (first_above b (o + size a) p)
  where
    by_part : IsTrue (first a o p) ⊎ IsTrue (nullable a && first b (o + size a) p) → (IsTrue (first a o p) → o < p)
        → (IsTrue (first b (o + size a) p) → o + size a < p) → o < p
    by_part (inl holds) left right = left holds
    by_part (inr holds) left right = let h = right (and_out (nullable a) _ holds).1 in omega arith
first_above (choice a b) o p holds = by_part (or_out (first a o p) (first b (o + size a) p) holds) (first_above a o p) (first_above b (o + size a) p)
  where
    by_part : IsTrue (first a o p) ⊎ IsTrue (first b (o + size a) p) → (IsTrue (first a o p) → o < p)
        → (IsTrue (first b (o + size a) p) → o + size a < p) → o < p
    by_part (inl holds) left right = left holds
    by_part (inr holds) left right = let h = right holds in omega arith
first_above (optional a) o p holds = first_above a o p holds
first_above (plus a) o p holds = first_above a o p holds

-- the empty word
power_of_empty : (P : List ℕ → Type 0) → P [] → (k : ℕ) → IsPower P k []
power_of_empty P empty zero = refl
power_of_empty P empty (suc k) = ([], [], refl, empty, power_of_empty P empty k)

empty_split : (x y : List ℕ) → [] ≡ x ++ y → (x ≡ []) × (y ≡ [])
empty_split [] y e = (refl, sym e)
empty_split (c ∷ x) y e = absurd (cc)

nullable_in : (e : Written) → IsTrue (nullable e) → IsWritten e []
nullable_in nothing holds = refl
nullable_in nowhere holds = absurd (cc)
nullable_in (letter bits) holds = absurd (cc)
nullable_in (sequence a b) holds =
    let parts = and_out (nullable a) (nullable b) holds in
    ([], [], refl, nullable_in a parts.0, nullable_in b parts.1)
nullable_in (choice a b) holds = by_part (or_out (nullable a) (nullable b) holds) (nullable_in a) (nullable_in b)
  where
    by_part : IsTrue (nullable a) ⊎ IsTrue (nullable b) → (IsTrue (nullable a) → IsWritten a []) → (IsTrue (nullable b) → IsWritten b [])
        → IsWritten a [] ⊎ IsWritten b []
    by_part (inl holds) left right = inl (left holds)
    by_part (inr holds) left right = inr (right holds)
nullable_in (optional a) holds = inl refl
nullable_in (plus a) holds = (0, power_of_empty (IsWritten a) (nullable_in a holds) 1)

nullable_out : (e : Written) → IsWritten e [] → IsTrue (nullable e)
nullable_out nothing word = refl
nullable_out nowhere word = absurd word
nullable_out (letter bits) (c, e, set) = absurd (cc)
nullable_out (sequence a b) (x, y, e, in_a, in_b) =
    let none = empty_split x y e in
    and_in (nullable a) (nullable b) (nullable_out a (subst (λ w. IsWritten a w) none.0 in_a)) (nullable_out b (subst (λ w. IsWritten b w) none.1 in_b))
nullable_out (choice a b) (inl word) = or_in (nullable a) (nullable b) (inl (nullable_out a word))
nullable_out (choice a b) (inr word) = or_in (nullable a) (nullable b) (inr (nullable_out b word))
nullable_out (optional a) word = refl
nullable_out (plus a) (k, (x, y, e, in_a, in_rest)) =
    nullable_out a (subst (λ w. IsWritten a w) (empty_split x y e).0 in_a)

-- Positions are states: `next p q` says that q may be read right after p, and the end is 0. `bits p` are the letters of p.
module _ (next : ℕ → ℕ → Bool) (bits : ℕ → ℕ) where
  -- the word is read from one of these positions on, up to the end
  abbrev pub From : (ℕ → Bool) → List ℕ → Type 0
  From S [] = IsTrue (S 0)
  From S (c ∷ word) = (q : ℕ) × IsTrue (S q) × (0 < q) × IsBitSet (bits q) c × From (next q) word

  -- the positions of a part go on as the part says, with K after it
  abbrev pub Agrees : Written → ℕ → (ℕ → Bool) → Type 0
  Agrees nothing o K = Unit {0}
  Agrees nowhere o K = Unit {0}
  Agrees (letter s) o K = (next (o + 1) ≡ K) × (bits (o + 1) ≡ s)
  Agrees (sequence a b) o K = Agrees a o (entry b (o + size a) K) × Agrees b (o + size a) K
  Agrees (choice a b) o K = Agrees a o K × Agrees b (o + size a) K
  Agrees (optional a) o K = Agrees a o K
  Agrees (plus a) o K = Agrees a o (λ q. first a o q || K q)

  From_of : (S T : ℕ → Bool) → ((q : ℕ) → IsTrue (S q) → IsTrue (T q)) → (word : List ℕ) → From S word → From T word
  From_of S T more [] holds = more 0 holds
  From_of S T more (c ∷ word) (q, there, above, set, rest) = (q, more q there, above, set, rest)

  -- a word of e that is not empty, and then one of K
  abbrev Begins : Written → (ℕ → Bool) → ℕ → List ℕ → Type 0
  Begins e K c word = (x : List ℕ) × (y : List ℕ) × (word ≡ x ++ y) × IsWritten e (c ∷ x) × From K y

  abbrev Joins : Written → (ℕ → Bool) → List ℕ → Type 0
  Joins e K word = IsJoined (IsWritten e) (From K) word

  -- what was shown of first positions, said of entries
  join_of_entry : (e : Written) (o : ℕ) (K : ℕ → Bool) → ((c : ℕ) (word : List ℕ) → From (first e o) (c ∷ word) → Begins e K c word)
      → (word : List ℕ) → From (entry e o K) word → Joins e K word
  join_of_entry e o K begun [] holds = by_part (or_out (first e o 0) (nullable e && K 0) holds)
    where
      by_part : IsTrue (first e o 0) ⊎ IsTrue (nullable e && K 0) → Joins e K []
      by_part (inl here) = absurd (omega (arith, first_above e o 0 here))
      by_part (inr here) = let parts = and_out (nullable e) (K 0) here in ([], [], refl, nullable_in e parts.0, parts.1)
  join_of_entry e o K begun (c ∷ word) (q, there, above, set, rest) = by_part (or_out (first e o q) (nullable e && K q) there)
    where
      of_begins : Begins e K c word → Joins e K (c ∷ word)
      of_begins (x, y, split, in_e, in_K) = (c ∷ x, y, ap (λ w. c ∷ w) split, in_e, in_K)

      by_part : IsTrue (first e o q) ⊎ IsTrue (nullable e && K q) → Joins e K (c ∷ word)
      by_part (inl here) = of_begins (begun c word (q, here, above, set, rest))
      by_part (inr here) = let parts = and_out (nullable e) (K q) here in ([], c ∷ word, refl, nullable_in e parts.0, (q, parts.1, above, set, rest))

  entry_of_join : (e : Written) (o : ℕ) (K : ℕ → Bool) → ((c : ℕ) (word : List ℕ) → Begins e K c word → From (first e o) (c ∷ word))
      → (word : List ℕ) → Joins e K word → From (entry e o K) word
  entry_of_join e o K begun word (x, y, split, in_e, in_K) = by_front x split in_e
    where
      skip : IsTrue (nullable e) → (word : List ℕ) → From K word → From (entry e o K) word
      skip null word there = From_of K (entry e o K) (λ q in_K. or_in (first e o q) (nullable e && K q) (inr (and_in (nullable e) (K q) null in_K))) word there

      by_front : (x : List ℕ) → word ≡ x ++ y → IsWritten e x → From (entry e o K) word
      by_front [] split in_e = skip (nullable_out e in_e) word (subst (λ w. From K w) (sym split) in_K)
      by_front (c ∷ x) split in_e =
          let there = begun c (x ++ y) (x, y, refl, in_e, in_K) in
          subst (λ w. From (entry e o K) w) (sym split)
          (From_of (first e o) (entry e o K) (λ q here. or_in (first e o q) (nullable e && K q) (inl here)) (c ∷ x ++ y) there)

  sequence_begins : (a b : Written) (o : ℕ) (K : ℕ → Bool)
      → ((c : ℕ) (word : List ℕ) → From (first a o) (c ∷ word) → Begins a (entry b (o + size a) K) c word)
      → ((c : ℕ) (word : List ℕ) → From (first b (o + size a)) (c ∷ word) → Begins b K c word)
      → (c : ℕ) (word : List ℕ) → From (first (sequence a b) o) (c ∷ word) → Begins (sequence a b) K c word
  sequence_begins a b o K in_a in_b c word (q, there, above, set, rest) =
      by_part (or_out (first a o q) (nullable a && first b (o + size a) q) there)
    where
      two : (x y : List ℕ) → word ≡ x ++ y → IsWritten a (c ∷ x) → Joins b K y → Begins (sequence a b) K c word
      two x y split of_a (x2, y2, split2, of_b, of_K) =
          (x ++ x2, y2, split ∙ ap (λ w. x ++ w) split2 ∙ sym (append_assoc x x2 y2), (c ∷ x, x2, refl, of_a, of_b), of_K)

      first_part : Begins a (entry b (o + size a) K) c word → Begins (sequence a b) K c word
      first_part (x, y, split, of_a, of_entry) = two x y split of_a (join_of_entry b (o + size a) K in_b y of_entry)

      second_part : IsTrue (nullable a) → Begins b K c word → Begins (sequence a b) K c word
      second_part null (x, y, split, of_b, of_K) = (x, y, split, ([], c ∷ x, refl, nullable_in a null, of_b), of_K)

      by_part : IsTrue (first a o q) ⊎ IsTrue (nullable a && first b (o + size a) q) → Begins (sequence a b) K c word
      by_part (inl here) = first_part (in_a c word (q, here, above, set, rest))
      by_part (inr here) =
          let parts = and_out (nullable a) (first b (o + size a) q) here in
          second_part parts.0 (in_b c word (q, parts.1, above, set, rest))

  choice_begins : (a b : Written) (o : ℕ) (K : ℕ → Bool)
      → ((c : ℕ) (word : List ℕ) → From (first a o) (c ∷ word) → Begins a K c word)
      → ((c : ℕ) (word : List ℕ) → From (first b (o + size a)) (c ∷ word) → Begins b K c word)
      → (c : ℕ) (word : List ℕ) → From (first (choice a b) o) (c ∷ word) → Begins (choice a b) K c word
  choice_begins a b o K in_a in_b c word (q, there, above, set, rest) = by_part (or_out (first a o q) (first b (o + size a) q) there)
    where
      left : Begins a K c word → Begins (choice a b) K c word
      left (x, y, split, of_a, of_K) = (x, y, split, inl of_a, of_K)

      right : Begins b K c word → Begins (choice a b) K c word
      right (x, y, split, of_b, of_K) = (x, y, split, inr of_b, of_K)

      by_part : IsTrue (first a o q) ⊎ IsTrue (first b (o + size a) q) → Begins (choice a b) K c word
      by_part (inl here) = left (in_a c word (q, here, above, set, rest))
      by_part (inr here) = right (in_b c word (q, here, above, set, rest))

  optional_begins : (a : Written) (K : ℕ → Bool) (c : ℕ) (word : List ℕ) → Begins a K c word → Begins (optional a) K c word
  optional_begins a K c word (x, y, split, of_a, of_K) = (x, y, split, inr of_a, of_K)

  plus_begins : (a : Written) (o : ℕ) (K : ℕ → Bool)
      → ((c : ℕ) (word : List ℕ) → From (first a o) (c ∷ word) → Begins a (λ q. first a o q || K q) c word)
      → (n c : ℕ) (word : List ℕ) → length word < n → From (first a o) (c ∷ word) → Begins (plus a) K c word
  plus_begins a o K in_a zero c word few there = absurd (omega arith)
  plus_begins a o K in_a (suc n) c word few there = after (in_a c word there) (plus_begins a o K in_a n)
    where
      one : (x : List ℕ) → IsWritten a (c ∷ x) → IsWritten (plus a) (c ∷ x)
      one x of_a = (0, (c ∷ x, [], sym (append-nil (c ∷ x)), of_a, refl))

      more : (x : List ℕ) (d : ℕ) (y : List ℕ) → word ≡ x ++ d ∷ y → IsWritten a (c ∷ x) → Begins (plus a) K d y → Begins (plus a) K c word
      more x d y split of_a (x2, y2, split2, (k, power), of_K) = (
        x ++ d ∷ x2,
        y2,
        split ∙ ap (λ w. x ++ d ∷ w) split2 ∙ sym (append_assoc x (d ∷ x2) y2),
        (suc k, (c ∷ x, d ∷ x2, refl, of_a, power)),
        of_K,
      )

      after : Begins a (λ q. first a o q || K q) c word
          → ((d : ℕ) (y : List ℕ) → length y < n → From (first a o) (d ∷ y) → Begins (plus a) K d y) → Begins (plus a) K c word
      after (x, [], split, of_a, here) later = by_end (or_out (first a o 0) (K 0) here)
        where
          by_end : IsTrue (first a o 0) ⊎ IsTrue (K 0) → Begins (plus a) K c word
          by_end (inl wrong) = absurd (omega (arith, first_above a o 0 wrong))
          by_end (inr ends) = (x, [], split, one x of_a, ends)
      after (x, d ∷ y, split, of_a, (q, here, above, set, rest)) later = by_next (or_out (first a o q) (K q) here)
        where
          by_next : IsTrue (first a o q) ⊎ IsTrue (K q) → Begins (plus a) K c word
          by_next (inl again) =
              more x d y split of_a (later d y (omega (arith, ap length split, length-append x (d ∷ y))) (q, again, above, set, rest))
          by_next (inr out) = (x, d ∷ y, split, one x of_a, (q, out, above, set, rest))

  letter_begins : (s o : ℕ) (K : ℕ → Bool) → next (o + 1) ≡ K → bits (o + 1) ≡ s → (c : ℕ) (word : List ℕ) → From (first (letter s) o) (c ∷ word)
      → Begins (letter s) K c word
  letter_begins s o K goes reads c word (q, there, above, set, rest) =
      let here : q ≡ o + 1 = grind (arith, nat_tests) in
      let set_here = subst (λ p. IsBitSet (bits p) c) here set in
      ([], word, refl, (c, refl, subst (λ b. IsBitSet b c) reads set_here), subst (λ S. From S word) (ap next here ∙ goes) rest)

  pub begins_of : (e : Written) (o : ℕ) (K : ℕ → Bool) → Agrees e o K → (c : ℕ) (word : List ℕ) → From (first e o) (c ∷ word) → Begins e K c word
  begins_of nothing o K agrees c word (q, there, above, set, rest) = absurd (cc)
  begins_of nowhere o K agrees c word (q, there, above, set, rest) = absurd (cc)
  begins_of (letter s) o K (goes, reads) c word there = letter_begins s o K goes reads c word there
  begins_of (sequence a b) o K (in_a, in_b) c word there =
      sequence_begins a b o K (begins_of a o (entry b (o + size a) K) in_a) (begins_of b (o + size a) K in_b) c word there
  begins_of (choice a b) o K (in_a, in_b) c word there = choice_begins a b o K (begins_of a o K in_a) (begins_of b (o + size a) K in_b) c word there
  begins_of (optional a) o K agrees c word there = optional_begins a K c word (begins_of a o K agrees c word there)
  begins_of (plus a) o K agrees c word there =
      plus_begins a o K (begins_of a o (λ q. first a o q || K q) agrees) (length word + 1) c word (omega arith) there

  from_sequence : (a b : Written) (o : ℕ) (K : ℕ → Bool)
      → ((c : ℕ) (word : List ℕ) → Begins a (entry b (o + size a) K) c word → From (first a o) (c ∷ word))
      → ((c : ℕ) (word : List ℕ) → Begins b K c word → From (first b (o + size a)) (c ∷ word))
      → (c : ℕ) (word : List ℕ) → Begins (sequence a b) K c word → From (first (sequence a b) o) (c ∷ word)
  from_sequence a b o K of_a of_b c word (x, y, split, (u, v, parts, in_a, in_b), in_K) = by_front u parts in_a
    where
      by_front : (u : List ℕ) → c ∷ x ≡ u ++ v → IsWritten a u → From (first (sequence a b) o) (c ∷ word)
      by_front [] parts in_a =
          let there = of_b c word (x, y, split, subst (λ w. IsWritten b w) (sym parts) in_b, in_K) in
          From_of (first b (o + size a)) (first (sequence a b) o)
          (λ q here. or_in (first a o q) (nullable a && first b (o + size a) q) (inr (and_in (nullable a) (first b (o + size a) q) (nullable_out a in_a) here)))
          (c ∷ word) there
      by_front (d ∷ u) parts in_a =
          let head : c ≡ d = cc in
          let tail : x ≡ u ++ v = cc in
          let after = entry_of_join b (o + size a) K of_b (v ++ y) (v, y, refl, in_b, in_K) in
          let there = of_a c word (u, v ++ y, split ∙ ap (λ w. w ++ y) tail ∙ append_assoc u v y, subst (λ k. IsWritten a (k ∷ u)) (sym head) in_a, after) in
          From_of (first a o) (first (sequence a b) o) (λ q here. or_in (first a o q) (nullable a && first b (o + size a) q) (inl here)) (c ∷ word) there

  from_choice : (a b : Written) (o : ℕ) (K : ℕ → Bool)
      → ((c : ℕ) (word : List ℕ) → Begins a K c word → From (first a o) (c ∷ word))
      → ((c : ℕ) (word : List ℕ) → Begins b K c word → From (first b (o + size a)) (c ∷ word))
      → (c : ℕ) (word : List ℕ) → Begins (choice a b) K c word → From (first (choice a b) o) (c ∷ word)
  from_choice a b o K of_a of_b c word (x, y, split, inl in_a, in_K) =
      From_of (first a o) (first (choice a b) o) (λ q here. or_in (first a o q) (first b (o + size a) q) (inl here)) (c ∷ word)
      (of_a c word (x, y, split, in_a, in_K))
  from_choice a b o K of_a of_b c word (x, y, split, inr in_b, in_K) =
      From_of (first b (o + size a)) (first (choice a b) o) (λ q here. or_in (first a o q) (first b (o + size a) q) (inr here)) (c ∷ word)
      (of_b c word (x, y, split, in_b, in_K))

  from_optional : (a : Written) (o : ℕ) (K : ℕ → Bool) → ((c : ℕ) (word : List ℕ) → Begins a K c word → From (first a o) (c ∷ word))
      → (c : ℕ) (word : List ℕ) → Begins (optional a) K c word → From (first a o) (c ∷ word)
  from_optional a o K of_a c word (x, y, split, inl wrong, in_K) = absurd (cc)
  from_optional a o K of_a c word (x, y, split, inr in_a, in_K) = of_a c word (x, y, split, in_a, in_K)

  module _ (a : Written) (o : ℕ) (K : ℕ → Bool)
      (of_a : (c : ℕ) (word : List ℕ) → Begins a (λ q. first a o q || K q) c word → From (first a o) (c ∷ word)) where
    abbrev Around : ℕ → Bool
    Around q = first a o q || K q

    inside : (word : List ℕ) → From K word → From Around word
    inside word there = From_of K Around (λ q here. or_in (first a o q) (K q) (inr here)) word there

    again : (word : List ℕ) → From (first a o) word → From Around word
    again word there = From_of (first a o) Around (λ q here. or_in (first a o q) (K q) (inl here)) word there

    -- a part that is not empty, and then the rest of the word
    one_part : (c d : ℕ) (x u v y : List ℕ) → c ∷ x ≡ d ∷ u ++ v → IsWritten a (d ∷ u) → From Around (v ++ y) → From (first a o) (c ∷ x ++ y)
    one_part c d x u v y parts in_a rest =
        let head : c ≡ d = cc in
        let tail : x ≡ u ++ v = cc in
        of_a c (x ++ y) (u, v ++ y, ap (λ w. w ++ y) tail ∙ append_assoc u v y, subst (λ k. IsWritten a (k ∷ u)) (sym head) in_a, rest)

    from_plus : (k c : ℕ) (x y : List ℕ) → IsPower (IsWritten a) (suc k) (c ∷ x) → From K y → From (first a o) (c ∷ x ++ y)
    from_plus zero c x y ([], v, parts, in_a, none) in_K = absurd (cc)
    from_plus zero c x y (d ∷ u, v, parts, in_a, none) in_K =
        one_part c d x u v y parts in_a (subst (λ w. From Around (w ++ y)) (sym none) (inside y in_K))
    from_plus (suc k) c x y ([], v, parts, in_a, power) in_K =
        from_plus k c x y (subst (λ w. IsPower (IsWritten a) (suc k) w) (sym parts) power) in_K
    from_plus (suc k) c x y (d ∷ u, [], parts, in_a, power) in_K = one_part c d x u [] y parts in_a (inside y in_K)
    from_plus (suc k) c x y (d ∷ u, f ∷ v, parts, in_a, power) in_K =
        one_part c d x u (f ∷ v) y parts in_a (again (f ∷ v ++ y) (from_plus k f v y power in_K))

    of_plus : (c : ℕ) (word : List ℕ) → Begins (plus a) K c word → From (first a o) (c ∷ word)
    of_plus c word (x, y, split, (k, power), in_K) =
        subst (λ w. From (first a o) (c ∷ w)) (sym split) (from_plus k c x y power in_K)

  of_letter : (s o : ℕ) (K : ℕ → Bool) → next (o + 1) ≡ K → bits (o + 1) ≡ s → (c : ℕ) (word : List ℕ) → Begins (letter s) K c word
      → From (first (letter s) o) (c ∷ word)
  of_letter s o K goes reads c word (x, y, split, (d, one, set), in_K) =
      let head : c ≡ d = cc in
      let tail : x ≡ [] = cc in
      let all : word ≡ y = split ∙ ap (λ w. w ++ y) tail in
      let same : (o + 1 == o + 1) ≡ true = grind (arith, nat_tests) in (
        o + 1,
        same,
        omega arith,
        subst (λ b. IsBitSet b c) (sym reads) (subst (λ k. IsBitSet s k) (sym head) set),
        subst (λ S. From S word) (sym goes) (subst (λ w. From K w) (sym all) in_K),
      )

  pub of_begins : (e : Written) (o : ℕ) (K : ℕ → Bool) → Agrees e o K → (c : ℕ) (word : List ℕ) → Begins e K c word → From (first e o) (c ∷ word)
  of_begins nothing o K agrees c word (x, y, split, wrong, in_K) = absurd (cc)
  of_begins nowhere o K agrees c word (x, y, split, wrong, in_K) = absurd wrong
  of_begins (letter s) o K (goes, reads) c word begins = of_letter s o K goes reads c word begins
  of_begins (sequence a b) o K (in_a, in_b) c word begins =
      from_sequence a b o K (of_begins a o (entry b (o + size a) K) in_a) (of_begins b (o + size a) K in_b) c word begins
  of_begins (choice a b) o K (in_a, in_b) c word begins = from_choice a b o K (of_begins a o K in_a) (of_begins b (o + size a) K in_b) c word begins
  of_begins (optional a) o K agrees c word begins = from_optional a o K (of_begins a o K agrees) c word begins
  of_begins (plus a) o K agrees c word begins = of_plus a o K (of_begins a o (λ q. first a o q || K q) agrees) c word begins

  -- only the empty word is read from the end on
  at_end : (word : List ℕ) → From (λ q. q == 0) word → word ≡ []
  at_end [] holds = refl
  at_end (c ∷ word) (q, there, above, set, rest) = absurd (let here : q ≡ 0 = grind (arith, nat_tests) in omega arith)

  -- the words that are read from the entry on are those that are denoted
  pub read_is_written : (e : Written) → Agrees e 0 (λ q. q == 0) → (word : List ℕ) → From (entry e 0 (λ q. q == 0)) word ↔ IsWritten e word
  read_is_written e agrees word = (to_written, from_written)
    where
      whole : Joins e (λ q. q == 0) word → IsWritten e word
      whole (x, y, split, in_e, ends) = subst (λ w. IsWritten e w) (sym (append-nil x) ∙ ap (λ w. x ++ w) (sym (at_end y ends)) ∙ sym split) in_e

      to_written : From (entry e 0 (λ q. q == 0)) word → IsWritten e word
      to_written there = whole (join_of_entry e 0 (λ q. q == 0) (begins_of e 0 (λ q. q == 0) agrees) word there)

      from_written : IsWritten e word → From (entry e 0 (λ q. q == 0)) word
      from_written in_e = entry_of_join e 0 (λ q. q == 0) (of_begins e 0 (λ q. q == 0) agrees) word (word, [], sym (append-nil word), in_e, refl)
