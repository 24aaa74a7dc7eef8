-- The rows of positions: how long they are, and what they say of single positions.
use Rattle.plan_base.proofs.Common.{◌≡◌, ℕ, ◌+◌, ◌-◌, ◌<◌, ◌≤◌, Bool, true, false, ◌&&◌, ◌||◌, ◌==◌, nat_le, ◌⊎◌, List, ◌∷◌, ◌++◌, length, get_or, map, refl, sym, ap, ◌∙◌, inl, inr, append_assoc, length-append, arith, nat_tests, map-append, get_or-append_seam}
use Rattle.automaton.specs.{Written.Written, nothing, nowhere, letter, sequence, choice, optional, plus, size, nullable, first, last, follow, letters_written, inside.PositionRow, inside.entry, inside.position_rows, inside.position_row, inside.no_row}
use Rattle.automaton.proofs.LanguageLemmas.{Agrees}

pub length-rows : (e : Written) (o : ℕ) (K : ℕ → Bool) → length (position_rows e o K) ≡ size e
length-rows nothing o K = refl
length-rows nowhere o K = refl
length-rows (letter bits) o K = refl
length-rows (sequence a b) o K =
    omega (arith, length-append (position_rows a o (entry b (o + size a) K)) (position_rows b (o + size a) K), length-rows a o (entry b (o + size a) K), length-rows b (o + size a) K)
length-rows (choice a b) o K = omega (arith, length-append (position_rows a o K) (position_rows b (o + size a) K), length-rows a o K, length-rows b (o + size a) K)
length-rows (optional a) o K = length-rows a o K
length-rows (plus a) o K = length-rows a o (λ q. first a o q || K q)

pub letters-rows : (e : Written) (o : ℕ) (K : ℕ → Bool) → map (λ row. row.letters) (position_rows e o K) ≡ letters_written e
letters-rows nothing o K = refl
letters-rows nowhere o K = refl
letters-rows (letter bits) o K = refl
letters-rows (sequence a b) o K =
    map-append (λ row. row.letters) (position_rows a o (entry b (o + size a) K)) (position_rows b (o + size a) K)
    ∙ ap (λ xs. xs ++ map (λ row. row.letters) (position_rows b (o + size a) K)) (letters-rows a o (entry b (o + size a) K))
    ∙ ap (λ xs. letters_written a ++ xs) (letters-rows b (o + size a) K)
letters-rows (choice a b) o K =
    map-append (λ row. row.letters) (position_rows a o K) (position_rows b (o + size a) K)
    ∙ ap (λ xs. xs ++ map (λ row. row.letters) (position_rows b (o + size a) K)) (letters-rows a o K)
    ∙ ap (λ xs. letters_written a ++ xs) (letters-rows b (o + size a) K)
letters-rows (optional a) o K = letters-rows a o K
letters-rows (plus a) o K = letters-rows a o (λ q. first a o q || K q)

-- the row of the position after those of a front
row_after : (before after : List PositionRow) (row : PositionRow) (o : ℕ) → length before ≡ o → position_row (before ++ row ∷ after) (o + 1) ≡ row
row_after before after row o is =
    let e : o + 1 - 1 ≡ length before = omega arith in
    ap (λ k. get_or (before ++ row ∷ after) k no_row) e ∙ get_or-append_seam before row after no_row

-- where the rows of a part stand in the list, its positions go on as the part says
pub agrees_of_rows : (e : Written) (o : ℕ) (K : ℕ → Bool) (before after list : List PositionRow) → list ≡ before ++ (position_rows e o K ++ after) → length before ≡ o
    → Agrees (λ p. (position_row list p).next) (λ p. (position_row list p).letters) e o K
agrees_of_rows nothing o K before after list is len = tt
agrees_of_rows nowhere o K before after list is len = tt
agrees_of_rows (letter bits) o K before after list is len =
    let here = ap (λ l. position_row l (o + 1)) is ∙ row_after before after (record { letters = bits; next = K }) o len in
    (ap (λ row. row.next) here, ap (λ row. row.letters) here)
agrees_of_rows (sequence a b) o K before after list is len =
    let K_a = entry b (o + size a) K in
    let all = is ∙ ap (λ l. before ++ l) (append_assoc (position_rows a o K_a) (position_rows b (o + size a) K) after) in
    let skip = all ∙ sym (append_assoc before (position_rows a o K_a) (position_rows b (o + size a) K ++ after)) in
    let far : length (before ++ position_rows a o K_a) ≡ o + size a = omega (arith, length-append before (position_rows a o K_a), length-rows a o K_a) in
    (agrees_of_rows a o K_a before (position_rows b (o + size a) K ++ after) list all len, agrees_of_rows b (o + size a) K (before ++ position_rows a o K_a) after list skip far)
agrees_of_rows (choice a b) o K before after list is len =
    let all = is ∙ ap (λ l. before ++ l) (append_assoc (position_rows a o K) (position_rows b (o + size a) K) after) in
    let skip = all ∙ sym (append_assoc before (position_rows a o K) (position_rows b (o + size a) K ++ after)) in
    let far : length (before ++ position_rows a o K) ≡ o + size a = omega (arith, length-append before (position_rows a o K), length-rows a o K) in
    (agrees_of_rows a o K before (position_rows b (o + size a) K ++ after) list all len, agrees_of_rows b (o + size a) K (before ++ position_rows a o K) after list skip far)
agrees_of_rows (optional a) o K before after list is len = agrees_of_rows a o K before after list is len
agrees_of_rows (plus a) o K before after list is len = agrees_of_rows a o (λ q. first a o q || K q) before after list is len

-- positions stand from o + 1 up to o + size e
or_false : (a b : Bool) → a ≡ false → b ≡ false → (a || b) ≡ false
or_false false b p q = q
or_false true b p q = absurd (cc)

and_false : (a b : Bool) → (a ≡ false) ⊎ (b ≡ false) → (a && b) ≡ false
and_false false b p = refl
and_false true b (inl p) = absurd (cc)
and_false true b (inr p) = p

abbrev IsOutside : ℕ → ℕ → ℕ → Type 0
IsOutside o n p = (p ≤ o) ⊎ (o + n < p)

outside_left : (o m n p : ℕ) → IsOutside o (m + n) p → IsOutside o m p
outside_left o m n p (inl le) = inl le
outside_left o m n p (inr lt) = inr (omega arith)

outside_right : (o m n p : ℕ) → IsOutside o (m + n) p → IsOutside (o + m) n p
outside_right o m n p (inl le) = inl (omega arith)
outside_right o m n p (inr lt) = inr (omega arith)

one_outside : (o p : ℕ) → IsOutside o 1 p → (p == o + 1) ≡ false
one_outside o p (inl le) = grind (arith, nat_tests)
one_outside o p (inr lt) = grind (arith, nat_tests)

first_outside : (e : Written) (o p : ℕ) → IsOutside o (size e) p → first e o p ≡ false
first_outside nothing o p out = refl
first_outside nowhere o p out = refl
first_outside (letter bits) o p out = one_outside o p out
first_outside (sequence a b) o p out =
    or_false (first a o p) (nullable a && first b (o + size a) p) (first_outside a o p (outside_left o (size a) (size b) p out))
    (and_false (nullable a) (first b (o + size a) p) (inr (first_outside b (o + size a) p (outside_right o (size a) (size b) p out))))
first_outside (choice a b) o p out =
    or_false (first a o p) (first b (o + size a) p) (first_outside a o p (outside_left o (size a) (size b) p out))
    (first_outside b (o + size a) p (outside_right o (size a) (size b) p out))
first_outside (optional a) o p out = first_outside a o p out
first_outside (plus a) o p out = first_outside a o p out

last_outside : (e : Written) (o p : ℕ) → IsOutside o (size e) p → last e o p ≡ false
last_outside nothing o p out = refl
last_outside nowhere o p out = refl
last_outside (letter bits) o p out = one_outside o p out
last_outside (sequence a b) o p out =
    or_false (last a o p && nullable b) (last b (o + size a) p)
    (and_false (last a o p) (nullable b) (inl (last_outside a o p (outside_left o (size a) (size b) p out))))
    (last_outside b (o + size a) p (outside_right o (size a) (size b) p out))
last_outside (choice a b) o p out =
    or_false (last a o p) (last b (o + size a) p) (last_outside a o p (outside_left o (size a) (size b) p out))
    (last_outside b (o + size a) p (outside_right o (size a) (size b) p out))
last_outside (optional a) o p out = last_outside a o p out
last_outside (plus a) o p out = last_outside a o p out

follow_outside : (e : Written) (o p q : ℕ) → IsOutside o (size e) p → follow e o p q ≡ false
follow_outside nothing o p q out = refl
follow_outside nowhere o p q out = refl
follow_outside (letter bits) o p q out = refl
follow_outside (sequence a b) o p q out =
    let left = outside_left o (size a) (size b) p out in
    let right = outside_right o (size a) (size b) p out in
    or_false (follow a o p q || follow b (o + size a) p q) (last a o p && first b (o + size a) q)
    (or_false (follow a o p q) (follow b (o + size a) p q) (follow_outside a o p q left) (follow_outside b (o + size a) p q right))
    (and_false (last a o p) (first b (o + size a) q) (inl (last_outside a o p left)))
follow_outside (choice a b) o p q out =
    or_false (follow a o p q) (follow b (o + size a) p q) (follow_outside a o p q (outside_left o (size a) (size b) p out))
    (follow_outside b (o + size a) p q (outside_right o (size a) (size b) p out))
follow_outside (optional a) o p q out = follow_outside a o p q out
follow_outside (plus a) o p q out =
    or_false (follow a o p q) (last a o p && first a o q) (follow_outside a o p q out) (and_false (last a o p) (first a o q) (inl (last_outside a o p out)))

after_left : (f g h l m i n k : Bool) → g ≡ false → m ≡ false
    → (f || (l && (i || (n && k)))) ≡ (((f || g) || (l && i)) || (((l && n) || m) && k))
after_left true g h l m i n k p q = refl
after_left false true h l m i n k p q = absurd (cc)
after_left false false h false false i n k p q = refl
after_left false false h false true i n k p q = absurd (cc)
after_left false false h true m true n k p q = refl
after_left false false h true true false n k p q = absurd (cc)
after_left false false h true false false true k p q = refl
after_left false false h true false false false k p q = refl

after_right : (f g l m i n k : Bool) → f ≡ false → l ≡ false → (g || (m && k)) ≡ (((f || g) || (l && i)) || (((l && n) || m) && k))
after_right true g l m i n k p q = absurd (cc)
after_right false g true m i n k p q = absurd (cc)
after_right false true false m i n k p q = refl
after_right false false false m i n k p q = refl

choice_left : (f g l m k : Bool) → g ≡ false → m ≡ false → (f || (l && k)) ≡ ((f || g) || ((l || m) && k))
choice_left true g l m k p q = refl
choice_left false true l m k p q = absurd (cc)
choice_left false false true m k p q = refl
choice_left false false false true k p q = absurd (cc)
choice_left false false false false k p q = refl

choice_right : (f g l m k : Bool) → f ≡ false → l ≡ false → (g || (m && k)) ≡ ((f || g) || ((l || m) && k))
choice_right true g l m k p q = absurd (cc)
choice_right false g true m k p q = absurd (cc)
choice_right false true false m k p q = refl
choice_right false false false m k p q = refl

plus_around : (f l i k : Bool) → (f || (l && (i || k))) ≡ ((f || (l && i)) || (l && k))
plus_around true l i k = refl
plus_around false false i k = refl
plus_around false true i k = refl

-- in which part a position stands
which_part : (o m p : ℕ) → (p ≤ o + m) ⊎ (o + m < p)
which_part o m p = by_test (nat_le p (o + m)) refl
  where
    by_test : (b : Bool) → nat_le p (o + m) ≡ b → (p ≤ o + m) ⊎ (o + m < p)
    by_test true is = inl (grind (arith, nat_tests))
    by_test false is = inr (grind (arith, nat_tests))

module _ (next : ℕ → ℕ → Bool) (bits : ℕ → ℕ) where
  -- what may be read after a position of a part: what follows it there, and K where it may be last
  pub next_is : (e : Written) (o : ℕ) (K : ℕ → Bool) → Agrees next bits e o K → (p q : ℕ) → o < p → p ≤ o + size e
      → next p q ≡ (follow e o p q || (last e o p && K q))
  next_is nothing o K agrees p q low high = absurd (omega arith)
  next_is nowhere o K agrees p q low high = absurd (omega arith)
  next_is (letter s) o K (goes, reads) p q low high =
      let here : p ≡ o + 1 = omega arith in
      let test : (p == o + 1) ≡ true = grind (arith, nat_tests) in
      rw test (ap (λ r. next r q) here ∙ ap (λ S. S q) goes)
  next_is (sequence a b) o K (in_a, in_b) p q low high =
      by_part (which_part o (size a) p) (next_is a o (entry b (o + size a) K) in_a p q low) (λ lt. next_is b (o + size a) K in_b p q lt (omega arith))
    where
      by_part : (p ≤ o + size a) ⊎ (o + size a < p)
          → (p ≤ o + size a → next p q ≡ (follow a o p q || (last a o p && entry b (o + size a) K q)))
          → (o + size a < p → next p q ≡ (follow b (o + size a) p q || (last b (o + size a) p && K q)))
          → next p q ≡ (follow (sequence a b) o p q || (last (sequence a b) o p && K q))
      by_part (inl le) left right =
          left le ∙ after_left (follow a o p q) (follow b (o + size a) p q) false (last a o p) (last b (o + size a) p) (first b (o + size a) q) (nullable b) (K q)
          (follow_outside b (o + size a) p q (inl le)) (last_outside b (o + size a) p (inl le))
      by_part (inr lt) left right =
          right lt ∙ after_right (follow a o p q) (follow b (o + size a) p q) (last a o p) (last b (o + size a) p) (first b (o + size a) q) (nullable b) (K q)
          (follow_outside a o p q (inr lt)) (last_outside a o p (inr lt))
  next_is (choice a b) o K (in_a, in_b) p q low high =
      by_part (which_part o (size a) p) (next_is a o K in_a p q low) (λ lt. next_is b (o + size a) K in_b p q lt (omega arith))
    where
      by_part : (p ≤ o + size a) ⊎ (o + size a < p)
          → (p ≤ o + size a → next p q ≡ (follow a o p q || (last a o p && K q)))
          → (o + size a < p → next p q ≡ (follow b (o + size a) p q || (last b (o + size a) p && K q)))
          → next p q ≡ (follow (choice a b) o p q || (last (choice a b) o p && K q))
      by_part (inl le) left right =
          left le ∙ choice_left (follow a o p q) (follow b (o + size a) p q) (last a o p) (last b (o + size a) p) (K q)
          (follow_outside b (o + size a) p q (inl le)) (last_outside b (o + size a) p (inl le))
      by_part (inr lt) left right =
          right lt ∙ choice_right (follow a o p q) (follow b (o + size a) p q) (last a o p) (last b (o + size a) p) (K q)
          (follow_outside a o p q (inr lt)) (last_outside a o p (inr lt))
  next_is (optional a) o K agrees p q low high = next_is a o K agrees p q low high
  next_is (plus a) o K agrees p q low high =
      next_is a o (λ q. first a o q || K q) agrees p q low high ∙ plus_around (follow a o p q) (last a o p) (first a o q) (K q)
