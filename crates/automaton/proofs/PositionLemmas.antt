-- What the automaton of rows answers, and which words it accepts.
use Rattle.plan_base.proofs.Common.{◌≡◌, ℕ, zero, suc, ◌+◌, ◌-◌, ◌*◌, ◌^◌, ◌<◌, ◌≤◌, Bool, true, false, ◌&&◌, ◌||◌, ◌==◌, nat_le, nat_lt, ◌⊎◌, ◌↔◌, List, [], ◌∷◌, ◌++◌, length, get_or, IsTrue, IsBitSet, if◌then◌else◌, refl, sym, ap, ◌∙◌, subst, inl, inr, append-nil, length-append, arith, nat_tests, get_or-map, length-map, get_or_append_left, get_or_past, bit_at-zero, get_or-append_seam}
use Rattle.std.proofs.lemmas.Nat.Bits.{and_pow}
use Rattle.std.proofs.Math.ListN.{get_or-map as get_or-map_default}
use Rattle.search_laws.specs.{IsLetterSet, Move, LabelsMeaning, HasMove, Reads, Accepts, IsLawfulLabels}
use Rattle.automaton.specs.{Written.Written, nothing, nowhere, letter, sequence, choice, optional, plus, size, nullable, first, last, follow, IsWritten, no_move, no_view, view_at, meaning_of_states, moves_upto, state_for, states_for, next_position, may_end, letters_at, IsPositionAutomaton, inside.PositionRow, inside.entry, inside.position_rows, inside.position_row, inside.no_row}
use Rattle.automaton.proofs.{LanguageLemmas.or_out, LanguageLemmas.and_out, LanguageLemmas.first_above, LanguageLemmas.From, LanguageLemmas.Agrees, LanguageLemmas.read_is_written, RowLemmas.length-rows, RowLemmas.letters-rows, RowLemmas.agrees_of_rows, RowLemmas.next_is}

no_bits : (c : ℕ) → IsBitSet 0 c → ⊥
no_bits c set = set (and_pow 0 c ∙ ap (λ b. b * 2 ^ c) (bit_at-zero c) ∙ omega arith)

module _ (R : List PositionRow) where
  abbrev move_to : ℕ → Move
  move_to p = record { letters = (position_row R p).letters; to = p }

  module _ (S : ℕ → Bool) where
    upto_in : (k : ℕ) → S (suc k) ≡ true → moves_upto R S (suc k) ≡ moves_upto R S k ++ move_to (suc k) ∷ []
    upto_in k there = ap (λ b. moves_upto R S k ++ (if b then move_to (suc k) ∷ [] else [])) there

    upto_out : (k : ℕ) → S (suc k) ≡ false → moves_upto R S (suc k) ≡ moves_upto R S k
    upto_out k out = ap (λ b. moves_upto R S k ++ (if b then move_to (suc k) ∷ [] else [])) out ∙ append-nil (moves_upto R S k)

    pub few_moves : (k : ℕ) → length (moves_upto R S k) ≤ k
    few_moves zero = omega arith
    few_moves (suc k) = by_test (S (suc k)) refl (few_moves k)
      where
        by_test : (b : Bool) → S (suc k) ≡ b → length (moves_upto R S k) ≤ k → length (moves_upto R S (suc k)) ≤ suc k
        by_test true there few = omega (arith, ap length (upto_in k there), length-append (moves_upto R S k) (move_to (suc k) ∷ []))
        by_test false out few = omega (arith, ap length (upto_out k out))

    -- a move of the list leads to a position of the set, by its letters
    abbrev IsGood : ℕ → Move → Type 0
    IsGood k m = (0 < m.to) × (m.to ≤ k) × IsTrue (S m.to) × (m ≡ move_to m.to)

    good_more : (k : ℕ) (m : Move) → IsGood k m → IsGood (suc k) m
    good_more k m (above, below, there, is) = (above, omega arith, there, is)

    which_place : (i n : ℕ) → i < n + 1 → (i < n) ⊎ (i ≡ n)
    which_place i n lt = by_test (nat_lt i n) refl
      where
        by_test : (b : Bool) → nat_lt i n ≡ b → (i < n) ⊎ (i ≡ n)
        by_test true is = inl (grind (arith, nat_tests))
        by_test false is = inr (grind (arith, nat_tests))

    pub moves_sound : (k i : ℕ) → i < length (moves_upto R S k) → IsGood k (get_or (moves_upto R S k) i no_move)
    moves_sound zero i lt = absurd (omega arith)
    moves_sound (suc k) i lt = by_test (S (suc k)) refl (moves_sound k i)
      where
        by_test : (b : Bool) → S (suc k) ≡ b → (i < length (moves_upto R S k) → IsGood k (get_or (moves_upto R S k) i no_move))
            → IsGood (suc k) (get_or (moves_upto R S (suc k)) i no_move)
        by_test false out before =
            let same = upto_out k out in
            rw same (good_more k (get_or (moves_upto R S k) i no_move) (before (omega (arith, ap length same))))
        by_test true there before = by_place (which_place i (length (moves_upto R S k)) (omega (arith, ap length (upto_in k there), length-append (moves_upto R S k) (move_to (suc k) ∷ []))))
          where
            by_place : (i < length (moves_upto R S k)) ⊎ (i ≡ length (moves_upto R S k)) → IsGood (suc k) (get_or (moves_upto R S (suc k)) i no_move)
            by_place (inl low) =
                let same = ap (λ l. get_or l i no_move) (upto_in k there) ∙ get_or_append_left (moves_upto R S k) (move_to (suc k) ∷ []) no_move i low in
                subst (IsGood (suc k)) (sym same) (good_more k (get_or (moves_upto R S k) i no_move) (before low))
            by_place (inr end) =
                let same = ap (λ l. get_or l i no_move) (upto_in k there) ∙ ap (λ j. get_or (moves_upto R S k ++ move_to (suc k) ∷ []) j no_move) end
                ∙ get_or-append_seam (moves_upto R S k) (move_to (suc k)) [] no_move in
                subst (IsGood (suc k)) (sym same) (omega arith, omega arith, there, refl)

    abbrev IsThere : ℕ → ℕ → Type 0
    IsThere k p = (i : ℕ) × (i < length (moves_upto R S k)) × (get_or (moves_upto R S k) i no_move ≡ move_to p)

    there_more : (k p : ℕ) (list : List Move) → moves_upto R S (suc k) ≡ moves_upto R S k ++ list → IsThere k p → IsThere (suc k) p
    there_more k p list is (i, low, at) = (
      i,
      omega (arith, ap length is, length-append (moves_upto R S k) list),
      ap (λ l. get_or l i no_move) is ∙ get_or_append_left (moves_upto R S k) list no_move i low ∙ at,
    )

    pub moves_complete : (k p : ℕ) → 0 < p → p ≤ k → IsTrue (S p) → IsThere k p
    moves_complete zero p above below there = absurd (omega arith)
    moves_complete (suc k) p above below there = by_place (which_place p (suc k) (omega arith)) (moves_complete k p above)
      where
        by_place : (p < suc k) ⊎ (p ≡ suc k) → (p ≤ k → IsTrue (S p) → IsThere k p) → IsThere (suc k) p
        by_place (inl low) before = there_more k p (if S (suc k) then move_to (suc k) ∷ [] else []) refl (before (omega arith) there)
        by_place (inr end) before =
            let is = upto_in k (subst (λ q. IsTrue (S q)) end there) in (
              length (moves_upto R S k),
              omega (arith, ap length is, length-append (moves_upto R S k) (move_to (suc k) ∷ [])),
              ap (λ l. get_or l (length (moves_upto R S k)) no_move) is ∙ get_or-append_seam (moves_upto R S k) (move_to (suc k)) [] no_move
                  ∙ ap move_to (sym end),
            )

-- the automaton of rows R, before which S may be read
module _ (R : List PositionRow) (S : ℕ → Bool) where
  abbrev n : ℕ
  n = length R

  abbrev Next : ℕ → ℕ → Bool
  Next p = (position_row R p).next

  abbrev Bits : ℕ → ℕ
  Bits p = (position_row R p).letters

  abbrev Auto : LabelsMeaning
  Auto = meaning_of_states (states_for R S)

  -- what may be read in a state
  abbrev set_of : ℕ → ℕ → Bool
  set_of zero = S
  set_of (suc k) = (position_row R (suc k)).next

  pub state_count : Auto.states ≡ n + 1
  state_count = ap suc (length-map R (λ row. state_for R row.next)) ∙ omega arith

  view_is : (q : ℕ) → q ≤ n → view_at (states_for R S) q ≡ state_for R (set_of q)
  view_is zero le = refl
  view_is (suc k) le =
      let e : suc k - 1 ≡ k = omega arith in
      get_or-map (λ row. state_for R row.next) R k no_row no_view (omega arith) ∙ ap (λ j. state_for R (get_or R j no_row).next) (sym e)

  set_of_next : (p : ℕ) → 0 < p → set_of p ≡ Next p
  set_of_next zero above = absurd (omega arith)
  set_of_next (suc k) above = refl

  -- where a position's letters are, the position is there
  pub in_list : (p c : ℕ) → 0 < p → IsBitSet (Bits p) c → p ≤ n
  in_list p c above set = by_test (nat_le p n) refl
    where
      by_test : (b : Bool) → nat_le p n ≡ b → p ≤ n
      by_test true is = grind (arith, nat_tests)
      by_test false is =
          let past : n ≤ p - 1 = grind (arith, nat_tests) in
          absurd (no_bits c (subst (λ row. IsBitSet row.letters c) (get_or_past R (p - 1) no_row past) set))

  abbrev Steps : ℕ → ℕ → ℕ → Type 0
  Steps q c p = (0 < p) × (p ≤ n) × IsTrue (set_of q p) × IsBitSet (Bits p) c

  pub steps_of_move : (q c p : ℕ) → q ≤ n → HasMove Auto q c p → Steps q c p
  steps_of_move q c p le (i, move) =
      let view = view_is q le in
      let place : i < length (moves_upto R (set_of q) n) = subst (λ v. i < length v.moves) view move.place in
      let good = moves_sound R (set_of q) n i place in
      let here : get_or (view_at (states_for R S) q).moves i no_move ≡ get_or (moves_upto R (set_of q) n) i no_move = ap (λ v. get_or v.moves i no_move) view in
      let to : (get_or (moves_upto R (set_of q) n) i no_move).to ≡ p = sym (ap (λ m. m.to) here) ∙ move.to in
      let set = subst (λ m. IsBitSet m.letters c) (here ∙ good.3 ∙ ap (move_to R) to) move.letter in
      (subst (λ t. 0 < t) to good.0, subst (λ t. t ≤ n) to good.1, subst (λ t. IsTrue (set_of q t)) to good.2, set)

  pub move_of_steps : (q c p : ℕ) → q ≤ n → Steps q c p → HasMove Auto q c p
  move_of_steps q c p le (above, below, there, set) = found (moves_complete R (set_of q) n p above below there)
    where
      found : (i : ℕ) × (i < length (moves_upto R (set_of q) n)) × (get_or (moves_upto R (set_of q) n) i no_move ≡ move_to R p) → HasMove Auto q c p
      found (i, low, at) =
          let view = view_is q le in
          let here : get_or (view_at (states_for R S) q).moves i no_move ≡ move_to R p = ap (λ v. get_or v.moves i no_move) view ∙ at in (
            i,
            record {
              place = subst (λ v. i < length v.moves) (sym view) low;
              letter = subst (λ m. IsBitSet m.letters c) (sym here) set;
              to = ap (λ m. m.to) here;
            },
          )

  accept_is : (q : ℕ) → q ≤ n → Auto.accepts q ≡ set_of q 0
  accept_is q le = ap (λ v. v.accepts) (view_is q le)

  abbrev Ends : ℕ → List ℕ → Type 0
  Ends q word = (r : ℕ) × Reads Auto q word r × IsTrue (Auto.accepts r)

  from_of_reads : (word : List ℕ) (q : ℕ) → q ≤ n → Ends q word → From Next Bits (set_of q) word
  from_of_reads [] q le (r, same, acc) = sym (accept_is q le) ∙ ap (λ s. Auto.accepts s) (sym same) ∙ acc
  from_of_reads (c ∷ word) q le (r, (p, move, reads), acc) =
      let steps = steps_of_move q c p le move in
      let rest = from_of_reads word p steps.1 (r, reads, acc) in
      (p, steps.2, steps.0, steps.3, subst (λ T. From Next Bits T word) (set_of_next p steps.0) rest)

  reads_of_from : (word : List ℕ) (q : ℕ) → q ≤ n → From Next Bits (set_of q) word → Ends q word
  reads_of_from [] q le holds = (q, refl, accept_is q le ∙ holds)
  reads_of_from (c ∷ word) q le (p, there, above, set, rest) =
      let below = in_list p c above set in
      after (reads_of_from word p below (subst (λ T. From Next Bits T word) (sym (set_of_next p above)) rest)) below
    where
      after : Ends p word → p ≤ n → Ends q (c ∷ word)
      after (r, reads, acc) below = (r, (p, move_of_steps q c p le (above, below, there, set), reads), acc)

  pub accepts_from : (word : List ℕ) → Accepts Auto word ↔ From Next Bits S word
  accepts_from word = (to_from, of_from)
    where
      to_from : Accepts Auto word → From Next Bits S word
      to_from (q, r, lt, start, reads, acc) =
          let zero_start : q ≡ 0 = grind (arith, nat_tests) in
          from_of_reads word 0 (omega arith) (r, subst (λ k. Reads Auto k word r) zero_start reads, acc)

      of_from : From Next Bits S word → Accepts Auto word
      of_from holds =
          let ends = reads_of_from word 0 (omega arith) holds in
          (0, ends.0, omega (arith, state_count), refl, ends.1, ends.2)

-- what follows a position is a position
follow_above : (e : Written) (o p q : ℕ) → IsTrue (follow e o p q) → o < q
follow_above nothing o p q holds = absurd (cc)
follow_above nowhere o p q holds = absurd (cc)
follow_above (letter bits) o p q holds = absurd (cc)
follow_above (sequence a b) o p q holds =
    by_part (or_out (follow a o p q || follow b (o + size a) p q) (last a o p && first b (o + size a) q) holds) (follow_above a o p q) (follow_above b (o + size a) p q)
  where
    by_part : IsTrue (follow a o p q || follow b (o + size a) p q) ⊎ IsTrue (last a o p && first b (o + size a) q)
        → (IsTrue (follow a o p q) → o < q) → (IsTrue (follow b (o + size a) p q) → o + size a < q) → o < q
    by_part (inl one) left right = by_follow (or_out (follow a o p q) (follow b (o + size a) p q) one)
      where
        by_follow : IsTrue (follow a o p q) ⊎ IsTrue (follow b (o + size a) p q) → o < q
        by_follow (inl in_a) = left in_a
        by_follow (inr in_b) = let h = right in_b in omega arith
    by_part (inr both) left right = let h = first_above b (o + size a) q (and_out (last a o p) (first b (o + size a) q) both).1 in omega arith
follow_above (choice a b) o p q holds =
    by_part (or_out (follow a o p q) (follow b (o + size a) p q) holds) (follow_above a o p q) (follow_above b (o + size a) p q)
  where
    by_part : IsTrue (follow a o p q) ⊎ IsTrue (follow b (o + size a) p q) → (IsTrue (follow a o p q) → o < q) → (IsTrue (follow b (o + size a) p q) → o + size a < q) → o < q
    by_part (inl in_a) left right = left in_a
    by_part (inr in_b) left right = let h = right in_b in omega arith
follow_above (optional a) o p q holds = follow_above a o p q holds
follow_above (plus a) o p q holds = by_part (or_out (follow a o p q) (last a o p && first a o q) holds) (follow_above a o p q)
  where
    by_part : IsTrue (follow a o p q) ⊎ IsTrue (last a o p && first a o q) → (IsTrue (follow a o p q) → o < q) → o < q
    by_part (inl in_a) left = left in_a
    by_part (inr again) left = first_above a o q (and_out (last a o p) (first a o q) again).1

is_false : (b : Bool) → (IsTrue b → ⊥) → b ≡ false
is_false true never = absurd (never refl)
is_false false never = refl

and_false_right : (f m : Bool) → (f || (m && false)) ≡ f
and_false_right true m = refl
and_false_right false true = refl
and_false_right false false = refl

and_true_right : (m : Bool) → (m && true) ≡ m
and_true_right true = refl
and_true_right false = refl

-- the end, after the whole
abbrev pub end : ℕ → Bool
end q = q == 0

not_end : (p : ℕ) → 0 < p → end p ≡ false
not_end p above = grind (arith, nat_tests)

-- the automaton of an expression that is written out
module _ (e : Written) where
  abbrev R_of : List PositionRow
  R_of = position_rows e 0 end

  abbrev S_of : ℕ → Bool
  S_of = entry e 0 end

  abbrev pub automaton_of : LabelsMeaning
  automaton_of = meaning_of_states (states_for R_of S_of)

  agrees : Agrees (λ p. (position_row R_of p).next) (λ p. (position_row R_of p).letters) e 0 end
  agrees = agrees_of_rows e 0 end [] [] R_of (sym (append-nil R_of)) refl

  letters_same : (p : ℕ) → (position_row R_of p).letters ≡ letters_at e p
  letters_same p =
      sym (get_or-map_default (λ row. row.letters) R_of (p - 1) no_row) ∙ ap (λ l. get_or l (p - 1) 0) (letters-rows e 0 end)

  row_next : (k p : ℕ) → suc k ≤ size e → (position_row R_of (suc k)).next p ≡ (follow e 0 (suc k) p || (last e 0 (suc k) && end p))
  row_next k p le = next_is (λ p. (position_row R_of p).next) (λ p. (position_row R_of p).letters) e 0 end agrees (suc k) p (omega arith) (omega arith)

  next_same : (q p : ℕ) → q ≤ size e → 0 < p → set_of R_of S_of q p ≡ next_position e q p
  next_same zero p le above = ap (λ b. first e 0 p || (nullable e && b)) (not_end p above) ∙ and_false_right (first e 0 p) (nullable e)
  next_same (suc k) p le above =
      row_next k p le ∙ ap (λ b. follow e 0 (suc k) p || (last e 0 (suc k) && b)) (not_end p above)
      ∙ and_false_right (follow e 0 (suc k) p) (last e 0 (suc k))

  next_above : (q p : ℕ) → IsTrue (next_position e q p) → 0 < p
  next_above zero p holds = first_above e 0 p holds
  next_above (suc k) p holds = follow_above e 0 (suc k) p holds

  ends_same : (q : ℕ) → q ≤ size e → set_of R_of S_of q 0 ≡ may_end e q
  ends_same zero le =
      let none = is_false (first e 0 0) (λ holds. absurd (omega (arith, first_above e 0 0 holds))) in
      ap (λ b. b || (nullable e && true)) none ∙ and_true_right (nullable e)
  ends_same (suc k) le =
      let none = is_false (follow e 0 (suc k) 0) (λ holds. absurd (omega (arith, follow_above e 0 (suc k) 0 holds))) in
      row_next k 0 le ∙ ap (λ b. b || (last e 0 (suc k) && true)) none ∙ and_true_right (last e 0 (suc k))

  size_of_rows : length R_of ≡ size e
  size_of_rows = length-rows e 0 end

  few : (q : ℕ) → q < automaton_of.states → q ≤ length R_of
  few q lt = omega (arith, state_count R_of S_of)

  pub is_position_automaton : IsPositionAutomaton e automaton_of
  is_position_automaton = record {
    states = omega (arith, state_count R_of S_of, size_of_rows);
    starts = λ q. refl;
    moves = λ q c p lt. (move_out q c p (few q lt), move_in q c p (few q lt));
    accepts = λ q lt. accept_is R_of S_of q (few q lt) ∙ ends_same q (omega (arith, few q lt, size_of_rows));
  }
    where
      move_out : (q c p : ℕ) → q ≤ length R_of → HasMove automaton_of q c p → IsTrue (next_position e q p) × IsBitSet (letters_at e p) c
      move_out q c p le move =
          let steps = steps_of_move R_of S_of q c p le move in
          (sym (next_same q p (omega (arith, size_of_rows)) steps.0) ∙ steps.2, subst (λ b. IsBitSet b c) (letters_same p) steps.3)

      move_in : (q c p : ℕ) → q ≤ length R_of → IsTrue (next_position e q p) × IsBitSet (letters_at e p) c → HasMove automaton_of q c p
      move_in q c p le (holds, set) =
          let above = next_above q p holds in
          let bits = subst (λ b. IsBitSet b c) (sym (letters_same p)) set in
          move_of_steps R_of S_of q c p le (above, in_list R_of S_of p c above bits, next_same q p (omega (arith, size_of_rows)) above ∙ holds, bits)

  pub accepts_written : (word : List ℕ) → Accepts automaton_of word ↔ IsWritten e word
  accepts_written word =
      let from = accepts_from R_of S_of word in
      let read = read_is_written (λ p. (position_row R_of p).next) (λ p. (position_row R_of p).letters) e agrees word in
      (λ accepts. read.0 (from.0 accepts), λ is. from.1 (read.1 is))

  pub state_total : automaton_of.states ≡ size e + 1
  state_total = is_position_automaton.states

  pub moves_few : (q : ℕ) → automaton_of.moves q ≤ size e
  moves_few q = by_place (nat_le q (length R_of)) refl
    where
      by_place : (b : Bool) → nat_le q (length R_of) ≡ b → automaton_of.moves q ≤ size e
      by_place true is =
          let le : q ≤ length R_of = grind (arith, nat_tests) in
          omega (arith, ap (λ v. length v.moves) (view_is R_of S_of q le), few_moves R_of (set_of R_of S_of q) (length R_of), size_of_rows)
      by_place false is =
          let past : length (states_for R_of S_of) ≤ q = let h : length R_of < q = grind (arith, nat_tests) in omega (arith, state_count R_of S_of) in
          omega (arith, ap (λ v. length v.moves) (get_or_past (states_for R_of S_of) q no_view past))

  -- the automaton keeps its limits, where the letters are among the fourteen
  pub is_lawful : size e ≤ 200 → ((p : ℕ) → IsLetterSet (letters_at e p)) → IsLawfulLabels automaton_of
  is_lawful small letters_below = record {
    few_states = omega (arith, state_total);
    few_moves = λ q lt. omega (arith, moves_few q);
    to_in_range = λ q i lt place. (reach q i (few q lt) place).0;
    letters_in_range = λ q i lt place. (reach q i (few q lt) place).1;
  }
    where
      reach : (q i : ℕ) → q ≤ length R_of → i < automaton_of.moves q
          → ((automaton_of.move_at q i).to < automaton_of.states) × IsLetterSet (automaton_of.move_at q i).letters
      reach q i le place =
          let view = view_is R_of S_of q le in
          let good = moves_sound R_of (set_of R_of S_of q) (length R_of) i (subst (λ v. i < length v.moves) view place) in
          let here : automaton_of.move_at q i ≡ get_or (moves_upto R_of (set_of R_of S_of q) (length R_of)) i no_move = ap (λ v. get_or v.moves i no_move) view in
          let to = (get_or (moves_upto R_of (set_of R_of S_of q) (length R_of)) i no_move).to in
          let bits : (automaton_of.move_at q i).letters ≡ letters_at e to = ap (λ m. m.letters) (here ∙ good.3) ∙ letters_same to in
          (omega (arith, ap (λ m. m.to) here, good.1, state_count R_of S_of), subst IsLetterSet (sym bits) (letters_below to))
