-- The position automata of an expression have the same moves when they are collapsed, whatever the order of these.
use Rattle.plan_base.proofs.Common.{◌≡◌, ◌≢◌, ℕ, ◌+◌, ◌-◌, ◌*◌, ◌/◌, ◌%◌, ◌^◌, ◌<◌, Bool, true, false, ◌==◌, ◌&&◌, ◌⊎◌, inl, inr, bit_and, IsBitSet, if◌then◌else◌, refl, sym, ap, ◌∙◌, subst, arith, nat_tests}
use Rattle.search_laws.specs.{transit_letters, Move, LabelsMeaning, HasMove}
use Rattle.automaton.specs.{Written.Written, inside.position_rows, inside.entry, IsPositionAutomaton, move_by, stay, other_move, collapsed, and_set, set_and, no_bits, move_to}
use Rattle.automaton.proofs.{PositionLemmas.automaton_of, PositionLemmas.end, PositionLemmas.is_position_automaton, PositionLemmas.steps_of_move, PositionLemmas.state_count, SameLemmas.positions_alike}
use Rattle.promises.proofs.SearchLemmas.{IsCovered}

-- ---- the moves of position automata

module _ (e : Written) (l m : LabelsMeaning) (is : IsPositionAutomaton e l) (also : IsPositionAutomaton e m) where
  -- a move leads to a state
  in_range : (q c p : ℕ) → q < l.states → HasMove l q c p → p < l.states
  in_range q c p lt move =
      let own = positions_alike e l (automaton_of e) is (is_position_automaton e) in
      let there : q < (automaton_of e).states = subst (λ k. q < k) own.states lt in
      let steps = steps_of_move (position_rows e 0 end) (entry e 0 end) q c p (omega (arith, state_count (position_rows e 0 end) (entry e 0 end))) ((own.moves q c p lt).0 move) in
      omega (arith, own.states, steps.1, state_count (position_rows e 0 end) (entry e 0 end))

  pub positions_covered : IsCovered l m
  positions_covered =
      let alike = positions_alike e l m is also in
      record {
        states = alike.states;
        starts = alike.starts;
        moves = λ q c p lt move. ((alike.moves q c p lt).0 move, in_range q c p lt move);
        accepts = alike.accepts;
      }

-- ---- collapsed

abbrev by_kind : Bool → Bool → ℕ → Move → Move
by_kind zero_kind own_kind kind move =
    if zero_kind then record { letters = bit_and move.letters transit_letters; to = 4 * move.to }
    else (if own_kind then record { letters = 0; to = 4 * move.to + kind }
    else record { letters = bit_and move.letters (2 ^ (kind - 1)); to = 4 * move.to + kind })

-- a letter of a move by one kind is one of the inner move; and whichever inner move has it gives it by that kind
given : (own kind : ℕ) (a b : Move) (c : ℕ) → IsBitSet (move_by own kind a).letters c
    → IsBitSet a.letters c × (IsBitSet b.letters c → IsBitSet (move_by own kind b).letters c)
given own kind a b c set = by_test (kind == 0) (kind == own) set
  where
    by_test : (x y : Bool) → IsBitSet (by_kind x y kind a).letters c → IsBitSet a.letters c × (IsBitSet b.letters c → IsBitSet (by_kind x y kind b).letters c)
    by_test true y set = let both = and_set a.letters transit_letters c set in (both.0, λ also. set_and b.letters transit_letters c also both.1)
    by_test false true set = absurd (no_bits c set)
    by_test false false set = let both = and_set a.letters (2 ^ (kind - 1)) c set in (both.0, λ also. set_and b.letters (2 ^ (kind - 1)) c also both.1)

-- the move at a place but the one that stays is by this letter, and leads there
pub record IsOther (l : LabelsMeaning) (s c r i : ℕ) : Type 0 where
  pub place : i < 4 * l.moves (s / 4)
  pub letter : IsBitSet (other_move l s i).letters c
  pub to : (other_move l s i).to ≡ r

-- the move that stays is by this letter, and leads there
pub record IsStay (s c r : ℕ) : Type 0 where
  pub read : (s % 4 == 0) ≡ false
  pub letter : IsBitSet (stay s).letters c
  pub to : (stay s).to ≡ r

abbrev Steps : LabelsMeaning → ℕ → ℕ → ℕ → Type 0
Steps l s c r = IsStay s c r ⊎ ((i : ℕ) × IsOther l s c r i)

module _ (l : LabelsMeaning) where
  steps_of : (s c r : ℕ) → HasMove (collapsed l) s c r → Steps l s c r
  steps_of s c r (i, move) = by_code (s % 4 == 0) refl move.place move.letter move.to
    where
      by_code : (b : Bool) → (s % 4 == 0) ≡ b → i < (if b then 4 * l.moves (s / 4) else 4 * l.moves (s / 4) + 1)
          → IsBitSet (if b then other_move l s i else (if i == 0 then stay s else other_move l s (i - 1))).letters c
          → (if b then other_move l s i else (if i == 0 then stay s else other_move l s (i - 1))).to ≡ r → Steps l s c r
      by_code true is place set to = inr (i, record { place = place; letter = set; to = to })
      by_code false is place set to = by_first (i == 0) refl set to
        where
          by_first : (f : Bool) → (i == 0) ≡ f → IsBitSet (if f then stay s else other_move l s (i - 1)).letters c
              → (if f then stay s else other_move l s (i - 1)).to ≡ r → Steps l s c r
          by_first true first set to = inl (record { read = is; letter = set; to = to })
          by_first false first set to = let some : i ≢ 0 = grind (arith, nat_tests) in inr (i - 1, record { place = omega arith; letter = set; to = to })

  move_of : (s c r : ℕ) → Steps l s c r → HasMove (collapsed l) s c r
  move_of s c r (inl stays) =
      let same : (collapsed l).move_at s 0 ≡ stay s = ap (λ b. if b then other_move l s 0 else stay s) stays.read in (
        0,
        record {
          place = subst (λ b. 0 < (if b then 4 * l.moves (s / 4) else 4 * l.moves (s / 4) + 1)) (sym stays.read) (omega arith);
          letter = subst (λ (x : Move). IsBitSet x.letters c) (sym same) stays.letter;
          to = ap (λ (x : Move). x.to) same ∙ stays.to;
        },
      )
  move_of s c r (inr (i, other)) = by_code (s % 4 == 0) refl
    where
      by_code : (b : Bool) → (s % 4 == 0) ≡ b → HasMove (collapsed l) s c r
      by_code true is = (
        i,
        record {
          place = subst (λ b. i < (if b then 4 * l.moves (s / 4) else 4 * l.moves (s / 4) + 1)) (sym is) other.place;
          letter = subst (λ b. IsBitSet (if b then other_move l s i else (if i == 0 then stay s else other_move l s (i - 1))).letters c) (sym is) other.letter;
          to = subst (λ b. (if b then other_move l s i else (if i == 0 then stay s else other_move l s (i - 1))).to ≡ r) (sym is) other.to;
        },
      )
      by_code false is =
          let later : (i + 1 == 0) ≡ false = grind (arith, nat_tests) in
          let back : i + 1 - 1 ≡ i = omega arith in
          let same : (collapsed l).move_at s (i + 1) ≡ other_move l s i =
          ap (λ b. if b then other_move l s (i + 1) else (if i + 1 == 0 then stay s else other_move l s (i + 1 - 1))) is
          ∙ ap (λ b. if b then stay s else other_move l s (i + 1 - 1)) later ∙ ap (λ k. other_move l s k) back in (
            i + 1,
            record {
              place = subst (λ b. i + 1 < (if b then 4 * l.moves (s / 4) else 4 * l.moves (s / 4) + 1)) (sym is) (let below = other.place in omega arith);
              letter = subst (λ (x : Move). IsBitSet x.letters c) (sym same) other.letter;
              to = ap (λ (x : Move). x.to) same ∙ other.to;
            },
          )

module _ (l m : LabelsMeaning) (covered : IsCovered l m) where
  -- the other automaton has a place for the kind of an inner move that it has too
  place_of : (s c r kind : ℕ) (a : Move) → kind < 4 → IsBitSet (move_by (s % 4) kind a).letters c → (move_by (s % 4) kind a).to ≡ r
      → HasMove m (s / 4) c a.to × (a.to < l.states) → ((j : ℕ) × IsOther m s c r j) × (r < 4 * l.states)
  place_of s c r kind a small set leads ((j, move), below) =
      let k = 4 * j + kind in
      let b = m.move_at (s / 4) j in
      let place : k / 4 ≡ j = omega arith in
      let same : k % 4 ≡ kind = omega arith in
      let here : other_move m s k ≡ move_by (s % 4) kind b =
      ap (λ x. move_by (s % 4) x (m.move_at (s / 4) (k / 4))) same ∙ ap (λ x. move_by (s % 4) kind (m.move_at (s / 4) x)) place in
      let to : 4 * a.to + kind ≡ r = sym (move_to (s % 4) kind a) ∙ leads in (
        (
          k,
          record {
            place = let within = move.place in omega arith;
            letter = subst (λ (x : Move). IsBitSet x.letters c) (sym here) ((given (s % 4) kind a b c set).1 move.letter);
            to = ap (λ (x : Move). x.to) here ∙ move_to (s % 4) kind b ∙ ap (λ p. 4 * p + kind) move.to ∙ to;
          },
        ),
        omega (arith, to),
      )

  other_over : (s c r i : ℕ) → s < 4 * l.states → IsOther l s c r i → ((j : ℕ) × IsOther m s c r j) × (r < 4 * l.states)
  other_over s c r i lt other =
      let a = l.move_at (s / 4) (i / 4) in
      let below = other.place in
      let inner : HasMove l (s / 4) c a.to = (i / 4, record { place = omega arith; letter = (given (s % 4) (i % 4) a a c other.letter).0; to = refl }) in
      place_of s c r (i % 4) a (omega arith) other.letter other.to (covered.moves (s / 4) c a.to (omega arith) inner)

  steps_over : (s c r : ℕ) → s < 4 * l.states → Steps l s c r → Steps m s c r × (r < 4 * l.states)
  steps_over s c r lt (inl stays) = (inl stays, subst (λ k. k < 4 * l.states) stays.to lt)
  steps_over s c r lt (inr (i, other)) = let over = other_over s c r i lt other in (inr over.0, over.1)

  pub collapsed_covered : IsCovered (collapsed l) (collapsed m)
  collapsed_covered = record {
    states = ap (λ k. 4 * k) covered.states;
    starts = λ s. ap (λ b. s % 4 == 0 && b) (covered.starts (s / 4));
    moves = λ s c r lt move. let over = steps_over s c r lt (steps_of l s c r move) in (move_of m s c r over.0, over.1);
    accepts = λ s lt. covered.accepts (s / 4) (omega arith);
  }
