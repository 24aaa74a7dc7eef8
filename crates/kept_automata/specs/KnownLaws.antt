-- Of what is decided place by place it is known what is known to be so. These are proofs, which a ghost member cites; nothing is defined here
-- that a contract means.
use Rattle.std.specs.Prelude.{◌≡◌, ◌⊎◌, ℕ, zero, suc, ◌^◌, ◌<◌, IsBitSet, bit_and}
use Rattle.std.proofs.Common.{inl, inr, subst, arith}
use Rattle.std.proofs.Props.{props}
use Rattle.std.proofs.Math.Logic.{∥∥₁_elim, ∥∥₁_map}
use Rattle.std.proofs.lemmas.Bool.{cases_lt}
use Rattle.search_laws.specs.{LabelsMeaning, HasMove}
use Rattle.automaton.specs.{Written.Written, IsPositionAutomaton}

-- ---- a move that is known to be there can be found

record IsByTo (l : LabelsMeaning) (q c p i : ℕ) : Type 0 where
  letter : IsBitSet (l.move_at q i).letters c
  to : (l.move_at q i).to ≡ p

by_to : (l : LabelsMeaning) (q c p i : ℕ) → IsByTo l q c p i ⊎ (IsByTo l q c p i → ⊥)
by_to l q c p i = elim (cases_lt (bit_and (l.move_at q i).letters (2 ^ c)) 1) [
  | inl none ↦ inr (λ is. is.letter (omega arith))
  | inr some ↦ elim (cases_lt (l.move_at q i).to p) [
    | inl less ↦ inr (λ is. let e = is.to in absurd (omega arith))
    | inr ge ↦ elim (cases_lt p (l.move_at q i).to) [
      | inl more ↦ inr (λ is. let e = is.to in absurd (omega arith))
      | inr le ↦ inl (record { letter = λ e. absurd (omega arith); to = omega arith })
    ]
  ]
]

find_move : (l : LabelsMeaning) (q c p n : ℕ) → ((i : ℕ) × (i < n) × IsByTo l q c p i) ⊎ ((i : ℕ) → i < n → IsByTo l q c p i → ⊥)
find_move l q c p zero = inr (λ i lt is. absurd (omega arith))
find_move l q c p (suc n) = elim (find_move l q c p n) [
  | inl found ↦ inl (found.0, (let lt = found.1 in omega arith), found.2)
  | inr none ↦ elim (by_to l q c p n) [
    | inl is ↦ inl (n, omega arith, is)
    | inr not_is ↦ inr (λ i lt is. elim (cases_lt i n) [
      | inl below ↦ none i below is
      | inr ge ↦ (let e : i ≡ n = omega arith in not_is (subst (IsByTo l q c p) e is))
    ])
  ]
]

pub known_move : (l : LabelsMeaning) (q c p : ℕ) → ∥ HasMove l q c p ∥₁ → HasMove l q c p
known_move l q c p known = elim (find_move l q c p (l.moves q)) [
  | inl found ↦ (found.0, record { place = found.1; letter = found.2.letter; to = found.2.to })
  | inr none ↦ absurd (∥∥₁_elim known (hlevel props) (λ has. none has.0 has.1.place (record { letter = has.1.letter; to = has.1.to })))
]

-- ---- so an automaton that is known to be one of positions is one

pub known_positions : (e : Written) (l : LabelsMeaning) → ∥ IsPositionAutomaton e l ∥₁ → IsPositionAutomaton e l
known_positions e l known = record {
  states = ∥∥₁_elim known (hlevel props) (λ a. a.states);
  starts = λ q. ∥∥₁_elim known (hlevel props) (λ a. a.starts q);
  moves = λ q c p lt. (
    λ has. ∥∥₁_elim known (hlevel props) (λ a. (a.moves q c p lt).0 has),
    λ next. known_move l q c p (∥∥₁_map known (λ a. (a.moves q c p lt).1 next)),
  );
  accepts = λ q lt. ∥∥₁_elim known (hlevel props) (λ a. a.accepts q lt);
}
