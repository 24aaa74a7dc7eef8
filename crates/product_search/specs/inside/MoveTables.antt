-- The moves of the states of an automaton, by their letters.
use Rattle.std.specs.Prelude.{◌≡◌, ◌==◌, ℕ, zero, suc, ◌<◌, ◌≤◌, ◌++◌, ◌∷◌, [], List, length, All, Contains, IsBitSet, slice_index_or, if◌then◌else◌}
use Rattle.std.specs.Int.{bit_at}
use Rattle.search_laws.specs.{IsLetter, letter_count, LabelsMeaning, HasMove, Move}
use Rattle.product_search.specs.declared.moves.StateMoves.{StateMoves}

-- ---- the first n moves of the state q, which are in a list at the places below n

-- their letters are among these
abbrev pub HasLettersBelow : LabelsMeaning → ℕ → ℕ → ℕ → Type 0
HasLettersBelow l q n letters = (j c : ℕ) → j < n → IsBitSet (l.move_at q j).letters c → IsBitSet letters c

-- the letters of those that lead to another state are among these
abbrev pub HasLeavingBelow : LabelsMeaning → ℕ → ℕ → ℕ → Type 0
HasLeavingBelow l q n letters = (j c : ℕ) → j < n → IsBitSet (l.move_at q j).letters c → ((l.move_at q j).to ≡ q → ⊥) → IsBitSet letters c

-- where a move leads to, if it is by the letter c
abbrev pub target_by : ℕ → Move → List ℕ
target_by c move = if bit_at move.letters c == 1 then move.to ∷ [] else []

-- where those by the letter c lead to
abbrev pub targets_below : LabelsMeaning → ℕ → ℕ → ℕ → List ℕ
targets_below l q c zero = []
targets_below l q c (suc n) = targets_below l q c n ++ target_by c (l.move_at q n)

pub record AreMovesBelow (l : LabelsMeaning) (q n : ℕ) (moves : StateMoves) : Type 0 where
  pub letters : HasLettersBelow l q n moves.letters
  pub leaving : HasLeavingBelow l q n moves.leaving
  pub one_each : length moves.targets.items ≡ letter_count
  pub targets : (c : ℕ) → IsLetter c → slice_index_or moves.targets.items c [] ≡ targets_below l q c n

-- ---- all moves

abbrev pub HasLetters : LabelsMeaning → ℕ → ℕ → Type 0
HasLetters l q = HasLettersBelow l q (l.moves q)

abbrev pub HasLeaving : LabelsMeaning → ℕ → ℕ → Type 0
HasLeaving l q = HasLeavingBelow l q (l.moves q)

abbrev pub AreMoves : LabelsMeaning → ℕ → StateMoves → Type 0
AreMoves l q = AreMovesBelow l q (l.moves q)

-- the moves of each state
pub record IsTableOf (l : LabelsMeaning) (table : List StateMoves) : Type 0 where
  pub one_each : length table ≡ l.states
  pub are : (q : ℕ) (d : StateMoves) → q < l.states → AreMoves l q (slice_index_or table q d)

-- these are the states that moves by the letter c lead to from q
pub record AreTargets (l : LabelsMeaning) (q c : ℕ) (targets : List ℕ) : Type 0 where
  pub are : All (HasMove l q c) targets
  pub each : (j : ℕ) → j < l.moves q → IsBitSet (l.move_at q j).letters c → Contains targets (l.move_at q j).to

-- ---- one move more

-- the lists of its letters below n have its target too
pub record AreTargetsWith (step : Move) (n : ℕ) (old new : List (List ℕ)) : Type 0 where
  pub one_each : length new ≡ length old
  pub by : (c : ℕ) → c < n → IsBitSet step.letters c → slice_index_or new c [] ≡ slice_index_or old c [] ++ step.to ∷ []
  pub not_by : (c : ℕ) → c < n → (IsBitSet step.letters c → ⊥) → slice_index_or new c [] ≡ slice_index_or old c []
  pub above : (c : ℕ) → n ≤ c → slice_index_or new c [] ≡ slice_index_or old c []
