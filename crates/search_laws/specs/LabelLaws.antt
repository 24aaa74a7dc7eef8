-- What an automaton answers, as functions on numbers, the laws that it keeps, and the words that it accepts.
use Rattle.std.specs.Prelude.{◌≡◌, ℕ, ◌^◌, ◌<◌, ◌≤◌, Bool, List, [], ◌∷◌, Option, Some, None, IsTrue, IsBitSet}
use Rattle.search_laws.specs.Letters.{IsLetterSet}
pub use Rattle.search_laws.specs.declared.labels.Move.{Move}

pub record LabelsMeaning : Type 0 where
  pub states : ℕ
  pub is_start : ℕ → Bool
  pub moves : ℕ → ℕ
  pub move_at : ℕ → ℕ → Move
  pub accepts : ℕ → Bool

pub record IsLawfulLabels (l : LabelsMeaning) : Type 0 where
  pub few_states : l.states ≤ 2 ^ 16
  pub few_moves : (q : ℕ) → q < l.states → l.moves q ≤ 2 ^ 20
  pub to_in_range : (q i : ℕ) → q < l.states → i < l.moves q → (l.move_at q i).to < l.states
  pub letters_in_range : (q i : ℕ) → q < l.states → i < l.moves q → IsLetterSet (l.move_at q i).letters

-- the move at place i of q is by the letter c, and leads to r
pub record IsMove (l : LabelsMeaning) (q c r i : ℕ) : Type 0 where
  pub place : i < l.moves q
  pub letter : IsBitSet (l.move_at q i).letters c
  pub to : (l.move_at q i).to ≡ r

abbrev pub HasMove : LabelsMeaning → ℕ → ℕ → ℕ → Type 0
HasMove l q c r = (i : ℕ) × IsMove l q c r i

-- The road letters are 0, 1 and 2: once read, each can be read again, by one move that stays.
pub record IsRoadLabels (l : LabelsMeaning) : Type 0 where
  pub again : (q c r : ℕ) → q < l.states → c < 3 → HasMove l q c r → HasMove l r c r
  pub only : (q c r p i j : ℕ) → q < l.states → c < 3 → HasMove l q c r → IsMove l r c p i → IsMove l r c r j → i ≡ j

-- some sequence of moves reads the word from q to r
abbrev pub Reads : LabelsMeaning → ℕ → List ℕ → ℕ → Type 0
Reads l q [] r = r ≡ q
Reads l q (c ∷ word) r = (p : ℕ) × HasMove l q c p × Reads l p word r

abbrev pub Accepts : LabelsMeaning → List ℕ → Type 0
Accepts l word = (q : ℕ) × (r : ℕ) × (q < l.states) × IsTrue (l.is_start q) × Reads l q word r × IsTrue (l.accepts r)

-- r is a state after an arc with this letter, or with none, from the state q
abbrev pub Follows : LabelsMeaning → ℕ → Option ℕ → ℕ → Type 0
Follows l q None r = r ≡ q
Follows l q (Some c) r = HasMove l q c r

-- P holds of each state that an arc with this letter, or with none, may lead to from the state q
abbrev pub AllAfter : LabelsMeaning → ℕ → Option ℕ → (ℕ → Type 0) → Type 0
AllAfter l q None P = P q
AllAfter l q (Some c) P = (j : ℕ) → j < l.moves q → IsBitSet (l.move_at q j).letters c → P (l.move_at q j).to
