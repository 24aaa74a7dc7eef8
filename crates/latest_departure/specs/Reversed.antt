-- An automaton that reads words from their ends.
use Rattle.std.specs.Prelude.{◌≡◌, ℕ, ◌<◌, ◌≤◌, ◌==◌, ◌↔◌, Bool, List, [], ◌∷◌, length, reverse, slice_index_or, false, if◌then◌else◌, flat_map, sum_by}
use Rattle.std.specs.List.{range_with_len}
use Rattle.automaton.specs.{no_move}
use Rattle.search_laws.specs.{Move, LabelsMeaning, HasMove, Accepts}

-- The states are those of another automaton; it starts where that accepts, and nowhere else, accepts where that starts, and each move goes the other way.
pub record IsReversed (l r : LabelsMeaning) : Type 0 where
  pub states : r.states ≡ l.states
  pub starts : (q : ℕ) → q < l.states → r.is_start q ≡ l.accepts q
  pub no_more : (q : ℕ) → l.states ≤ q → r.is_start q ≡ false
  pub accepts : (q : ℕ) → q < l.states → r.accepts q ≡ l.is_start q
  pub moves : (q c p : ℕ) → q < l.states → p < l.states → HasMove r q c p ↔ HasMove l p c q

-- it accepts exactly the reverses of the words that the other accepts
abbrev pub AcceptsReversed : LabelsMeaning → LabelsMeaning → Type 0
AcceptsReversed l r = (word : List ℕ) → Accepts r word ↔ Accepts l (reverse word)

-- how many moves there are together
abbrev pub all_moves : LabelsMeaning → ℕ
all_moves l = sum_by l.moves (range_with_len 0 l.states)

-- a move of q, turned round, if it leads to r
abbrev pub turned_move : ℕ → ℕ → Move → List Move
turned_move r q move = if move.to == r then record { letters = move.letters; to = q } ∷ [] else []

abbrev pub turned : LabelsMeaning → ℕ → ℕ → ℕ → List Move
turned l r q i = turned_move r q (l.move_at q i)

-- those of q that lead to r, turned round, and those of all states below n
abbrev pub turned_from : LabelsMeaning → ℕ → ℕ → ℕ → List Move
turned_from l r q n = flat_map (turned l r q) (range_with_len 0 n)

abbrev pub turned_below : LabelsMeaning → ℕ → ℕ → List Move
turned_below l r n = flat_map (λ q. turned_from l r q (l.moves q)) (range_with_len 0 n)

-- a state: its moves, and whether one may start and end there
pub record StateLists : Type 0 where
  pub moves : List Move
  pub starts : Bool
  pub accepts : Bool

abbrev pub no_state : StateLists
no_state = record { moves = []; starts = false; accepts = false }

-- what an automaton with these states answers
abbrev pub states_meaning : List StateLists → LabelsMeaning
states_meaning list = record {
  states = length list;
  is_start = λ q. (slice_index_or list q no_state).starts;
  moves = λ q. length (slice_index_or list q no_state).moves;
  move_at = λ q i. slice_index_or (slice_index_or list q no_state).moves i no_move;
  accepts = λ q. (slice_index_or list q no_state).accepts;
}

-- the state that stands for r in the reversed automaton
abbrev pub turned_state : LabelsMeaning → ℕ → StateLists
turned_state l r = record { moves = turned_below l r l.states; starts = l.accepts r; accepts = l.is_start r }
