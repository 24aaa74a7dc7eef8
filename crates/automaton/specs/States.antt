-- The states of a position automaton, and what an automaton with these states answers.
use Rattle.std.specs.Prelude.{◌≡◌, ℕ, zero, suc, ◌+◌, ◌-◌, ◌<◌, Bool, false, ◌==◌, ◌↔◌, List, [], ◌∷◌, ◌++◌, length, map, slice_index_or, IsTrue, IsBitSet, if◌then◌else◌}
use Rattle.search_laws.specs.{Move, LabelsMeaning, HasMove}
pub use Rattle.automaton.specs.declared.state.State.{State}
use Rattle.automaton.specs.{Written.Written, Written.size, Written.nullable, Written.first, Written.last, Written.follow, Written.letters_written, inside.Rows.PositionRow, inside.Rows.position_row}

-- a state as contracts see it
pub record StateView : Type 0 where
  pub moves : List Move
  pub accepts : Bool

abbrev pub view_of : State → StateView
view_of state = record { moves = state.moves.items; accepts = state.accepts }

abbrev pub no_move : Move
no_move = record { letters = 0; to = 0 }

abbrev pub no_view : StateView
no_view = record { moves = []; accepts = false }

abbrev pub view_at : List StateView → ℕ → StateView
view_at views q = slice_index_or views q no_view

-- what an automaton with these states answers, where state 0 is the start
abbrev pub meaning_of_states : List StateView → LabelsMeaning
meaning_of_states views = record {
  states = length views;
  is_start = λ q. q == 0;
  moves = λ q. length (view_at views q).moves;
  move_at = λ q i. slice_index_or (view_at views q).moves i no_move;
  accepts = λ q. (view_at views q).accepts;
}

-- the moves to the positions 1 to n that are in S
abbrev pub moves_upto : List PositionRow → (ℕ → Bool) → ℕ → List Move
moves_upto rows S zero = []
moves_upto rows S (suc n) =
    moves_upto rows S n ++ (if S (suc n) then record { letters = (position_row rows (suc n)).letters; to = suc n } ∷ [] else [])

-- the state after which S may be read
abbrev pub state_for : List PositionRow → (ℕ → Bool) → StateView
state_for rows S = record { moves = moves_upto rows S (length rows); accepts = S 0 }

-- the states 0, 1, ..: the start, and one for each position
abbrev pub states_for : List PositionRow → (ℕ → Bool) → List StateView
states_for rows S = state_for rows S ∷ map (λ row. state_for rows row.next) rows

-- the position p may be read next in the state q
abbrev pub next_position : Written → ℕ → ℕ → Bool
next_position e zero p = first e 0 p
next_position e (suc q) p = follow e 0 (suc q) p

-- the state q accepts
abbrev pub may_end : Written → ℕ → Bool
may_end e zero = nullable e
may_end e (suc q) = last e 0 (suc q)

abbrev pub letters_at : Written → ℕ → ℕ
letters_at e p = slice_index_or (letters_written e) (p - 1) 0

-- State 0 is the start, and state p is "position p was read last". A move leads to each position that may be read next, by its letters.
pub record IsPositionAutomaton (e : Written) (l : LabelsMeaning) : Type 0 where
  pub states : l.states ≡ size e + 1
  pub starts : (q : ℕ) → l.is_start q ≡ (q == 0)
  pub moves : (q c p : ℕ) → q < l.states → HasMove l q c p ↔ (IsTrue (next_position e q p) × IsBitSet (letters_at e p) c)
  pub accepts : (q : ℕ) → q < l.states → l.accepts q ≡ may_end e q
