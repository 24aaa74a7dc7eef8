-- An automaton that reads adjacent equal road letters as one.
use Rattle.std.specs.Prelude.{ℕ, ◌+◌, ◌-◌, ◌*◌, ◌/◌, ◌%◌, ◌^◌, ◌<◌, ◌≤◌, ◌&&◌, ◌==◌, ◌↔◌, List, bit_and, if◌then◌else◌}
use Rattle.search_laws.specs.{transit_letters, Move, LabelsMeaning, Accepts, collapse}

-- The move of state 4*q + own that an inner move of q gives by the letters of one kind: 0 are the transit letters, and 1, 2 and 3
-- are foot, bike and car. The road letter that was read last gives none.
abbrev pub move_by : ℕ → ℕ → Move → Move
move_by own kind move =
    if kind == 0 then record { letters = bit_and move.letters transit_letters; to = 4 * move.to }
    else (if kind == own then record { letters = 0; to = 4 * move.to + kind }
    else record { letters = bit_and move.letters (2 ^ (kind - 1)); to = 4 * move.to + kind })

-- a road letter that was read last may be read again, and changes nothing
abbrev pub stay : ℕ → Move
stay s = record { letters = 2 ^ (s % 4 - 1); to = s }

-- the move at place i but the one that stays
abbrev pub other_move : LabelsMeaning → ℕ → ℕ → Move
other_move l s i = move_by (s % 4) (i % 4) (l.move_at (s / 4) (i / 4))

-- State 4*q + c is the inner state q, where c is 0 (no road letter was read last), 1 (foot), 2 (bike) or 3 (car).
abbrev pub collapsed : LabelsMeaning → LabelsMeaning
collapsed l = record {
  states = 4 * l.states;
  is_start = λ s. s % 4 == 0 && l.is_start (s / 4);
  moves = λ s. if s % 4 == 0 then 4 * l.moves (s / 4) else 4 * l.moves (s / 4) + 1;
  move_at = λ s i. if s % 4 == 0 then other_move l s i else (if i == 0 then stay s else other_move l s (i - 1));
  accepts = λ s. l.accepts (s / 4);
}

-- the limits of the inner automaton
pub record FitsCollapsed (l : LabelsMeaning) : Type 0 where
  pub few_states : l.states ≤ 2 ^ 14
  pub few_moves : (q : ℕ) → q < l.states → l.moves q ≤ 2 ^ 16

-- it accepts the words whose collapse the inner one accepts
abbrev pub AcceptsCollapsed : LabelsMeaning → Type 0
AcceptsCollapsed l = (word : List ℕ) → Accepts (collapsed l) word ↔ Accepts l (collapse word)
