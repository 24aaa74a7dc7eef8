-- An automaton that counts transit letters.
use Rattle.std.specs.Prelude.{ℕ, ◌+◌, ◌*◌, ◌/◌, ◌%◌, ◌^◌, ◌<◌, ◌≤◌, ◌&&◌, ◌==◌, ◌↔◌, Bool, true, false, nat_lt, nat_le, List, bit_and, if◌then◌else◌, count_by}
use Rattle.search_laws.specs.{transit_letters, Move, LabelsMeaning, Accepts}
pub use Rattle.few_boardings.specs.{declared.counted.Side.Side, declared.counted.Side.TheVariants.AtMost, declared.counted.Side.TheVariants.AtLeast}

-- a letter from tram on
abbrev pub is_transit : ℕ → Bool
is_transit c = nat_le 3 c

-- how many transit letters a word has
abbrev pub transits : List ℕ → ℕ
transits word = count_by is_transit word

-- so many letters are enough, or few enough
abbrev pub IsOnSide : Side → ℕ → ℕ → Type 0
IsOnSide AtMost limit count = count ≤ limit
IsOnSide AtLeast limit count = limit ≤ count

-- whether letters are read beyond the limit; they are not counted
abbrev pub reads_on : Side → Bool
reads_on AtMost = false
reads_on AtLeast = true

-- whether a word may end with this count
abbrev pub may_end_with : Side → ℕ → ℕ → Bool
may_end_with AtMost limit k = true
may_end_with AtLeast limit k = k == limit

-- the state q of the inner automaton with the count k
abbrev pub state_at : ℕ → ℕ → ℕ → ℕ
state_at limit q k = q * (limit + 1) + k

-- The move that an inner move gives with the count k: by its road letters, which are not counted (kind 0), or by its transit letters, if one more is
-- counted or read.
abbrev pub counted_move : Bool → ℕ → ℕ → ℕ → Move → Move
counted_move more limit kind k move =
    if kind == 0 then record { letters = bit_and move.letters 7; to = state_at limit move.to k }
    else (if nat_lt k limit then record { letters = bit_and move.letters transit_letters; to = state_at limit move.to (k + 1) }
    else record { letters = (if more then bit_and move.letters transit_letters else 0); to = state_at limit move.to k })

-- state q * (limit + 1) + k is the inner state q with the count k
abbrev pub counted : LabelsMeaning → Side → ℕ → LabelsMeaning
counted l side limit = record {
  states = l.states * (limit + 1);
  is_start = λ s. s % (limit + 1) == 0 && l.is_start (s / (limit + 1));
  moves = λ s. 2 * l.moves (s / (limit + 1));
  move_at = λ s i. counted_move (reads_on side) limit (i % 2) (s % (limit + 1)) (l.move_at (s / (limit + 1)) (i / 2));
  accepts = λ s. may_end_with side limit (s % (limit + 1)) && l.accepts (s / (limit + 1));
}

-- the limits of the inner automaton
pub record FitsCounted (l : LabelsMeaning) (limit : ℕ) : Type 0 where
  pub few : limit ≤ 8
  pub few_states : l.states * (limit + 1) ≤ 2 ^ 16
  pub few_moves : (q : ℕ) → q < l.states → l.moves q ≤ 2 ^ 19

-- it accepts the words that the inner one accepts and that have so many transit letters at most, or at least
abbrev pub AcceptsCounted : LabelsMeaning → Side → ℕ → Type 0
AcceptsCounted l side limit = (word : List ℕ) → Accepts (counted l side limit) word ↔ (Accepts l word × IsOnSide side limit (transits word))
