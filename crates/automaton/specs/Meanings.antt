-- What the automata of this crate answer.
use Rattle.std.specs.Prelude.{map}
use Rattle.search_laws.specs.{LabelsMeaning}
pub use Rattle.automaton.specs.declared.positions.Positions.{Positions}
use Rattle.automaton.specs.States.{meaning_of_states, view_of}

abbrev pub position_meaning : Positions → LabelsMeaning
position_meaning positions = meaning_of_states (map view_of positions.states.items)
