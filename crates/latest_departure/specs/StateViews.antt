-- The states of a reversed automaton as contracts see them, and what it answers.
pub use Rattle.latest_departure.specs.declared.reversed.State.{State}
use Rattle.latest_departure.specs.Reversed.{StateLists}

abbrev pub view_of : State → StateLists
view_of state = record { moves = state.moves.items; starts = state.starts; accepts = state.accepts }
