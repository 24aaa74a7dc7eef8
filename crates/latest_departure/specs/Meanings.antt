-- What a reversed automaton answers.
use Rattle.std.specs.Prelude.{map}
use Rattle.search_laws.specs.{LabelsMeaning}
pub use Rattle.latest_departure.specs.declared.reversed.Reversed.{Reversed}
use Rattle.latest_departure.specs.{Reversed.states_meaning, StateViews.view_of}

abbrev pub reversed_meaning : Reversed → LabelsMeaning
reversed_meaning labels = states_meaning (map view_of labels.states.items)
