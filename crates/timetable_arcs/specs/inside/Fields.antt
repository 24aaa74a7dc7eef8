-- What the fields of a timetable show, and what they keep.
use Rattle.timetable_arcs.specs.{declared.timetable.Timetable.TheInside.Inside, Patterns.TableLists, Table.IsTable, RideTables.AreAlightPlaces, RideTables.AreBoards}

abbrev pub lists_of : Inside → TableLists
lists_of t = record { bases = t.bases.items; stops = t.stops; trips = t.trips.items; patterns = t.patterns.items }

pub record IsKept (t : Inside) : Type 0 where
  pub rules : IsTable (lists_of t)
  pub places : AreAlightPlaces (lists_of t) t.places.items
  pub boards : AreBoards (lists_of t) t.boards.items
