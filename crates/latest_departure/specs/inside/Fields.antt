-- What the fields of a table of what leads to each node show, and what they keep.
use Rattle.latest_departure.specs.{declared.backwards.Backwards.TheInside.Inside, BackLists.BackLists, BackLists.IsBackwards, inside.Sums.AreSums}

abbrev pub lists_of : Inside → BackLists
lists_of b = record { network = b.network.now; table = b.timetable.now; entries = b.entries.items; places = b.places.items }

pub record IsKept (b : Inside) : Type 0 where
  pub lists : IsBackwards (lists_of b)
  pub sums : AreSums b.entries.items b.sums.items
