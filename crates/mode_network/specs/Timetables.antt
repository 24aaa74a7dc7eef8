-- The timetable of a network.
use Rattle.std.specs.Prelude.{◌≡◌, length}
use Rattle.std.proofs.Props.{props}
use Rattle.timetable_arcs.specs.{TableLists}
use Rattle.mode_network.specs.NetworkLists.{NetworkLists}

-- a table has the network's trips, over its days and its stops; how their runs are sorted into patterns is left free
pub record IsTimetableOf (n : NetworkLists) (t : TableLists) : Type 0 where
  pub bases : t.bases ≡ n.days.bases
  pub stops : t.stops ≡ length n.stops
  pub trips : t.trips ≡ n.trips

-- there is one proof at most of that
pub IsTimetableOf-prop : (n : NetworkLists) (t : TableLists) → IsProp (IsTimetableOf n t)
IsTimetableOf-prop n t = hlevel props
