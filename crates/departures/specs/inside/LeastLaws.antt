-- There is one proof at most that no run is faster.
use Rattle.std.specs.Prelude.{List}
use Rattle.std.proofs.Props.{props}
use Rattle.timetable_arcs.specs.{TableLists}
use Rattle.departures.specs.{declared.fastest.FastestCall.FastestCall, Fastest.NoneIsFaster}

pub NoneIsFaster-prop : (t : TableLists) (runs : List (List FastestCall)) → IsProp (NoneIsFaster t runs)
NoneIsFaster-prop t runs = hlevel props
