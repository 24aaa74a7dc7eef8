-- What a feed gives, as lists, and its files.
use Rattle.std.specs.Prelude.{ℕ, List, Option, option_map}
use Rattle.std.specs.Borrow.{Bor}
pub use Rattle.gtfs_tables.specs.{declared.stops.StopRow.StopRow, declared.routes.RouteRow.RouteRow, declared.services.ServiceRow.ServiceRow, declared.dates.DateRow.DateRow, declared.trips.TripRow.TripRow, declared.frequencies.FrequencyRow.FrequencyRow, declared.calls.CallRow.CallRow}

pub record FeedLists : Type 0 where
  pub stops : List StopRow
  pub routes : List RouteRow
  pub services : List ServiceRow
  pub dates : List DateRow
  pub trips : List TripRow
  pub frequencies : List FrequencyRow
  pub calls : List CallRow

-- the bytes of a file, if it is there
abbrev pub bytes_of : Option (Bor (List ℕ)) → Option (List ℕ)
bytes_of file = option_map (λ bytes. bytes.now) file
