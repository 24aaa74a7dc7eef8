-- Which ride a step names, if its run allows one.
use Rattle.std.specs.Prelude.{◌≡◌, ℕ, List, Option, Some, None, slice_get, option_and_then, option_map}
use Rattle.service_days.specs.{AreDays, AreRisingDays}
use Rattle.timetable_arcs.specs.{Call, TripLists, IsRide}
use Rattle.mode_network.specs.{NetworkLists.NetworkLists, stop_node, IsNetwork}
pub use Rattle.journey.specs.{declared.rides.AllowedRide.AllowedRide, declared.rides.NamedRide.NamedRide}

-- the rules that the lists of a network keep, and those that its days keep
pub record KeepsRules (n : NetworkLists) : Type 0 where
  pub network : IsNetwork n
  pub days : AreDays n.days
  pub order : AreRisingDays n.days

-- the letter of a trip, and the stop of one of its calls
abbrev pub letter_and_stop : List TripLists → ℕ → ℕ → Option (ℕ × ℕ)
letter_and_stop trips place k =
    option_and_then (λ (trip : TripLists). option_map (λ (call : Call). (trip.letter, call.stop)) (slice_get trip.calls k)) (slice_get trips place)

-- the node of the stop of a trip's call, and the trip's letter
abbrev pub alighting : NetworkLists → ℕ → ℕ → Option (ℕ × ℕ)
alighting n place alight = option_map (λ x. (stop_node n x.1, x.0)) (letter_and_stop n.trips place alight)

-- the named ride, with the letter of its trip, as its run allows it; or the run allows none
abbrev pub IsAllowed : List TripLists → NamedRide → Option AllowedRide → Type 0
IsAllowed trips named (Some ride) =
    (trip : TripLists) × IsRide trips named.trip named.day named.board named.alight trip ride.on ride.off × (ride.letter ≡ trip.letter)
IsAllowed trips named None =
    (trip : TripLists) (on off : Call) → IsRide trips named.trip named.day named.board named.alight trip on off → ⊥
