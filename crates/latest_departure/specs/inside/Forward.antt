-- Of the journeys that leave at a time or later, one that leaves then and arrives first.
use Rattle.std.specs.Prelude.{◌≡◌, ℕ, Option, Some, None}
use Rattle.timetable_arcs.specs.{TableLists}
use Rattle.mode_network.specs.{NetworkLists.NetworkLists, Route}
use Rattle.product_search.specs.{Walk}
use Rattle.unpack.specs.{TakesHops}
use Rattle.journey.specs.{BoardsOnTime, Asked, IsBest, HasNone, IsPrintable}

-- the same, asked from this time on
abbrev pub leaving : Asked → ℕ → Asked
leaving q t = record q { depart = t }

-- the journey leaves when it is asked for, and arrives first; each of its rides is boarded when it departs
pub record IsFirst (n : NetworkLists) (q : Asked) (j : Route) : Type 0 where
  pub leaves : j.at ≡ q.depart
  pub best : IsBest n q j
  pub boarded : BoardsOnTime n j
  pub printable : IsPrintable n j

-- such a journey, or None where no journey answers
abbrev pub IsFirstIfAny : NetworkLists → Asked → Option Route → Type 0
IsFirstIfAny n q None = HasNone n q
IsFirstIfAny n q (Some j) = IsFirst n q j

-- the journey of a walk, if there is one
abbrev pub IsJourneyUnpacked : NetworkLists → TableLists → Option Walk → Option Route → Type 0
IsJourneyUnpacked n table None None = Unit {0}
IsJourneyUnpacked n table None (Some j) = ⊥
IsJourneyUnpacked n table (Some walk) None = ⊥
IsJourneyUnpacked n table (Some walk) (Some j) = TakesHops n table walk j
