-- What a region does to the journeys that are kept: each query is answered anew, and its arrival set beside the kept one.
use Rattle.std.specs.Prelude.{◌≡◌, ℕ, ◌+◌, ◌-◌, ◌==◌, ◌||◌, nat_eq, nat_lt, Bool, ◌⊎◌, List, ◌++◌, codes, Option, None, Some, if◌then◌else◌, bytes_eq}
use Rattle.std.specs.List.{starts_with}
use Rattle.service_days.specs.{clock_text_of}
use Rattle.mode_network.specs.{NetworkLists.NetworkLists, Route}
use Rattle.journey.specs.{QueryFault, IsRefused, Asked, Asks, IsBest, HasNone, refusal_text}
use Rattle.journey_book.specs.Reports.{ClaimRule}

-- When a kept journey arrives, where its query departs then: as long after the departure as it says that it arrives after its
-- start. Its own times count from the first date of a region that is not there any more.
abbrev pub kept_arrival : ℕ → ℕ × Route → ℕ
kept_arrival depart kept = depart + (kept.0 - kept.1.at)

-- an arrival beside the one that is kept
abbrev pub beside : NetworkLists → ℕ → ℕ → List ℕ
beside n arrival kept =
    if arrival == kept then codes "same"
    else (if nat_lt arrival kept then codes "earlier " ++ clock_text_of n.days arrival
    else codes "later " ++ clock_text_of n.days arrival)

-- what is said where a best journey arrives then
abbrev pub arrival_words : NetworkLists → ℕ → ℕ → Option (ℕ × Route) → List ℕ
arrival_words n depart arrival (Some kept) = beside n arrival (kept_arrival depart kept)
arrival_words n depart arrival None = codes "found " ++ clock_text_of n.days arrival

-- what is said where no journey answers
abbrev pub nothing_words : Option (ℕ × Route) → List ℕ
nothing_words (Some kept) = codes "none"
nothing_words None = codes "same"

-- what is said of a kept result whose query asks this
abbrev pub IsAnswered : NetworkLists → Option (ℕ × Route) → Asked → List ℕ → Type 0
IsAnswered n kept asked words =
    (HasNone n asked × (words ≡ nothing_words kept))
    ⊎ ((j : Route) × (best : IsBest n asked j) × (words ≡ arrival_words n asked.depart best.arrival kept))

-- what is said of a certificate: how its line is refused, or what answers it
abbrev pub IsReviewed : NetworkLists → ClaimRule
IsReviewed n claim words =
    ((fault : QueryFault) × IsRefused n claim.line fault × (words ≡ refusal_text fault))
    ⊎ ((asked : Asked) × Asks n claim.line asked × IsAnswered n claim.result asked words)

-- a line is well that says `same`, `earlier` or `found`: one is there no later than was kept
abbrev pub is_no_later : List ℕ → Bool
is_no_later words =
    bytes_eq words (codes "same")
    || starts_with nat_eq words (codes "earlier ") || starts_with nat_eq words (codes "found ")
