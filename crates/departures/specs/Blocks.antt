-- The block of a query line that asks for the departures of a window.
use Rattle.std.specs.Prelude.{◌≡◌, ℕ, List, [], ◌∷◌, ◌++◌, Option, Some, None, codes, decimal}
use Rattle.plain_texts.specs.{with_feed}
use Rattle.mode_network.specs.NetworkLists.{NetworkLists}
use Rattle.journey.specs.{Asked, IsRightBlock, AddsText}
use Rattle.latest_departure.specs.{IsLateJourneyText}
use Rattle.departures.specs.{declared.row.Row.Row, Departures.IsWithout, Departures.AreRows}

-- of each row the line `depart`, and what any block prints of its journey
abbrev pub AreRowsTold : NetworkLists → List Row → List ℕ → Type 0
AreRowsTold n [] text = text ≡ []
AreRowsTold n (row ∷ rows) text = (own : List ℕ) × (rest : List ℕ) × IsLateJourneyText n row.journey own × AreRowsTold n rows rest × (text ≡ own ++ rest)

-- the line `without`: how many milliseconds it takes without a ride
abbrev pub without_line : ℕ → List ℕ
without_line c = with_feed (codes "without " ++ decimal c)

-- the body of a block: the line `without` where one can do without a ride, and the rows; the line `no journey` where there is neither
abbrev pub IsProfileText : NetworkLists → Option ℕ → List Row → List ℕ → Type 0
IsProfileText n None [] text = text ≡ with_feed (codes "no journey")
IsProfileText n None (row ∷ rows) text = AreRowsTold n (row ∷ rows) text
IsProfileText n (Some c) rows text = AddsText (AreRowsTold n rows) (without_line c) text

-- the departures of the window that are worth listing, for what is asked; the window is in milliseconds
pub record AreDeparturesTold (n : NetworkLists) (window : ℕ) (q : Asked) (text : List ℕ) : Type 0 where
  pub without : Option ℕ
  pub without_is : IsWithout n q without
  pub rows : List Row
  pub are : AreRows n q without window rows
  pub told : IsProfileText n without rows text

-- the right block of a query line: that of its refusal, or of the departures of the window
abbrev pub IsProfileBlock : NetworkLists → ℕ → List ℕ → List ℕ → Type 0
IsProfileBlock n window line block = IsRightBlock n (AreDeparturesTold n window) line block
