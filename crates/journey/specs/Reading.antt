-- What reading a query line comes to: what it asks, or the fault with which it is refused; and that this is one thing.
use Rattle.std.specs.Prelude.{◌≡◌, ℕ, List, Result, Ok, Err}
use Rattle.mode_network.specs.NetworkLists.{NetworkLists}
use Rattle.journey.specs.{declared.fault.QueryFault.QueryFault, Queries.IsRefused, Best.Asked, Best.Asks}

-- the line asks this, or is refused with this fault
abbrev pub IsReading : NetworkLists → List ℕ → Result Asked QueryFault → Type 0
IsReading n line (Ok asked) = Asks n line asked
IsReading n line (Err fault) = IsRefused n line fault

-- a line asks one thing or is refused with one fault, and never both
abbrev pub ReadingIsUnique : Type 0
ReadingIsUnique = (n : NetworkLists) (line : List ℕ) (one other : Result Asked QueryFault) → IsReading n line one → IsReading n line other → one ≡ other
