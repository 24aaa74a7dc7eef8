-- What stands between the rounds of the search for the boardings list.
use Rattle.std.specs.Prelude.{◌≡◌, ℕ, min, ◌+◌, ◌<◌, ◌≤◌, ◌⊎◌, Bool, true, nat_lt, List, ◌∷◌, All, AllPairs, Contains, Option, Some, None, IfSome, if◌then◌else◌}
use Rattle.timetable_arcs.specs.{TableLists}
use Rattle.product_search.specs.{Walk}
use Rattle.mode_network.specs.{NetworkLists.NetworkLists, Route}
use Rattle.unpack.specs.{TakesHops}
use Rattle.journey.specs.{BoardsOnTime, Asked, Answers}
use Rattle.few_boardings.specs.{declared.boardings.FewRow.FewRow, Boardings.rides, Boardings.IsFewRow, Boardings.IsPrintableFewRow}
pub use Rattle.few_boardings.specs.declared.boardings.Found.{Found}

-- the journey takes the hops of the walk, and its rides are counted
pub record IsCountedFor (n : NetworkLists) (table : TableLists) (arrival : ℕ) (walk : Walk) (found : Found) : Type 0 where
  pub arrives : found.arrival ≡ arrival
  pub boards : found.row.boardings ≡ min (rides found.row.journey) 255
  pub takes : TakesHops n table walk found.row.journey

-- the journey of a walk with its arrival, if both are there
abbrev pub IsFoundUnpacked : NetworkLists → TableLists → Option ℕ → Option Walk → Option Found → Type 0
IsFoundUnpacked n table (Some arrival) (Some walk) (Some found) = IsCountedFor n table arrival walk found
IsFoundUnpacked n table (Some arrival) (Some walk) None = ⊥
IsFoundUnpacked n table (Some arrival) None found = found ≡ None
IsFoundUnpacked n table None walk found = found ≡ None

-- a journey with fewer rides than the limit that answers, and arrives no later than each such journey
pub record IsLeastFound (n : NetworkLists) (q : Asked) (limit : ℕ) (found : Found) : Type 0 where
  pub below : found.row.boardings < limit
  pub boards : rides found.row.journey ≡ found.row.boardings
  pub answers : Answers n q found.row.journey found.arrival
  pub boarded : BoardsOnTime n found.row.journey
  pub least : (k : Route) (u : ℕ) → rides k < limit → Answers n q k u → found.arrival ≤ u
  pub printable : IsPrintableFewRow n found.row

-- it was found; or no journey with fewer rides than the limit answers
abbrev pub IsLeastBelow : NetworkLists → Asked → ℕ → Option Found → Type 0
IsLeastBelow n q limit None = (k : Route) (u : ℕ) → rides k < limit → Answers n q k u → ⊥
IsLeastBelow n q limit (Some found) = IsLeastFound n q limit found

-- what was found arrives later than t, or nothing was
abbrev pub is_later : Option Found → ℕ → Bool
is_later None t = true
is_later (Some found) t = nat_lt t found.arrival

-- the rows with that of a journey before them, if with fewer rides one arrives later
abbrev pub with_fewer_rides : Option Found → ℕ → FewRow → List FewRow → List FewRow
with_fewer_rides fewer t row rows = if is_later fewer t then row ∷ rows else rows

-- how many rides are still to be looked at
abbrev pub rides_left : Option Found → ℕ
rides_left None = 0
rides_left (Some found) = found.row.boardings + 1

-- a row has a journey with no more rides than this one that arrives no later
pub record HasRowAsGood (n : NetworkLists) (q : Asked) (rows : List FewRow) (k : Route) (u : ℕ) : Type 0 where
  pub row : FewRow
  pub listed : Contains rows row
  pub few : row.boardings ≤ rides k
  pub arrival : ℕ
  pub answers : Answers n q row.journey arrival
  pub soon : arrival ≤ u

-- what was found last has no more rides and arrives no later; or it has more, so that this one is still to come
abbrev pub IsOpen : Option Found → Route → ℕ → Type 0
IsOpen None k u = ⊥
IsOpen (Some found) k u = ((found.row.boardings ≤ rides k) × (found.arrival ≤ u)) ⊎ (rides k < found.row.boardings)

-- The rows so far are right; what was found last has fewer rides than each of them, and each journey is covered by a row or still open.
pub record AreRowsSoFar (n : NetworkLists) (q : Asked) (rows : List FewRow) (best : Option Found) : Type 0 where
  pub rising : AllPairs (λ first second. first.boardings < second.boardings) rows
  pub right : All (IsFewRow n q) rows
  pub printable : All (IsPrintableFewRow n) rows
  pub below : IfSome best (λ found. All (λ row. found.row.boardings < row.boardings) rows)
  pub limit : ℕ
  pub few : limit ≤ 9
  pub found : IsLeastBelow n q limit best
  pub covers : (k : Route) (u : ℕ) → rides k ≤ 8 → Answers n q k u → HasRowAsGood n q rows k u ⊎ IsOpen best k u
