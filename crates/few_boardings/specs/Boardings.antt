-- The journeys that are worth their boardings.
use Rattle.std.specs.Prelude.{◌≡◌, ℕ, ◌<◌, ◌≤◌, Bool, true, false, List, All, AllPairs, Contains, count_by}
use Rattle.mode_network.specs.{Step, Wait, Link, Stand, Ride, Route, declared.steps.Step.TheVariants.Road, NetworkLists.NetworkLists}
use Rattle.journey.specs.{Asked, Answers, BoardsOnTime, IsPrintable}
pub use Rattle.few_boardings.specs.declared.boardings.FewRow.{FewRow}

abbrev pub is_ride : Step → Bool
is_ride (Wait until) = false
is_ride (Road to) = false
is_ride (Link to) = false
is_ride Stand = false
is_ride (Ride trip day board alight) = true

-- how many rides a journey has
abbrev pub rides : Route → ℕ
rides j = count_by is_ride j.steps

-- t is the least arrival of the journeys that answer with at most so many rides
pub record IsLeastBy (n : NetworkLists) (q : Asked) (most t : ℕ) : Type 0 where
  pub journey : Route
  pub within : rides journey ≤ most
  pub answers : Answers n q journey t
  pub least : (k : Route) (u : ℕ) → rides k ≤ most → Answers n q k u → t ≤ u

-- With this many rides, from 0 to 8, one arrives at t at the earliest; and with fewer later, if at all.
pub record IsListedArrival (n : NetworkLists) (q : Asked) (boardings t : ℕ) : Type 0 where
  pub few : boardings ≤ 8
  pub least : IsLeastBy n q boardings t
  pub later : (k : Route) (u : ℕ) → rides k < boardings → Answers n q k u → t < u

-- the journey of a row answers with as many rides as the row says, each boarded when it departs, and arrives when the list says
pub record IsFewRow (n : NetworkLists) (q : Asked) (row : FewRow) : Type 0 where
  pub arrival : ℕ
  pub listed : IsListedArrival n q row.boardings arrival
  pub answers : Answers n q row.journey arrival
  pub boards : rides row.journey ≡ row.boardings
  pub boarded : BoardsOnTime n row.journey

-- the rows by rising boardings: one for each number of boardings that is listed, and no other
pub record AreFewRows (n : NetworkLists) (q : Asked) (rows : List FewRow) : Type 0 where
  pub rising : AllPairs (λ first second. first.boardings < second.boardings) rows
  pub right : All (IsFewRow n q) rows
  pub whole : (boardings t : ℕ) → IsListedArrival n q boardings t → (row : FewRow) × Contains rows row × (row.boardings ≡ boardings)

-- no journey with at most 8 rides answers
abbrev pub HasNoneByFew : NetworkLists → Asked → Type 0
HasNoneByFew n q = (k : Route) (u : ℕ) → rides k ≤ 8 → Answers n q k u → ⊥

-- the journey of a row can be printed
abbrev pub IsPrintableFewRow : NetworkLists → FewRow → Type 0
IsPrintableFewRow n row = IsPrintable n row.journey
