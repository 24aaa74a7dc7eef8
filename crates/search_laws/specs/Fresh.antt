-- What a search is given of the arcs of a node where it was given rides of the same runs before.
use Rattle.std.specs.Prelude.{◌≡◌, ℕ, ◌≤◌, ◌⊎◌, ◌++◌, List, Some, All, Contains, IsBitSet}
pub use Rattle.search_laws.specs.{declared.graph.Visit.Visit, declared.given.GivenRun.GivenRun, declared.given.GivenRuns.GivenRuns}
use Rattle.search_laws.specs.declared.graph.Way.{Way}

-- ---- runs that were given

abbrev pub HoldsRun : GivenRuns → GivenRun → Type 0
HoldsRun given run = Contains given.cells.items (Some run)

-- rides to the calls behind this one were given to the state, by this run of the line or one before it
pub record KnowsBy (given : GivenRuns) (state line run call : ℕ) : Type 0 where
  pub place : ℕ
  pub no_later : place ≤ run
  pub known : HoldsRun given (record { state = state; line = line; run = place; call = call })

-- nothing is known now but what was, and this run
abbrev pub IsRunNoted : GivenRuns → GivenRuns → GivenRun → Type 0
IsRunNoted old new run = (other : GivenRun) → HoldsRun new other → HoldsRun old other ⊎ (other ≡ run)

-- ---- ways

-- a way by the same arc, wherever it stands, which arrives no later
pub record IsAsGood (x way : Way) : Type 0 where
  pub arc : x.arc ≡ way.arc
  pub soon : x.at ≤ way.at

abbrev pub HasAsGood : List Way → Way → Type 0
HasAsGood ways way = (x : Way) × Contains ways x × IsAsGood x way

-- the rides of a run of a line to the calls behind one
abbrev pub RunRides : Type 0
RunRides = ℕ → ℕ → ℕ → List Way

-- the state was given a way as good, by a run that is known
pub record WasGiven (rides : RunRides) (given : GivenRuns) (state : ℕ) (way : Way) : Type 0 where
  pub run : GivenRun
  pub known : HoldsRun given run
  pub to_state : run.state ≡ state
  pub as_good : HasAsGood (rides run.line run.run run.call) way

-- one of these is as good, or one that the state was given
abbrev pub HasAsGoodOrGiven : RunRides → ℕ → GivenRuns → List Way → Way → Type 0
HasAsGoodOrGiven rides state given fresh way = HasAsGood fresh way ⊎ WasGiven rides given state way

-- some of these ways, which lack none but for what the state was given; and of these alone runs are noted
pub record AreFresh (rides : RunRides) (state : ℕ) (old new : GivenRuns) (ways fresh : List Way) : Type 0 where
  pub are : All (Contains ways) fresh
  pub rest : All (HasAsGoodOrGiven rides state old fresh) ways
  pub noted : (other : ℕ) (way : Way) → WasGiven rides new other way → WasGiven rides old other way ⊎ ((other ≡ state) × HasAsGood fresh way)

-- a list goes on with them
abbrev pub AddsFresh : RunRides → ℕ → GivenRuns → GivenRuns → List Way → List Way → List Way → Type 0
AddsFresh rides state old new ways before after = (fresh : List Way) × (after ≡ before ++ fresh) × AreFresh rides state old new ways fresh

-- ---- ways that lead nowhere

-- the way stands still: it leads to the node v itself, at the time t, by a letter outside the set
pub record StandsStill (v t leaving : ℕ) (way : Way) : Type 0 where
  pub to : way.arc.to ≡ v
  pub at : way.at ≡ t
  pub letter : ℕ
  pub by : way.arc.letter ≡ Some letter
  pub stays : IsBitSet leaving letter → ⊥

-- some of these ways, which lack none but for those that stand still
pub record AreMoving (v t leaving : ℕ) (ways moving : List Way) : Type 0 where
  pub are : All (Contains ways) moving
  pub rest : All (λ way. Contains moving way ⊎ StandsStill v t leaving way) ways

-- a visit to the node v at t, in the state q
abbrev pub visit_by : ℕ → ℕ → ℕ → ℕ → ℕ → Visit
visit_by v t q letters leaving = record { node = v; at = t; state = q; letters = letters; leaving = leaving }

-- a list goes on with what is fresh of those that move
abbrev pub AddsMoving : RunRides → Visit → GivenRuns → GivenRuns → List Way → List Way → List Way → Type 0
AddsMoving rides visit old new ways before after =
    (moving : List Way) × AreMoving visit.node visit.at visit.leaving ways moving × AddsFresh rides visit.state old new moving before after
