-- What the search keeps while it explores one product state after the other.
use Rattle.std.specs.Prelude.{◌≡◌, ℕ, zero, suc, ◌+◌, ◌-◌, ◌^◌, ◌<◌, ◌≤◌, ◌⊎◌, List, length, slice_index, slice_get, Option, Some, None, IfSome, All, IsTrue, Contains, nat_lt, if◌then◌else◌, filter_map}
use Rattle.search_laws.specs.{GraphMeaning, HasArc, LabelsMeaning, Follows}
use Rattle.product_search.specs.{declared.row.Row.Row, declared.row.Taken.Taken, declared.frontier.Scan.Scan, declared.frontier.Frontier.Frontier, Reach.IsReachedAt, Reach.IsWithin, Listed.label_of, declared.label.Label.Label, declared.label.Best.Best, Answer.IsArrival, Answer.IsWalkFor, Answer.last_time, declared.limit.Limited.Limited, declared.limit.Limited.TheVariants.Ended, declared.limit.Limited.TheVariants.Stopped, Questions.QuestionMeaning, Questions.HasMore, inside.Waiting.rows, inside.Waiting.ways, inside.Waiting.IsFrontier, inside.Waiting.IsReachedBy, inside.Waiting.IsWanted, inside.Waiting.Waits, inside.Exploring.StartIsReached, inside.Exploring.ArcIsReached}

-- ---- where a way comes from

-- the way is none yet, at a start, in a start state
pub record IsFromStart (l : LabelsMeaning) (starts : List ℕ) (r : Row) (w : Taken) : Type 0 where
  pub starts_there : Contains starts r.node
  pub is_state : r.state < l.states
  pub is_start : IsTrue (l.is_start r.state)
  pub at : w.delay ≡ 0

-- by an arc behind the way k, which was taken before the way n
pub record IsBehind (g : GraphMeaning) (l : LabelsMeaning) (f : Frontier) (n : ℕ) (r : Row) (w : Taken) (k : ℕ) : Type 0 where
  pub before : k < n
  pub way : Taken
  pub known : slice_get (ways f) k ≡ Some way
  pub from : Row
  pub leads : slice_get (rows f) way.row ≡ Some from
  pub has : HasArc g from.node w.arc
  pub arrives : g.arrive from.node w.arc (f.base + way.delay) ≡ Some (f.base + w.delay)
  pub node : r.node ≡ (g.arc_at from.node w.arc).to
  pub state : Follows l from.state (g.arc_at from.node w.arc).letter r.state

-- 0 stands for a start, and each other number for the way before
abbrev pub IsTracedTo : GraphMeaning → LabelsMeaning → List ℕ → Frontier → ℕ → Row → Taken → ℕ → Type 0
IsTracedTo g l starts f n r w zero = IsFromStart l starts r w
IsTracedTo g l starts f n r w (suc k) = IsBehind g l f n r w k

-- the way n leads to a row, from a start
abbrev pub IsTraced : GraphMeaning → LabelsMeaning → List ℕ → Frontier → ℕ → Taken → Type 0
IsTraced g l starts f n w = (r : Row) × (slice_get (rows f) w.row ≡ Some r) × IsTracedTo g l starts f n r w w.parent

abbrev pub AreTraced : GraphMeaning → LabelsMeaning → List ℕ → Frontier → Type 0
AreTraced g l starts f = (n : ℕ) (w : Taken) → slice_get (ways f) n ≡ Some w → IsTraced g l starts f n w

-- ---- the invariant

-- P of the row's node, state and time holds, and what its arcs lead to is reached
pub record IsDone (g : GraphMeaning) (l : LabelsMeaning) (P : ℕ → ℕ → ℕ → Type 0) (f : Frontier) (r : Row) : Type 0 where
  pub seen : P r.node r.state (f.base + r.delay)
  pub arcs : (i : ℕ) → i < g.arcs r.node → ArcIsReached g l f r.node r.state (f.base + r.delay) i

-- each row that is wanted waits, or is done
pub record IsSearching (g : GraphMeaning) (l : LabelsMeaning) (starts : List ℕ) (dep : ℕ) (P : ℕ → ℕ → ℕ → Type 0) (f : Frontier) : Type 0 where
  pub right : IsFrontier f
  pub base : f.base ≡ dep
  pub in_range : (k : ℕ) (r : Row) → slice_get (rows f) k ≡ Some r → (r.node < g.nodes) × (r.state < l.states)
  pub traced : AreTraced g l starts f
  pub starts_reached : (k : ℕ) → k < length starts → StartIsReached f l (slice_index starts k)
  pub open_or_done : (k : ℕ) (r : Row) → slice_get (rows f) k ≡ Some r → Waits f k r ⊎ (r.delay < f.until → IsDone g l P f r)

-- the same where s was taken to be explored: of its row that need not hold
pub record IsScanning (g : GraphMeaning) (l : LabelsMeaning) (starts : List ℕ) (dep : ℕ) (P : ℕ → ℕ → ℕ → Type 0) (f : Frontier) (s : Scan) : Type 0 where
  pub right : IsFrontier f
  pub base : f.base ≡ dep
  pub in_range : (k : ℕ) (r : Row) → slice_get (rows f) k ≡ Some r → (r.node < g.nodes) × (r.state < l.states)
  pub traced : AreTraced g l starts f
  pub starts_reached : (k : ℕ) → k < length starts → StartIsReached f l (slice_index starts k)
  pub number : ℕ
  pub row : Row
  pub known : slice_get (rows f) number ≡ Some row
  pub node : s.node ≡ row.node
  pub state : s.state ≡ row.state
  pub delay : s.delay ≡ row.delay
  pub link : s.link ≡ suc row.way
  pub open_or_done : (k : ℕ) (r : Row) → slice_get (rows f) k ≡ Some r → (k ≡ number) ⊎ Waits f k r ⊎ (r.delay < f.until → IsDone g l P f r)

-- ---- ends

-- a target in an accepting state
abbrev pub IsEndAt : LabelsMeaning → List ℕ → ℕ → ℕ → Type 0
IsEndAt l targets v q = Contains targets v × IsTrue (l.accepts q)

abbrev pub IsNoEndAt : LabelsMeaning → List ℕ → ℕ → ℕ → ℕ → Type 0
IsNoEndAt l targets v q t = IsEndAt l targets v q → ⊥

-- s is what a way leads to
pub record IsOfWay (f : Frontier) (s : Scan) : Type 0 where
  pub number : ℕ
  pub way : Taken
  pub known : slice_get (ways f) number ≡ Some way
  pub link : s.link ≡ suc number
  pub row : Row
  pub leads : slice_get (rows f) way.row ≡ Some row
  pub node : s.node ≡ row.node
  pub state : s.state ≡ row.state
  pub delay : s.delay ≡ way.delay

-- s is an end, up to which the search goes
pub record IsEnd (l : LabelsMeaning) (targets : List ℕ) (bound : Option ℕ) (f : Frontier) (s : Scan) : Type 0 where
  pub is : IsOfWay f s
  pub ends : IsEndAt l targets s.node s.state
  pub last : f.until ≡ s.delay
  pub soon : s.delay < 2 ^ 64 - 1
  pub within : IsWithin bound (f.base + s.delay)

-- the delay from which on nothing is within the bound, or the greatest
abbrev pub until_of : ℕ → Option ℕ → ℕ
until_of dep None = 2 ^ 64 - 1
until_of dep (Some last) = (if nat_lt (last - dep) (2 ^ 64 - 2) then last - dep else 2 ^ 64 - 2) + 1

-- the search goes up to the end that it has come to, or to the bound
abbrev pub GoesTo : LabelsMeaning → List ℕ → ℕ → Option ℕ → Frontier → Option Scan → Type 0
GoesTo l targets dep bound f None = f.until ≡ until_of dep bound
GoesTo l targets dep bound f (Some s) = IsEnd l targets bound f s

abbrev pub end_arrival : Frontier → Option Scan → Option ℕ
end_arrival f None = None
end_arrival f (Some s) = Some (f.base + s.delay)

-- ---- what it ends with

-- all that is reached at a time that is wanted is known, and P of it holds
pub record IsSearched (g : GraphMeaning) (l : LabelsMeaning) (starts : List ℕ) (dep : ℕ) (P : ℕ → ℕ → ℕ → Type 0) (f : Frontier) : Type 0 where
  pub right : IsFrontier f
  pub base : f.base ≡ dep
  pub traced : AreTraced g l starts f
  pub complete : (v q t : ℕ) → IsReachedAt g l starts dep v q t → IsWanted f t → IsReachedBy f v q t
  pub seen : (k : ℕ) (r : Row) → slice_get (rows f) k ≡ Some r → r.delay < f.until → P r.node r.state (f.base + r.delay)

-- the search has come to the best end, or has found none
pub record IsExplored (g : GraphMeaning) (l : LabelsMeaning) (starts targets : List ℕ) (dep : ℕ) (bound : Option ℕ) (f : Frontier) (end : Option Scan) : Type 0 where
  pub searched : IsSearched g l starts dep (IsNoEndAt l targets) f
  pub goes_to : GoesTo l targets dep bound f end

-- the delays that are wanted are those before the arrival, or those within the bound
abbrev pub EndsWith : ℕ → Option ℕ → Frontier → Option ℕ → Type 0
EndsWith dep bound f None = f.until ≡ until_of dep bound
EndsWith dep bound f (Some a) = (a ≡ f.base + f.until) × (f.until < 2 ^ 64 - 1)

-- the frontier is that of a search which has come to this arrival, by this walk
pub record IsAnswered (g : GraphMeaning) (l : LabelsMeaning) (starts targets : List ℕ) (dep : ℕ) (bound : Option ℕ) (f : Frontier) (best : Best) : Type 0 where
  pub searched : IsSearched g l starts dep (IsNoEndAt l targets) f
  pub ends_with : EndsWith dep bound f best.arrival
  pub arrival : IsArrival g l starts targets dep bound best.arrival
  pub walk : IsWalkFor g l starts targets dep best.arrival best.walk
  pub arrival_soon : IfSome best.arrival (λ a. a ≤ last_time dep)
  pub walk_soon : IfSome best.walk (λ w. (w.at ≤ last_time dep) × All (λ h. h.at ≤ last_time dep) w.hops.items)

-- ---- what it lists

-- the label of what is reached before a delay
abbrev pub label_of_row : ℕ → ℕ → Row → Option Label
label_of_row base until r = if nat_lt r.delay until then Some (label_of r.node r.state (base + r.delay)) else None

-- ---- what a limit makes of it

-- more than so many product states are reached before some delay that nobody waits for, nor for one before it
pub record HasMoreBefore (f : Frontier) (most : ℕ) : Type 0 where
  pub until : ℕ
  pub none : (k : ℕ) (r : Row) → slice_get (rows f) k ≡ Some r → Waits f k r → until ≤ r.delay
  pub wanted : until ≤ f.until
  pub more : most < length (filter_map (label_of_row f.base until) (rows f))

-- the search was given up, as it has more labels than the limit
pub record IsGivenUp (q : QuestionMeaning) (limit : Option ℕ) (f : Frontier) (most : ℕ) : Type 0 where
  pub right : IsFrontier f
  pub limit_is : limit ≡ Some most
  pub more : HasMore q most

-- the search has come to its end, or was given up
abbrev pub IsExploredWithin : QuestionMeaning → Option ℕ → Frontier → Limited (Option Scan) → Type 0
IsExploredWithin q limit f (Ended end) = IsExplored q.graph q.labels q.starts q.targets q.dep q.bound f end
IsExploredWithin q limit f (Stopped most) = IsGivenUp q limit f most

abbrev pub IsAnsweredWithin : QuestionMeaning → Option ℕ → Frontier → Limited Best → Type 0
IsAnsweredWithin q limit f (Ended best) = IsAnswered q.graph q.labels q.starts q.targets q.dep q.bound f best
IsAnsweredWithin q limit f (Stopped most) = IsGivenUp q limit f most
