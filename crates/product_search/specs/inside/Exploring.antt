-- What the arcs out of a product state add to what is reached.
use Rattle.std.specs.Prelude.{◌≡◌, ℕ, ◌+◌, ◌-◌, ◌^◌, ◌<◌, ◌≤◌, ◌⊎◌, List, Some, IsTrue, Contains, length, slice_get}
use Rattle.search_laws.specs.{GraphMeaning, HasArc, Leg, Way, LabelsMeaning, Follows, AllAfter, RunRides, WasGiven, GivenRuns}
use Rattle.product_search.specs.{declared.queue.Item.Item, declared.row.Row.Row, declared.row.Reached.Reached, declared.row.Taken.Taken, declared.frontier.Scan.Scan, declared.frontier.Frontier.Frontier, inside.Queued.Queued, inside.Queued.queue_len, inside.Waiting.rows, inside.Waiting.ways, inside.Waiting.Waits, inside.Waiting.IsReachedBy, inside.Waiting.IsWanted}

-- ---- offers

-- the row is of the same product state, and no later
pub record IsNoLater (old new : Row) : Type 0 where
  pub node : new.node ≡ old.node
  pub state : new.state ≡ old.state
  pub delay : new.delay ≤ old.delay

-- the way without its row
abbrev pub reached_by : Taken → Reached
reached_by w = record { delay = w.delay; arc = w.arc; parent = w.parent }

-- P of the product state that the way leads to, and of the way
abbrev pub IsTakenAs : Frontier → (ℕ → ℕ → Reached → Type 0) → Taken → Type 0
IsTakenAs f P w = (r : Row) × (slice_get (rows f) w.row ≡ Some r) × P r.node r.state (reached_by w)

-- rows become no later, and what has changed waits; ways are added, of which P holds, and an item to the queue for each
pub record Offers (old new : Frontier) (P : ℕ → ℕ → Reached → Type 0) : Type 0 where
  pub base : new.base ≡ old.base
  pub until : new.until ≡ old.until
  pub kept : (k : ℕ) (r : Row) → slice_get (rows old) k ≡ Some r → (now : Row) × (slice_get (rows new) k ≡ Some now) × IsNoLater r now
  pub changes : (k : ℕ) (r : Row) → slice_get (rows new) k ≡ Some r → (slice_get (rows old) k ≡ Some r) ⊎ Waits new k r
  pub queued : (t : ℕ) (x : Item) → Queued old.queue t x → Queued new.queue t x
  pub stay : (n : ℕ) (w : Taken) → slice_get (ways old) n ≡ Some w → slice_get (ways new) n ≡ Some w
  pub taken : (n : ℕ) (w : Taken) → slice_get (ways new) n ≡ Some w → (slice_get (ways old) n ≡ Some w) ⊎ IsTakenAs new P w
  pub count : queue_len new.queue + length (ways old) ≡ queue_len old.queue + length (ways new)

-- x is the way to the node to and the state next that is given
pub record IsGiven (to next : ℕ) (way : Reached) (w r : ℕ) (x : Reached) : Type 0 where
  pub node : w ≡ to
  pub state : r ≡ next
  pub as_given : x ≡ way
  pub soon : x.delay < 2 ^ 64 - 1

-- the same in one of some states
abbrev pub IsGivenIn : List ℕ → ℕ → Reached → ℕ → ℕ → Reached → Type 0
IsGivenIn states to way w r x = (next : ℕ) × Contains states next × IsGiven to next way w r x

-- v and q are reached by t, if t is wanted
abbrev pub IsReachedIfWanted : Frontier → ℕ → ℕ → ℕ → Type 0
IsReachedIfWanted f v q t = IsWanted f t → IsReachedBy f v q t

-- ---- arcs

-- the way by the arc at place i of s
abbrev pub way_by : Scan → ℕ → ℕ → Reached
way_by s i delay = record { delay = delay; arc = i; parent = s.link }

-- x is the way to w and r by the leg at place i of s, in the state next
pub record IsByLeg (s : Scan) (next i : ℕ) (leg : Leg) (w r : ℕ) (x : Reached) : Type 0 where
  pub node : w ≡ leg.to
  pub state : r ≡ next
  pub as_made : x ≡ way_by s i (s.delay + leg.ms)

-- the same by one of some legs
abbrev pub IsByLegs : Scan → ℕ → List Leg → ℕ → ℕ → Reached → Type 0
IsByLegs s next legs w r x = (i : ℕ) × (leg : Leg) × (slice_get legs i ≡ Some leg) × IsByLeg s next i leg w r x

-- the same in one of some states
abbrev pub IsByLegsIn : Scan → List ℕ → List Leg → ℕ → ℕ → Reached → Type 0
IsByLegsIn s states legs w r x = (next : ℕ) × Contains states next × IsByLegs s next legs w r x

-- what the leg leads to in the state next, if it is taken after that delay, is reached by then
abbrev pub LegIsReached : Frontier → ℕ → ℕ → Leg → Type 0
LegIsReached f next delay leg = IsReachedIfWanted f leg.to next (f.base + (delay + leg.ms))

-- x is the way to w and r by an arc that can be taken from s
pub record IsByWay (l : LabelsMeaning) (base : ℕ) (s : Scan) (way : Way) (w r : ℕ) (x : Reached) : Type 0 where
  pub arrives : base + x.delay ≡ way.at
  pub node : w ≡ way.arc.to
  pub state : Follows l s.state way.arc.letter r
  pub as_made : x ≡ way_by s way.place x.delay

-- the same by one of some arcs
abbrev pub IsByWays : LabelsMeaning → ℕ → Scan → List Way → ℕ → ℕ → Reached → Type 0
IsByWays l base s ways w r x = (way : Way) × Contains ways way × IsByWay l base s way w r x

-- what the arc leads to from q, if that is wanted, is reached by then
abbrev pub WayIsReached : LabelsMeaning → Frontier → ℕ → Way → Type 0
WayIsReached l f q way = IsWanted f way.at → AllAfter l q way.arc.letter (λ r. IsReachedBy f way.arc.to r way.at)

-- what the ways that any state was given lead to, if that is wanted, is reached by then
abbrev pub AreGivenReached : RunRides → LabelsMeaning → Frontier → GivenRuns → Type 0
AreGivenReached rides l f given = (q : ℕ) (way : Way) → WasGiven rides given q way → WayIsReached l f q way

-- x is the way to w and r by some arc of s, where delays are counted from the base
pub record IsSuccessor (g : GraphMeaning) (l : LabelsMeaning) (base : ℕ) (s : Scan) (w r : ℕ) (x : Reached) : Type 0 where
  pub place : ℕ
  pub has : HasArc g s.node place
  pub arrives : g.arrive s.node place (base + s.delay) ≡ Some (base + x.delay)
  pub node : w ≡ (g.arc_at s.node place).to
  pub state : Follows l s.state (g.arc_at s.node place).letter r
  pub as_made : x ≡ way_by s place x.delay

-- what the arc at place i of v leads to from q and t, if that is wanted, is reached by then
abbrev pub ArcIsReached : GraphMeaning → LabelsMeaning → Frontier → ℕ → ℕ → ℕ → ℕ → Type 0
ArcIsReached g l f v q t i = (u : ℕ) → g.arrive v i t ≡ Some u → IsWanted f u
    → AllAfter l q (g.arc_at v i).letter (λ r. IsReachedBy f (g.arc_at v i).to r u)

-- ---- starts

abbrev pub way_from_start : Reached
way_from_start = record { delay = 0; arc = 0; parent = 0 }

-- x is the way to the start node, in a start state, by no arc
pub record IsStartAt (l : LabelsMeaning) (node w r : ℕ) (x : Reached) : Type 0 where
  pub node_is : w ≡ node
  pub is_state : r < l.states
  pub is_start : IsTrue (l.is_start r)
  pub as_made : x ≡ way_from_start

pub record IsStartAmong (l : LabelsMeaning) (starts : List ℕ) (w r : ℕ) (x : Reached) : Type 0 where
  pub starts_there : Contains starts w
  pub is_state : r < l.states
  pub is_start : IsTrue (l.is_start r)
  pub as_made : x ≡ way_from_start

-- the node is reached at the departure in each start state
abbrev pub StartIsReached : Frontier → LabelsMeaning → ℕ → Type 0
StartIsReached f l node = (q : ℕ) → q < l.states → IsTrue (l.is_start q) → IsReachedBy f node q f.base
