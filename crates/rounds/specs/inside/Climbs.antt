-- Climbing over entries that lead up.
use Rattle.std.specs.Prelude.{◌≡◌, ℕ, ◌+◌, ◌<◌, ◌≤◌, List, length, map, All, Contains, slice_index}
use Rattle.hierarchy.specs.{Hop, AreHops, total, HierarchyLists, HasEntry, IsAbove}
use Rattle.sweeps.specs.{time_at}
use Rattle.rounds.specs.inside.Rows.{never}
pub use Rattle.rounds.specs.{declared.climb.Climb.Climb, declared.climb.Rung.Rung}

-- an entry leads from u up to v
abbrev pub ClimbsTo : HierarchyLists → ℕ → ℕ → ℕ → Type 0
ClimbsTo h u v w = HasEntry h.entries u v w × IsAbove h.order v u

-- entries lead from u up to v and weigh so much together
pub record HasClimb (h : HierarchyLists) (u v weight : ℕ) : Type 0 where
  pub hops : List Hop
  pub walk : AreHops (ClimbsTo h) u hops v
  pub weighs : total hops ≡ weight

-- one of these is no longer, to this node
abbrev pub IsClimbedBy : List Climb → ℕ → ℕ → Type 0
IsClimbedBy climbs v weight = (climb : Climb) × Contains climbs climb × (climb.node ≡ v) × (climb.ms ≤ weight)

-- climbs from a node, with the empty one, and with each all that go on from it, or others that are no longer
pub record AreClimbs (h : HierarchyLists) (start : ℕ) (climbs : List Climb) : Type 0 where
  pub are : All (λ (climb : Climb). HasClimb h start climb.node climb.ms) climbs
  pub own : IsClimbedBy climbs start 0
  pub further : (climb : Climb) (v w : ℕ) → Contains climbs climb → ClimbsTo h climb.node v w → IsClimbedBy climbs v (climb.ms + w)

-- ---- delays of climbs, by places of nodes, lower ones first

abbrev pub nodes_of_rungs : List Rung → List ℕ
nodes_of_rungs rungs = map (λ (rung : Rung). rung.node) rungs

-- each delay is that of a climb to the node of its place; the first one is the start
pub record AreClimbDelays (h : HierarchyLists) (start : ℕ) (nodes delays : List ℕ) : Type 0 where
  pub as_many : length delays ≡ length nodes
  pub some : 0 < length nodes
  pub first : slice_index nodes 0 ≡ start
  pub own : time_at delays 0 ≤ 0
  pub climbs : (i : ℕ) → i < length nodes → time_at delays i < never → HasClimb h start (slice_index nodes i) (time_at delays i)

-- v stands behind place i, and is climbed to by t
pub record IsClimbedBehind (nodes delays : List ℕ) (i v t : ℕ) : Type 0 where
  pub place : ℕ
  pub behind : i < place
  pub within : place < length nodes
  pub is : slice_index nodes place ≡ v
  pub some : time_at delays place < never
  pub by : time_at delays place ≤ t

-- what entries lead up to from place i stands behind it, and is climbed to by then
abbrev pub IsPassed : HierarchyLists → List ℕ → List ℕ → ℕ → Type 0
IsPassed h nodes delays i = (v w : ℕ) → time_at delays i < never → ClimbsTo h (slice_index nodes i) v w → IsClimbedBehind nodes delays i v (time_at delays i + w)

-- an entry leads up from place i to place j, which makes a delay there
pub record IsClimbedFrom (h : HierarchyLists) (nodes delays : List ℕ) (i j t : ℕ) : Type 0 where
  pub behind : i < j
  pub weight : ℕ
  pub climbs : ClimbsTo h (slice_index nodes i) (slice_index nodes j) weight
  pub from : time_at delays i < never
  pub at : t ≡ time_at delays i + weight

-- all delays are those of climbs, and each place is passed
pub record AreClimbedAll (h : HierarchyLists) (start : ℕ) (nodes delays : List ℕ) : Type 0 where
  pub are : AreClimbDelays h start nodes delays
  pub passed : (i : ℕ) → i < length nodes → IsPassed h nodes delays i

-- these are the climbs that have delays
pub record AreClimbsOf (nodes delays : List ℕ) (climbs : List Climb) : Type 0 where
  pub are : All (λ (climb : Climb). (i : ℕ) × (i < length nodes) × (time_at delays i < never) × (climb ≡ record { node = slice_index nodes i; ms = time_at delays i })) climbs
  pub all : (i : ℕ) → i < length nodes → time_at delays i < never → Contains climbs (record { node = slice_index nodes i; ms = time_at delays i })
