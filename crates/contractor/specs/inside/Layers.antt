-- What contraction keeps beside the hierarchy so far, and its steps.
use Rattle.std.specs.Prelude.{◌≡◌, ◌≢◌, ℕ, ◌+◌, ◌<◌, ◌≤◌, ◌^◌, ◌⊎◌, ◌==◌, not, List, [], ◌∷◌, ◌++◌, filter, take, length, count_by, Bool, true, Option, Some, None, All, AllPairs, Contains, slice_get, slice_index_or, slice_set, Vec}
use Rattle.std.specs.Ordering.{ordering_then, nat_cmp}
use Rattle.std.specs.declared.cmp.Ordering.{Ordering}
use Rattle.std.specs.declared.cmp.Ordering.TheVariants.{Less}
use Rattle.std.specs.declared.alloc.Global.{Global}
use Rattle.mode_network.specs.{Arc, nodes_of as network_nodes, Leads, NetworkLists.NetworkLists}
use Rattle.hierarchy.specs.{Entry, HierarchyLists, WitnessLists, IsCore, IsContracted, first_of, last_of, FitsWitness, HasEntry, IsSound, IsFree}
use Rattle.witness.specs.{Edge, row_at, declared.workspace.Workspace.Workspace, inside.IsSearch, inside.NobodyBusy}
use Rattle.contractor.specs.{declared.way.Way.Way, declared.way.Side.Side, declared.layer.Layer.Layer, inside.Partway.IsGood, inside.Partway.AreWays, inside.Partway.IsPartway, inside.Partway.HaveOtherEnds, inside.Partway.IsTrueWeight}

-- ---- the hierarchy so far

abbrev pub lists_of : Layer → HierarchyLists
lists_of layer = record { order = layer.order.items; entries = layer.entries.items; witnesses = layer.witnesses }

-- the same with x at the order's end
abbrev pub lists_with : ℕ → Layer → HierarchyLists
lists_with x layer = record { order = layer.order.items ++ x ∷ []; entries = layer.entries.items; witnesses = layer.witnesses }

-- ---- rows

abbrev pub edge_of : ℕ → Entry → Edge
edge_of number e = record { to = e.to; entry = number; weight = e.weight }

abbrev pub nodes_in : Option (Vec ℕ Global) → List ℕ
nodes_in None = []
nodes_in (Some nodes) = nodes.items

-- who is listed as leading to a node
abbrev pub into_at : List (Vec ℕ Global) → ℕ → List ℕ
into_at into v = nodes_in (slice_get into v)

-- what a row lists is the entry of that number, and both its ends are left
pub record StandsForEntry (order : List ℕ) (entries : List Entry) (u : ℕ) (edge : Edge) : Type 0 where
  pub entry : Entry
  pub at : slice_get entries edge.entry ≡ Some entry
  pub from : entry.from ≡ u
  pub is : edge ≡ edge_of edge.entry entry
  pub core_from : IsCore order entry.from
  pub core_to : IsCore order entry.to

pub record IsInRows (rows : List (Vec Edge Global)) (into : List (Vec ℕ Global)) (number : ℕ) (e : Entry) : Type 0 where
  pub out : Contains (row_at rows e.from) (edge_of number e)
  pub back : Contains (into_at into e.to) e.from

pub record FitsRows (nodes : ℕ) (e : Entry) : Type 0 where
  pub differ : e.from ≢ e.to
  pub from : e.from < nodes
  pub to : e.to < nodes
  pub positive : 0 < e.weight
  pub light : e.weight < 2 ^ 56

-- the rows list the entries between nodes that are core in this order
pub record IsLayer (order : List ℕ) (layer : Layer) : Type 0 where
  pub few : length layer.rows.items ≤ 2 ^ 24
  pub count : length layer.into.items ≡ length layer.rows.items
  pub fit : All (FitsRows (length layer.rows.items)) layer.entries.items
  pub apart : AllPairs HaveOtherEnds layer.entries.items
  pub listed : (u : ℕ) (edge : Edge) → Contains (row_at layer.rows.items u) edge → StandsForEntry order layer.entries.items u edge
  pub all : (number : ℕ) (e : Entry) → slice_get layer.entries.items number ≡ Some e → IsCore order e.from → IsCore order e.to → IsInRows layer.rows.items layer.into.items number e
  pub into_fit : (v u : ℕ) → Contains (into_at layer.into.items v) u → u < length layer.rows.items

pub record CanPut (nodes : ℕ) (way : Way) : Type 0 where
  pub differ : way.from ≢ way.to
  pub from : way.from < nodes
  pub to : way.to < nodes
  pub positive : 0 < way.sum
  pub light : way.sum < 2 ^ 56

-- a way to the node is no heavier
abbrev pub HasWithin : List Edge → ℕ → ℕ → Type 0
HasWithin row to most = (number : ℕ) × (weight : ℕ) × Contains row (record { to = to; entry = number; weight = weight }) × (weight ≤ most)

abbrev pub HasNumber : List Edge → ℕ → ℕ → Type 0
HasNumber row to number = (weight : ℕ) × Contains row (record { to = to; entry = number; weight = weight })

-- a node was appended to the list of those that lead to another
pub record IsNodeAdded (to from : ℕ) (old new : List (Vec ℕ Global)) : Type 0 where
  pub count : length new ≡ length old
  pub here : into_at new to ≡ into_at old to ++ from ∷ []
  pub others : (v : ℕ) → v ≢ to → into_at new v ≡ into_at old v

-- the entry has the place of the one that the row has to its end
pub record IsReplaced (row : List Edge) (entry : Entry) (number : ℕ) (old new : List Entry) (old_into new_into : List (Vec ℕ Global)) : Type 0 where
  pub there : HasNumber row entry.to number
  pub entries : new ≡ slice_set old number entry
  pub into : new_into ≡ old_into

-- the row has none to its end, and the entry stands last
pub record IsAdded (row : List Edge) (entry : Entry) (number : ℕ) (old new : List Entry) (old_into new_into : List (Vec ℕ Global)) : Type 0 where
  pub none : All (λ (edge : Edge). edge.to ≢ entry.to) row
  pub number_is : number ≡ length old
  pub entries : new ≡ old ++ entry ∷ []
  pub into : IsNodeAdded entry.to entry.from old_into new_into

abbrev pub IsEntered : List Edge → Entry → ℕ → List Entry → List Entry → List (Vec ℕ Global) → List (Vec ℕ Global) → Type 0
IsEntered row entry number old new old_into new_into = IsReplaced row entry number old new old_into new_into ⊎ IsAdded row entry number old new old_into new_into

-- the row of a node has the way, and no other to its end
pub record IsEdgeListed (from : ℕ) (edge : Edge) (old new : List (Vec Edge Global)) : Type 0 where
  pub count : length new ≡ length old
  pub here : row_at new from ≡ filter (λ (e : Edge). not (e.to == edge.to)) (row_at old from) ++ edge ∷ []
  pub others : (v : ℕ) → v ≢ from → row_at new v ≡ row_at old v

pub record IsPlaceable (layer : Layer) (e : Entry) : Type 0 where
  pub from : e.from < length layer.rows.items
  pub to : e.to < length layer.into.items
  pub numbers : All (λ (edge : Edge). edge.entry < length layer.entries.items) (row_at layer.rows.items e.from)

-- an entry was entered and listed
pub record IsEntryPlaced (old new : Layer) (e : Entry) : Type 0 where
  pub number : ℕ
  pub entered : IsEntered (row_at old.rows.items e.from) e number old.entries.items new.entries.items old.into.items new.into.items
  pub listed : IsEdgeListed e.from (edge_of number e) old.rows.items new.rows.items
  pub order : new.order.items ≡ old.order.items
  pub witnesses : new.witnesses ≡ old.witnesses

-- ---- a node cut out

pub record IsRowTaken (x : ℕ) (old new : List (Vec Edge Global)) (row : List Edge) : Type 0 where
  pub count : length new ≡ length old
  pub row_is : row ≡ row_at old x
  pub empty : row_at new x ≡ []
  pub others : (v : ℕ) → v ≢ x → row_at new v ≡ row_at old v

pub record AreNodesTaken (x : ℕ) (old new : List (Vec ℕ Global)) (nodes : List ℕ) : Type 0 where
  pub count : length new ≡ length old
  pub nodes_are : nodes ≡ into_at old x
  pub empty : into_at new x ≡ []
  pub others : (v : ℕ) → v ≢ x → into_at new v ≡ into_at old v

abbrev pub side_of : ℕ → ℕ → Side
side_of u weight = record { node = u; weight = weight }

-- what a row has to x was appended
pub record AreSidesOf (u x : ℕ) (row : List Edge) (old new : List Side) : Type 0 where
  pub kept : All (Contains new) old
  pub each : (side : Side) → Contains new side → Contains old side ⊎ ((side.node ≡ u) × (number : ℕ) × Contains row (record { to = x; entry = number; weight = side.weight }))
  pub all : All (λ (edge : Edge). edge.to ≡ x → Contains new (side_of u edge.weight)) row

pub record AreSides (rows : List (Vec Edge Global)) (x : ℕ) (before : List ℕ) (sides : List Side) : Type 0 where
  pub each : (side : Side) → Contains sides side → (number : ℕ) × Contains (row_at rows side.node) (record { to = x; entry = number; weight = side.weight })
  pub all : (u : ℕ) (edge : Edge) → Contains before u → Contains (row_at rows u) edge → edge.to ≡ x → Contains sides (side_of u edge.weight)

-- all that led to x from these nodes is left out of their rows, and nothing else
pub record IsCut (x : ℕ) (before : List ℕ) (old new : List (Vec Edge Global)) : Type 0 where
  pub count : length new ≡ length old
  pub kept : (u : ℕ) (edge : Edge) → Contains (row_at old u) edge → edge.to ≢ x → Contains (row_at new u) edge
  pub was : (u : ℕ) (edge : Edge) → Contains (row_at new u) edge → Contains (row_at old u) edge
  pub gone : (u : ℕ) (edge : Edge) → Contains before u → Contains (row_at new u) edge → edge.to ≢ x

-- x alone may be left out
pub record IsLessInto (x : ℕ) (old new : List (Vec ℕ Global)) : Type 0 where
  pub count : length new ≡ length old
  pub kept : (v u : ℕ) → Contains (into_at old v) u → u ≢ x → Contains (into_at new v) u
  pub was : (v u : ℕ) → Contains (into_at new v) u → Contains (into_at old v) u

-- the entries to x from core nodes
pub record AreFirst (order : List ℕ) (entries : List Entry) (x : ℕ) (sides : List Side) : Type 0 where
  pub each : (side : Side) → Contains sides side → HasEntry entries side.node x side.weight × IsCore order side.node
  pub all : (u a : ℕ) → IsCore order u → HasEntry entries u x a → Contains sides (side_of u a)

-- the entries from x to core nodes
pub record AreSecond (order : List ℕ) (entries : List Entry) (x : ℕ) (edges : List Edge) : Type 0 where
  pub each : (edge : Edge) → Contains edges edge → HasEntry entries x edge.to edge.weight × IsCore order edge.to
  pub all : (v b : ℕ) → IsCore order v → HasEntry entries x v b → (number : ℕ) × Contains edges (record { to = v; entry = number; weight = b })

-- ---- ways

abbrev pub way_with : Side → Edge → Way
way_with side edge = record { first = side.weight; from = side.node; sum = side.weight + edge.weight; to = edge.to }

pub record IsWayOf (first : List Side) (second : List Edge) (way : Way) : Type 0 where
  pub side : Side
  pub edge : Edge
  pub is_side : Contains first side
  pub is_edge : Contains second edge
  pub differ : side.node ≢ edge.to
  pub is : way ≡ way_with side edge

-- a way is listed, or the row of its start has one to its end that is no heavier
abbrev pub IsListedOrWithin : List Edge → List Way → Way → Type 0
IsListedOrWithin row ways way = Contains ways way ⊎ HasWithin row way.to way.sum

-- a way was listed, or need not be
abbrev pub IsWayTaken : List Edge → Way → List Way → List Way → Type 0
IsWayTaken row way old new = (new ≡ old ++ way ∷ []) ⊎ ((new ≡ old) × HasWithin row way.to way.sum)

pub record AreWaysWith (row : List Edge) (side : Side) (second : List Edge) (old new : List Way) : Type 0 where
  pub kept : All (Contains new) old
  pub each : (way : Way) → Contains new way → Contains old way ⊎ IsWayOf (side ∷ []) second way
  pub all : All (λ (edge : Edge). side.node ≢ edge.to → IsListedOrWithin row new (way_with side edge)) second

-- by the weight of the entry to the node, then start by start, lightest first
abbrev pub way_cmp : Way → Way → Ordering
way_cmp p q = ordering_then (nat_cmp p.first q.first) (ordering_then (nat_cmp p.from q.from) (ordering_then (nat_cmp p.sum q.sum) (nat_cmp p.to q.to)))

pub record AreWaysOf (rows : List (Vec Edge Global)) (first : List Side) (second : List Edge) (ways : List Way) : Type 0 where
  pub each : (way : Way) → Contains ways way → IsWayOf first second way
  pub all : (side : Side) (edge : Edge) → Contains first side → Contains second edge → side.node ≢ edge.to → IsListedOrWithin (row_at rows side.node) ways (way_with side edge)
  pub rising : AllPairs (λ p q. way_cmp p q ≡ Less) ways

-- ---- walks

abbrev pub HaveOtherKeys : WitnessLists → WitnessLists → Type 0
HaveOtherKeys a b = a.below ≡ b.below → first_of a.nodes ≡ first_of b.nodes → last_of a.nodes ≡ last_of b.nodes → ⊥

-- the walk is for one of the first k ways
pub record IsForWay (ways : List Way) (k : ℕ) (walk : WitnessLists) : Type 0 where
  pub place : ℕ
  pub before : place < k
  pub first : (d : Way) → (slice_index_or ways place d).from ≡ first_of walk.nodes
  pub last : (d : Way) → (slice_index_or ways place d).to ≡ last_of walk.nodes

-- each is for a contracted node, or for one of the first k ways by x
pub record AreWalks (order : List ℕ) (x : ℕ) (ways : List Way) (k : ℕ) (walks : List WitnessLists) : Type 0 where
  pub apart : AllPairs HaveOtherKeys walks
  pub fit : All FitsWitness walks
  pub each : All (λ (walk : WitnessLists). IsContracted order walk.below ⊎ ((walk.below ≡ x) × IsForWay ways k walk)) walks

-- ---- the whole

-- what holds after each contraction
pub record IsState (n : NetworkLists) (state : Layer) : Type 0 where
  pub good : IsGood n (lists_of state)
  pub layer : IsLayer state.order.items state
  pub walks : AreWalks state.order.items 0 [] 0 state.witnesses

-- what holds when the first k ways by x are bridged
pub record IsBridging (n : NetworkLists) (x : ℕ) (ways : List Way) (k : ℕ) (state : Layer) : Type 0 where
  -- the hierarchy before
  pub before : HierarchyLists
  pub good : IsGood n before
  pub fit : All (FitsRows (length state.rows.items)) before.entries
  pub core : IsCore before.order x
  pub are : AreWays before x ways
  pub order : state.order.items ≡ before.order
  pub partway : IsPartway n before x ways k (lists_with x state)
  pub layer : IsLayer (state.order.items ++ x ∷ []) state
  pub walks : AreWalks state.order.items x ways k state.witnesses

-- from the place up to the end all ways have one start
pub record IsEndOf (ways : List Way) (place end : ℕ) : Type 0 where
  pub after : place < end
  pub inside : end ≤ length ways
  pub same : (j : ℕ) (d : Way) → place ≤ j → j < end → (slice_index_or ways j d).from ≡ (slice_index_or ways place d).from

-- the search began where the way does, and goes as far
pub record IsSearchFor (layer : Layer) (way : Way) (w : Workspace) : Type 0 where
  pub search : IsSearch layer.rows.items w.most NobodyBusy w
  pub start : w.start ≡ way.from
  pub far : way.sum ≤ w.most
  pub light : w.most < 2 ^ 57

-- ---- which nodes are to be contracted

-- those that are marked are free and core, and there are so many
pub record AreWaiting (n : NetworkLists) (order : List ℕ) (left : ℕ) (waiting : List Bool) : Type 0 where
  pub count : length waiting ≡ length (network_nodes n)
  pub each : (v : ℕ) → slice_get waiting v ≡ Some true → IsFree n v × IsCore order v
  pub number : count_by (λ b. b) waiting ≡ left

-- the arcs before place k are entries, and nothing else is
pub record AreArcs (n : NetworkLists) (k : ℕ) (state : Layer) : Type 0 where
  pub order : state.order.items ≡ []
  pub witnesses : state.witnesses ≡ []
  pub count : length state.rows.items ≡ length (network_nodes n)
  pub layer : IsLayer [] state
  pub are : (e : Entry) → Contains state.entries.items e → (e.via ≡ None) × Leads n.arcs e.from e.to e.weight
  pub all : All (λ (arc : Arc). HasEntry state.entries.items arc.from arc.to arc.ms) (take k n.arcs)

pub record AreEmptyLists {X : Type 0} (count : ℕ) (lists : List (Vec X Global)) : Type 0 where
  pub count_is : length lists ≡ count
  pub empty : All (λ (list : Vec X Global). list.items ≡ []) lists

-- ---- the end

pub record IsFinished (n : NetworkLists) (order : List ℕ) (h : HierarchyLists) : Type 0 where
  pub sound : IsSound n h
  pub order_is : h.order ≡ order
  pub true_weights : All (IsTrueWeight n) h.entries
