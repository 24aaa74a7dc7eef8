-- One contraction, partway through.
use Rattle.std.specs.Prelude.{◌≡◌, ◌≢◌, ℕ, ◌+◌, ◌<◌, ◌≤◌, ◌⊎◌, List, [], ◌∷◌, ◌++◌, Some, None, All, AllPairs, Contains, slice_index_or}
use Rattle.mode_network.specs.{NetworkLists.NetworkLists, Leads}
use Rattle.hierarchy.specs.{Entry, Hop, AreHops, total, HierarchyLists, IsCore, IsContracted, HasEntry, HasLighter, IsBridged, IsSound, IsShortcut}
use Rattle.contractor.specs.declared.way.Way.{Way}

-- no roads are quicker than a shortcut
abbrev pub IsTrueWeight : NetworkLists → Entry → Type 0
IsTrueWeight n e = e.via ≢ None → (roads : List Hop) → AreHops (Leads n.arcs) e.from roads e.to → e.weight ≤ total roads

abbrev pub HaveOtherEnds : Entry → Entry → Type 0
HaveOtherEnds a b = a.from ≡ b.from → a.to ≡ b.to → ⊥

-- what holds of the hierarchy after each contraction
pub record IsGood (n : NetworkLists) (h : HierarchyLists) : Type 0 where
  pub sound : IsSound n h
  pub true_weights : All (IsTrueWeight n) h.entries
  pub apart : AllPairs HaveOtherEnds h.entries

-- an entry among what is left
pub record IsLive (h : HierarchyLists) (u v weight : ℕ) : Type 0 where
  pub entry : HasEntry h.entries u v weight
  pub core_from : IsCore h.order u
  pub core_to : IsCore h.order v

-- a way by x from one core node to another
pub record IsWayPast (h : HierarchyLists) (x : ℕ) (way : Way) : Type 0 where
  pub second : ℕ
  pub is_first : HasEntry h.entries way.from x way.first
  pub is_second : HasEntry h.entries x way.to second
  pub sum : way.sum ≡ way.first + second
  pub core_from : IsCore h.order way.from
  pub core_to : IsCore h.order way.to
  pub differ : way.from ≢ way.to

abbrev pub HaveOtherWays : Way → Way → Type 0
HaveOtherWays p q = p.from ≡ q.from → p.to ≡ q.to → ⊥

-- the entry to the node is no heavier, and of ways from one start the way is not
pub record IsNoHeavier (p q : Way) : Type 0 where
  pub first : p.first ≤ q.first
  pub sum : p.from ≡ q.from → p.sum ≤ q.sum

-- the ways by x that no entry is as light as, in order, one for two ends
pub record AreWays (h : HierarchyLists) (x : ℕ) (ways : List Way) : Type 0 where
  pub each : All (IsWayPast h x) ways
  pub all : (u v a b : ℕ) → IsCore h.order u → IsCore h.order v → HasEntry h.entries u x a → HasEntry h.entries x v b → u ≢ v
      → Contains ways (record { first = a; from = u; sum = a + b; to = v }) ⊎ HasLighter h.entries u v (a + b)
  pub rising : AllPairs IsNoHeavier ways
  pub apart : AllPairs HaveOtherWays ways

-- the hierarchy h2 has x at its order's end, and of the ways by x the first k are bridged
pub record IsPartway (n : NetworkLists) (h : HierarchyLists) (x : ℕ) (ways : List Way) (k : ℕ) (h2 : HierarchyLists) : Type 0 where
  pub order : h2.order ≡ h.order ++ x ∷ []
  pub kept : (e : Entry) → Contains h.entries e → IsContracted h2.order e.from ⊎ IsContracted h2.order e.to → Contains h2.entries e
  pub lighter : (u v w : ℕ) → HasEntry h.entries u v w → HasLighter h2.entries u v w
  pub made : (e : Entry) → Contains h2.entries e → Contains h.entries e ⊎ IsShortcut h x e
  pub witnesses : All (Contains h2.witnesses) h.witnesses
  pub true_weights : All (IsTrueWeight n) h2.entries
  pub bridged : (j : ℕ) (d : Way) → j < k → IsBridged h2 x (slice_index_or ways j d).from (slice_index_or ways j d).to (slice_index_or ways j d).sum

-- an entry was put in, and takes the place of one with its ends
pub record IsPut (old new : List Entry) (e : Entry) : Type 0 where
  pub there : Contains new e
  pub made : (f : Entry) → Contains new f → (f ≡ e) ⊎ Contains old f
  pub kept : (f : Entry) → Contains old f → Contains new f ⊎ ((f.from ≡ e.from) × (f.to ≡ e.to))

abbrev pub shortcut_of : ℕ → Way → Entry
shortcut_of x way = record { from = way.from; to = way.to; weight = way.sum; via = Some x }
