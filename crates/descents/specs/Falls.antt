-- How accepted walks end before any descent, and how they go on down from there.
use Rattle.std.specs.Prelude.{◌≡◌, ℕ, ◌+◌, ◌≤◌, false, List, Some, IsTrue}
use Rattle.search_laws.specs.{GraphMeaning, LabelsMeaning, HasMove}
use Rattle.mode_network.specs.{NetworkLists.NetworkLists, letter_at}
use Rattle.hierarchy.specs.{Hop, AreHops, total, HierarchyLists, HasEntry, IsAbove}
use Rattle.product_search.specs.{IsReachedAt}
use Rattle.phase_graph.specs.{phase_node}

-- an entry leads from u down to v
abbrev pub EntryLeadsDown : HierarchyLists → ℕ → ℕ → ℕ → Type 0
EntryLeadsDown h u v w = HasEntry h.entries u v w × IsAbove h.order u v

-- an accepted walk is at v at t, before any descent
pub record IsEndAt (g : GraphMeaning) (l : LabelsMeaning) (starts : List ℕ) (dep v t : ℕ) : Type 0 where
  pub state : ℕ
  pub accepts : IsTrue (l.accepts state)
  pub reached : IsReachedAt g l starts dep (phase_node v false) state t

-- an accepted walk is at a node before any descent, in a state in which its letter can be read again, and from there entries lead down to v by t
pub record DescendsBy (n : NetworkLists) (h : HierarchyLists) (g : GraphMeaning) (l : LabelsMeaning) (starts : List ℕ) (dep v t : ℕ) : Type 0 where
  pub top : ℕ
  pub state : ℕ
  pub mode : ℕ
  pub at : ℕ
  pub hops : List Hop
  pub letter : letter_at n.roads top ≡ Some mode
  pub accepts : IsTrue (l.accepts state)
  pub stays : HasMove l state mode state
  pub reached : IsReachedAt g l starts dep (phase_node top false) state at
  pub descent : AreHops (EntryLeadsDown h) top hops v
  pub no_later : at + total hops ≤ t
