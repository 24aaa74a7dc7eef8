-- Labels from which walks over the core begin.
use Rattle.std.specs.Prelude.{◌≡◌, ℕ, ◌+◌, ◌<◌, false, List, None, Some, All, Contains, IsTrue}
use Rattle.mode_network.specs.{letter_at}
use Rattle.hierarchy.specs.{IsContracted}
use Rattle.product_search.specs.{Label, label_of, IsListedBy, ArcIsListed}
use Rattle.phase_graph.specs.{phase_node, node_of, meaning_in_use}
use Rattle.rounds.specs.inside.{Asking.AskedMeaning, Asking.Reaches, Climbs.Climb, Walks.Turn, Listing.IsOfAny}

-- Each is reached, before any descent; each of these starts has one in each start state; and where one is at a contracted node, what its arcs lead
-- to has one by then.
pub record AreFirstsOf (a : AskedMeaning) (these : List ℕ) (labels : List Label) : Type 0 where
  pub before : All (λ (x : Label). x.node ≡ phase_node (node_of x.node) false) labels
  pub reached : All (λ (x : Label). Reaches a x.node x.state x.at) labels
  pub starts : (p q : ℕ) → Contains these p → q < a.labels.states → IsTrue (a.labels.is_start q) → IsListedBy labels p q a.dep
  pub further : (x : Label) (i : ℕ) → Contains labels x → IsContracted a.rounds.hierarchy.now.order (node_of x.node) → i < (meaning_in_use a.rounds.graph).arcs x.node
      → ArcIsListed (meaning_in_use a.rounds.graph) a.labels None labels x i

-- so they are of all starts
abbrev pub AreFirsts : AskedMeaning → List Label → Type 0
AreFirsts a = AreFirstsOf a a.starts

-- the label of a start in a start state
pub record IsStartLabel (a : AskedMeaning) (p : ℕ) (x : Label) : Type 0 where
  pub first : ℕ
  pub is_state : first < a.labels.states
  pub is_start : IsTrue (a.labels.is_start first)
  pub is : x ≡ label_of p first a.dep

-- a turn by the letter of v leads from a start state
pub record IsFirstTurn (a : AskedMeaning) (v : ℕ) (turn : Turn) : Type 0 where
  pub letter : letter_at a.rounds.network.now.roads v ≡ Some turn.letter
  pub first : ℕ
  pub source : Contains turn.sources.items first
  pub is_start : IsTrue (a.labels.is_start first)

-- the label of a climb in a state
abbrev pub IsClimbIn : ℕ → ℕ → Climb → Label → Type 0
IsClimbIn state dep climb x = x ≡ label_of (phase_node climb.node false) state (dep + climb.ms)

-- that of one of these climbs from v in the state of a turn that begins there
abbrev pub IsClimbLabel : AskedMeaning → ℕ → List Climb → Turn → Label → Type 0
IsClimbLabel a v climbs turn x = IsFirstTurn a v turn × IsOfAny (IsClimbIn turn.state a.dep) climbs x
