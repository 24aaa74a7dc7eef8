-- Nodes at which rounds need not look for links and rides.
use Rattle.std.specs.Prelude.{◌≡◌, ℕ, ◌<◌, ◌≤◌, false, Some}
use Rattle.search_laws.specs.{GraphMeaning}
use Rattle.mode_network.specs.{NetworkLists.NetworkLists, letter_at}
use Rattle.phase_graph.specs.{phase_node}

-- from this place on no arc of p leads elsewhere or takes any time
abbrev pub AreStanding : GraphMeaning → ℕ → ℕ → Type 0
AreStanding g p first = (t i u : ℕ) → first ≤ i → i < g.arcs p → g.arrive p i t ≡ Some u → ((g.arc_at p i).to ≡ p) × (u ≡ t)

-- v is a road node that nothing else leaves, before any descent, than entries and what stands
pub record IsQuiet (n : NetworkLists) (g : GraphMeaning) (v first : ℕ) : Type 0 where
  pub letter : ℕ
  pub road : letter_at n.roads v ≡ Some letter
  pub standing : AreStanding g (phase_node v false) first
