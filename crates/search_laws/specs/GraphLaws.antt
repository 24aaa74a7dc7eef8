-- What a graph answers, as functions on numbers, and the laws that every graph keeps.
use Rattle.std.specs.Prelude.{◌≡◌, ℕ, ◌+◌, ◌^◌, ◌<◌, ◌≤◌, Option, Some, None, IfSome}
use Rattle.search_laws.specs.Letters.{IsLetter}
pub use Rattle.search_laws.specs.declared.graph.GraphArc.{GraphArc}

pub record GraphMeaning : Type 0 where
  pub nodes : ℕ
  pub arcs : ℕ → ℕ
  pub arc_at : ℕ → ℕ → GraphArc
  pub arrive : ℕ → ℕ → ℕ → Option ℕ

-- the node v has an arc at place i
pub record HasArc (g : GraphMeaning) (v i : ℕ) : Type 0 where
  pub node : v < g.nodes
  pub arc : i < g.arcs v

-- They range over all times: only the call `arrive` has a condition on the time.
pub record IsLawfulGraph (g : GraphMeaning) : Type 0 where
  pub few_nodes : g.nodes ≤ 2 ^ 25
  pub to_in_range : (v i : ℕ) → HasArc g v i → (g.arc_at v i).to < g.nodes
  pub letter_in_range : (v i : ℕ) → HasArc g v i → IfSome (g.arc_at v i).letter IsLetter
  pub not_before : (v i t u : ℕ) → HasArc g v i → g.arrive v i t ≡ Some u → t ≤ u
  pub not_late : (v i t u : ℕ) → HasArc g v i → g.arrive v i t ≡ Some u → u ≤ t + 2 ^ 57
  pub rises : (v i s t a b : ℕ) → HasArc g v i → s ≤ t → g.arrive v i s ≡ Some a → g.arrive v i t ≡ Some b → a ≤ b
  pub stays_none : (v i s t : ℕ) → HasArc g v i → s ≤ t → g.arrive v i s ≡ None → g.arrive v i t ≡ None
