-- All that walks reach, as labels.
use Rattle.std.specs.Prelude.{ℕ, List, All}
use Rattle.search_laws.specs.{GraphMeaning, LabelsMeaning}
use Rattle.product_search.specs.{Label, IsReachedAt, IsListedBy}

-- a walk reaches each label's product state at its time, and whatever a walk reaches has a label that is no later
pub record AreReachedLabels (g : GraphMeaning) (l : LabelsMeaning) (starts : List ℕ) (dep : ℕ) (labels : List Label) : Type 0 where
  pub reached : All (λ x. IsReachedAt g l starts dep x.node x.state x.at) labels
  pub all : (p q t : ℕ) → IsReachedAt g l starts dep p q t → IsListedBy labels p q t
