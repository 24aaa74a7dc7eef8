-- What one search answers for many targets: of each the least arrival there.
use Rattle.std.specs.Prelude.{◌≡◌, ℕ, ◌≤◌, ◌<◌, List, [], ◌∷◌, length, slice_index, slice_index_or, Option, None, IfSome}
use Rattle.search_laws.specs.{GraphMeaning, LabelsMeaning}
use Rattle.product_search.specs.Answer.{IsArrival, last_time}

-- the least arrival at the node v alone, or none, and no time above the last
abbrev pub IsArrivalAt : GraphMeaning → LabelsMeaning → List ℕ → ℕ → ℕ → Option ℕ → Type 0
IsArrivalAt g l starts dep v arrival = IsArrival g l starts (v ∷ []) dep None arrival × IfSome arrival (λ t. t ≤ last_time dep)

-- for each target, in order, the least arrival there, or none
pub record AreArrivals (g : GraphMeaning) (l : LabelsMeaning) (starts targets : List ℕ) (dep : ℕ) (times : List (Option ℕ)) : Type 0 where
  pub one_each : length times ≡ length targets
  pub are : (k : ℕ) → k < length targets → IsArrivalAt g l starts dep (slice_index targets k) (slice_index_or times k None)
