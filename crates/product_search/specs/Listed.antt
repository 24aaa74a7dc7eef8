-- Lists of labels, in order by node and then by state.
use Rattle.std.specs.Prelude.{◌≡◌, ℕ, List, length, Contains, All, AllPairs, Option}
use Rattle.std.specs.declared.cmp.Ordering.{Ordering}
use Rattle.std.specs.declared.cmp.Ordering.TheVariants.{Less}
use Rattle.std.specs.Ordering.{ordering_then, nat_cmp}
use Rattle.search_laws.specs.{GraphMeaning, LabelsMeaning}
pub use Rattle.product_search.specs.declared.label.Label.{Label}
use Rattle.product_search.specs.Reach.{IsLeastAt, IsToList}

abbrev pub label_of : ℕ → ℕ → ℕ → Label
label_of v q t = record { node = v; state = q; at = t }

abbrev pub label_cmp : Label → Label → Ordering
label_cmp x y = ordering_then (nat_cmp x.node y.node) (nat_cmp x.state y.state)

-- the order of the type, which compares the times last
abbrev pub label_order : Label → Label → Ordering
label_order x y = ordering_then (ordering_then (nat_cmp x.node y.node) (nat_cmp x.state y.state)) (nat_cmp x.at y.at)

abbrev pub IsBelow : Label → Label → Type 0
IsBelow x y = label_cmp x y ≡ Less

abbrev pub AreAscendingLabels : List Label → Type 0
AreAscendingLabels list = AllPairs IsBelow list

-- the least arrivals of all product states that are reached, as far as an answer lists them; there is one such list
pub record AreLeastLabels (g : GraphMeaning) (l : LabelsMeaning) (starts : List ℕ) (dep : ℕ) (bound arrival : Option ℕ) (list : List Label) : Type 0 where
  pub ascending : AreAscendingLabels list
  pub least : All (λ x. IsLeastAt g l starts dep x.node x.state x.at × IsToList bound arrival x.at) list
  pub complete : (v q t : ℕ) → IsLeastAt g l starts dep v q t → IsToList bound arrival t → Contains list (label_of v q t)

-- that list has so many labels
abbrev pub HasLeastLabels : GraphMeaning → LabelsMeaning → List ℕ → ℕ → Option ℕ → Option ℕ → ℕ → Type 0
HasLeastLabels g l starts dep bound arrival count = (list : List Label) × AreLeastLabels g l starts dep bound arrival list × (count ≡ length list)
