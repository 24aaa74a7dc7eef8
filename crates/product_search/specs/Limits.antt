-- When a search has more labels than a limit, and what a search comes to that may be given up.
use Rattle.std.specs.Prelude.{ℕ, ◌<◌, ◌↔◌, List, length, Option, Result, Ok, Err, All, ⊤}
use Rattle.search_laws.specs.{GraphMeaning, LabelsMeaning, ArrivesAt}
use Rattle.product_search.specs.{declared.label.Label.Label, Reach.IsLeastAt, Reach.IsWithin, Listed.AreAscendingLabels, Listed.AreLeastLabels, Answer.IsArrival}
pub use Rattle.product_search.specs.{declared.limit.Limited.Limited, declared.limit.Limited.TheVariants.Ended, declared.limit.Limited.TheVariants.Stopped}

-- a label of the search: a product state with its least arrival, within the bound and before each accepted arrival at a target
pub record IsLabel (g : GraphMeaning) (l : LabelsMeaning) (starts targets : List ℕ) (dep : ℕ) (bound : Option ℕ) (x : Label) : Type 0 where
  pub least : IsLeastAt g l starts dep x.node x.state x.at
  pub within : IsWithin bound x.at
  pub before : (a : ℕ) → ArrivesAt g l starts targets dep a → x.at < a

-- the search has more labels than so many
pub record HasMoreLabels (g : GraphMeaning) (l : LabelsMeaning) (starts targets : List ℕ) (dep : ℕ) (bound : Option ℕ) (most : ℕ) : Type 0 where
  pub some : List Label
  pub ascending : AreAscendingLabels some
  pub are : All (IsLabel g l starts targets dep bound) some
  pub more : most < length some

-- ---- what a search comes to

abbrev pub HasEnded : {A : Type 0} → Limited A → Type 0
HasEnded (Ended x) = ⊤
HasEnded (Stopped most) = ⊥

-- P of the answer, if the search has ended
abbrev pub IfEnded : {A E : Type 0} → Result (Limited A) E → (A → Type 0) → Type 0
IfEnded (Ok (Ended x)) P = P x
IfEnded (Ok (Stopped most)) P = ⊤
IfEnded (Err e) P = ⊤

-- P of the limit, if the search was given up for it
abbrev pub IfStopped : {A E : Type 0} → Result (Limited A) E → (ℕ → Type 0) → Type 0
IfStopped (Ok (Ended x)) P = ⊤
IfStopped (Ok (Stopped most)) P = P most
IfStopped (Err e) P = ⊤

-- ---- when one is given up

-- a search has more labels than a limit exactly where the list of its labels is longer
abbrev pub StopsAreDue : Type 0
StopsAreDue = (g : GraphMeaning) (l : LabelsMeaning) (starts targets : List ℕ) (dep : ℕ) (bound arrival : Option ℕ) (labels : List Label) (most : ℕ)
    → IsArrival g l starts targets dep bound arrival → AreLeastLabels g l starts dep bound arrival labels
    → HasMoreLabels g l starts targets dep bound most ↔ (most < length labels)
