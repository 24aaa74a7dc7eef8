-- A line asks one thing, or is refused.
use Rattle.plan_base.proofs.Common.{◌≡◌, ℕ, List, Ok, Err}
use Rattle.mode_network.specs.NetworkLists.{NetworkLists}
use Rattle.journey.specs.{QueryFault, IsRefused, Asked, Asks}
use Rattle.journey.proofs.ReadingLemmas.{reading_is_unique}

module _ (n : NetworkLists) (line : List ℕ) where
  pub same_asked : (a b : Asked) → Asks n line a → Asks n line b → a ≡ b
  same_asked a b p q = let same : Ok a ≡ Ok b = reading_is_unique n line (Ok a) (Ok b) p q in cc

  pub not_both : (a : Asked) (fault : QueryFault) → Asks n line a → IsRefused n line fault → ⊥
  not_both a fault p q = let same = reading_is_unique n line (Ok a) (Err fault) p q in cc
