-- What a certificate claims.
use Rattle.std.specs.Prelude.{ℕ, Bool, List, Option}
use Rattle.mode_network.specs.{Route}
use Rattle.product_search.specs.{Label}

-- of a query line: a journey and when it arrives, or that there is none; and labels, of phases or of the network's nodes
pub record Claim : Type 0 where
  pub line : List ℕ
  pub phases : Bool
  pub result : Option (ℕ × Route)
  pub labels : List Label
