-- The copies of an endpoint as a list.
use Rattle.std.specs.Prelude.{ℕ, ◌<◌, ◌↔◌, List, AllPairs, Contains}
use Rattle.mode_network.specs.{Endpoint, IsCopy, NetworkLists.NetworkLists}

-- the numbers are those of the copies of an endpoint, in order; there is one such list
pub record AreTheCopies (n : NetworkLists) (endpoint : Endpoint) (list : List ℕ) : Type 0 where
  pub ascending : AllPairs (λ v w. v < w) list
  pub are : (v : ℕ) → Contains list v ↔ IsCopy n endpoint v
