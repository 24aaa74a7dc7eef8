-- Which nodes of an order were met up to a place of it.
use Rattle.std.specs.Prelude.{◌≡◌, ℕ, ◌<◌, Bool, true, false, List, length, slice_index_or, slice_set}
use Rattle.mode_network.specs.{NetworkLists.NetworkLists, nodes_of}
use Rattle.search_laws.specs.{HoldsBelow}
use Rattle.hierarchy.specs.{IsFree, MayStandAt}

-- a free node that was not met before
abbrev pub IsFirstMeeting : NetworkLists → List Bool → ℕ → Type 0
IsFirstMeeting n met x = IsFree n x × (slice_index_or met x false ≡ false)

-- a node is noted as met, if it is met for the first time
abbrev pub meets : Bool → List Bool → ℕ → List Bool
meets true met x = slice_set met x true
meets false met x = met

-- those that were met stand below this place, each of which may stand there
pub record AreMet (n : NetworkLists) (order : List ℕ) (place : ℕ) (met : List Bool) : Type 0 where
  pub one_each : length met ≡ length (nodes_of n)
  pub stands : (v d : ℕ) → slice_index_or met v false ≡ true → (j : ℕ) × (j < place) × (slice_index_or order j d ≡ v)
  pub noted : (j d : ℕ) → j < place → slice_index_or met (slice_index_or order j d) false ≡ true
  pub in_order : HoldsBelow place (MayStandAt n order)
