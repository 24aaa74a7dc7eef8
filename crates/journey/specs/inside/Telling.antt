-- What is told of the steps of a journey.
use Rattle.std.specs.Prelude.{◌≡◌, ℕ, List}
use Rattle.search_laws.specs.{collapse}
use Rattle.mode_network.specs.{Step, NetworkLists.NetworkLists}
use Rattle.journey.specs.{Texts.AreTold, declared.telling.Told.Told}

-- the steps from v at t lead to where and when it is told, with this word and these lines
pub record IsTold (n : NetworkLists) (v t : ℕ) (steps : List Step) (told : Told) : Type 0 where
  pub letters : List ℕ
  pub are : AreTold n v t steps told.node told.at letters told.lines.items
  pub word : told.word.items ≡ collapse letters
