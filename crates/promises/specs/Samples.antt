-- What the command `sample` writes for one size.
use Rattle.std.specs.Prelude.{◌≡◌, ℕ, ◌≤◌, List, ◌++◌, Option, None}
use Rattle.plan_base.specs.{Caps}
use Rattle.mode_network.specs.{NetworkLists.NetworkLists, IsNetwork, first_fault}
use Rattle.run_steps.specs.{AreFull}
use Rattle.sample_city.specs.{IsSampleCity}
use Rattle.sample_command.specs.{IsSummary, city_text, times_text}

-- there is one sample city of each size that keeps the rules of networks
abbrev pub SampleCityIsUnique : Type 0
SampleCityIsUnique = (n : ℕ) (one other : NetworkLists) → IsNetwork one → IsNetwork other
    → IsSampleCity n one → IsSampleCity n other → one ≡ other

-- each breaks no rule of networks, and is past none of the full limits: so no run is refused its city
abbrev pub SampleCityIsFaultless : Type 0
SampleCityIsFaultless = (n : ℕ) (caps : Caps) (city : NetworkLists) → n ≤ 300 → AreFull caps
    → IsSampleCity n city → first_fault caps city ≡ None

-- Two summaries of one size tell of the same city and the same times. How many labels the searches have over
-- a hierarchy, `settled`, each tells for itself: that depends on the order in which nodes were contracted,
-- which is left free.
pub record TellAlike (n : ℕ) (one other : List ℕ) : Type 0 where
  pub city : NetworkLists
  pub times : List (Option ℕ)
  pub settled : ℕ
  pub also_settled : ℕ
  pub one_is : one ≡ city_text n city ++ times_text times times settled
  pub other_is : other ≡ city_text n city ++ times_text times times also_settled

abbrev pub SummariesAreAlike : Type 0
SummariesAreAlike = (n : ℕ) (one other : List ℕ) → IsSummary n one → IsSummary n other → TellAlike n one other
