-- What the command `sample` writes.
use Rattle.std.specs.Prelude.{◌≡◌, ℕ, List, ◌++◌, Option, Some}
use Rattle.mode_network.specs.{NetworkLists.NetworkLists, IsNetwork}
use Rattle.hierarchy.specs.{HierarchyLists}
use Rattle.contractor.specs.{IsContractedTo}
use Rattle.sample_city.specs.{IsSampleCity}
use Rattle.planning.specs.Settled.{Settled}
use Rattle.run_steps.specs.{Saying, WritesText}
use Rattle.sample_command.specs.{Queries.sampled_queries, Texts.city_text, Texts.times_text, Times.AreTimes}

-- so many labels the searches for the queries have together, over a hierarchy that contraction makes of the whole of the city
pub record HasLabels (n : ℕ) (city : NetworkLists) (count : ℕ) : Type 0 where
  pub hierarchy : HierarchyLists
  pub contracted : IsContractedTo city 0 hierarchy
  pub labels : Settled city (Some hierarchy) (sampled_queries n) count

-- Written are the counts of the sample city, how long the best journeys of its fifty queries take, which is the same over a
-- hierarchy, and how many labels the searches have over it.
pub record IsSummary (n : ℕ) (out : List ℕ) : Type 0 where
  pub city : NetworkLists
  pub rules : IsNetwork city
  pub is : IsSampleCity n city
  pub plain : List (Option ℕ)
  pub times : AreTimes city (sampled_queries n) plain
  pub over : List (Option ℕ)
  pub same : over ≡ plain
  pub settled : ℕ
  pub labels : HasLabels n city settled
  pub text : out ≡ city_text n city ++ times_text plain over settled

-- what a run says that was asked for the sample city of this size
abbrev pub SaysSample : ℕ → Saying
SaysSample n = WritesText (IsSummary n)
