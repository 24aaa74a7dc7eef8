-- The block of a query line that asks for the latest departure.
use Rattle.std.specs.Prelude.{◌≡◌, ℕ, Option, Some, None, List, ◌++◌, codes}
use Rattle.plain_texts.specs.{with_feed}
use Rattle.service_days.specs.{clock_text_of}
use Rattle.mode_network.specs.{NetworkLists.NetworkLists, Route}
use Rattle.journey.specs.{Asked, IsAnsweredBlock, IsRightBlock, IsFramed, IsJourneyText}
use Rattle.latest_departure.specs.Late.{IsToldResult, IsLateResult}

-- what is printed of a journey: when it departs, and then what any block prints of it
pub record IsLateJourneyText (n : NetworkLists) (j : Route) (text : List ℕ) : Type 0 where
  pub own : List ℕ
  pub told : IsJourneyText n j own
  pub text_is : text ≡ with_feed (codes "depart " ++ clock_text_of n.days j.at) ++ own

-- what is printed of a journey, or of the answer that none is in time
abbrev pub IsResultText : NetworkLists → Option Route → List ℕ → Type 0
IsResultText n (Some j) text = IsLateJourneyText n j text
IsResultText n None text = text ≡ with_feed (codes "no journey")

-- the block of a line with this journey, or with the answer that there is none
abbrev pub IsAnswerBlock : NetworkLists → List ℕ → Option Route → List ℕ → Type 0
IsAnswerBlock n line result block = IsFramed (IsResultText n result) line block

-- which results are right for what is asked
abbrev pub ResultRule : Type 1
ResultRule = NetworkLists → Asked → Option Route → Type 0

-- the body with a result that is right
pub record IsResultBody (IsRight : ResultRule) (n : NetworkLists) (q : Asked) (text : List ℕ) : Type 0 where
  pub result : Option Route
  pub right : IsRight n q result
  pub told : IsResultText n result text

-- the right late block of a query line: that of its refusal, of the best journey for its deadline, or of the answer that none is in time
abbrev pub IsLateBlock : NetworkLists → List ℕ → List ℕ → Type 0
IsLateBlock n line block = IsRightBlock n (IsResultBody IsToldResult n) line block

-- what a late certificate shows of its line: the block of a journey that starts at the latest departure, or of the answer that none is in time
abbrev pub IsShownBlock : NetworkLists → List ℕ → List ℕ → Type 0
IsShownBlock n line block = IsAnsweredBlock n (IsResultBody IsLateResult n) line block
