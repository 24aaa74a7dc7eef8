-- What is counted of the labels of searches is one sum.
use Rattle.std.specs.Prelude.{◌≡◌, ℕ, List, Option}
use Rattle.hierarchy.specs.{HierarchyLists}
use Rattle.mode_network.specs.NetworkLists.{NetworkLists}
use Rattle.run_steps.specs.{declared.limits.Limits.Limits, AreCounted}
use Rattle.answer_commands.specs.{IsAnswerCount}

-- For a network, a hierarchy or none, limits and query lines there is one sum of labels, which `answer` tells
-- behind `settled`.
abbrev pub SettledIsUnique : Type 0
SettledIsUnique = (n : NetworkLists) (h : Option HierarchyLists) (limits : Limits)
    → (lines : List (List ℕ)) (one other : ℕ)
    → AreCounted (IsAnswerCount n h limits) lines one → AreCounted (IsAnswerCount n h limits) lines other
    → one ≡ other
