-- What `answer` writes for a query line within limits, and behind the blocks: with a hierarchy how many labels the searches had.
use Rattle.std.specs.Prelude.{◌≡◌, ℕ, List, ◌++◌, codes, decimal, Option, Some, None}
use Rattle.plain_texts.specs.{with_feed}
use Rattle.mode_network.specs.NetworkLists.{NetworkLists}
use Rattle.hierarchy.specs.{HierarchyLists}
use Rattle.journey.specs.{IsBlockUnder, IsUnder}
use Rattle.planning.specs.{IsBlockWithin, IsSettledWithin}
use Rattle.run_steps.specs.{declared.limits.Limits.Limits, AreCounted, query_lines, Saying, Ends, WritesText, Done}

-- the right block of a query line, of so many places and so many labels at most
abbrev pub IsAnswer : NetworkLists → Option HierarchyLists → Limits → List ℕ → List ℕ → Type 0
IsAnswer n h limits line block = IsBlockUnder n limits.places (IsBlockWithin n h limits.labels) line block

-- how many labels its search had; none where its expression has too many places
abbrev pub IsAnswerCount : NetworkLists → Option HierarchyLists → Limits → List ℕ → ℕ → Type 0
IsAnswerCount n h limits line count = IsUnder n limits.places line (λ places. count ≡ 0) (IsSettledWithin n h limits.labels line count)

-- the line that tells how many labels searches had
abbrev pub settled_line : ℕ → List ℕ
settled_line sum = with_feed (codes "settled " ++ decimal sum)

-- how many labels the searches for the query lines had
abbrev pub IsSettledLine : NetworkLists → Option HierarchyLists → Limits → List (List ℕ) → List ℕ → Type 0
IsSettledLine n h limits lines text = (sum : ℕ) × AreCounted (IsAnswerCount n h limits) lines sum × (text ≡ settled_line sum)

-- nothing more is written; or with a hierarchy the line `settled`
abbrev pub WritesSettled : NetworkLists → Option HierarchyLists → Limits → List ℕ → Saying
WritesSettled n None limits bytes = Ends Done
WritesSettled n (Some h) limits bytes = WritesText (IsSettledLine n (Some h) limits (query_lines bytes))
