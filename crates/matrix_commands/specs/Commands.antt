-- What the command says of a run by its outcome.
use Rattle.std.specs.Prelude.{ℕ, List, Option}
use Rattle.plan_base.specs.{Caps}
use Rattle.mode_network.specs.NetworkLists.{NetworkLists}
use Rattle.hierarchy_commands.specs.{OnHierarchyIfNamed}
use Rattle.run_steps.specs.{declared.outcome.FileRole.TheVariants.Origins, declared.outcome.FileRole.TheVariants.Destinations, AnswersFile, query_lines, OnRegion, Saying, OnFile}
use Rattle.matrix_commands.specs.Rows.{AreRowsOf}

-- the destinations file is read whole, and the rows of each line of the origins file, one for each line of destinations, are written as it is read
abbrev pub WritesTable : NetworkLists → (places : Option ℕ) → (origins destinations date time expr : List ℕ) → Saying
WritesTable n places origins destinations date time expr =
    OnFile Destinations destinations (λ bytes. AnswersFile Origins origins (AreRowsOf n places (query_lines bytes) date time expr))

-- `matrix` writes a table of times, of expressions with at most so many places
abbrev pub SaysMatrix : Caps → (places : Option ℕ) → (region origins destinations date time expr : List ℕ) → Option (List ℕ) → Saying
SaysMatrix caps places region origins destinations date time expr hierarchy =
    OnRegion caps region (λ n. OnHierarchyIfNamed n hierarchy (λ h. WritesTable n places origins destinations date time expr))
