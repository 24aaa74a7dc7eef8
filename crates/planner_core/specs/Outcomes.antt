-- What the outcome of a run says.
use Rattle.std.specs.Prelude.{ℕ, ◌⊎◌, List}
use Rattle.plan_base.specs.{Caps}
use Rattle.command_words.specs.{Request, AsksFor, AreRefused}
use Rattle.run_steps.specs.{Usage, OutOfMemory, Saying, Ends}
use Rattle.planner_core.specs.Commands.{says}

-- What a run with these words says: that they are refused, where they ask for nothing; or what it says that was asked for. Before
-- it is known what they ask for memory may run out.
abbrev pub IsOutcome : Caps → List (List ℕ) → Saying
IsOutcome caps words old new outcome =
    (AreRefused words × Ends Usage old new outcome)
    ⊎ (Ends OutOfMemory old new outcome ⊎ ((r : Request) × AsksFor words r × says caps r old new outcome))
