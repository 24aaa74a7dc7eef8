-- What a run is, by what its words ask for.
use Rattle.std.specs.Prelude.{◌≡◌, ℕ, ◌⊎◌, ⊤, List}
use Rattle.plan_base.specs.{Caps}
use Rattle.command_words.specs.{AsksFor, Request}
use Rattle.run_steps.specs.{Outcome, OutOfMemory, Ends, Scene.Scene}
use Rattle.planner_core.specs.{says, IsOutcome}

-- words ask for no two things
abbrev pub WordsAskOneThing : Type 0
WordsAskOneThing = (words : List (List ℕ)) (one other : Request)
    → AsksFor words one → AsksFor words other → one ≡ other

-- A run with words that ask for something is as is said of that, or memory runs out before it is known. So
-- each law of what is said of a command is one of the runs that ask for it.
abbrev pub RunsAreAsAsked : Type 0
RunsAreAsAsked = (caps : Caps) (words : List (List ℕ)) (r : Request) → AsksFor words r
    → (old new : Scene ⊤) (outcome : Outcome) → IsOutcome caps words old new outcome
    → Ends OutOfMemory old new outcome ⊎ says caps r old new outcome
