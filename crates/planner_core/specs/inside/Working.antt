-- What is known of a command when it is carried out.
use Rattle.std.specs.Prelude.{◌≤◌}
use Rattle.command_words.specs.{Request, sample}

-- the size of a sample city is in its range
abbrev pub HasSize : Request → Type 0
HasSize (sample size) = (1 ≤ size) × (size ≤ 300)
HasSize _ = Unit {0}
