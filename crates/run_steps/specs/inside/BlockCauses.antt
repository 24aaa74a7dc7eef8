-- Why blocks were not written.
use Rattle.std.specs.Prelude.{ℕ, List}
use Rattle.plan_base.specs.{Rose, SinkMeaning, Stays}
use Rattle.run_steps.specs.{declared.outcome.Outcome.Outcome, declared.outcome.Outcome.TheVariants.WriteFault, declared.outcome.Outcome.TheVariants.OutOfMemory, Blocks.BlockRule, Blocks.WroteFront, Blocks.WrotePart}

-- why the block of a line was not written whole
abbrev pub IsBlockOutcome : SinkMeaning → SinkMeaning → (List ℕ → Type 0) → Outcome → Type 0
IsBlockOutcome before after IsRight WriteFault = Rose before.faults after.faults × WrotePart before after IsRight
IsBlockOutcome before after IsRight OutOfMemory = Stays before after
IsBlockOutcome before after IsRight _ = ⊥

-- why the blocks of some lines were not all written
abbrev pub IsBlocksOutcome : SinkMeaning → SinkMeaning → BlockRule → List (List ℕ) → Outcome → Type 0
IsBlocksOutcome before after IsBlock lines WriteFault = Rose before.faults after.faults × WroteFront before after IsBlock lines
IsBlocksOutcome before after IsBlock lines OutOfMemory = WroteFront before after IsBlock lines
IsBlocksOutcome before after IsBlock lines _ = ⊥
