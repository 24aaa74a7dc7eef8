-- What the steps of a run answer.
use Rattle.std.specs.Prelude.{ℕ, ◌≤◌, ⊤, None, Result, Err, Ok}
use Rattle.run_steps.specs.{Outcome, OutOfMemory}
use Rattle.journey_book.specs.{Keepers.IsKeepFault, declared.keeper.KeepFault.KeepFault as KeepCause, declared.outcome.BookOutcome.BookOutcome, declared.outcome.BookOutcome.TheVariants.Common, declared.outcome.BookOutcome.TheVariants.KeepFault}
use Rattle.journey_book.specs.declared.keeper.KeepFault.TheVariants as keep_cause

-- how a run ends where the keeper refuses a call
abbrev pub outcome_of_keeper : KeepCause → BookOutcome
outcome_of_keeper keep_cause.Failed = KeepFault
outcome_of_keeper keep_cause.OutOfMemory = Common OutOfMemory

-- how a run ends with its last text, which was written, or was not
abbrev pub ended_by : Result ⊤ Outcome → BookOutcome → BookOutcome
ended_by (Ok _) end = end
ended_by (Err outcome) end = Common outcome

-- a refusal of the database was counted, unless memory ran out
pub record IsCountedRefusal (before after : ℕ) (fault : KeepCause) : Type 0 where
  pub later : before ≤ after
  pub cause : IsKeepFault (record { book = None; faults = before }) (record { book = None; faults = after }) fault
