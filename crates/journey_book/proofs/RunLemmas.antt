-- What the steps of a run answer, put together to what the run says.
use Rattle.plan_base.proofs.Common.{ℕ, Bool, true, false, List, take, Option, Some, None, Ok, Err, refl, Result, ⊤, IfErr, IfSome, OnOk}
use Rattle.plan_base.specs.{Appended}
use Rattle.run_steps.specs.{Outcome, Done, WriteFault, IsTextOutcome, Scene.Scene}
use Rattle.journey_book.specs.{Book, KeeperMeaning, IsKeepFault, BookStays, Tells, IsReport, IsReported, ReportRule, end_by, IsUntouched, Changes, ThenDone, BookWrites, ended_by, outcome_of_keeper, KeepFault as KeepCause, BookOutcome, Common}
use Rattle.journey_book.specs.declared.keeper.KeepFault.TheVariants as keep_cause

module _ (old new : Scene KeeperMeaning) (same : IsUntouched old new) where
  -- the keeper refused a change
  pub change_fails : (P : Book → Type 0) (change : Book → Book) (fault : KeepCause) → IsKeepFault old.more new.more fault → Changes P change old new (outcome_of_keeper fault)
  change_fails P change keep_cause.Failed rose = (rose, same)
  change_fails P change keep_cause.OutOfMemory none = same

  -- the keeper refused to tell what was to be written
  pub telling_fails : (IsText : List ℕ → BookOutcome → Type 0) (fault : KeepCause) → IsKeepFault old.more new.more fault → BookWrites IsText old new (outcome_of_keeper fault)
  telling_fails IsText keep_cause.Failed rose = (rose, same)
  telling_fails IsText keep_cause.OutOfMemory none = same

module _ (old new : Scene KeeperMeaning) (stays : BookStays old.more new.more) where
  -- the text was not written whole
  text_fails : (IsText : List ℕ → BookOutcome → Type 0) (text : List ℕ) (end : BookOutcome) → IsText text end → (outcome : Outcome) → IsTextOutcome old.out new.out text outcome
      → BookWrites IsText old new (Common outcome)
  text_fails IsText text end is WriteFault (rose, part) = (rose, record { out = take part.count text; is = (text, end, part.count, is, refl); appended = part.front }, stays)
  text_fails IsText text end is outcome none = absurd none

  -- the text was written, or was not
  pub text_written : (P : List ℕ → Type 0) (text : List ℕ) → P text → (r : Result ⊤ Outcome) → OnOk r (Appended old.out new.out text)
      → IfErr r (IsTextOutcome old.out new.out text) → BookWrites (ThenDone P) old new (ended_by r (Common Done))
  text_written P text is (Ok done) appended none = (record { out = text; is = (is, refl); appended = appended }, stays)
  text_written P text is (Err outcome) none why = text_fails (ThenDone P) text (Common Done) (is, refl) outcome why

  report_done : (IsText : List ℕ → BookOutcome → Type 0) (text : List ℕ) (fail well : Bool) → IsText text (end_by fail well) → Appended old.out new.out text → BookWrites IsText old new (end_by fail well)
  report_done IsText text true false is appended = (record { out = text; is = is; appended = appended }, stays)
  report_done IsText text true true is appended = (record { out = text; is = is; appended = appended }, stays)
  report_done IsText text false true is appended = (record { out = text; is = is; appended = appended }, stays)
  report_done IsText text false false is appended = (record { out = text; is = is; appended = appended }, stays)

  -- the report was written, or was not
  pub report_written : (rule : ReportRule) (keeper : KeeperMeaning) (text : List ℕ) (fail well : Bool) → IsReport rule keeper text well → (r : Result ⊤ Outcome)
      → OnOk r (Appended old.out new.out text) → IfErr r (IsTextOutcome old.out new.out text) → BookWrites (IsReported rule fail keeper) old new (ended_by r (end_by fail well))
  report_written rule keeper text fail well is (Ok done) appended none = report_done (IsReported rule fail keeper) text fail well (well, is, refl) appended
  report_written rule keeper text fail well is (Err outcome) none why = text_fails (IsReported rule fail keeper) text (end_by fail well) (well, is, refl) outcome why

-- of a keeper that tells nothing is asked
pub tells_all : (keeper : KeeperMeaning) → Tells keeper (λ book. Unit {0})
tells_all keeper = on keeper.book
  where
    on : (b : Option Book) → IfSome b (λ book. Unit {0})
    on None = tt
    on (Some book) = tt
