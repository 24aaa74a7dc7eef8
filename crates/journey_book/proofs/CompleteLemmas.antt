-- A run whose files are there and without fault ends with its work done, unless nothing is kept under the name: each other outcome
-- has a cause that is not there.
use Rattle.plan_base.proofs.Common.{◌≡◌, ℕ, inl, inr, List, Option, Some, subst, sym, IsSome}
use Rattle.plan_base.specs.{Rose, ShelfMeaning, Stays, Caps}
use Rattle.mode_network.specs.NetworkLists.{NetworkLists}
use Rattle.hierarchy.specs.{HierarchyLists}
use Rattle.hierarchy_commands.specs.{OnHierarchyIfNamed}
use Rattle.hierarchy_commands.proofs.CompleteLemmas.{named_completes}
use Rattle.run_steps.specs.{Outcome, Done, WriteFault, OutOfMemory, SaysVerified, Files, Completes, IsDoneOrMemory, OnRegion, scene as shown, with_shelf, WritesText, Scene.Scene}
use Rattle.run_steps.proofs.{CertificateOutcomes.certificate_fails, CompleteSteps.file_completes, CompleteSteps.network_completes, CompleteSteps.writes_completes}
use Rattle.answer_commands.specs.{CanVerify, best_certificates, HasBoth, IsBothOutcome}
use Rattle.answer_commands.proofs.{BothLemmas.both_fail, BothLemmas.on_both, CompleteLemmas.verify_completes}
use Rattle.journey_book.specs.{Book, dropped, kept, book_says, AreHeld, CanBeDoneByBook, IsDoneOrAbsent, KeeperMeaning, Tells, IsListing, IsReported, report_rule, BookRequest, keep, drop, list, show, report, Changes, EndsBy, IsCertificateOutcome, OnBoth, ThenDone, BookWrites, BookOutcome, Common, Absent, NotWell, declared.outcome.BookOutcome.TheVariants.KeepFault}

-- no count of faults rose
pub record IsQuiet (old new : Scene KeeperMeaning) : Type 0 where
  pub shelf : Rose old.shelf.faults new.shelf.faults → ⊥
  pub keeper : Rose old.more.faults new.more.faults → ⊥
  pub out : Rose old.out.faults new.out.faults → ⊥

changes_complete : (P : Book → Type 0) (change : Book → Book) (old new : Scene KeeperMeaning) (outcome : BookOutcome) → (Rose old.more.faults new.more.faults → ⊥) → Changes P change old new outcome → IsDoneOrAbsent outcome
changes_complete P change old new (Common Done) quiet is = tt
changes_complete P change old new (Common OutOfMemory) quiet is = tt
changes_complete P change old new KeepFault quiet (rose, same) = absurd (quiet rose)
changes_complete P change old new outcome quiet none = absurd none

writes_complete : (IsText : List ℕ → BookOutcome → Type 0) (old new : Scene KeeperMeaning) (outcome : BookOutcome) → (Rose old.more.faults new.more.faults → ⊥) → (Rose old.out.faults new.out.faults → ⊥)
    → BookWrites IsText old new outcome → IsDoneOrAbsent outcome
writes_complete IsText old new (Common Done) quiet calm is = tt
writes_complete IsText old new NotWell quiet calm is = tt
writes_complete IsText old new (Common OutOfMemory) quiet calm is = tt
writes_complete IsText old new (Common WriteFault) quiet calm (rose, front, stays) = absurd (calm rose)
writes_complete IsText old new KeepFault quiet calm (rose, same) = absurd (quiet rose)
writes_complete IsText old new outcome quiet calm none = absurd none

absent_completes : (outcome : BookOutcome) → outcome ≡ Absent → IsDoneOrAbsent outcome
absent_completes outcome is = subst IsDoneOrAbsent (sym is) tt

-- it ends as a run of the planner does that is as complete
by_completes : (IsCause : Outcome → Type 0) (old new : Scene KeeperMeaning) (outcome : BookOutcome) → ((common : Outcome) → IsCause common → Stays old.out new.out → IsDoneOrMemory common)
    → EndsBy IsCause old new outcome → IsDoneOrAbsent outcome
by_completes IsCause old new (Common common) complete (why, same) = complete common why same.0
by_completes IsCause old new outcome complete none = absurd none

-- a region that is held, and a hierarchy, if one is named, are read
reads : (caps : Caps) (files : Files) (region : List ℕ) (named : Option (List ℕ))
    → Completes files (AreHeld caps files region named) (OnRegion caps region (λ n. OnHierarchyIfNamed n named (λ h. WritesText (λ text. Unit {0}))))
reads caps files region named =
    file_completes files _ region _ _ (network_completes files caps _ _ (λ n rules. named_completes files n named _ _ (λ h sound. writes_completes files _ _)))

module _ (caps : Caps) (files : Files) (old new : Scene KeeperMeaning) (tells : old.shelf.files ≡ Some files) (quiet : IsQuiet old new) where
  both_complete : (region : List ℕ) (named : Option (List ℕ)) → AreHeld caps files region named
      → (common : Outcome) → IsBothOutcome caps old.shelf new.shelf region named common → Stays old.out new.out → IsDoneOrMemory common
  both_complete region named held common why same =
      reads caps files region named held (shown old.shelf old.out) (shown new.shelf new.out) common tells (record { shelf = quiet.shelf; out = quiet.out })
      (both_fail (λ n h. WritesText (λ text. Unit {0})) why same)

  report_completes : (region : List ℕ) (named : Option (List ℕ)) (IsText : NetworkLists → Option HierarchyLists → List ℕ → BookOutcome → Type 0) → AreHeld caps files region named
      → (outcome : BookOutcome) → OnBoth caps region named (λ n h. BookWrites (IsText n h)) old new outcome → IsDoneOrAbsent outcome
  report_completes region named IsText held outcome (inl ends) = by_completes (IsBothOutcome caps old.shelf new.shelf region named) old new outcome (both_complete region named held) ends
  report_completes region named IsText held outcome (inr (n, h, mid, both, wrote)) = writes_complete (IsText n h) (with_shelf old mid) new outcome quiet.keeper quiet.out wrote

  -- a certificate that is held, and is valid, is kept
  module _ (region certificate : List ℕ) (named : Option (List ℕ)) (held : CanVerify caps files region certificate named) where
    region_completes : (common : Outcome) → IsBothOutcome caps old.shelf new.shelf region named common → Stays old.out new.out → IsDoneOrMemory common
    region_completes common why same =
        verify_completes caps files region certificate named held (shown old.shelf old.out) (shown new.shelf new.out) common tells (record { shelf = quiet.shelf; out = quiet.out })
        (both_fail (λ n h. SaysVerified (best_certificates n h) certificate) why same)

    certificate_completes : (n : NetworkLists) (h : Option HierarchyLists) (mid : ShelfMeaning) → HasBoth caps old.shelf mid region named n h
        → (common : Outcome) → IsCertificateOutcome n h mid new.shelf certificate common → Stays old.out new.out → IsDoneOrMemory common
    certificate_completes n h mid both common why same =
        verify_completes caps files region certificate named held (shown old.shelf old.out) (shown new.shelf new.out) common tells (record { shelf = quiet.shelf; out = quiet.out })
        (on_both (λ n h. SaysVerified (best_certificates n h) certificate) both (unverified n h mid common same why))
      where
        unverified : (n : NetworkLists) (h : Option HierarchyLists) (mid : ShelfMeaning) (common : Outcome) → Stays old.out new.out → IsCertificateOutcome n h mid new.shelf certificate common
            → SaysVerified (best_certificates n h) certificate (shown mid old.out) (shown new.shelf new.out) common
        unverified n h mid common same (inl unread) = inl (unread, same)
        unverified n h mid common same (inr has) =
            certificate_fails (best_certificates n h) mid new.shelf old.out new.out certificate has.bytes has.file has.later common has.fails same

    keep_completes : (name : List ℕ) (outcome : BookOutcome) → book_says caps (keep name region certificate named) old new outcome → IsDoneOrAbsent outcome
    keep_completes name outcome (inl ends) = by_completes (IsBothOutcome caps old.shelf new.shelf region named) old new outcome region_completes ends
    keep_completes name outcome (inr (n, h, mid, both, inl ends)) =
        by_completes (IsCertificateOutcome n h mid new.shelf certificate) (with_shelf old mid) new outcome (certificate_completes n h mid both) ends
    keep_completes name outcome (inr (n, h, mid, both, inr (bytes, then, has, changed))) = changes_complete (λ book. Unit {0}) (kept name bytes) (with_shelf old then) new outcome quiet.keeper changed

  -- what can be done is done
  pub completes : (r : BookRequest) → CanBeDoneByBook caps files r → (outcome : BookOutcome) → book_says caps r old new outcome → IsDoneOrAbsent outcome
  completes (keep name region certificate hierarchy) can outcome said = keep_completes region certificate hierarchy can name outcome said
  completes (report kind region hierarchy fail) can outcome said = report_completes region hierarchy (λ n h. IsReported (report_rule kind n h) fail old.more) can outcome said
  completes (drop name) can outcome (inl (none, ends)) = absent_completes outcome ends.0
  completes (drop name) can outcome (inr changed) = changes_complete (λ book. IsSome (book name)) (dropped name) old new outcome quiet.keeper changed
  completes list can outcome said = writes_complete (ThenDone (IsListing old.more)) old new outcome quiet.keeper quiet.out said
  completes (show name) can outcome (inl (none, ends)) = absent_completes outcome ends.0
  completes (show name) can outcome (inr written) = writes_complete (ThenDone (λ text. Tells old.more (λ book. book name ≡ Some text))) old new outcome quiet.keeper quiet.out written
