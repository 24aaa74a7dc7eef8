-- A file that is there, whose lines are not too long, is answered to its end.
use Rattle.plan_base.proofs.Common.{◌≡◌, ℕ, ◌<◌, ◌∙◌, inl, inr, List, [], ◌∷◌, ◌++◌, append_assoc, length, length-append, None, ap, sym, subst, arith, All, unwrap_or, drop-append_seam, All-drop, All-head}
use Rattle.plain_texts.specs.{lines_of, lines_text}
use Rattle.run_steps.specs.{FileRole, Done, Usage, Missing, ReadFault, TooLong, WriteFault, BadRegion, BadFeed, Invalid, BadCertificate, BadHierarchy, Unsound, OutOfMemory, Saying, Ends, BlockRule, AnswersFile, IsEndless, IsReadTo, IsShort, StopsInTurn, most_file_places, Files, AreLinesHeld, Completes, IsDoneOrMemory, InTurn.InTurn}
use Rattle.run_steps.proofs.{CompleteSteps.told_held, Steps.rose_over, LineLemmas.first_long, LineLemmas.lines_before}

-- no line of such a file is too long, and the file is not
not_endless : (bytes : List ℕ) → All IsShort (lines_of bytes) → length bytes < most_file_places → (lines : List (List ℕ)) (rest : List ℕ) → IsReadTo bytes lines rest → IsEndless lines rest → ⊥
not_endless bytes short few lines rest read (inr many) =
    let long = ap length read.text_is in
    omega (arith, many, few, long, length-append (lines_text lines ++ rest) read.more)
not_endless bytes short few lines [] read (inl long) = omega (arith, long)
not_endless bytes short few lines (b ∷ rest) read (inl long) =
    let first = first_long b rest read.more read.is_line in
    let are : lines_of bytes ≡ lines ++ first.0 ∷ first.1 =
    ap lines_of (read.text_is ∙ append_assoc (lines_text lines) (b ∷ rest) read.more)
    ∙ (lines_before lines ((b ∷ rest) ++ read.more) read.are_lines ∙ ap (λ (l : List (List ℕ)). lines ++ l) first.2) in
    let behind = subst (All IsShort) (drop-append_seam lines (first.0 ∷ first.1)) (All-drop IsShort (length lines) (lines ++ first.0 ∷ first.1) (subst (All IsShort) are short)) in
    let head = All-head IsShort first.0 first.1 behind in
    omega (arith, long, first.3, head)

module _ (files : Files) (file : FileRole) (name : List ℕ) (IsBlock : BlockRule) where
  stops_not : Completes files (AreLinesHeld files name) (StopsInTurn file name IsBlock)
  stops_not held old new (Missing other) tells quiet (same, absent, stays) =
      let none = told_held old.shelf files name held.bytes tells held.held (λ h. h ≡ None) absent.1 in
      absurd (cc)
  stops_not held old new (ReadFault other) tells quiet (same, inl rose, wrote) = absurd (quiet.shelf rose)
  stops_not held old new (ReadFault other) tells quiet (same, inr (rose, untold), wrote) = absurd (cc)
  stops_not held old new (TooLong other) tells quiet (same, wrote) =
      let read = told_held old.shelf files name held.bytes tells held.held (λ h. IsReadTo (unwrap_or h []) wrote.lines wrote.read.0) wrote.read.1 in
      absurd (not_endless held.bytes held.short held.counted wrote.lines wrote.read.0 read wrote.read.2)
  stops_not held old new WriteFault tells quiet (rose, wrote) = absurd (quiet.out rose)
  stops_not held old new OutOfMemory tells quiet wrote = tt
  stops_not held old new Done tells quiet none = absurd none
  stops_not held old new Usage tells quiet none = none
  stops_not held old new (BadRegion fault) tells quiet none = none
  stops_not held old new (BadFeed fault) tells quiet none = none
  stops_not held old new (Invalid clause at) tells quiet none = none
  stops_not held old new (BadCertificate line) tells quiet none = none
  stops_not held old new (BadHierarchy fault) tells quiet none = none
  stops_not held old new (Unsound clause at by) tells quiet none = none

  -- it is answered, and then the rest is done
  pub in_turn_completes : (rest : List ℕ → Saying) → ((bytes : List ℕ) → Completes files (Unit {0}) (rest bytes)) → Completes files (AreLinesHeld files name) (InTurn file name IsBlock rest)
  in_turn_completes rest more held old new outcome tells quiet (inl stops) = stops_not held old new outcome tells quiet stops
  in_turn_completes rest more held old new outcome tells quiet (inr (bytes, mid, has, says)) =
      more bytes tt mid new outcome (has.later.files ∙ tells) (record {
        shelf = λ rose. quiet.shelf (rose_over old.shelf.faults mid.shelf.faults new.shelf.faults has.later.faults rose);
        out = λ rose. quiet.out (rose_over old.out.faults mid.out.faults new.out.faults has.faults rose);
      }) says

  pub answers_completes : Completes files (AreLinesHeld files name) (AnswersFile file name IsBlock)
  answers_completes = in_turn_completes (λ bytes. Ends Done) (λ bytes p old new outcome tells quiet ends. subst IsDoneOrMemory (sym ends.0) tt)
