-- The laws of what the lines of a text make, for every kind of certificates.
use Rattle.plan_base.proofs.Common.{◌≡◌, ℕ, List, map, refl, ap, subst, ◌∙◌, Bool, true, false, Option, inl, inr, Some, Result, Ok, Err, fold, IfOk, IfErr, AllByRecursion}
use Rattle.plain_texts.specs.{IsLine, pieces, lines_text, whole, bad, trailing, lines_from, run_on, IsWhole, Course.Course}
use Rattle.plain_texts.proofs.{Pieces.pieces_lines, Course.ReadsLines, Course.has_pieces, Course.course_takes, Course.course_bad, Course.course_bad_is, Course.course_trailing, Course.course_trailing_is, Course.course_again}
use Rattle.certificate.specs.{CertFault, BadLine, OutOfMemory, made_by, Gives, IsCause}

pub same_Ok : {A E : Type 0} (x y : A) → ◌≡◌ {A = Result A E} (Ok x) (Ok y) → x ≡ y
same_Ok x y e = cc

-- what is read has what all that is spelled so has, and what is spelled so is read
pub gives_found : {M : Type 0} (P : M → Type 0) (defined : Result M CertFault) → ((m : M) → defined ≡ Ok m → P m) → (r : Result M CertFault) → Gives r defined → IfOk r P
gives_found P defined found (Ok m) e = found m e
gives_found P defined found (Err fault) e = tt

pub gives_only : {M : Type 0} (defined : Result M CertFault) (r : Result M CertFault) → Gives r defined → (m : M) → defined ≡ Ok m → Gives r (Ok m)
gives_only defined r e m is = subst (λ x. Gives r x) is e

module _ {L P M : Type 0} (spell : L → List ℕ) (Fits : L → Type 0) (after : P → L → Option P) (is_last : P → Bool) (line_at : P → List ℕ → Option (L × P))
    (reads : ReadsLines spell Fits after is_last line_at) (first : P) (going : is_last first ≡ false) (put : M → L → M) (nothing : M) where
  -- what bytes make
  abbrev pub read_as : List ℕ → Result M CertFault
  read_as bytes = made_by put nothing (lines_from line_at is_last first 1 (pieces bytes))

  -- what is made is made of the lines that the bytes are
  pub made_of : (bytes : List ℕ) (m : M) → read_as bytes ≡ Ok m → (ls : List L) × IsWhole spell Fits after is_last first (pieces bytes) ls × (fold put nothing ls ≡ m)
  made_of bytes m e = by_course (lines_from line_at is_last first 1 (pieces bytes)) refl e
    where
      by_course : (course : Course L) → lines_from line_at is_last first 1 (pieces bytes) ≡ course → made_by put nothing course ≡ Ok m
          → (ls : List L) × IsWhole spell Fits after is_last first (pieces bytes) ls × (fold put nothing ls ≡ m)
      by_course (whole ls) is e = (ls, course_takes spell Fits after is_last line_at reads (pieces bytes) first 1 ls is, same_Ok (fold put nothing ls) m e)
      by_course (bad k) is e = absurd (cc)
      by_course (trailing k) is e = absurd (cc)

  -- lines that may stand where they do, and are spelled, make what they say
  pub read_again : (ls : List L) (end : P) → run_on after (Some first) ls ≡ Some end → is_last end ≡ true → AllByRecursion Fits ls → AllByRecursion IsLine (map spell ls)
      → read_as (lines_text (map spell ls)) ≡ Ok (fold put nothing ls)
  read_again ls end runs last fits each =
      ap (λ x. made_by put nothing (lines_from line_at is_last first 1 x)) (pieces_lines (map spell ls) each)
      ∙ ap (made_by put nothing) (course_again spell Fits after is_last line_at reads ls first end 1 going runs last fits)

  -- The line that is named is the first that may not stand, or that of the bytes behind the end.
  cause : (bytes : List ℕ) (k : ℕ) → read_as bytes ≡ Err (BadLine k) → IsCause spell Fits after is_last first bytes (BadLine k)
  cause bytes k e = by_course (lines_from line_at is_last first 1 (pieces bytes)) refl e
    where
      by_course : (course : Course L) → lines_from line_at is_last first 1 (pieces bytes) ≡ course → made_by put nothing course ≡ Err (BadLine k)
          → IsCause spell Fits after is_last first bytes (BadLine k)
      by_course (whole ls) is e = absurd (cc)
      by_course (bad n) is e =
          let same : n ≡ k = cc e in
          inl (course_bad spell Fits after is_last line_at reads (pieces bytes) first 1 k going (has_pieces bytes) (is ∙ ap bad same))
      by_course (trailing n) is e =
          let same : n ≡ k = cc e in
          inr (course_trailing spell Fits after is_last line_at reads (pieces bytes) first 1 k (is ∙ ap trailing same))

  pub gives_cause : (bytes : List ℕ) (r : Result M CertFault) → Gives r (read_as bytes) → IfErr r (IsCause spell Fits after is_last first bytes)
  gives_cause bytes (Ok m) e = tt
  gives_cause bytes (Err (BadLine k)) e = cause bytes k e
  gives_cause bytes (Err OutOfMemory) e = tt

  -- and it is named: the cause is that of one line alone
  pub cause_is : (bytes : List ℕ) (k : ℕ) → IsCause spell Fits after is_last first bytes (BadLine k) → read_as bytes ≡ Err (BadLine k)
  cause_is bytes k (inl h) = ap (made_by put nothing) (course_bad_is spell Fits after is_last line_at reads (pieces bytes) first 1 k h)
  cause_is bytes k (inr h) = ap (made_by put nothing) (course_trailing_is spell Fits after is_last line_at reads (pieces bytes) first 1 k going h)
