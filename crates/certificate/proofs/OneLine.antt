-- One line more of a text, for the loop that reads it.
use Rattle.plan_base.proofs.Common.{◌≡◌, ℕ, List, length, refl, ap, ◌∙◌, ◌<◌, ◌+◌, Bool, Option, true, false, arith, nat_tests, Some, None, Ok, Err, ◌==◌}
use Rattle.plain_texts.specs.{Course.Course, whole, bad, trailing, onto, lines_from, pieces, next_line_of}
use Rattle.plain_texts.proofs.Course.{course_no_line, course_bad_line, course_good_line, course_last_line, course_more_lines}
use Rattle.certificate.specs.{BadLine, made_by}

pub is_some : (text : List ℕ) → (length text == 0) ≡ false → 0 < length text
is_some text e = grind (arith, nat_tests)

module _ {L P M : Type 0} (put : M → L → M) (line_at : P → List ℕ → Option (L × P)) (is_last : P → Bool) (m : M) (place : P) (at : ℕ) (text : List ℕ) where
  pub no_line : next_line_of text ≡ None → made_by put m (lines_from line_at is_last place at (pieces text)) ≡ Err (BadLine at)
  no_line e = ap (made_by put m) (course_no_line line_at is_last place at text e)

  pub bad_line : (line rest : List ℕ) → next_line_of text ≡ Some (line, rest) → line_at place line ≡ None → made_by put m (lines_from line_at is_last place at (pieces text)) ≡ Err (BadLine at)
  bad_line line rest e unread = ap (made_by put m) (course_bad_line line_at is_last place at text line rest e unread)

  pub last_line : (line rest : List ℕ) (l : L) (next : P) → next_line_of text ≡ Some (line, rest) → line_at place line ≡ Some (l, next) → is_last next ≡ true → length rest ≡ 0
      → made_by put m (lines_from line_at is_last place at (pieces text)) ≡ Ok (put m l)
  last_line line rest l next e read last none = ap (made_by put m) (course_last_line line_at is_last place at text line rest l next e read last none)

  pub more_lines : (line rest : List ℕ) (l : L) (next : P) → next_line_of text ≡ Some (line, rest) → line_at place line ≡ Some (l, next) → is_last next ≡ true → 0 < length rest
      → made_by put m (lines_from line_at is_last place at (pieces text)) ≡ Err (BadLine (at + 1))
  more_lines line rest l next e read last some = ap (made_by put m) (course_more_lines line_at is_last place at text line rest l next e read last some)

  put_onto : (l : L) (course : Course L) → made_by put m (onto l course) ≡ made_by put (put m l) course
  put_onto l (whole ls) = refl
  put_onto l (bad k) = refl
  put_onto l (trailing k) = refl

  pub good_line : (line rest : List ℕ) (l : L) (next : P) → next_line_of text ≡ Some (line, rest) → line_at place line ≡ Some (l, next) → is_last next ≡ false
      → made_by put m (lines_from line_at is_last place at (pieces text)) ≡ made_by put (put m l) (lines_from line_at is_last next (at + 1) (pieces rest))
  good_line line rest l next e read going =
      ap (made_by put m) (course_good_line line_at is_last place at text line rest l next e read going) ∙ put_onto l (lines_from line_at is_last next (at + 1) (pieces rest))
