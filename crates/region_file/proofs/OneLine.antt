-- One line more of a region text, for the loop that reads it.
use Rattle.plan_base.proofs.Common.{◌≡◌, ℕ, List, length, refl, ap, ◌∙◌, ◌<◌, ◌+◌, true, false, arith, nat_tests, Some, None, Ok, Err, ◌==◌}
use Rattle.plain_texts.specs.{Course.Course, whole, bad, trailing, onto, lines_from, pieces, next_line_of}
use Rattle.plain_texts.proofs.Course.{course_no_line, course_bad_line, course_good_line, course_last_line, course_more_lines}
use Rattle.mode_network.specs.NetworkLists.{NetworkLists}
use Rattle.region_file.specs.{BadRecord, Trailing, Line, Progress, is_end, line_at, put, put_all}

pub is_some : (text : List ℕ) → (length text == 0) ≡ false → 0 < length text
is_some text e = grind (arith, nat_tests)

module _ (n : NetworkLists) (place : Progress) (at : ℕ) (text : List ℕ) where
  pub no_line : next_line_of text ≡ None → put_all n (lines_from line_at is_end place at (pieces text)) ≡ Err (BadRecord at)
  no_line e = ap (put_all n) (course_no_line line_at is_end place at text e)

  pub bad_line : (line rest : List ℕ) → next_line_of text ≡ Some (line, rest) → line_at place line ≡ None → put_all n (lines_from line_at is_end place at (pieces text)) ≡ Err (BadRecord at)
  bad_line line rest e unread = ap (put_all n) (course_bad_line line_at is_end place at text line rest e unread)

  pub last_line : (line rest : List ℕ) (l : Line) (next : Progress) → next_line_of text ≡ Some (line, rest) → line_at place line ≡ Some (l, next) → is_end next ≡ true → length rest ≡ 0 → put_all n (lines_from line_at is_end place at (pieces text)) ≡ Ok (put n l)
  last_line line rest l next e read last none = ap (put_all n) (course_last_line line_at is_end place at text line rest l next e read last none)

  pub more_lines : (line rest : List ℕ) (l : Line) (next : Progress) → next_line_of text ≡ Some (line, rest) → line_at place line ≡ Some (l, next) → is_end next ≡ true → 0 < length rest → put_all n (lines_from line_at is_end place at (pieces text)) ≡ Err (Trailing (at + 1))
  more_lines line rest l next e read last some = ap (put_all n) (course_more_lines line_at is_end place at text line rest l next e read last some)

  put_onto : (l : Line) (c : Course Line) → put_all n (onto l c) ≡ put_all (put n l) c
  put_onto l (whole ls) = refl
  put_onto l (bad k) = refl
  put_onto l (trailing k) = refl

  pub good_line : (line rest : List ℕ) (l : Line) (next : Progress) → next_line_of text ≡ Some (line, rest) → line_at place line ≡ Some (l, next) → is_end next ≡ false → put_all n (lines_from line_at is_end place at (pieces text)) ≡ put_all (put n l) (lines_from line_at is_end next (at + 1) (pieces rest))
  good_line line rest l next e read going = ap (put_all n) (course_good_line line_at is_end place at text line rest l next e read going) ∙ put_onto l (lines_from line_at is_end next (at + 1) (pieces rest))
