-- What the bytes of a late certificate spell: the laws of the whole.
use Rattle.plan_base.proofs.Common.{◌≡◌, ℕ, List, [], ◌∷◌, ◌++◌, map, refl, ap, sym, ◌∙◌, subst, arith, Option, Some, None, Result, Ok, Err, codes, fold, IfErr, AllByRecursion}
use Rattle.plain_texts.specs.{IsLine, pieces, lines_from}
use Rattle.plain_texts.proofs.{Pieces.text_of_lines, Spaced.spaced_is_line, Spaced.word_by_test, Spaced.decimal_is_word}
use Rattle.mode_network.specs.{Route}
use Rattle.certificate.specs.{CertFault, BadLine, Line as UsualLine, label_lines, made_by, Gives, line_at}
use Rattle.certificate.specs.declared.lines.Line.TheVariants as usual
use Rattle.certificate.specs.Lines as usual_lines
use Rattle.certificate.proofs.{FitLemmas.both_parts, FitLemmas.of_both, Making.made_of, Making.read_again, Making.cause_is, Making.gives_cause as gives_cause_by, KindLaws.IsInWords, ReadLaws.pieces_are_lines, ReadLaws.query_is_line, ReadLaws.query_line, ReadLaws.steps_have_times, ReadLaws.labels_have_times, ReadLaws.mapped_in_words, ReadLaws.each_is_line as usual_are_lines}
use Rattle.latest_departure.specs.{LateClaim}
use Rattle.late_certificate.specs.{Line, FitsLine, spelled, due_behind, is_last, FitsLate, FitsLateResult, IsLateText, late_lines, late_text, result_lines, HasCause, late_meaning, late_of, nothing, put}
use Rattle.late_certificate.specs.declared.lines.Line.TheVariants as line
use Rattle.late_certificate.specs.declared.due.Due.TheVariants as due
use Rattle.certificate.specs.declared.due.Due.TheVariants as usual_due
use Rattle.late_certificate.proofs.{SectionLaws.reads_lines, Again.made_again, Again.runs_to_end, Found.late_is, TextLemmas.fit_usual}

-- What the lines say fits the format.
result_fits : (result : Option Route) → AllByRecursion FitsLine (result_lines result) → FitsLateResult result
result_fits None h = tt
result_fits (Some j) h = record { at = h.0; waits = steps_have_times j.steps (fit_usual (map usual.Step j.steps) h.1.1) }

fits : (c : LateClaim) → AllByRecursion FitsLine (late_lines c) → IsLine c.line → FitsLate c
fits c h query =
    let parts = both_parts FitsLine (result_lines c.result) (map line.Usual (label_lines c.labels)) h.1.1 in
    let labels = both_parts usual_lines.FitsLine (map usual.Label c.labels) (usual.End ∷ []) (fit_usual (label_lines c.labels) parts.1).1 in
    record { line = query; result = result_fits c.result parts.0; labels = labels_have_times c.labels labels.0 }

-- What is read is spelled so.
pub found : (bytes : List ℕ) (c : LateClaim) → late_of bytes ≡ Ok c → IsLateText bytes c
unfolding late_of late_text
found bytes c e =
    let (ls, h, makes) = made_of spelled FitsLine due_behind is_last (line_at late_meaning) reads_lines due.Head refl put nothing bytes c e in
    let cert = late_is ls h.place h.runs h.last in
    let made : cert.0 ≡ c = sym (made_again cert.0) ∙ ap (fold put nothing) (sym cert.1) ∙ makes in
    let lines : ls ≡ late_lines c = cert.1 ∙ ap late_lines made in
    let are : pieces bytes ≡ map spelled (late_lines c) ++ [] ∷ [] = h.are ∙ ap (λ x. map spelled x ++ [] ∷ []) lines in
    let each = subst (λ ps. AllByRecursion IsLine ps) are (pieces_are_lines bytes) in
    let all = subst (λ x. AllByRecursion FitsLine x) lines h.fits in
    record { fits = fits c all (query_is_line c.line each.1.0); lines = all; spelled = text_of_lines bytes (map spelled (late_lines c)) are }

-- all lines but the query line are words
usual_lines_are : (ls : List UsualLine) → AllByRecursion IsInWords ls → AllByRecursion FitsLine (map line.Usual ls) → AllByRecursion IsLine (map spelled (map line.Usual ls))
usual_lines_are [] in_words h = tt
usual_lines_are (l ∷ ls) in_words h = ((usual_are_lines (l ∷ []) (in_words.0, tt) (h.0, tt)).0, usual_lines_are ls in_words.1 h.1)

head_is_line : IsLine (spelled line.Head)
head_is_line = spaced_is_line _ (word_by_test (codes "modeplan") refl, (word_by_test (codes "late") refl, (word_by_test (codes "1") refl, tt)))

depart_is_line : (at : ℕ) → usual_lines.IsTime at → IsLine (spelled (line.Depart at))
depart_is_line at h = spaced_is_line _ (word_by_test (codes "depart") refl, (decimal_is_word at (omega (arith, h)), tt))

each_of_both : (xs ys : List Line) → AllByRecursion IsLine (map spelled xs) → AllByRecursion IsLine (map spelled ys) → AllByRecursion IsLine (map spelled (xs ++ ys))
each_of_both [] ys h k = k
each_of_both (x ∷ xs) ys h k = (h.0, each_of_both xs ys h.1 k)

result_are_lines : (result : Option Route) → AllByRecursion FitsLine (result_lines result) → AllByRecursion IsLine (map spelled (result_lines result))
result_are_lines None h = usual_lines_are (usual.Nothing ∷ []) (tt, tt) h
result_are_lines (Some j) h =
    (depart_is_line j.at h.0, usual_lines_are (usual.Start j.start j.at ∷ map usual.Step j.steps) (tt, mapped_in_words usual.Step (λ step. tt) j.steps) h.1)

all_lines : (c : LateClaim) → IsLine c.line → AllByRecursion FitsLine (late_lines c) → AllByRecursion IsLine (map spelled (late_lines c))
all_lines c query h =
    let parts = both_parts FitsLine (result_lines c.result) (map line.Usual (label_lines c.labels)) h.1.1 in
    let in_words : AllByRecursion IsInWords (label_lines c.labels) = (tt, of_both IsInWords (map usual.Label c.labels) (usual.End ∷ []) (mapped_in_words usual.Label (λ label. tt) c.labels) (tt, tt)) in (
      head_is_line,
      (
        query_line c.line query,
        each_of_both (result_lines c.result) (map line.Usual (label_lines c.labels)) (result_are_lines c.result parts.0)
            (usual_lines_are (label_lines c.labels) in_words parts.1),
      ),
    )

-- What is spelled so is read.
pub again : (bytes : List ℕ) (c : LateClaim) → IsLateText bytes c → late_of bytes ≡ Ok c
unfolding late_of late_text
again bytes c h =
    ap (λ x. made_by put nothing (lines_from (line_at late_meaning) is_last due.Head 1 (pieces x))) h.spelled
    ∙ read_again spelled FitsLine due_behind is_last (line_at late_meaning) reads_lines due.Head refl put nothing (late_lines c) (due.Usual usual_due.Nothing) (runs_to_end c) refl h.lines (all_lines c h.fits.line h.lines)
    ∙ ap Ok (made_again c)

-- Each refusal has its cause.
pub gives_cause : (bytes : List ℕ) (r : Result LateClaim CertFault) → Gives r (late_of bytes) → IfErr r (HasCause bytes)
unfolding late_of
gives_cause = gives_cause_by spelled FitsLine due_behind is_last (line_at late_meaning) reads_lines due.Head refl put nothing

-- a line that is the first which may not stand is named
pub bad_line_is : (bytes : List ℕ) (line : ℕ) → HasCause bytes (BadLine line) → late_of bytes ≡ Err (BadLine line)
unfolding late_of
bad_line_is = cause_is spelled FitsLine due_behind is_last (line_at late_meaning) reads_lines due.Head refl put nothing
