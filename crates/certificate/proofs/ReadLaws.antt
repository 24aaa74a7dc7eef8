-- What the bytes of a certificate spell: the laws of the whole.
use Rattle.plan_base.proofs.Common.{◌≡◌, ℕ, List, [], ◌∷◌, ◌++◌, map, refl, ap, sym, ◌∙◌, subst, Bool, true, false, cond, Option, Some, None, Result, Ok, Err, All, fold, codes, IfErr, AllByRecursion, slice_split, onto_first, All-nil, All-cons, All-append, All-drop}
use Rattle.plain_texts.specs.{IsLine, is_feed, pieces, spaced, lines_from}
use Rattle.plain_texts.proofs.{Pieces.text_of_lines, Spaced.spaced_is_line}
use Rattle.mode_network.specs.{Step, Wait, Link, Stand, Ride, Route, declared.steps.Step.TheVariants.Road}
use Rattle.journey.specs.{HasTime}
use Rattle.certificate.specs.{CertFault, BadLine, Line, Claim, FitsLine, FitsStep, HasLabelTime, spelled, due_behind, is_last, FitsCertificate, FitsResult, IsCertText, cert_lines, cert_text, label_lines, result_lines, HasCause, cert_meaning, cert_of, nothing, put, made_by, Gives, line_at}
use Rattle.product_search.specs.{Label}
use Rattle.certificate.specs.declared.lines.Line.TheVariants as line
use Rattle.certificate.specs.declared.due.Due.TheVariants as due
use Rattle.certificate.proofs.{FitLemmas.both_parts, FitLemmas.of_both, Making.made_of, Making.read_again, Making.cause_is, Making.gives_cause as gives_cause_by, KindLaws.IsInWords, KindLaws.words_are_words, SectionLaws.reads_lines, Again.made_again, Again.runs_to_end, Found.cert_is}

-- No piece of a text has a line feed in it.
pub pieces_are_lines : (text : List ℕ) → AllByRecursion IsLine (pieces text)
unfolding pieces
pieces_are_lines [] = (All-nil (λ b. is_feed b ≡ false), tt)
pieces_are_lines (b ∷ bs) = by_test (is_feed b) refl (slice_split is_feed bs) (pieces_are_lines bs)
  where
    by_test : (t : Bool) → is_feed b ≡ t → (parts : List (List ℕ)) → AllByRecursion IsLine parts → AllByRecursion IsLine (cond t ([] ∷ parts) (onto_first b parts))
    by_test true is parts h = (All-nil (λ b. is_feed b ≡ false), h)
    by_test false is [] h = (All-cons (λ b. is_feed b ≡ false) b [] is (All-nil (λ b. is_feed b ≡ false)), tt)
    by_test false is (part ∷ parts) h = (All-cons (λ b. is_feed b ≡ false) b part is h.0, h.1)

pub query_is_line : (bytes : List ℕ) → IsLine (spelled (line.Query bytes)) → IsLine bytes
unfolding spaced
query_is_line bytes h = All-drop (λ b. is_feed b ≡ false) 6 (codes "query " ++ bytes) h

-- What the lines say fits the format.
step_has_time : (step : Step) → FitsStep step → HasTime step
step_has_time (Wait until) h = h
step_has_time (Road to) h = tt
step_has_time (Link to) h = tt
step_has_time Stand h = tt
step_has_time (Ride trip day board alight) h = tt

pub steps_have_times : (steps : List Step) → AllByRecursion FitsLine (map line.Step steps) → All HasTime steps
steps_have_times [] h = All-nil HasTime
steps_have_times (step ∷ steps) h = All-cons HasTime step steps (step_has_time step h.0) (steps_have_times steps h.1)

pub labels_have_times : (labels : List Label) → AllByRecursion FitsLine (map line.Label labels) → All HasLabelTime labels
labels_have_times [] h = All-nil HasLabelTime
labels_have_times (label ∷ labels) h = All-cons HasLabelTime label labels h.0.at (labels_have_times labels h.1)

result_fits : (result : Option (ℕ × Route)) → AllByRecursion FitsLine (result_lines result) → FitsResult result
result_fits None h = tt
result_fits (Some answer) h = (h.0, record { at = h.1.0.1; waits = steps_have_times answer.1.steps h.1.1 })

fits : (c : Claim) → AllByRecursion FitsLine (cert_lines c) → IsLine c.line → FitsCertificate c
fits c h query =
    let parts = both_parts FitsLine (result_lines c.result) (label_lines c.labels) h.1.1.1 in
    let labels = both_parts FitsLine (map line.Label c.labels) (line.End ∷ []) parts.1.1 in
    record { line = query; result = result_fits c.result parts.0; labels = labels_have_times c.labels labels.0 }

-- What is read is spelled so.
pub found : (bytes : List ℕ) (c : Claim) → cert_of bytes ≡ Ok c → IsCertText bytes c
unfolding cert_of cert_text
found bytes c e =
    let (ls, h, makes) = made_of spelled FitsLine due_behind is_last (line_at cert_meaning) reads_lines due.Head refl put nothing bytes c e in
    let cert = cert_is ls h.place h.runs h.last in
    let made : cert.0 ≡ c = sym (made_again cert.0) ∙ ap (fold put nothing) (sym cert.1) ∙ makes in
    let lines : ls ≡ cert_lines c = cert.1 ∙ ap cert_lines made in
    let are : pieces bytes ≡ map spelled (cert_lines c) ++ [] ∷ [] = h.are ∙ ap (λ x. map spelled x ++ [] ∷ []) lines in
    let each = subst (λ ps. AllByRecursion IsLine ps) are (pieces_are_lines bytes) in
    let all = subst (λ x. AllByRecursion FitsLine x) lines h.fits in
    record { fits = fits c all (query_is_line c.line each.1.0); lines = all; spelled = text_of_lines bytes (map spelled (cert_lines c)) are }

-- all lines but the query line are words
pub mapped_in_words : {X : Type 0} (f : X → Line) → ((x : X) → IsInWords (f x)) → (xs : List X) → AllByRecursion IsInWords (map f xs)
mapped_in_words f h [] = tt
mapped_in_words f h (x ∷ xs) = (h x, mapped_in_words f h xs)

result_in_words : (result : Option (ℕ × Route)) → AllByRecursion IsInWords (result_lines result)
result_in_words None = (tt, tt)
result_in_words (Some answer) = (tt, (tt, mapped_in_words line.Step (λ step. tt) answer.1.steps))

pub each_is_line : (ls : List Line) → AllByRecursion IsInWords ls → AllByRecursion FitsLine ls → AllByRecursion IsLine (map spelled ls)
each_is_line [] in_words h = tt
each_is_line (l ∷ ls) in_words h = (spaced_is_line _ (words_are_words l in_words.0 h.0), each_is_line ls in_words.1 h.1)

pub query_line : (bytes : List ℕ) → IsLine bytes → IsLine (spelled (line.Query bytes))
unfolding spaced pieces
query_line bytes h = All-append (λ b. is_feed b ≡ false) (codes "query ") bytes (pieces_are_lines (codes "query ")).0 h

all_lines : (c : Claim) → IsLine c.line → AllByRecursion FitsLine (cert_lines c) → AllByRecursion IsLine (map spelled (cert_lines c))
all_lines c query h =
    let in_words = of_both IsInWords (result_lines c.result) (label_lines c.labels) (result_in_words c.result) (tt, of_both IsInWords (map line.Label c.labels) (line.End ∷ []) (mapped_in_words line.Label (λ label. tt) c.labels) (tt, tt)) in
    (spaced_is_line _ (words_are_words line.Head tt tt), (query_line c.line query, (spaced_is_line _ (words_are_words (line.Graph c.phases) tt tt), each_is_line (result_lines c.result ++ label_lines c.labels) in_words h.1.1.1)))

-- What is spelled so is read.
pub again : (bytes : List ℕ) (c : Claim) → IsCertText bytes c → cert_of bytes ≡ Ok c
unfolding cert_of cert_text
again bytes c h =
    ap (λ x. made_by put nothing (lines_from (line_at cert_meaning) is_last due.Head 1 (pieces x))) h.spelled
    ∙ read_again spelled FitsLine due_behind is_last (line_at cert_meaning) reads_lines due.Head refl put nothing (cert_lines c) due.Nothing (runs_to_end c) refl h.lines (all_lines c h.fits.line h.lines)
    ∙ ap Ok (made_again c)

-- Each refusal has its cause.
pub gives_cause : (bytes : List ℕ) (r : Result Claim CertFault) → Gives r (cert_of bytes) → IfErr r (HasCause bytes)
unfolding cert_of
gives_cause = gives_cause_by spelled FitsLine due_behind is_last (line_at cert_meaning) reads_lines due.Head refl put nothing

-- a line that is the first which may not stand is named
pub bad_line_is : (bytes : List ℕ) (line : ℕ) → HasCause bytes (BadLine line) → cert_of bytes ≡ Err (BadLine line)
unfolding cert_of
bad_line_is = cause_is spelled FitsLine due_behind is_last (line_at cert_meaning) reads_lines due.Head refl put nothing
