-- The text of a late certificate, part by part.
use Rattle.plan_base.proofs.Common.{◌≡◌, ℕ, List, [], ◌∷◌, ◌++◌, map, refl, ap, sym, ◌∙◌, codes, AllByRecursion, flat_map, append-nil}
use Rattle.plain_texts.specs.{lines_text, spaced, with_feed}
use Rattle.mode_network.specs.{Route}
use Rattle.certificate.specs.{Line as UsualLine, label_lines}
use Rattle.certificate.specs.declared.lines.Line.TheVariants as usual
use Rattle.certificate.specs.Lines as usual_lines
use Rattle.certificate.proofs.TextLemmas.{lines_append, made_alike}
use Rattle.latest_departure.specs.{LateClaim}
use Rattle.late_certificate.specs.declared.lines.Line.TheVariants as line
use Rattle.late_certificate.specs.{FitsLine, spelled, front_lines, late_text, result_lines}

-- lines that any certificate may have are spelled as they are there, and say what they may say there
usual_text : (ls : List UsualLine) → lines_text (map spelled (map line.Usual ls)) ≡ lines_text (map usual_lines.spelled ls)
usual_text [] = refl
usual_text (l ∷ ls) = ap (λ t. with_feed (usual_lines.spelled l) ++ t) (usual_text ls)

pub usual_fit : (ls : List UsualLine) → AllByRecursion usual_lines.FitsLine ls → AllByRecursion FitsLine (map line.Usual ls)
usual_fit [] h = tt
usual_fit (l ∷ ls) h = (h.0, usual_fit ls h.1)

pub fit_usual : (ls : List UsualLine) → AllByRecursion FitsLine (map line.Usual ls) → AllByRecursion usual_lines.FitsLine ls
fit_usual [] h = tt
fit_usual (l ∷ ls) h = (h.0, fit_usual ls h.1)

pub front_text : (bytes : List ℕ) → lines_text (map spelled (front_lines bytes)) ≡ with_feed (codes "modeplan late 1") ++ with_feed (usual_lines.spelled (usual.Query bytes))
unfolding spaced
front_text bytes = ap (λ x. with_feed (codes "modeplan late 1") ++ x) (append-nil (with_feed (usual_lines.spelled (usual.Query bytes))))

pub steps_text : (j : Route) → lines_text (map spelled (line.Depart j.at ∷ line.Usual (usual.Start j.start j.at) ∷ map line.Usual (map usual.Step j.steps)))
    ≡ with_feed (spelled (line.Depart j.at)) ++ (with_feed (usual_lines.spelled (usual.Start j.start j.at)) ++ flat_map (λ step. with_feed (usual_lines.spelled (usual.Step step))) j.steps)
steps_text j =
    ap (λ x. with_feed (spelled (line.Depart j.at)) ++ (with_feed (usual_lines.spelled (usual.Start j.start j.at)) ++ x))
    (usual_text (map usual.Step j.steps) ∙ sym (made_alike usual.Step j.steps))

pub whole_text : (c : LateClaim) → late_text c ≡ lines_text (map spelled (front_lines c.line)) ++ (lines_text (map spelled (result_lines c.result)) ++ lines_text (map usual_lines.spelled (label_lines c.labels)))
unfolding late_text
whole_text c =
    lines_append spelled (front_lines c.line) (result_lines c.result ++ map line.Usual (label_lines c.labels))
    ∙ ap (λ x. lines_text (map spelled (front_lines c.line)) ++ x) (lines_append spelled (result_lines c.result) (map line.Usual (label_lines c.labels))
    ∙ ap (λ x. lines_text (map spelled (result_lines c.result)) ++ x) (usual_text (label_lines c.labels)))
