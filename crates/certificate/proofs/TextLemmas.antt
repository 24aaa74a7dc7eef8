-- The text of a certificate, part by part.
use Rattle.plan_base.proofs.Common.{◌≡◌, ℕ, Bool, List, [], ◌∷◌, ◌++◌, length, map, refl, ap, sym, ◌∙◌, append_assoc, codes, flat_map, append-nil}
use Rattle.plain_texts.specs.{lines_text, spaced, with_feed}
use Rattle.mode_network.specs.{Step}
use Rattle.product_search.specs.{Label}
use Rattle.certificate.specs.{Line, Claim, spelled, cert_text, front_lines, label_lines, result_lines}
use Rattle.certificate.specs.declared.lines.Line.TheVariants as line

pub lines_append : {L : Type 0} (spell : L → List ℕ) (xs ys : List L) → lines_text (map spell (xs ++ ys)) ≡ lines_text (map spell xs) ++ lines_text (map spell ys)
lines_append spell [] ys = refl
lines_append spell (x ∷ xs) ys = ap (λ t. with_feed (spell x) ++ t) (lines_append spell xs ys) ∙ sym (append_assoc (with_feed (spell x)) (lines_text (map spell xs)) (lines_text (map spell ys)))

-- lines that are made alike
pub made_alike : {X : Type 0} (f : X → Line) (xs : List X) → flat_map (λ x. with_feed (spelled (f x))) xs ≡ lines_text (map spelled (map f xs))
made_alike f [] = refl
made_alike f (x ∷ xs) = ap (λ t. with_feed (spelled (f x)) ++ t) (made_alike f xs)

pub front_text : (bytes : List ℕ) (phases : Bool) → lines_text (map spelled (front_lines bytes phases)) ≡ with_feed (codes "modeplan certificate 1") ++ (with_feed (spelled (line.Query bytes)) ++ with_feed (spelled (line.Graph phases)))
unfolding spaced
front_text bytes phases = ap (λ x. with_feed (codes "modeplan certificate 1") ++ (with_feed (spelled (line.Query bytes)) ++ x)) (append-nil (with_feed (spelled (line.Graph phases))))

pub steps_text : (t node at : ℕ) (steps : List Step) → lines_text (map spelled (line.Arrive t ∷ line.Start node at ∷ map line.Step steps)) ≡ with_feed (spelled (line.Arrive t)) ++ (with_feed (spelled (line.Start node at)) ++ flat_map (λ step. with_feed (spelled (line.Step step))) steps)
steps_text t node at steps = ap (λ x. with_feed (spelled (line.Arrive t)) ++ (with_feed (spelled (line.Start node at)) ++ x)) (sym (made_alike line.Step steps))

pub rest_text : (labels : List Label) → lines_text (map spelled (label_lines labels)) ≡ with_feed (spelled (line.Labels (length labels))) ++ (flat_map (λ label. with_feed (spelled (line.Label label))) labels ++ with_feed (codes "end"))
unfolding spaced
rest_text labels = ap (λ x. with_feed (spelled (line.Labels (length labels))) ++ x) (lines_append spelled (map line.Label labels) (line.End ∷ []) ∙ ap (λ x. x ++ with_feed (codes "end")) (sym (made_alike line.Label labels)))

pub whole_text : (c : Claim) → cert_text c ≡ lines_text (map spelled (front_lines c.line c.phases)) ++ (lines_text (map spelled (result_lines c.result)) ++ lines_text (map spelled (label_lines c.labels)))
unfolding cert_text
whole_text c =
    lines_append spelled (front_lines c.line c.phases) (result_lines c.result ++ label_lines c.labels)
    ∙ ap (λ x. lines_text (map spelled (front_lines c.line c.phases)) ++ x) (lines_append spelled (result_lines c.result) (label_lines c.labels))
