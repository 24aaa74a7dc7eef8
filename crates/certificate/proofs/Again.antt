-- What is spelled is read: the lines of a certificate may stand where they do, and make the certificate again.
use Rattle.plan_base.proofs.Common.{◌≡◌, ℕ, suc, List, [], ◌∷◌, ◌++◌, length, map, refl, ap, sym, ◌∙◌, ◌-◌, true, cond, arith, append_assoc, Option, Some, None, fold, nat_lt, nat_tests, append-nil}
use Rattle.plain_texts.specs.{run_on}
use Rattle.mode_network.specs.{Step, Route}
use Rattle.product_search.specs.{Label}
use Rattle.certificate.specs.{Line, Claim, due_behind, cert_lines, label_lines, result_lines, nothing, put}
use Rattle.certificate.specs.declared.lines.Line.TheVariants as line
use Rattle.certificate.specs.declared.due.Due.TheVariants as due

-- The lines run to the end.
label_stands : (more : ℕ) (label : Label) → due_behind (due.Labels (suc more)) (line.Label label) ≡ Some (due.Labels more)
label_stands more label =
    let is : nat_lt 0 (suc more) ≡ true = grind (arith, nat_tests) in
    ap (λ t. cond t (Some (due.Labels (suc more - 1))) None) is ∙ ap (λ n. Some (due.Labels n)) (omega arith)

pub run_labels : (labels : List Label) → run_on due_behind (Some (due.Labels (length labels))) (map line.Label labels ++ line.End ∷ []) ≡ Some due.Nothing
run_labels [] = refl
run_labels (label ∷ labels) = ap (λ o. run_on due_behind o (map line.Label labels ++ line.End ∷ [])) (label_stands (length labels) label) ∙ run_labels labels

pub run_steps : (steps : List Step) (rest : List Line) → run_on due_behind (Some due.Steps) (map line.Step steps ++ rest) ≡ run_on due_behind (Some due.Steps) rest
run_steps [] rest = refl
run_steps (step ∷ steps) rest = run_steps steps rest

pub runs_to_end : (c : Claim) → run_on due_behind (Some due.Head) (cert_lines c) ≡ Some due.Nothing
runs_to_end c = by_result c.result
  where
    by_result : (result : Option (ℕ × Route)) → run_on due_behind (Some due.Result) (result_lines result ++ label_lines c.labels) ≡ Some due.Nothing
    by_result None = run_labels c.labels
    by_result (Some answer) = run_steps answer.1.steps (label_lines c.labels) ∙ run_labels c.labels

-- The lines make the certificate again.
put_labels : (labels : List Label) (c : Claim) → fold put c (map line.Label labels ++ line.End ∷ []) ≡ record c { labels = c.labels ++ labels }
put_labels [] c = ap (λ x. record c { labels = x }) (sym (append-nil c.labels))
put_labels (label ∷ labels) c = put_labels labels (record c { labels = c.labels ++ label ∷ [] }) ∙ ap (λ x. record c { labels = x }) (append_assoc c.labels (label ∷ []) labels)

-- a certificate of such a journey, without labels
abbrev with_steps : Claim → ℕ → Route → List Step → Claim
with_steps c t route steps = record c { result = Some (t, record route { steps = steps }) }

put_steps : (steps before : List Step) (rest : List Line) (c : Claim) (t : ℕ) (route : Route) → fold put (with_steps c t route before) (map line.Step steps ++ rest) ≡ fold put (with_steps c t route (before ++ steps)) rest
put_steps [] before rest c t route = ap (λ x. fold put (with_steps c t route x) rest) (sym (append-nil before))
put_steps (step ∷ steps) before rest c t route = put_steps steps (before ++ step ∷ []) rest c t route ∙ ap (λ x. fold put (with_steps c t route x) rest) (append_assoc before (step ∷ []) steps)

-- what the lines before the result make
abbrev front_of : Claim → Claim
front_of c = record nothing { line = c.line; phases = c.phases }

pub made_again : (c : Claim) → fold put nothing (cert_lines c) ≡ c
made_again c = by_result c.result
  where
    by_result : (result : Option (ℕ × Route)) → fold put (front_of c) (result_lines result ++ label_lines c.labels) ≡ record c { result = result }
    by_result None = put_labels c.labels (front_of c)
    by_result (Some answer) = put_steps answer.1.steps [] (label_lines c.labels) (front_of c) answer.0 answer.1 ∙ put_labels c.labels (record (front_of c) { result = Some answer })
