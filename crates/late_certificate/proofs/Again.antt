-- What is spelled is read: the lines of a late certificate may stand where they do, and make the certificate again.
use Rattle.plan_base.proofs.Common.{◌≡◌, ℕ, List, [], ◌∷◌, ◌++◌, map, refl, ap, sym, ◌∙◌, true, cond, arith, append_assoc, Option, Some, None, fold, option_map, nat_eq, nat_tests, append-nil}
use Rattle.plain_texts.specs.{run_on}
use Rattle.mode_network.specs.{Step, Route}
use Rattle.product_search.specs.{Label}
use Rattle.certificate.specs.{Line as UsualLine, Due as UsualDue, label_lines}
use Rattle.certificate.specs.declared.lines.Line.TheVariants as usual
use Rattle.certificate.specs.declared.due.Due.TheVariants as usual_due
use Rattle.certificate.specs.Sections as behind
use Rattle.certificate.proofs.Again.{run_labels, run_steps}
use Rattle.latest_departure.specs.{LateClaim}
use Rattle.late_certificate.specs.{Line, Due, due_behind, late_lines, result_lines, nothing, put, put_usual}
use Rattle.late_certificate.specs.declared.lines.Line.TheVariants as line
use Rattle.late_certificate.specs.declared.due.Due.TheVariants as due

-- The lines run to the end.

-- lines that any certificate may have run as they do there
run_usual : (ls : List UsualLine) (place : Option UsualDue)
    → run_on due_behind (option_map (λ next. due.Usual next) place) (map line.Usual ls) ≡ option_map (λ next. due.Usual next) (run_on behind.due_behind place ls)
run_usual [] place = refl
run_usual (l ∷ ls) None = run_usual ls None
run_usual (l ∷ ls) (Some place) = run_usual ls (behind.due_behind place l)

pub map_append : (xs ys : List UsualLine) → map line.Usual xs ++ map line.Usual ys ≡ map line.Usual (xs ++ ys)
map_append [] ys = refl
map_append (x ∷ xs) ys = ap (λ (ls : List Line). line.Usual x ∷ ls) (map_append xs ys)

start_stands : (node at : ℕ) → due_behind (due.Start at) (line.Usual (usual.Start node at)) ≡ Some (due.Usual usual_due.Steps)
start_stands node at =
    let is : nat_eq at at ≡ true = grind (arith, nat_tests) in
    ap (λ t. cond t (Some (due.Usual usual_due.Steps)) None) is

pub runs_to_end : (c : LateClaim) → run_on due_behind (Some due.Head) (late_lines c) ≡ Some (due.Usual usual_due.Nothing)
runs_to_end c = by_result c.result
  where
    by_result : (result : Option Route) → run_on due_behind (Some due.Result) (result_lines result ++ map line.Usual (label_lines c.labels)) ≡ Some (due.Usual usual_due.Nothing)
    by_result None = run_usual (label_lines c.labels) (Some usual_due.Count) ∙ ap (option_map (λ next. due.Usual next)) (run_labels c.labels)
    by_result (Some j) =
        ap (λ (o : Option Due). run_on due_behind o (map line.Usual (map usual.Step j.steps) ++ map line.Usual (label_lines c.labels))) (start_stands j.start j.at)
        ∙ ap (run_on due_behind (Some (due.Usual usual_due.Steps))) (map_append (map usual.Step j.steps) (label_lines c.labels))
        ∙ run_usual (map usual.Step j.steps ++ label_lines c.labels) (Some usual_due.Steps)
        ∙ ap (option_map (λ next. due.Usual next)) (run_steps j.steps (label_lines c.labels) ∙ run_labels c.labels)

-- The lines make the certificate again.
put_usual_all : (ls : List UsualLine) (c : LateClaim) → fold put c (map line.Usual ls) ≡ fold put_usual c ls
put_usual_all [] c = refl
put_usual_all (l ∷ ls) c = put_usual_all ls (put_usual c l)

put_labels : (labels : List Label) (c : LateClaim) → fold put_usual c (map usual.Label labels ++ usual.End ∷ []) ≡ record c { labels = c.labels ++ labels }
put_labels [] c = ap (λ x. record c { labels = x }) (sym (append-nil c.labels))
put_labels (label ∷ labels) c = put_labels labels (record c { labels = c.labels ++ label ∷ [] }) ∙ ap (λ x. record c { labels = x }) (append_assoc c.labels (label ∷ []) labels)

-- a certificate of such a journey, without labels
abbrev with_steps : LateClaim → Route → List Step → LateClaim
with_steps c route steps = record c { result = Some (record route { steps = steps }) }

put_steps : (steps before : List Step) (rest : List UsualLine) (c : LateClaim) (route : Route) → fold put_usual (with_steps c route before) (map usual.Step steps ++ rest) ≡ fold put_usual (with_steps c route (before ++ steps)) rest
put_steps [] before rest c route = ap (λ x. fold put_usual (with_steps c route x) rest) (sym (append-nil before))
put_steps (step ∷ steps) before rest c route = put_steps steps (before ++ step ∷ []) rest c route ∙ ap (λ x. fold put_usual (with_steps c route x) rest) (append_assoc before (step ∷ []) steps)

-- what the lines before the result make
abbrev front_of : LateClaim → LateClaim
front_of c = record nothing { line = c.line }

pub made_again : (c : LateClaim) → fold put nothing (late_lines c) ≡ c
made_again c = by_result c.result
  where
    by_result : (result : Option Route) → fold put (front_of c) (result_lines result ++ map line.Usual (label_lines c.labels)) ≡ record c { result = result }
    by_result None = put_usual_all (label_lines c.labels) (front_of c) ∙ put_labels c.labels (front_of c)
    by_result (Some j) =
        ap (fold put (with_steps (front_of c) j [])) (map_append (map usual.Step j.steps) (label_lines c.labels))
        ∙ put_usual_all (map usual.Step j.steps ++ label_lines c.labels) (with_steps (front_of c) j [])
        ∙ put_steps j.steps [] (label_lines c.labels) (front_of c) j ∙ put_labels c.labels (record (front_of c) { result = Some j })
