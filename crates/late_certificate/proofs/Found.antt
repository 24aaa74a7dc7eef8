-- What is read is spelled so: lines that run from the head to the end are those of a late certificate.
use Rattle.plan_base.proofs.Common.{◌≡◌, ℕ, List, [], ◌∷◌, ◌++◌, map, refl, ap, sym, ◌∙◌, subst, Bool, true, false, cond, arith, Option, Some, None, nat_eq, option_map, nat_tests, same_Some}
use Rattle.plain_texts.specs.{run_on}
use Rattle.mode_network.specs.{Route}
use Rattle.product_search.specs.{Label}
use Rattle.certificate.specs.{Line as UsualLine, Due as UsualDue, label_lines}
use Rattle.certificate.specs.declared.lines.Line.TheVariants as usual
use Rattle.certificate.specs.declared.due.Due.TheVariants as usual_due
use Rattle.certificate.specs.Sections as behind
use Rattle.certificate.proofs.Found.{counted_are, not_the_last, nothing_runs, steps_are}
use Rattle.latest_departure.specs.{LateClaim}
use Rattle.late_certificate.specs.{Line, Due, due_behind, is_last, late_lines, result_lines}
use Rattle.late_certificate.specs.declared.lines.Line.TheVariants as line
use Rattle.late_certificate.specs.declared.due.Due.TheVariants as due
use Rattle.late_certificate.proofs.Again.{map_append}

-- lines that any certificate may have, which run there to the last place
record AreUsual (place : Option UsualDue) (ls : List Line) : Type 0 where
  usuals : List UsualLine
  end : UsualDue
  runs : run_on behind.due_behind place usuals ≡ Some end
  last : behind.is_last end ≡ true
  are : ls ≡ map line.Usual usuals

usual_are : (ls : List Line) (place : Option UsualDue) (end : Due) → run_on due_behind (option_map (λ next. due.Usual next) place) ls ≡ Some end → is_last end ≡ true → AreUsual place ls
usual_are ls None end runs last = nothing_runs due_behind is_last ls end runs
usual_are [] (Some place) end runs last =
    record { usuals = []; end = place; runs = refl; last = ap is_last (same_Some (due.Usual place) end runs) ∙ last; are = refl }
usual_are (line.Head ∷ ls) (Some place) end runs last = nothing_runs due_behind is_last ls end runs
usual_are (line.Depart at ∷ ls) (Some place) end runs last = nothing_runs due_behind is_last ls end runs
usual_are (line.Usual l ∷ ls) (Some place) end runs last =
    let more = usual_are ls (behind.due_behind place l) end runs last in
    record { usuals = l ∷ more.usuals; end = more.end; runs = more.runs; last = more.last; are = ap (λ (x : List Line). line.Usual l ∷ x) more.are }

-- a result, and then the labels
record AreResult (ls : List Line) : Type 0 where
  result : Option Route
  labels : List Label
  are : ls ≡ result_lines result ++ map line.Usual (label_lines labels)

steps_follow : (node at : ℕ) (ls : List Line) (end : Due) → run_on due_behind (Some (due.Usual usual_due.Steps)) ls ≡ Some end → is_last end ≡ true
    → AreResult (line.Depart at ∷ line.Usual (usual.Start node at) ∷ ls)
steps_follow node at ls end runs last =
    let are = usual_are ls (Some usual_due.Steps) end runs last in
    let h = steps_are are.usuals are.end are.runs are.last in
    record {
      result = Some (record { start = node; at = at; steps = h.steps });
      labels = h.labels;
      are = ap (λ (x : List Line). line.Depart at ∷ line.Usual (usual.Start node at) ∷ x) (are.are ∙ ap (map line.Usual) h.are ∙ sym (map_append (map usual.Step h.steps) (label_lines h.labels)));
    }

same_time : (a b : ℕ) → nat_eq a b ≡ true → a ≡ b
same_time a b e = grind (arith, nat_tests)

start_is : (depart : ℕ) (ls : List Line) (end : Due) → run_on due_behind (Some (due.Start depart)) ls ≡ Some end → is_last end ≡ true → AreResult (line.Depart depart ∷ ls)
start_is depart [] end runs last = not_the_last due_behind is_last (due.Start depart) end runs last refl
start_is depart (line.Usual (usual.Start node at) ∷ ls) end runs last = by_test (nat_eq at depart) refl runs
  where
    by_test : (t : Bool) → nat_eq at depart ≡ t → run_on due_behind (cond t (Some (due.Usual usual_due.Steps)) None) ls ≡ Some end → AreResult (line.Depart depart ∷ line.Usual (usual.Start node at) ∷ ls)
    by_test true is runs = subst (λ d. AreResult (line.Depart d ∷ line.Usual (usual.Start node at) ∷ ls)) (same_time at depart is) (steps_follow node at ls end runs last)
    by_test false is runs = nothing_runs due_behind is_last ls end runs
start_is depart (l ∷ ls) end runs last = nothing_runs due_behind is_last ls end runs

result_is : (ls : List Line) (end : Due) → run_on due_behind (Some due.Result) ls ≡ Some end → is_last end ≡ true → AreResult ls
result_is [] end runs last = not_the_last due_behind is_last due.Result end runs last refl
result_is (line.Depart at ∷ ls) end runs last = start_is at ls end runs last
result_is (line.Usual usual.Nothing ∷ ls) end runs last =
    let are = usual_are ls (Some usual_due.Count) end runs last in
    let h = counted_are are.usuals are.end are.runs are.last in
    record { result = None; labels = h.labels; are = ap (λ (x : List Line). line.Usual usual.Nothing ∷ x) (are.are ∙ ap (map line.Usual) h.are) }
result_is (l ∷ ls) end runs last = nothing_runs due_behind is_last ls end runs

query_is : (ls : List Line) (end : Due) → run_on due_behind (Some due.Query) ls ≡ Some end → is_last end ≡ true → (c : LateClaim) × (line.Head ∷ ls ≡ late_lines c)
query_is [] end runs last = not_the_last due_behind is_last due.Query end runs last refl
query_is (line.Usual (usual.Query bytes) ∷ ls) end runs last =
    let h = result_is ls end runs last in
    (record { line = bytes; result = h.result; labels = h.labels }, ap (λ (x : List Line). line.Head ∷ line.Usual (usual.Query bytes) ∷ x) h.are)
query_is (l ∷ ls) end runs last = nothing_runs due_behind is_last ls end runs

pub late_is : (ls : List Line) (end : Due) → run_on due_behind (Some due.Head) ls ≡ Some end → is_last end ≡ true → (c : LateClaim) × (ls ≡ late_lines c)
late_is [] end runs last = not_the_last due_behind is_last due.Head end runs last refl
late_is (line.Head ∷ ls) end runs last = query_is ls end runs last
late_is (l ∷ ls) end runs last = nothing_runs due_behind is_last ls end runs
