-- What is read is spelled so: lines that run from the head to the end are those of a certificate.
use Rattle.plan_base.proofs.Common.{◌≡◌, ℕ, suc, List, [], ◌∷◌, ◌++◌, length, map, refl, ap, sym, ◌∙◌, ◌-◌, Bool, true, false, cond, arith, Option, Some, None, nat_lt, nat_eq, false≢true, nat_tests, none-some, same_Some}
use Rattle.plain_texts.specs.{run_on}
use Rattle.mode_network.specs.{Step, Route}
use Rattle.product_search.specs.{Label}
use Rattle.certificate.specs.{Line, Due, Claim, due_behind, is_last, cert_lines, label_lines, result_lines}
use Rattle.certificate.specs.declared.lines.Line.TheVariants as line
use Rattle.certificate.specs.declared.due.Due.TheVariants as due

-- for every kind of lines and of places
module _ {L P : Type 0} (after : P → L → Option P) (is_last : P → Bool) where
  run_stopped : (ls : List L) → run_on after None ls ≡ None
  run_stopped [] = refl
  run_stopped (l ∷ ls) = run_stopped ls

  -- No lines go on where one may not stand.
  pub nothing_runs : {X : Type 0} (ls : List L) (end : P) → run_on after None ls ≡ Some end → X
  nothing_runs ls end runs = absurd (none-some end (sym (run_stopped ls) ∙ runs))

  -- The last place is not one at which something is due.
  pub not_the_last : {X : Type 0} (place end : P) → ◌≡◌ {A = Option P} (Some place) (Some end) → is_last end ≡ true → is_last place ≡ false → X
  not_the_last place end runs last going = absurd (false≢true (sym going ∙ ap is_last (same_Some place end runs) ∙ last))

-- so many labels, and the end
record AreLabels (more : ℕ) (ls : List Line) : Type 0 where
  labels : List Label
  number : length labels ≡ more
  are : ls ≡ map line.Label labels ++ line.End ∷ []

is_some : (n : ℕ) → nat_lt 0 n ≡ true → suc (n - 1) ≡ n
is_some n e = grind (arith, nat_tests)

is_zero : (n : ℕ) → nat_eq n 0 ≡ true → 0 ≡ n
is_zero n e = grind (arith, nat_tests)

labels_are : (ls : List Line) (more : ℕ) (end : Due) → run_on due_behind (Some (due.Labels more)) ls ≡ Some end → is_last end ≡ true → AreLabels more ls
labels_are [] more end runs last = not_the_last due_behind is_last (due.Labels more) end runs last refl
labels_are (line.Label label ∷ ls) more end runs last = by_test (nat_lt 0 more) refl runs (λ runs. labels_are ls (more - 1) end runs last)
  where
    by_test : (t : Bool) → nat_lt 0 more ≡ t → run_on due_behind (cond t (Some (due.Labels (more - 1))) None) ls ≡ Some end → (run_on due_behind (Some (due.Labels (more - 1))) ls ≡ Some end → AreLabels (more - 1) ls) → AreLabels more (line.Label label ∷ ls)
    by_test true is runs others =
        let h = others runs in
        record { labels = label ∷ h.labels; number = ap suc h.number ∙ is_some more is; are = ap (λ x. line.Label label ∷ x) h.are }
    by_test false is runs others = nothing_runs due_behind is_last ls end runs
labels_are (line.End ∷ ls) more end runs last = by_test (nat_eq more 0) refl runs
  where
    by_rest : (ls : List Line) → 0 ≡ more → run_on due_behind (Some due.Nothing) ls ≡ Some end → AreLabels more (line.End ∷ ls)
    by_rest [] none runs = record { labels = []; number = none; are = refl }
    by_rest (l ∷ ls) none runs = nothing_runs due_behind is_last ls end runs

    by_test : (t : Bool) → nat_eq more 0 ≡ t → run_on due_behind (cond t (Some due.Nothing) None) ls ≡ Some end → AreLabels more (line.End ∷ ls)
    by_test true is runs = by_rest ls (is_zero more is) runs
    by_test false is runs = nothing_runs due_behind is_last ls end runs
labels_are (l ∷ ls) more end runs last = nothing_runs due_behind is_last ls end runs

-- how many labels there are, these, and the end
pub record AreCounted (ls : List Line) : Type 0 where
  pub labels : List Label
  pub are : ls ≡ label_lines labels

pub counted_are : (ls : List Line) (end : Due) → run_on due_behind (Some due.Count) ls ≡ Some end → is_last end ≡ true → AreCounted ls
counted_are [] end runs last = not_the_last due_behind is_last due.Count end runs last refl
counted_are (line.Labels count ∷ ls) end runs last =
    let h = labels_are ls count end runs last in
    record { labels = h.labels; are = ap (λ n. line.Labels n ∷ ls) (sym h.number) ∙ ap (λ x. line.Labels (length h.labels) ∷ x) h.are }
counted_are (l ∷ ls) end runs last = nothing_runs due_behind is_last ls end runs

-- steps, and then the labels
pub record AreSteps (ls : List Line) : Type 0 where
  pub steps : List Step
  pub labels : List Label
  pub are : ls ≡ map line.Step steps ++ label_lines labels

pub steps_are : (ls : List Line) (end : Due) → run_on due_behind (Some due.Steps) ls ≡ Some end → is_last end ≡ true → AreSteps ls
steps_are [] end runs last = not_the_last due_behind is_last due.Steps end runs last refl
steps_are (line.Step step ∷ ls) end runs last =
    let h = steps_are ls end runs last in
    record { steps = step ∷ h.steps; labels = h.labels; are = ap (λ x. line.Step step ∷ x) h.are }
steps_are (line.Labels count ∷ ls) end runs last =
    let h = counted_are (line.Labels count ∷ ls) end runs last in
    record { steps = []; labels = h.labels; are = h.are }
steps_are (l ∷ ls) end runs last = nothing_runs due_behind is_last ls end runs

-- a result, and then the labels
record AreResult (ls : List Line) : Type 0 where
  result : Option (ℕ × Route)
  labels : List Label
  are : ls ≡ result_lines result ++ label_lines labels

start_is : (t : ℕ) (ls : List Line) (end : Due) → run_on due_behind (Some due.Start) ls ≡ Some end → is_last end ≡ true → AreResult (line.Arrive t ∷ ls)
start_is t [] end runs last = not_the_last due_behind is_last due.Start end runs last refl
start_is t (line.Start node at ∷ ls) end runs last =
    let h = steps_are ls end runs last in
    record { result = Some (t, record { start = node; at = at; steps = h.steps }); labels = h.labels; are = ap (λ x. line.Arrive t ∷ line.Start node at ∷ x) h.are }
start_is t (l ∷ ls) end runs last = nothing_runs due_behind is_last ls end runs

result_is : (ls : List Line) (end : Due) → run_on due_behind (Some due.Result) ls ≡ Some end → is_last end ≡ true → AreResult ls
result_is [] end runs last = not_the_last due_behind is_last due.Result end runs last refl
result_is (line.Arrive t ∷ ls) end runs last = start_is t ls end runs last
result_is (line.Nothing ∷ ls) end runs last =
    let h = counted_are ls end runs last in
    record { result = None; labels = h.labels; are = ap (λ x. line.Nothing ∷ x) h.are }
result_is (l ∷ ls) end runs last = nothing_runs due_behind is_last ls end runs

graph_is : (bytes : List ℕ) (ls : List Line) (end : Due) → run_on due_behind (Some due.Graph) ls ≡ Some end → is_last end ≡ true → (c : Claim) × (line.Head ∷ line.Query bytes ∷ ls ≡ cert_lines c)
graph_is bytes [] end runs last = not_the_last due_behind is_last due.Graph end runs last refl
graph_is bytes (line.Graph phases ∷ ls) end runs last =
    let h = result_is ls end runs last in
    (record { line = bytes; phases = phases; result = h.result; labels = h.labels }, ap (λ x. line.Head ∷ line.Query bytes ∷ line.Graph phases ∷ x) h.are)
graph_is bytes (l ∷ ls) end runs last = nothing_runs due_behind is_last ls end runs

query_is : (ls : List Line) (end : Due) → run_on due_behind (Some due.Query) ls ≡ Some end → is_last end ≡ true → (c : Claim) × (line.Head ∷ ls ≡ cert_lines c)
query_is [] end runs last = not_the_last due_behind is_last due.Query end runs last refl
query_is (line.Query bytes ∷ ls) end runs last = graph_is bytes ls end runs last
query_is (l ∷ ls) end runs last = nothing_runs due_behind is_last ls end runs

pub cert_is : (ls : List Line) (end : Due) → run_on due_behind (Some due.Head) ls ≡ Some end → is_last end ≡ true → (c : Claim) × (ls ≡ cert_lines c)
cert_is [] end runs last = not_the_last due_behind is_last due.Head end runs last refl
cert_is (line.Head ∷ ls) end runs last = query_is ls end runs last
cert_is (l ∷ ls) end runs last = nothing_runs due_behind is_last ls end runs
