-- What the checks of a late certificate say of it together.
use Rattle.plan_base.proofs.Common.{◌≡◌, ℕ, ◌<◌, ◌≤◌, ◌^◌, inr, List, Option, Some, None, sym, subst, arith, Ok, IfSome}
use Rattle.search_laws.specs.{time_bound}
use Rattle.product_search.specs.{Label, LabelVerdict, Open, IsVerdict, declared.verdict.LabelVerdict.TheVariants.Closed}
use Rattle.mode_network.specs.{NetworkLists.NetworkLists, IsNetwork, IsTimetableOf, Route}
use Rattle.timetable_arcs.specs.{TableLists, IsTable}
use Rattle.journey.specs.{Query, Asked, Asks}
use Rattle.certificate.specs.{declared.verdict.CertVerdict.TheVariants.Valid, as_verdict}
use Rattle.journey.proofs.ReadingLemmas.{reading_is_unique}
use Rattle.automaton.specs.{collapsed}
use Rattle.latest_departure.specs.{LateSearch, IsBackwards, mirrored, deadline, reversed_meaning, IsSearchFor, IsLate, Mirroring, graph_of, labels_of, LateClaim, LateHolds, late_bound, BackLists.BackLists}
use Rattle.latest_departure.proofs.{MirrorWalks.steps_rise, SearchLemmas.over}
use Rattle.late_certificate.specs.{FitsLateResult, claim_on, IsLateVerdict, IsResultVerdict}

-- the claim of a late certificate, part by part
pub claim_is : (c : LateClaim) (q : Query) (line : List ℕ) (result : Option Route) (labels : List Label)
    → (let parts : LateClaim = record { line = line; result = result; labels = labels } in parts ≡ c) → q.line ≡ line → claim_on q result labels ≡ c
claim_is c q line result labels view same = cc

pub result_holds : (n : NetworkLists) (q : Asked) (result : Option Route) → IsResultVerdict n q result Valid → LateHolds n q result
result_holds n q None verdict = tt
result_holds n q (Some claimed) verdict = verdict

-- what is found for a deadline has times that the format can hold
pub late_fits : (n : NetworkLists) (q : Asked) (result : Option Route) → IsLate n q result → FitsLateResult result
late_fits n q None none = tt
late_fits n q (Some j) is = is.1.times

-- a journey that is in time starts by the deadline
pub starts_by : (n : NetworkLists) → IsNetwork n → (t : TableLists) → IsTable t → IsTimetableOf n t → (q : Asked) (result : Option Route) → LateHolds n q result
    → IfSome result (λ j. j.at ≤ deadline q)
starts_by n network t table of q None holds = tt
starts_by n network t table of q (Some j) in_time =
    let rises = steps_rise n network t table of j.start j.at j.steps in_time.end in_time.arrival in_time.real.letters in_time.real.steps in
    let by = in_time.by_deadline in
    omega arith

-- a line asks one thing
pub one_asked : (n : NetworkLists) (line : List ℕ) (a b : Asked) → Asks n line a → Asks n line b → a ≡ b
one_asked n line a b x y = let same : Ok a ≡ Ok b = reading_is_unique n line (Ok a) (Ok b) x y in cc

-- the moment that the labels go to is not far off
pub bound_small : (n : NetworkLists) (q : Asked) (result : Option Route) → deadline q < 2 ^ 57 → late_bound n q result < time_bound
bound_small n q None small = omega arith
bound_small n q (Some j) small = omega arith

module _ (n : NetworkLists) (c : LateClaim) (q : Asked) (asks : Asks n c.line q) (m : Mirroring n q) where
  pub labels_judged : (verdict : LabelVerdict) → LateHolds n q c.result
      → IsVerdict (graph_of n q m) (labels_of n q m) m.starts m.targets 0 (Some (late_bound n q c.result)) c.labels verdict → IsLateVerdict n c (as_verdict verdict)
  labels_judged Closed holds closed = record { setting = record { asked = q; asks = asks; over = m }; holds = holds; closed = closed }
  labels_judged (Open clause at) holds open_at = inr (inr (record { setting = record { asked = q; asks = asks; over = m }; holds = holds; open_at = open_at }))

-- the verdict of the check on the labels, over what a search goes over
module _ (b : BackLists) (keeps : IsBackwards b) (q : Asked) (s : LateSearch) (is : IsSearchFor b q s) (n : NetworkLists) (same : b.network ≡ n) (c : LateClaim) where
  abbrev Judged : BackLists → ℕ → List ℕ → List ℕ → ℕ → LabelVerdict → Type 0
  Judged back deadline starts targets bound verdict =
      IsVerdict (mirrored back deadline) (collapsed (reversed_meaning s.expressed.made.machine.labels.inner)) starts targets 0 (Some bound) c.labels verdict

  pub search_judged : Asks n c.line q → LateHolds n q c.result → (starts targets : List ℕ) → starts ≡ s.starts.items → targets ≡ s.targets.items
      → (bound : ℕ) → bound ≡ late_bound b.network q c.result → (verdict : LabelVerdict) → Judged s.mirror.backwards.now s.mirror.deadline starts targets bound verdict
      → IsLateVerdict n c (as_verdict verdict)
  search_judged asks holds starts targets starts_are targets_are bound bound_is verdict judged =
      let over_table = subst (λ (back : BackLists). Judged back s.mirror.deadline starts targets bound verdict) is.backwards judged in
      let by = subst (λ (d : ℕ). Judged b d starts targets bound verdict) is.by over_table in
      let from = subst (λ (ss : List ℕ). Judged b (deadline q) ss targets bound verdict) starts_are by in
      let to = subst (λ (ts : List ℕ). Judged b (deadline q) s.starts.items ts bound verdict) targets_are from in
      let there = subst (λ (m : ℕ). Judged b (deadline q) s.starts.items s.targets.items m verdict) bound_is to in
      subst (λ (m : NetworkLists). IsLateVerdict m c (as_verdict verdict)) same
      (labels_judged b.network c q (subst (λ (m : NetworkLists). Asks m c.line q) (sym same) asks) (over b keeps q s is) verdict
      (subst (λ (m : NetworkLists). LateHolds m q c.result) (sym same) holds) there)
