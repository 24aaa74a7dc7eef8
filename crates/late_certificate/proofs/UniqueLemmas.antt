-- A late certificate has one verdict. Each clause says the same however the timetable sorts the runs into patterns, and whichever automaton that reads
-- from the ends is taken; and of the clauses one is the first that fails, at one place.
use Rattle.plan_base.proofs.Common.{◌≡◌, ℕ, inl, inr, List, Option, Some, None, refl, sym, ap, subst, ◌∙◌}
use Rattle.product_search.specs.{LabelVerdict, Open, IsVerdict, declared.verdict.LabelVerdict.TheVariants.Closed}
use Rattle.mode_network.specs.{NetworkLists.NetworkLists, IsNetwork, Route}
use Rattle.certificate.specs.{CertVerdict, Invalid, as_verdict, declared.verdict.CertVerdict.TheVariants.Valid}
use Rattle.journey.specs.{Asked}
use Rattle.journey.proofs.CopyLemmas.{one_list_of_copies}
use Rattle.certificate.proofs.UniqueLemmas.{as_claimed_fails_not, one_fault, same_labels_verdict, ByLine, same_by_line, ByResult, same_by_result}
use Rattle.latest_departure.specs.{Mirroring, graph_of, labels_of, LateClaim, LateHolds, late_bound}
use Rattle.latest_departure.proofs.AlikeLemmas.{mirrors_are_alike, readers_are_alike}
use Rattle.late_certificate.specs.{goal_of, IsResultVerdict, IsLateVerdict, LateVerdictIsUnique}
use Rattle.late_certificate.proofs.VerdictLemmas.{in_time_as_claimed}

module _ (n : NetworkLists) (network : IsNetwork n) (c : LateClaim) where
  -- the labels decide, over some network in mirrored time
  abbrev ByLabels : Asked → CertVerdict → Type 0
  ByLabels q r = (m : Mirroring n q) × ((v : LabelVerdict) × IsVerdict (graph_of n q m) (labels_of n q m) m.starts m.targets 0 (Some (late_bound n q c.result)) c.labels v × (r ≡ as_verdict v))

  abbrev ByAsked : Asked → CertVerdict → Type 0
  ByAsked q r = ByResult (λ clause at. IsResultVerdict n q c.result (Invalid clause at)) (LateHolds n q c.result) (ByLabels q) r

  same_by_labels : (q : Asked) (r s : CertVerdict) → ByLabels q r → ByLabels q s → r ≡ s
  same_by_labels q r s (x, (v, first, e)) (y, (w, second, f)) =
      let starts : x.starts ≡ y.starts = one_list_of_copies n q.to x.starts y.starts x.ends.destination y.ends.destination in
      let targets : x.targets ≡ y.targets = one_list_of_copies n q.from x.targets y.targets x.ends.origin y.ends.origin in
      let there = subst (λ (ss : List ℕ). IsVerdict (graph_of n q y) (labels_of n q y) ss x.targets 0 (Some (late_bound n q c.result)) c.labels w) (sym starts)
      (subst (λ (ts : List ℕ). IsVerdict (graph_of n q y) (labels_of n q y) y.starts ts 0 (Some (late_bound n q c.result)) c.labels w) (sym targets) second) in
      let same = same_labels_verdict (graph_of n q x) (graph_of n q y) (mirrors_are_alike n network q x y) (labels_of n q x) (labels_of n q y)
      (readers_are_alike q x.reversed y.reversed x.reads y.reads) x.starts x.targets 0 (Some (late_bound n q c.result)) c.labels v w first there in
      e ∙ (ap as_verdict same ∙ sym f)

  -- a result that holds fails in no clause
  holds_fails_not : (q : Asked) (result : Option Route) → LateHolds n q result → (clause at : ℕ) → IsResultVerdict n q result (Invalid clause at) → ⊥
  holds_fails_not q None holds clause at fails = cc
  holds_fails_not q (Some claimed) holds clause at fails = as_claimed_fails_not n network q (goal_of n q) claimed (in_time_as_claimed n q claimed holds) clause at fails

  result_fails_once : (q : Asked) (result : Option Route) (a at b by : ℕ) → IsResultVerdict n q result (Invalid a at) → IsResultVerdict n q result (Invalid b by) → Invalid a at ≡ Invalid b by
  result_fails_once q None a at b by one other = cc
  result_fails_once q (Some claimed) a at b by one other = one_fault n network q (goal_of n q) claimed a at b by one other

  same_by_asked : (q : Asked) (r s : CertVerdict) → ByAsked q r → ByAsked q s → r ≡ s
  same_by_asked q r s x y = same_by_result _ _ (ByLabels q) (result_fails_once q c.result) (holds_fails_not q c.result) (same_by_labels q) r s x y

  lines_of : (r : CertVerdict) → IsLateVerdict n c r → ByLine n c.line ByAsked r
  lines_of Valid valid = inr (valid.setting.asked, valid.setting.asks, inr (valid.holds, (valid.setting.over, (Closed, valid.closed, refl))))
  lines_of (Invalid clause at) (inl f) = inl (f.fault, at, f.refused, f.number, ap (λ k. Invalid k at) f.clause_is)
  lines_of (Invalid clause at) (inr (inl f)) = inr (f.asked, f.asks, inl (clause, at, f.fails, refl))
  lines_of (Invalid clause at) (inr (inr f)) = inr (f.setting.asked, f.setting.asks, inr (f.holds, (f.setting.over, (Open clause at, f.open_at, refl))))

pub late_verdict_is_unique : LateVerdictIsUnique
late_verdict_is_unique n network c one other p q =
    same_by_line n c.line (ByAsked n network c) (same_by_asked n network c) one other (lines_of n network c one p) (lines_of n network c other q)
