-- The labels of a search that are least below a time, before which no accepted walk arrives, are closed.
use Rattle.plan_base.proofs.Common.{◌≡◌, ℕ, zero, suc, ◌+◌, ◌-◌, ◌<◌, ◌≤◌, ◌⊎◌, ◌==◌, ◌&&◌, true, false, Bool, List, [], ◌∷◌, length, Option, Some, None, inl, inr, refl, ap, ◌∙◌, arith, All, Contains, slice_index_or, nat_tests, All-contains, Contains-append_left, Contains-append_right, Contains-append_cases}
use Rattle.search_laws.specs.{GraphMeaning, IsLawfulGraph, LabelsMeaning, IsLawfulLabels, arc, ArrivesAt}
use Rattle.product_search.specs.{Label, IsReachedAt, IsLeastAt, label_of, AreAscendingLabels, AreLeastLabels, IsArrival, IsListedBy, start_pairs, IsInOrderAt, StartIsListedAt, IsNoEndAt, ArcsAreListedAt, IsClosed}
use Rattle.product_search.proofs.{ClosureLemmas.walk_stays, ClosureLemmas.all_start, ClosureLemmas.all_after, ReachLemmas.reached_more}
use Rattle.mode_network.proofs.RuleLemmas.{both}
use Rattle.latest_departure.proofs.{OrderLemmas.le_or_above, OrderLemmas.head_is, ReversedLemmas.reads_below}

-- ---- a product state has a label in a list, or has none

abbrev HasLabel : List Label → ℕ → ℕ → Type 0
HasLabel list v q = (at : ℕ) × Contains list (label_of v q at)

has_or_none : (list : List Label) (v q : ℕ) → HasLabel list v q ⊎ (HasLabel list v q → ⊥)
has_or_none [] v q = inr (λ has. let within = (has.1).1 in omega arith)
has_or_none (x ∷ list) v q = on_test ((x.node == v) && (x.state == q)) refl (has_or_none list v q)
  where
    later : HasLabel list v q → HasLabel (x ∷ list) v q
    later has = (has.0, Contains-append_right (x ∷ []) list (label_of v q has.0) has.1)

    on_test : (b : Bool) → ((x.node == v) && (x.state == q)) ≡ b → HasLabel list v q ⊎ (HasLabel list v q → ⊥) → HasLabel (x ∷ list) v q ⊎ (HasLabel (x ∷ list) v q → ⊥)
    on_test true e rest =
        let parts = both (x.node == v) (x.state == q) e in
        let node : x.node ≡ v = let h = parts.0 in grind (arith, nat_tests) in
        let state : x.state ≡ q = let h = parts.1 in grind (arith, nat_tests) in
        let is : x ≡ label_of v q x.at = ap (λ a. label_of a x.state x.at) node ∙ ap (λ b. label_of v b x.at) state in
        inl (x.at, Contains-append_left (x ∷ []) list (label_of v q x.at) (0, omega arith, is))
    on_test false e (inl has) = inl (later has)
    on_test false e (inr none) = inr (λ has. on_cases has.0 (Contains-append_cases (x ∷ []) list (label_of v q has.0) has.1))
      where
        on_cases : (at : ℕ) → Contains (x ∷ []) (label_of v q at) ⊎ Contains list (label_of v q at) → ⊥
        on_cases at (inr there) = none (at, there)
        on_cases at (inl here) =
            let is = head_is (λ (y : Label). y ∷ []) x (label_of v q at) here in
            let node = ap (λ (y : Label). y.node) is in
            let state = ap (λ (y : Label). y.state) is in
            grind (arith, nat_tests)

-- ---- the list
module _ (g : GraphMeaning) (graph : IsLawfulGraph g) (l : LabelsMeaning) (labels : IsLawfulLabels l) (starts targets : List ℕ) (within : All (λ v. v < g.nodes) starts)
    (dep a : ℕ) (list : List Label) (ascending : AreAscendingLabels list)
    (least : All (λ x. IsLeastAt g l starts dep x.node x.state x.at × (x.at < a)) list)
    (complete : (v q t : ℕ) → IsLeastAt g l starts dep v q t → t < a → Contains list (label_of v q t))
    (none : (t : ℕ) → t < a → ArrivesAt g l starts targets dep t → ⊥) where
  abbrev Reached : ℕ → ℕ → ℕ → Type 0
  Reached v q t = IsReachedAt g l starts dep v q t

  -- a state without a label is not reached before: else it would be for a first time, and be listed
  -- what is reached at a time, and no sooner, is listed
  first_time : (v q : ℕ) → (HasLabel list v q → ⊥) → (w : ℕ) → w < a → Reached v q w → ((u : ℕ) → u < w → Reached v q u → ⊥) → ⊥
  first_time v q unlisted w lt reached sooner = unlisted (w, complete v q w (record { reached = reached; least = λ u r. by_order u r (le_or_above w u) }) lt)
    where
      by_order : (u : ℕ) → Reached v q u → (w ≤ u) ⊎ (u < w) → w ≤ u
      by_order u r (inl no_sooner) = no_sooner
      by_order u r (inr before) = absurd (sooner u before r)

  never : (v q : ℕ) → (HasLabel list v q → ⊥) → (n : ℕ) → n ≤ a → (w : ℕ) → w < n → Reached v q w → ⊥
  never v q unlisted zero le w lt reached = omega arith
  never v q unlisted (suc n) le w lt reached =
      first_time v q unlisted w (omega arith) reached (λ u before r. never v q unlisted n (omega arith) u (omega arith) r)

  listed : (v q t : ℕ) → Reached v q t → t < a → IsListedBy list v q t
  listed v q t reached before = on_label (has_or_none list v q)
    where
      on_label : HasLabel list v q ⊎ (HasLabel list v q → ⊥) → IsListedBy list v q t
      on_label (inl (at, has)) = (at, (All-contains (λ (x : Label). IsLeastAt g l starts dep x.node x.state x.at × (x.at < a)) list (label_of v q at) least has).0.least t reached, has)
      on_label (inr unlisted) = absurd (never v q unlisted a (omega arith) t before reached)

  node_within : (v q t : ℕ) → Reached v q t → v < g.nodes
  node_within v q t r =
      let start : r.start < g.nodes = All-contains (λ (v : ℕ). v < g.nodes) starts r.start within r.starts_there in
      walk_stays g graph l labels r.steps r.start dep v t start r.walk

  in_order : (k : ℕ) → k < length list → IsInOrderAt g l (Some a) list k
  in_order k lt d =
      let here = least k d lt in
      let r = here.0.reached in
      ((node_within _ _ _ r, reads_below l labels _ r.first _ r.is_state r.reads, here.1), λ some. ascending (k - 1) k d (omega arith) lt)

  starts_listed : (k : ℕ) → k < length (start_pairs l starts) → StartIsListedAt l starts dep (Some a) list k
  starts_listed k lt d before =
      let p = all_start l starts k d lt in
      let v = (slice_index_or (start_pairs l starts) k d).0 in
      let q = (slice_index_or (start_pairs l starts) k d).1 in
      listed v q dep (record { start = v; first = q; steps = []; starts_there = p.0; is_state = p.1.0; is_start = p.1.1; walk = (refl, refl); reads = refl }) before

  no_end : (k : ℕ) → k < length list → IsNoEndAt l targets list k
  no_end k lt d target accepts =
      let here = least k d lt in
      let r = here.0.reached in
      none (slice_index_or list k d).at here.1
      (record { start = r.start; end = _; steps = r.steps; starts_there = r.starts_there; ends_there = target; walk = r.walk; word = (r.first, _, r.is_state, r.is_start, r.reads, accepts) })

  arcs_listed : (k : ℕ) → k < length list → ArcsAreListedAt g l (Some a) list k
  arcs_listed k lt d i arc_in u e before =
      let r = (least k d lt).0.reached in
      let x = slice_index_or list k d in
      all_after l x.state (g.arc_at x.node i).letter (λ s. IsListedBy list (g.arc_at x.node i).to s u)
      (λ s follows. listed (g.arc_at x.node i).to s u
      (reached_more g l starts dep x.node x.state x.at i u s r (record { node = node_within _ _ _ r; arc = arc_in }) e follows) before)

  pub least_closed : IsClosed g l starts targets dep (Some a) list
  least_closed = record { in_order = in_order; starts_listed = starts_listed; no_end = no_end; arcs_listed = arcs_listed }

-- ---- what a search within a bound answers is closed: below the arrival, and without one below the moment behind the bound
abbrev pub closed_before : ℕ → Option ℕ → ℕ
closed_before most None = most + 1
closed_before most (Some a) = a

pub search_closed : (g : GraphMeaning) → IsLawfulGraph g → (l : LabelsMeaning) → IsLawfulLabels l → (starts targets : List ℕ) → All (λ v. v < g.nodes) starts
    → (dep most : ℕ) (arrival : Option ℕ) (list : List Label) → IsArrival g l starts targets dep (Some most) arrival
    → AreLeastLabels g l starts dep (Some most) arrival list → IsClosed g l starts targets dep (Some (closed_before most arrival)) list
search_closed g graph l labels starts targets within dep most (Some a) list first least =
    least_closed g graph l labels starts targets within dep a list least.ascending least.least least.complete
    (λ t before arrives. let late = first.0.least t arrives in omega arith)
search_closed g graph l labels starts targets within dep most None list first least =
    least_closed g graph l labels starts targets within dep (most + 1) list least.ascending
    (λ k d lt. ((least.least k d lt).0, let low = (least.least k d lt).1 in omega arith))
    (λ v q t is before. least.complete v q t is (omega arith))
    (λ t before arrives. first t (omega arith) arrives)
