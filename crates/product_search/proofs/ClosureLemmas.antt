-- The labels of a search that has no bound are closed.
use Rattle.plan_base.proofs.Common.{◌≡◌, ℕ, zero, suc, ◌-◌, ◌<◌, ◌≤◌, true, false, Bool, cond, List, [], ◌∷◌, length, Some, None, refl, sym, subst, arith, Option, All, Contains, IsTrue, slice_index_or, get_or_default, All-nil, All-cons, All-append}
use Rattle.search_laws.specs.{GraphMeaning, IsLawfulGraph, LabelsMeaning, IsLawfulLabels, Reads, Follows, AllAfter, WalkStep, wait, arc, IsWalk, ArrivesAt}
use Rattle.product_search.specs.{Label, IsReachedAt, IsWithin, IsBefore, IsToList, AreLeastLabels, IsArrival, IsListedBy, start_states, pairs_at, start_pairs, IsInOrderAt, StartIsListedAt, IsNoEndAt, ArcsAreListedAt, IsClosed}
use Rattle.product_search.proofs.ReachLemmas.{reached_more}

-- ---- what is reached is in range

module _ (g : GraphMeaning) (graph : IsLawfulGraph g) (l : LabelsMeaning) (labels : IsLawfulLabels l) where
  pub walk_stays : (steps : List WalkStep) (v t v2 t2 : ℕ) → v < g.nodes → IsWalk g v t steps v2 t2 → v2 < g.nodes
  walk_stays [] v t v2 t2 within walk = subst (λ w. w < g.nodes) (sym walk.0) within
  walk_stays (wait w ∷ steps) v t v2 t2 within walk = walk_stays steps v w v2 t2 within walk.1
  walk_stays (arc i ∷ steps) v t v2 t2 within (u, has, e, walk) = walk_stays steps (g.arc_at v i).to u v2 t2 (graph.to_in_range v i has) walk

  reads_stay : (word : List ℕ) (q r : ℕ) → q < l.states → Reads l q word r → r < l.states
  reads_stay [] q r within same = subst (λ s. s < l.states) (sym same) within
  reads_stay (c ∷ word) q r within (p, move, reads) =
      reads_stay word p r (subst (λ s. s < l.states) (move.1).to (labels.to_in_range q move.0 within (move.1).place)) reads

-- ---- the pairs of a start and a start state

module _ (l : LabelsMeaning) (starts : List ℕ) where
  abbrev IsStart : ℕ → Type 0
  IsStart q = (q < l.states) × IsTrue (l.is_start q)

  states_start : (n : ℕ) → n ≤ l.states → All IsStart (start_states l n)
  states_start zero le = All-nil IsStart
  states_start (suc n) le = All-append IsStart (start_states l n) _ (states_start n (omega arith)) (last (l.is_start n) refl)
    where
      last : (b : Bool) → l.is_start n ≡ b → All IsStart (cond b (n ∷ []) [])
      last true e = All-cons IsStart n [] (omega arith, e) (All-nil IsStart)
      last false e = All-nil IsStart

  abbrev IsStartPair : ℕ × ℕ → Type 0
  IsStartPair p = Contains starts p.0 × IsStart p.1

  pairs_start : (v : ℕ) → Contains starts v → (states : List ℕ) → All IsStart states → All IsStartPair (pairs_at v states)
  pairs_start v has [] all = All-nil IsStartPair
  pairs_start v has (q ∷ states) all =
      All-cons IsStartPair (v, q) (pairs_at v states) (has, all 0 q (omega arith)) (pairs_start v has states (λ k d lt. all (suc k) d (omega arith)))

  some_start : (some : List ℕ) → All (Contains starts) some → All IsStartPair (start_pairs l some)
  some_start [] all = All-nil IsStartPair
  some_start (v ∷ some) all =
      All-append IsStartPair (pairs_at v (start_states l l.states)) (start_pairs l some)
      (pairs_start v (all 0 v (omega arith)) (start_states l l.states) (states_start l.states (omega arith)))
      (some_start some (λ k d lt. all (suc k) d (omega arith)))

  pub all_start : All IsStartPair (start_pairs l starts)
  all_start = some_start starts (λ k d lt. (k, lt, get_or_default starts k (slice_index_or starts k d) d lt))

-- ---- times

to_list : (bound arrival : Option ℕ) (t : ℕ) → bound ≡ None → IsBefore arrival t → IsToList bound arrival t
to_list bound None t unbounded before = subst (λ b. IsWithin b t) (sym unbounded) tt
to_list bound (Some a) t unbounded before = before

from_list : (bound arrival : Option ℕ) (t : ℕ) → IsToList bound arrival t → IsBefore arrival t
from_list bound None t listed = tt
from_list bound (Some a) t listed = listed

-- no walk counts that arrives at a time to list
none_counts : (g : GraphMeaning) (l : LabelsMeaning) (starts targets : List ℕ) (dep : ℕ) (bound arrival : Option ℕ) (t : ℕ) → IsArrival g l starts targets dep bound arrival
    → IsToList bound arrival t → ArrivesAt g l starts targets dep t → ⊥
none_counts g l starts targets dep bound None t none listed arrives = none t listed arrives
none_counts g l starts targets dep bound (Some a) t least listed arrives = let late = least.0.least t arrives in absurd (omega arith)

pub all_after : (l : LabelsMeaning) (q : ℕ) (letter : Option ℕ) (P : ℕ → Type 0) → ((r : ℕ) → Follows l q letter r → P r) → AllAfter l q letter P
all_after l q None P holds = holds q refl
all_after l q (Some c) P holds = λ j lt bit. holds (l.move_at q j).to (j, record { place = lt; letter = bit; to = refl })

-- ---- the list

module _ (g : GraphMeaning) (graph : IsLawfulGraph g) (l : LabelsMeaning) (labels : IsLawfulLabels l) (starts targets : List ℕ) (within : All (λ v. v < g.nodes) starts)
    (dep : ℕ) (bound arrival : Option ℕ) (unbounded : bound ≡ None) (list : List Label)
    (first : IsArrival g l starts targets dep bound arrival) (least : AreLeastLabels g l starts dep bound arrival list)
    (listed : (v q t : ℕ) → IsReachedAt g l starts dep v q t → IsToList bound arrival t → IsListedBy list v q t) where
  reached_at_place : (k : ℕ) → k < length list → (d : Label) → IsReachedAt g l starts dep (slice_index_or list k d).node (slice_index_or list k d).state (slice_index_or list k d).at
  reached_at_place k lt d = (least.least k d lt).0.reached

  node_within : (v q t : ℕ) → IsReachedAt g l starts dep v q t → v < g.nodes
  node_within v q t r =
      let start : r.start < g.nodes = subst (λ v. v < g.nodes) (r.starts_there).2 (within (r.starts_there).0 r.start (r.starts_there).1) in
      walk_stays g graph l labels r.steps r.start dep v t start r.walk

  state_within : (v q t : ℕ) → IsReachedAt g l starts dep v q t → q < l.states
  state_within v q t r = reads_stay g graph l labels _ r.first q r.is_state r.reads

  in_order : (k : ℕ) → k < length list → IsInOrderAt g l arrival list k
  in_order k lt d =
      let r = reached_at_place k lt d in
      ((node_within _ _ _ r, state_within _ _ _ r, from_list bound arrival _ (least.least k d lt).1), λ some. least.ascending (k - 1) k d (omega arith) lt)

  starts_listed : (k : ℕ) → k < length (start_pairs l starts) → StartIsListedAt l starts dep arrival list k
  starts_listed k lt d before =
      let p = all_start l starts k d lt in
      let v = (slice_index_or (start_pairs l starts) k d).0 in
      let q = (slice_index_or (start_pairs l starts) k d).1 in
      listed v q dep (record { start = v; first = q; steps = []; starts_there = p.0; is_state = p.1.0; is_start = p.1.1; walk = (refl, refl); reads = refl })
      (to_list bound arrival dep unbounded before)

  no_end : (k : ℕ) → k < length list → IsNoEndAt l targets list k
  no_end k lt d target accepts =
      let r = reached_at_place k lt d in
      none_counts g l starts targets dep bound arrival (slice_index_or list k d).at first (least.least k d lt).1
      (record { start = r.start; end = _; steps = r.steps; starts_there = r.starts_there; ends_there = target; walk = r.walk; word = (r.first, _, r.is_state, r.is_start, r.reads, accepts) })

  arcs_listed : (k : ℕ) → k < length list → ArcsAreListedAt g l arrival list k
  arcs_listed k lt d i arc_in u e before =
      let r = reached_at_place k lt d in
      let x = slice_index_or list k d in
      all_after l x.state (g.arc_at x.node i).letter (λ s. IsListedBy list (g.arc_at x.node i).to s u)
      (λ s follows. listed (g.arc_at x.node i).to s u
      (reached_more g l starts dep x.node x.state x.at i u s r (record { node = node_within _ _ _ r; arc = arc_in }) e follows) (to_list bound arrival u unbounded before))

  pub labels_closed : IsClosed g l starts targets dep arrival list
  labels_closed = record { in_order = in_order; starts_listed = starts_listed; no_end = no_end; arcs_listed = arcs_listed }
