-- The way back through the ways is a walk of the graph.
use Rattle.plan_base.proofs.Common.{◌≡◌, ◌≢◌, ℕ, zero, suc, ◌+◌, ◌-◌, ◌^◌, ◌<◌, ◌≤◌, List, [], ◌∷◌, ◌++◌, Some, None, refl, sym, ◌∙◌, ap, subst, arith, Option, IfSome, All, reverse, slice_get, length, reverse-append, All-nil, All-cons, slice_get_within}
use Rattle.search_laws.specs.{GraphMeaning, LabelsMeaning}
use Rattle.product_search.specs.{Hop, Walk, IsHop, AreWalkHops, IsWalkFor, IsWalkTo, last_time, declared.row.Row.Row, declared.row.Taken.Taken, declared.frontier.Scan.Scan, declared.frontier.Frontier.Frontier, inside.rows, inside.ways, inside.IsFromStart, inside.IsBehind, inside.IsTracedTo, inside.AreTraced, inside.IsEnd, inside.GoesTo, inside.end_arrival, inside.HasParents, inside.IsWayTo, inside.IsWayAt, inside.IsBackTo, inside.IsTrailHop, inside.AreTrail, inside.IsTrailIfAny, inside.IsTrailTo}

same_way : (f : Frontier) (n : ℕ) (w x : Taken) → slice_get (ways f) n ≡ Some w → slice_get (ways f) n ≡ Some x → w ≡ x
same_way f n w x is also = let e : Some w ≡ Some x = sym is ∙ also in cc

same_row : (f : Frontier) (w x : Taken) (r d : Row) → w ≡ x → slice_get (rows f) w.row ≡ Some r → slice_get (rows f) x.row ≡ Some d → r ≡ d
same_row f w x r d same is also = let e : Some r ≡ Some d = sym is ∙ ap (λ (y : Taken). slice_get (rows f) y.row) same ∙ also in cc

-- what leads to a place leads to no other one
one_place : (f : Frontier) (n m v q t v2 q2 t2 : ℕ) (w x : Taken) → m ≡ n → IsWayAt f n v q t w → IsWayAt f m v2 q2 t2 x → (v2 ≡ v) × (q2 ≡ q) × (t2 ≡ t)
one_place f n m v q t v2 q2 t2 w x same at also =
    let way = same_way f n w x at.known (subst (λ k. slice_get (ways f) k ≡ Some x) same also.known) in
    let row = same_row f w x at.row also.row way at.leads also.leads in (
      also.node ∙ ap (λ (r : Row). r.node) (sym row) ∙ sym at.node,
      also.state ∙ ap (λ (r : Row). r.state) (sym row) ∙ sym at.state,
      also.at ∙ ap (λ (y : Taken). f.base + y.delay) (sym way) ∙ sym at.at,
    )

-- ---- the way back, way by way

less_one : (n : ℕ) → n ≢ 0 → n ≡ suc (n - 1)
less_one n some = omega (arith, some)

pub way_to_within : (f : Frontier) (link : ℕ) → IsWayTo f link → link - 1 < length (ways f)
way_to_within f link (n, is, w, known) = omega (arith, is, slice_get_within (ways f) n w known)

module _ (f : Frontier) (right : HasParents f) where
  pub row_within : (n : ℕ) (w : Taken) → slice_get (ways f) n ≡ Some w → w.row < length (rows f)
  row_within n w known = let (r, leads) = right.lead n w known in slice_get_within (rows f) w.row r leads

  pub parent_within : (n : ℕ) (w : Taken) → slice_get (ways f) n ≡ Some w → w.parent ≢ 0 → w.parent - 1 < length (ways f)
  parent_within n w known some =
      omega (arith, right.before n (w.parent - 1) w known (less_one w.parent some), slice_get_within (ways f) n w known)

  -- the parent of a way has a parent before that one
  pub parent_falls : (n : ℕ) (w x : Taken) → slice_get (ways f) n ≡ Some w → w.parent ≢ 0 → slice_get (ways f) (w.parent - 1) ≡ Some x → x.parent < w.parent
  parent_falls n w x known some next = go x.parent refl where
    go : (p : ℕ) → x.parent ≡ p → x.parent < w.parent
    go zero e = omega (arith, e, some)
    go (suc k) e = omega (arith, e, some, right.before (w.parent - 1) k x next e)

pub back_begins : (f : Frontier) (link : ℕ) → IsWayTo f link → (w : Taken) (back : List Hop) → slice_get (ways f) (link - 1) ≡ Some w → back ≡ []
    → IsBackTo f link w back
back_begins f link (n, is, way, known) w back at none =
    record { number = link - 1; known = at; last = n; trail = rw none (omega (arith, is)); ends = is }

pub back_on : (f : Frontier) (link : ℕ) (w x : Taken) (r : Row) (at : ℕ) (back on : List Hop) → IsBackTo f link w back → w.parent ≢ 0
    → slice_get (rows f) w.row ≡ Some r → at ≡ f.base + w.delay → w.delay < 2 ^ 64 → slice_get (ways f) (w.parent - 1) ≡ Some x
    → on ≡ back ++ (record { arc = w.arc; to = r.node; state = r.state; at = at }) ∷ [] → IsBackTo f link x on
back_on f link w x r at back on here some leads time soon next pushed = record {
  number = w.parent - 1;
  known = next;
  last = here.last;
  trail = rw (pushed, reverse-append) (
    here.number,
    record {
      way = w;
      is_at = record { known = here.known; row = r; leads = leads; node = refl; state = refl; at = time; soon = soon };
      parent = less_one w.parent some;
      arc = refl;
    },
    here.trail,
  );
  ends = here.ends;
}

pub back_ends : (f : Frontier) (link : ℕ) (w : Taken) (r : Row) (back : List Hop) (walk : Walk) → IsBackTo f link w back → w.parent ≡ 0
    → slice_get (rows f) w.row ≡ Some r → walk.node ≡ r.node → walk.state ≡ r.state → walk.at ≡ f.base + w.delay → w.delay < 2 ^ 64
    → walk.hops.items ≡ reverse back → IsTrailTo f link walk
back_ends f link w r back walk here none leads node state at soon hops = record {
  first = here.number;
  last = here.last;
  way = w;
  is_at = record { known = here.known; row = r; leads = leads; node = node; state = state; at = at; soon = soon };
  no_parent = none;
  hops = rw hops here.trail;
  ends = here.ends;
}

-- ---- the way back is a walk

module _ (g : GraphMeaning) (l : LabelsMeaning) (starts : List ℕ) (f : Frontier) (traced : AreTraced g l starts f) where
  behind : (n k : ℕ) (w : Taken) (known : slice_get (ways f) n ≡ Some w) → w.parent ≡ suc k → IsBehind g l f n (traced n w known).0 w k
  behind n k w known parent = subst (λ p. IsTracedTo g l starts f n (traced n w known).0 w p) parent (traced n w known).2

  pub has_parents : HasParents f
  has_parents = record {
    lead = λ n w known. ((traced n w known).0, (traced n w known).1);
    before = λ n k w known parent. (behind n k w known parent).before;
  }

  hop_of : (n next v q t : ℕ) (way : Taken) (h : Hop) → IsWayAt f n v q t way → IsTrailHop f n next h → IsHop g l v q t h
  hop_of n next v q t way h at hop =
      let by = behind next n hop.way hop.is_at.known hop.parent in
      let same = same_way f n by.way way by.known at.known in
      let from = same_row f by.way way by.from at.row same by.leads at.leads in
      let to = same_row f hop.way hop.way (traced next hop.way hop.is_at.known).0 hop.is_at.row refl (traced next hop.way hop.is_at.known).1 hop.is_at.leads in
      let node : by.from.node ≡ v = ap (λ (r : Row). r.node) from ∙ sym at.node in
      let state : by.from.state ≡ q = ap (λ (r : Row). r.state) from ∙ sym at.state in
      let time : f.base + by.way.delay ≡ t = ap (λ (y : Taken). f.base + y.delay) same ∙ sym at.at in
      record {
        has = rw (hop.arc, sym node) by.has;
        arrives = rw (hop.arc, sym node, sym time, hop.is_at.at) by.arrives;
        to = rw (hop.arc, sym node) (hop.is_at.node ∙ ap (λ (r : Row). r.node) (sym to) ∙ by.node);
        state = rw (hop.arc, sym node, sym state, hop.is_at.state ∙ ap (λ (r : Row). r.state) (sym to)) by.state;
      }

  hops_of : (hops : List Hop) (n v q t last v2 q2 t2 : ℕ) (way end : Taken) → IsWayAt f n v q t way → AreTrail f n hops last → IsWayAt f last v2 q2 t2 end
      → AreWalkHops g l v q t hops v2 q2 t2
  hops_of [] n v q t last v2 q2 t2 way end at same ends = one_place f n last v q t v2 q2 t2 way end same at ends
  hops_of (h ∷ hops) n v q t last v2 q2 t2 way end at (next, hop, trail) ends =
      (hop_of n next v q t way h at hop, hops_of hops next h.to h.state h.at last v2 q2 t2 hop.way end hop.is_at trail ends)

  walk_of : (targets : List ℕ) (dep : ℕ) (bound : Option ℕ) → f.base ≡ dep → (s : Scan) (w : Walk) → IsEnd l targets bound f s → IsTrailTo f s.link w
      → IsWalkTo g l starts targets dep (f.base + s.delay) w
  walk_of targets dep bound base s w end trail =
      let (row, leads, to) = traced trail.first trail.way trail.is_at.known in
      let from : IsFromStart l starts row trail.way = subst (λ p. IsTracedTo g l starts f trail.first row trail.way p) trail.no_parent to in
      let same = same_row f trail.way trail.way row trail.is_at.row refl leads trail.is_at.leads in
      let node : w.node ≡ row.node = trail.is_at.node ∙ ap (λ (r : Row). r.node) (sym same) in
      let state : w.state ≡ row.state = trail.is_at.state ∙ ap (λ (r : Row). r.state) (sym same) in
      record {
        end = s.node;
        final = s.state;
        starts_there = rw node from.starts_there;
        is_state = rw state from.is_state;
        is_start = rw state from.is_start;
        leaves = omega (arith, trail.is_at.at, from.at, base);
        hops = hops_of w.hops.items trail.first w.node w.state w.at trail.last s.node s.state (f.base + s.delay) trail.way end.is.way trail.is_at trail.hops (record {
          known = subst (λ k. slice_get (ways f) k ≡ Some end.is.way) (omega (arith, end.is.link, trail.ends)) end.is.known;
          row = end.is.row;
          leads = end.is.leads;
          node = end.is.node;
          state = end.is.state;
          at = omega (arith, end.is.delay);
          soon = omega (arith, end.is.delay, end.soon);
        });
        ends_there = end.ends.0;
        accepts = end.ends.1;
      }

-- ---- times

-- each time on the way is that of a way
trail_soon : (f : Frontier) (hops : List Hop) (n last : ℕ) → AreTrail f n hops last → All (λ h. h.at ≤ last_time f.base) hops
trail_soon f [] n last trail = All-nil (λ (h : Hop). h.at ≤ last_time f.base)
trail_soon f (h ∷ hops) n last (next, hop, trail) =
    All-cons (λ (h : Hop). h.at ≤ last_time f.base) h hops (omega (arith, hop.is_at.at, hop.is_at.soon)) (trail_soon f hops next last trail)

pub walk_soon : (f : Frontier) (dep : ℕ) → f.base ≡ dep → (end : Option Scan) (walk : Option Walk) → IsTrailIfAny f end walk
    → IfSome walk (λ w. (w.at ≤ last_time dep) × All (λ h. h.at ≤ last_time dep) w.hops.items)
walk_soon f dep base end None trail = tt
walk_soon f dep base None (Some w) trail = absurd trail
walk_soon f dep base (Some s) (Some w) trail =
    rw (sym base) (omega (arith, trail.is_at.at, trail.is_at.soon), trail_soon f w.hops.items trail.first trail.last trail.hops)

-- ---- the end of a search

module _ (l : LabelsMeaning) (targets : List ℕ) (dep : ℕ) (bound : Option ℕ) (f : Frontier) where
  pub link_of : (end : Option Scan) → GoesTo l targets dep bound f end → IfSome end (λ s. IsWayTo f s.link)
  link_of None goes = tt
  link_of (Some s) goes = let is = goes.is in (is.number, is.link, is.way, is.known)

  pub arrival_in_time : f.base ≡ dep → (end : Option Scan) → GoesTo l targets dep bound f end → IfSome (end_arrival f end) (λ a. a ≤ last_time dep)
  arrival_in_time base None goes = tt
  arrival_in_time base (Some s) goes = omega (arith, base, goes.soon)

pub walk_for : (g : GraphMeaning) (l : LabelsMeaning) (starts targets : List ℕ) (dep : ℕ) (bound : Option ℕ) (f : Frontier) → f.base ≡ dep → AreTraced g l starts f
    → (end : Option Scan) (walk : Option Walk) → GoesTo l targets dep bound f end → IsTrailIfAny f end walk → IsWalkFor g l starts targets dep (end_arrival f end) walk
walk_for g l starts targets dep bound f base traced None None goes trail = tt
walk_for g l starts targets dep bound f base traced None (Some w) goes trail = trail
walk_for g l starts targets dep bound f base traced (Some s) None goes trail = trail
walk_for g l starts targets dep bound f base traced (Some s) (Some w) goes trail = walk_of g l starts f traced targets dep bound base s w goes trail
