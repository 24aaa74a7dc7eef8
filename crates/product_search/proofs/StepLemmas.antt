-- One turn of the search: a product state is taken from the queue, and its arcs are explored.
use Rattle.plan_base.proofs.Common.{◌≡◌, ℕ, zero, suc, ◌+◌, ◌*◌, ◌-◌, ◌^◌, ◌<◌, ◌≤◌, inl, inr, List, [], Some, None, get_or, length, refl, sym, ◌∙◌, ap, subst, arith, Option, All, Contains, IsTrue, slice_get, slice_index, cases_lt, slice_get_within, slice_get-get_or, All-contains}
use Rattle.search_laws.specs.{GraphMeaning, HasArc, IsLawfulGraph, LabelsMeaning, IsLawfulLabels, Follows}
use Rattle.product_search.specs.{declared.row.Row.Row, declared.row.Reached.Reached, declared.row.Taken.Taken, declared.frontier.Scan.Scan, declared.frontier.Frontier.Frontier, IsReachedAt, inside.rows, inside.ways, inside.IsFrontier, inside.IsLastWay, inside.IsReachedBy, inside.IsWanted, inside.IsSameBut, inside.Takes, inside.TakesNone, inside.queue_len, inside.IsNoLater, inside.Offers, inside.IsSuccessor, inside.IsStartAmong, inside.StartIsReached, inside.ArcIsReached, inside.reached_by, inside.IsTracedTo, inside.IsTraced, inside.AreTraced, inside.IsDone, inside.IsSearching, inside.IsScanning, inside.IsSearched}
use Rattle.product_search.proofs.{OfferLemmas.reached_keeps, OfferLemmas.wanted_same, OfferLemmas.all_after_weaker, ReachLemmas.IsDoneAt, ReachLemmas.NoneWaitsBy, ReachLemmas.row_reached, ReachLemmas.complete}

-- a state after a letter, or after none, is in range
pub state_in_range : (l : LabelsMeaning) → IsLawfulLabels l → (letter : Option ℕ) (q r : ℕ) → q < l.states → Follows l q letter r → r < l.states
state_in_range l lawful None q r lt follows = subst (λ x. x < l.states) (sym follows) lt
state_in_range l lawful (Some c) q r lt (i, m) = subst (λ x. x < l.states) m.to (lawful.to_in_range q i lt m.place)

-- ---- what is traced

abbrev pub KeepsRows : Frontier → Frontier → Type 0
KeepsRows old new = (k : ℕ) (r : Row) → slice_get (rows old) k ≡ Some r → (now : Row) × (slice_get (rows new) k ≡ Some now) × IsNoLater r now

pub keeps_same : (old new : Frontier) → rows new ≡ rows old → KeepsRows old new
keeps_same old new same k r known = (r, ap (λ rs. slice_get rs k) same ∙ known, record { node = refl; state = refl; delay = omega arith })

module _ (g : GraphMeaning) (l : LabelsMeaning) (starts : List ℕ) (old new : Frontier) (base : new.base ≡ old.base) (kept : KeepsRows old new)
    (stay : (n : ℕ) (w : Taken) → slice_get (ways old) n ≡ Some w → slice_get (ways new) n ≡ Some w) where
  behind_keeps : (n : ℕ) (r now : Row) (w : Taken) (p : ℕ) → IsNoLater r now → IsTracedTo g l starts old n r w p → IsTracedTo g l starts new n now w p
  behind_keeps n r now w zero later from = record {
    starts_there = subst (λ v. Contains starts v) (sym later.node) from.starts_there;
    is_state = subst (λ q. q < l.states) (sym later.state) from.is_state;
    is_start = subst (λ q. IsTrue (l.is_start q)) (sym later.state) from.is_start;
    at = from.at;
  }
  behind_keeps n r now w (suc k) later from =
      let is = kept (from.way).row from.from from.leads in
      let at = is.2 in
      record {
        before = from.before;
        way = from.way;
        known = stay k from.way from.known;
        from = is.0;
        leads = is.1;
        has = subst (λ v. HasArc g v w.arc) (sym at.node) from.has;
        arrives = rw (at.node, base) from.arrives;
        node = later.node ∙ from.node ∙ ap (λ v. (g.arc_at v w.arc).to) (sym at.node);
        state = rw (at.node, at.state, later.state) from.state;
      }

  traced_keeps : (n : ℕ) (w : Taken) → IsTraced g l starts old n w → IsTraced g l starts new n w
  traced_keeps n w (r, leads, to) =
      let is = kept w.row r leads in (is.0, is.1, behind_keeps n r is.0 w w.parent is.2 to)

-- ---- the same rows

pub reached_same : (old new : Frontier) → new.base ≡ old.base → rows new ≡ rows old → (v q t : ℕ) → IsReachedBy old v q t → IsReachedBy new v q t
reached_same old new base same v q t reached = record {
  number = reached.number;
  row = reached.row;
  known = ap (λ rs. slice_get rs reached.number) same ∙ reached.known;
  node = reached.node;
  state = reached.state;
  by = omega (arith, base, reached.by);
}

pub wanted_still : (old new : Frontier) → IsSameBut old new → (t : ℕ) → IsWanted new t → IsWanted old t
wanted_still old new same t is = elim is [ inl all ↦ inl (omega (arith, all, same.until)) | inr lt ↦ inr (omega (arith, lt, same.until, same.base)) ]

-- a row was as it is
pub row_still : (old new : Frontier) → IsSameBut old new → (k : ℕ) (r : Row) → slice_get (rows new) k ≡ Some r → slice_get (rows old) k ≡ Some r
row_still old new same k r known = ap (λ rs. slice_get rs k) (sym same.rows) ∙ known

-- a way is as it was
pub way_still : (old new : Frontier) → IsSameBut old new → (n : ℕ) (w : Taken) → slice_get (ways old) n ≡ Some w → slice_get (ways new) n ≡ Some w
way_still old new same n w known = ap (λ ws. slice_get ws n) same.ways ∙ known

traced_still : (g : GraphMeaning) (l : LabelsMeaning) (starts : List ℕ) (old new : Frontier) → IsSameBut old new → AreTraced g l starts old → AreTraced g l starts new
traced_still g l starts old new same traced n w known =
    traced_keeps g l starts old new same.base (keeps_same old new same.rows) (way_still old new same) n w (traced n w (ap (λ ws. slice_get ws n) (sym same.ways) ∙ known))

module _ (g : GraphMeaning) (l : LabelsMeaning) (P : ℕ → ℕ → ℕ → Type 0) (old new : Frontier) (base : new.base ≡ old.base) (same : rows new ≡ rows old)
    (wanted : (t : ℕ) → IsWanted new t → IsWanted old t) where
  arc_same : (v q t i : ℕ) → ArcIsReached g l old v q t i → ArcIsReached g l new v q t i
  arc_same v q t i arc u e in_time = all_after_weaker l q (g.arc_at v i).letter (λ r. IsReachedBy old (g.arc_at v i).to r u) (λ r. IsReachedBy new (g.arc_at v i).to r u)
      (λ r. reached_same old new base same (g.arc_at v i).to r u) (arc u e (wanted u in_time))

  done_same : (r : Row) → IsDone g l P old r → IsDone g l P new r
  done_same r done = record {
    seen = subst (λ b. P r.node r.state (b + r.delay)) (sym base) done.seen;
    arcs = λ i lt. subst (λ b. ArcIsReached g l new r.node r.state (b + r.delay) i) (sym base) (arc_same r.node r.state (old.base + r.delay) i (done.arcs i lt));
  }

  starts_same : (node : ℕ) → StartIsReached old l node → StartIsReached new l node
  starts_same node all q lt start = subst (λ b. IsReachedBy new node q b) (sym base) (reached_same old new base same node q old.base (all q lt start))

-- ---- one is taken

module _ (g : GraphMeaning) (l : LabelsMeaning) (starts : List ℕ) (dep : ℕ) where
  pub takes_scanning : (P : ℕ → ℕ → ℕ → Type 0) (f f1 : Frontier) (s : Scan) → IsSearching g l starts dep P f → Takes f f1 s → IsScanning g l starts dep P f1 s
  takes_scanning P f f1 s searching takes = record {
    right = takes.right;
    base = (takes.same).base ∙ searching.base;
    in_range = λ k r known. searching.in_range k r (before k r known);
    traced = traced_still g l starts f f1 takes.same searching.traced;
    starts_reached = λ k lt. starts_same g l P f f1 (takes.same).base (takes.same).rows wanted (slice_index starts k) (searching.starts_reached k lt);
    number = takes.number;
    row = takes.row;
    known = ap (λ rs. slice_get rs takes.number) (takes.same).rows ∙ takes.known;
    node = takes.node;
    state = takes.state;
    delay = takes.delay;
    link = takes.link;
    open_or_done = λ k r known. elim (searching.open_or_done k r (before k r known)) [
      | inl waits ↦ elim (takes.others k r (before k r known) waits) [
        | inl is ↦ inl is
        | inr rest ↦ elim rest [
          | inl still ↦ inr (inl still)
          | inr late ↦ inr (inr (λ early. absurd (omega (arith, early, late, (takes.same).until))))
        ]
      ]
      | inr done ↦ inr (inr (λ early. done_same g l P f f1 (takes.same).base (takes.same).rows wanted r (done (omega (arith, early, (takes.same).until)))))
    ];
  } where
    before : (k : ℕ) (r : Row) → slice_get (rows f1) k ≡ Some r → slice_get (rows f) k ≡ Some r
    before = row_still f f1 takes.same

    wanted : (t : ℕ) → IsWanted f1 t → IsWanted f t
    wanted = wanted_still f f1 takes.same

  pub scanning_weaker : (P Q : ℕ → ℕ → ℕ → Type 0) (f : Frontier) (s : Scan) → ((v q t : ℕ) → P v q t → Q v q t) → IsScanning g l starts dep P f s → IsScanning g l starts dep Q f s
  scanning_weaker P Q f s imp scanning = record {
    right = scanning.right;
    base = scanning.base;
    in_range = scanning.in_range;
    traced = scanning.traced;
    starts_reached = scanning.starts_reached;
    number = scanning.number;
    row = scanning.row;
    known = scanning.known;
    node = scanning.node;
    state = scanning.state;
    delay = scanning.delay;
    link = scanning.link;
    open_or_done = λ k r known. elim (scanning.open_or_done k r known) [
      | inl is ↦ inl is
      | inr rest ↦ inr (elim rest [
        | inl waits ↦ inl waits
        | inr done ↦ inr (λ early. (let was = done early in record { seen = imp r.node r.state (f.base + r.delay) was.seen; arcs = was.arcs }))
      ])
    ];
  }

  -- the search goes no further than u
  abbrev up_to : ℕ → Frontier → Frontier
  up_to u f = record f { until = u }

  right_until : (u : ℕ) (f : Frontier) → IsFrontier f → IsFrontier (up_to u f)
  right_until u f right = record {
    queue = right.queue;
    apart = right.apart;
    indexed = right.indexed;
    last_ways = λ k r known. (let last = right.last_ways k r known in (last.0, record { known = (last.1).known; row = (last.1).row; delay = (last.1).delay }));
    soon = right.soon;
    few = right.few;
    few_ways = right.few_ways;
  }

  pub scanning_until : (u : ℕ) (P : ℕ → ℕ → ℕ → Type 0) (f : Frontier) (s : Scan) → u ≤ f.until → (u ≡ 2 ^ 64 - 1 → f.until ≡ 2 ^ 64 - 1)
      → IsScanning g l starts dep P f s → IsScanning g l starts dep P (record f { until = u }) s
  scanning_until u P f s le all scanning = record {
    right = right_until u f scanning.right;
    base = scanning.base;
    in_range = scanning.in_range;
    traced = λ n w known. traced_keeps g l starts f (up_to u f) refl (keeps_same f (up_to u f) refl) (λ n w known. known) n w (scanning.traced n w known);
    starts_reached = λ k lt. starts_same g l P f (up_to u f) refl refl wanted (slice_index starts k) (scanning.starts_reached k lt);
    number = scanning.number;
    row = scanning.row;
    known = scanning.known;
    node = scanning.node;
    state = scanning.state;
    delay = scanning.delay;
    link = scanning.link;
    open_or_done = λ k r known. elim (scanning.open_or_done k r known) [
      | inl is ↦ inl is
      | inr rest ↦ inr (elim rest [
        | inl waits ↦ inl waits
        | inr done ↦ inr (λ early. done_same g l P f (up_to u f) refl refl wanted r (done (omega (arith, early, le))))
      ])
    ];
  } where
    wanted : (t : ℕ) → IsWanted (up_to u f) t → IsWanted f t
    wanted t is = elim is [ inl top ↦ inl (all top) | inr lt ↦ inr (omega (arith, lt, le)) ]

  module _ (P : ℕ → ℕ → ℕ → Type 0) (f : Frontier) (s : Scan) (scanning : IsScanning g l starts dep P f s) where
    pub scanning_here : IsReachedBy f s.node s.state (f.base + s.delay)
    scanning_here = record {
      number = scanning.number;
      row = scanning.row;
      known = scanning.known;
      node = sym scanning.node;
      state = sym scanning.state;
      by = omega (arith, scanning.delay);
    }

    pub scanning_reached : IsReachedAt g l starts dep s.node s.state (dep + s.delay)
    scanning_reached = rw (sym scanning.base, scanning.node, scanning.state, scanning.delay)
        (row_reached g l starts f scanning.traced scanning.right scanning.number scanning.row scanning.known)

    pub scanning_range : (s.node < g.nodes) × (s.state < l.states)
    scanning_range = rw (scanning.node, scanning.state) (scanning.in_range scanning.number scanning.row scanning.known)

  -- ---- where it is an end, and the search goes up to it

  pub scanning_ends : (P : ℕ → ℕ → ℕ → Type 0) (f : Frontier) (s : Scan) → f.until ≡ s.delay → IsScanning g l starts dep P f s → IsSearching g l starts dep P f
  scanning_ends P f s last scanning = record {
    right = scanning.right;
    base = scanning.base;
    in_range = scanning.in_range;
    traced = scanning.traced;
    starts_reached = scanning.starts_reached;
    open_or_done = λ k r known. elim (scanning.open_or_done k r known) [
      | inl is ↦ inr (λ early. (let same : Some r ≡ Some scanning.row = sym known ∙ ap (λ n. slice_get (rows f) n) is ∙ scanning.known in
          let e : r ≡ scanning.row = cc in
          absurd (omega (arith, early, last, scanning.delay, ap (λ (x : Row). x.delay) e))))
      | inr rest ↦ rest
    ];
  }

-- ---- its arcs are explored

module _ (g : GraphMeaning) (lawful : IsLawfulGraph g) (l : LabelsMeaning) (labels : IsLawfulLabels l) (starts : List ℕ) (dep : ℕ) (P : ℕ → ℕ → ℕ → Type 0)
    (f f2 : Frontier) (s : Scan) (scanning : IsScanning g l starts dep P f s) (offers : Offers f f2 (IsSuccessor g l f.base s)) (right : IsFrontier f2) where
  -- the last way to it, and its row now
  abbrev last : (w : Taken) × IsLastWay f scanning.number scanning.row w
  last = (scanning.right).last_ways scanning.number scanning.row scanning.known

  abbrev now : (r : Row) × (slice_get (rows f2) scanning.number ≡ Some r) × IsNoLater scanning.row r
  now = offers.kept scanning.number scanning.row scanning.known

  fresh_traced : (n : ℕ) (w : Taken) → length (ways f) ≤ n → (r : Row) → IsSuccessor g l f.base s r.node r.state (reached_by w) → IsTracedTo g l starts f2 n r w w.parent
  fresh_traced n w from r next =
      let parent : w.parent ≡ suc (scanning.row).way = ap (λ (x : Reached). x.parent) next.as_made ∙ scanning.link in
      let arc : w.arc ≡ next.place = ap (λ (x : Reached). x.arc) next.as_made in
      let node : (now.0).node ≡ s.node = (now.2).node ∙ sym scanning.node in
      let state : (now.0).state ≡ s.state = (now.2).state ∙ sym scanning.state in
      let delay : (last.0).delay ≡ s.delay = (last.1).delay ∙ sym scanning.delay in
      rw parent (record {
        before = (let in_old = slice_get_within (ways f) (scanning.row).way last.0 (last.1).known in omega (arith, in_old, from));
        way = last.0;
        known = offers.stay (scanning.row).way last.0 (last.1).known;
        from = now.0;
        leads = ap (λ k. slice_get (rows f2) k) (last.1).row ∙ now.1;
        has = rw (node, arc) next.has;
        arrives = rw (node, arc, offers.base, delay) next.arrives;
        node = rw (node, arc) next.node;
        state = rw (node, arc, state) next.state;
      })

  traced_on : AreTraced g l starts f2
  traced_on n w known = elim (cases_lt n (length (ways f))) [
    | inl lt ↦ (let was : slice_get (ways f) n ≡ Some (get_or (ways f) n w) = slice_get-get_or (ways f) n w lt in
        let same : Some (get_or (ways f) n w) ≡ Some w = sym (offers.stay n (get_or (ways f) n w) was) ∙ known in
        let e : get_or (ways f) n w ≡ w = cc in
        traced_keeps g l starts f f2 offers.base offers.kept offers.stay n w (scanning.traced n w (was ∙ ap Some e)))
    | inr from ↦ elim (offers.taken n w known) [
      | inl was ↦ traced_keeps g l starts f f2 offers.base offers.kept offers.stay n w (scanning.traced n w was)
      | inr fresh ↦ (fresh.0, fresh.1, fresh_traced n w from fresh.0 fresh.2)
    ]
  ]

  range_on : (k : ℕ) (r : Row) → slice_get (rows f2) k ≡ Some r → (r.node < g.nodes) × (r.state < l.states)
  range_on k r known =
      let way = right.last_ways k r known in
      let leads : slice_get (rows f2) (way.0).row ≡ Some r = ap (λ n. slice_get (rows f2) n) (way.1).row ∙ known in
      elim (offers.taken r.way way.0 (way.1).known) [
        | inl was ↦ (let old = scanning.traced r.way way.0 was in
            let still = offers.kept (way.0).row old.0 old.1 in
            let same : Some still.0 ≡ Some r = sym still.1 ∙ leads in
            let e : still.0 ≡ r = cc in
            let range = scanning.in_range (way.0).row old.0 old.1 in
            (subst (λ v. v < g.nodes) (sym (still.2).node ∙ ap (λ (x : Row). x.node) e) range.0, subst (λ q. q < l.states) (sym (still.2).state ∙ ap (λ (x : Row). x.state) e) range.1))
        | inr fresh ↦ (let same : Some fresh.0 ≡ Some r = sym fresh.1 ∙ leads in
            let e : fresh.0 ≡ r = cc in
            let next = fresh.2 in
            let of = scanning_range g l starts dep P f s scanning in (
              subst (λ v. v < g.nodes) (sym next.node ∙ ap (λ (x : Row). x.node) e) (lawful.to_in_range s.node next.place next.has),
              subst (λ q. q < l.states) (ap (λ (x : Row). x.state) e) (state_in_range l labels (g.arc_at s.node next.place).letter s.state (fresh.0).state of.1 next.state),
            ))
      ]

  arc_on : (v q t i : ℕ) → ArcIsReached g l f v q t i → ArcIsReached g l f2 v q t i
  arc_on v q t i arc u e in_time = all_after_weaker l q (g.arc_at v i).letter (λ r. IsReachedBy f (g.arc_at v i).to r u) (λ r. IsReachedBy f2 (g.arc_at v i).to r u)
      (λ r. reached_keeps f f2 (IsSuccessor g l f.base s) offers (g.arc_at v i).to r u) (arc u e (wanted_same f f2 (IsSuccessor g l f.base s) offers u in_time))

  pub scanning_on : ((i : ℕ) → i < g.arcs s.node → ArcIsReached g l f2 s.node s.state (f2.base + s.delay) i) → P s.node s.state (dep + s.delay) → IsSearching g l starts dep P f2
  scanning_on reached seen = record {
    right = right;
    base = offers.base ∙ scanning.base;
    in_range = range_on;
    traced = traced_on;
    starts_reached = λ k lt q in_q start. subst (λ b. IsReachedBy f2 (slice_index starts k) q b) (sym offers.base)
        (reached_keeps f f2 (IsSuccessor g l f.base s) offers (slice_index starts k) q f.base (scanning.starts_reached k lt q in_q start));
    open_or_done = λ k r known. elim (offers.changes k r known) [
      | inl was ↦ elim (scanning.open_or_done k r was) [
        | inl is ↦ inr (λ early. done_here k r is was)
        | inr rest ↦ elim rest [
          | inl waits ↦ inl (offers.queued r.delay _ waits)
          | inr done ↦ inr (λ early. done_on r (done (omega (arith, early, offers.until))))
        ]
      ]
      | inr waits ↦ inl waits
    ];
  } where
    done_here : (k : ℕ) (r : Row) → k ≡ scanning.number → slice_get (rows f) k ≡ Some r → IsDone g l P f2 r
    done_here k r is was =
        let same : Some scanning.row ≡ Some r = sym scanning.known ∙ ap (λ n. slice_get (rows f) n) (sym is) ∙ was in
        let e : scanning.row ≡ r = cc in
        let node : r.node ≡ s.node = ap (λ (x : Row). x.node) (sym e) ∙ sym scanning.node in
        let state : r.state ≡ s.state = ap (λ (x : Row). x.state) (sym e) ∙ sym scanning.state in
        let delay : r.delay ≡ s.delay = ap (λ (x : Row). x.delay) (sym e) ∙ sym scanning.delay in
        record {
          seen = rw (node, state, delay, offers.base, scanning.base) seen;
          arcs = rw (node, state, delay) reached;
        }

    done_on : (r : Row) → IsDone g l P f r → IsDone g l P f2 r
    done_on r done = record {
      seen = subst (λ b. P r.node r.state (b + r.delay)) (sym offers.base) done.seen;
      arcs = λ i lt. subst (λ b. ArcIsReached g l f2 r.node r.state (b + r.delay) i) (sym offers.base) (arc_on r.node r.state (f.base + r.delay) i (done.arcs i lt));
    }

-- ---- the beginning

module _ (g : GraphMeaning) (l : LabelsMeaning) (starts : List ℕ) (dep : ℕ) (P : ℕ → ℕ → ℕ → Type 0) (f0 f : Frontier) (in_range : All (λ v. v < g.nodes) starts)
    (base : f0.base ≡ dep) (no_rows : rows f0 ≡ []) (no_ways : ways f0 ≡ []) (offers : Offers f0 f (IsStartAmong l starts)) (right : IsFrontier f)
    (reached : (k : ℕ) → k < length starts → StartIsReached f l (slice_index starts k)) where
  start_way : (n : ℕ) (w : Taken) → slice_get (ways f) n ≡ Some w → (r : Row) × (slice_get (rows f) w.row ≡ Some r) × IsStartAmong l starts r.node r.state (reached_by w)
  start_way n w known = elim (offers.taken n w known) [
    | inl was ↦ (let none : slice_get [] n ≡ Some w = ap (λ ws. slice_get ws n) (sym no_ways) ∙ was in absurd (omega (arith, slice_get_within [] n w none)))
    | inr fresh ↦ fresh
  ]

  pub searching_begins : IsSearching g l starts dep P f
  searching_begins = record {
    right = right;
    base = offers.base ∙ base;
    in_range = λ k r known. (
        let way = right.last_ways k r known in
        let start = start_way r.way way.0 (way.1).known in
        let same : Some start.0 ≡ Some r = sym start.1 ∙ ap (λ n. slice_get (rows f) n) (way.1).row ∙ known in
        let e : start.0 ≡ r = cc in (
          subst (λ (x : Row). x.node < g.nodes) e (All-contains (λ v. v < g.nodes) starts (start.0).node in_range (start.2).starts_there),
          subst (λ (x : Row). x.state < l.states) e (start.2).is_state,
        ));
    traced = λ n w known. (
        let start = start_way n w known in
        let is = start.2 in (
          start.0,
          start.1,
          subst (λ p. IsTracedTo g l starts f n start.0 w p) (sym (ap (λ (x : Reached). x.parent) is.as_made)) (record {
            starts_there = is.starts_there;
            is_state = is.is_state;
            is_start = is.is_start;
            at = ap (λ (x : Reached). x.delay) is.as_made;
          }),
        ));
    starts_reached = reached;
    open_or_done = λ k r known. elim (offers.changes k r known) [
      | inl was ↦ (let none : slice_get [] k ≡ Some r = ap (λ rs. slice_get rs k) (sym no_rows) ∙ was in absurd (omega (arith, slice_get_within [] k r none)))
      | inr waits ↦ inl waits
    ];
  }

-- ---- the end

module _ (g : GraphMeaning) (lawful : IsLawfulGraph g) (l : LabelsMeaning) (starts : List ℕ) (dep : ℕ) (P : ℕ → ℕ → ℕ → Type 0) (f f1 : Frontier)
    (searching : IsSearching g l starts dep P f) (over : TakesNone f f1) where
  pub searching_over : IsSearched g l starts dep P f1
  searching_over = record {
    right = over.right;
    base = (over.same).base ∙ searching.base;
    traced = traced_still g l starts f f1 over.same searching.traced;
    complete = λ v q t reached in_time. known_by v q t (complete g lawful l starts dep P f searching t (wanted t in_time) (none t (wanted t in_time)) v q reached);
    seen = λ k r known early. elim (searching.open_or_done k r (before k r known)) [
      | inl waits ↦ (let late = over.none k r (before k r known) waits in absurd (omega (arith, early, late, (over.same).until)))
      | inr done ↦ subst (λ b. P r.node r.state (b + r.delay)) (sym (over.same).base) (done (omega (arith, early, (over.same).until))).seen
    ];
  } where
    before : (k : ℕ) (r : Row) → slice_get (rows f1) k ≡ Some r → slice_get (rows f) k ≡ Some r
    before = row_still f f1 over.same

    wanted : (t : ℕ) → IsWanted f1 t → IsWanted f t
    wanted = wanted_still f f1 over.same

    none : (t : ℕ) → IsWanted f t → NoneWaitsBy f t
    none t is k r known le waits =
        let late = over.none k r known waits in
        elim is [
          | inl all ↦ absurd (omega (arith, all, late, (searching.right).soon k r known))
          | inr lt ↦ absurd (omega (arith, lt, le, late))
        ]

    known_by : (v q t : ℕ) → (b : ℕ) × (b ≤ t) × IsDoneAt g l P f v q b → IsReachedBy f1 v q t
    known_by v q t (b, le, done) = reached_same f f1 (over.same).base (over.same).rows v q t (record {
      number = done.number;
      row = done.row;
      known = done.known;
      node = done.node;
      state = done.state;
      by = omega (arith, le, done.at);
    })

-- ---- the turns come to an end

ways_grow : (old new : Frontier) (P : ℕ → ℕ → Reached → Type 0) → Offers old new P → length (ways old) ≤ length (ways new)
ways_grow old new P offers = go (length (ways old)) refl where
  none : Taken
  none = record { delay = 0; arc = 0; parent = 0; row = 0 }

  go : (n : ℕ) → length (ways old) ≡ n → n ≤ length (ways new)
  go zero e = omega arith
  go (suc n) e =
      let last = slice_get_within (ways new) n _ (offers.stay n _ (slice_get-get_or (ways old) n none (omega (arith, e)))) in
      omega (arith, last)

-- a turn takes an item, and adds as many items as ways, of which there is an end
pub turn_smaller : (f f1 f2 : Frontier) (s : Scan) (P : ℕ → ℕ → Reached → Type 0) → Takes f f1 s → Offers f1 f2 P → IsFrontier f2
    → queue_len f2.queue + 2 * (2 ^ 32 - length (ways f2)) < queue_len f.queue + 2 * (2 ^ 32 - length (ways f))
turn_smaller f f1 f2 s P takes offers right =
    omega (arith, takes.fewer, offers.count, right.few_ways, ways_grow f1 f2 P offers, ap length (takes.same).ways)
