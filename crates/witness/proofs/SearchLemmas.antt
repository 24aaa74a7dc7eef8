-- The search after a walk was offered, and what it shows at its end.
use Rattle.plan_base.proofs.Common.{◌≡◌, ◌≢◌, ℕ, ◌+◌, ◌*◌, ◌<◌, ◌≤◌, ◌⊎◌, inl, inr, List, [], ◌∷◌, ◌∙◌, length, take, get_or, sym, ap, subst, arith, All, Contains, Vec, sum_by, Global, cases_lt, length-set, take_all, All-more, All-weaker, All-contains, Contains-permutation}
use Rattle.std.proofs.Common.{heap_items, heap_len}
use Rattle.std.specs.BinaryHeap.{IsHeap}
use Rattle.std.specs.declared.cmp.Reverse.{Reverse}
use Rattle.witness.specs.{Edge, HasEdge, NoWalkWithin, row_at, declared.workspace.Workspace.Workspace, inside.Known, inside.IsKnownWithin, inside.IsSearch, inside.IsFresh, inside.NobodyBusy, inside.IsBusy, inside.Knows, inside.Reaches, inside.WaitsAt, inside.waiting_of, inside.waiting_cmp, inside.TakesWalk, inside.Leaves, inside.IsWalkOffered, inside.HasParent, inside.IsRelaxed, inside.AreLower, inside.IsNext, inside.IsSame, inside.IsKnownAt, inside.IsEdgeClosed, inside.NobodyWaitsWithin, inside.left_of, inside.work, inside.IsEdgePut}
use Rattle.hierarchy.specs.{Hop, AreHops, total}
use Rattle.witness.proofs.{ListLemmas.contains_head, ListLemmas.contains_tail, ListLemmas.head_or_tail, PlaceLemmas.known_here, PlaceLemmas.known_was, PlaceLemmas.lower, PlaceLemmas.less_left}

module _ (rows : List (Vec Edge Global)) (limit : ℕ) (busy : ℕ → ℕ → Type 0) (old new : Workspace) (to at parent : ℕ) (there : to < length old.places.items) where
  module _ (round : new.round ≡ old.round) (takes : TakesWalk old new to at parent) where
    knows_was : (v d p : ℕ) → Knows new v d p → ((v ≢ to) × Knows old v d p) ⊎ ((v ≡ to) × (d ≡ at) × (p ≡ parent))
    knows_was v d p now = known_was old.places.items new.places.items old.round to at parent there takes.places v d p (subst (λ r. Known new.places.items r v d p) round now)

    takes_lower : AreLower old new
    takes_lower v l r = subst (λ k. IsKnownWithin new.places.items k v l) (sym round) (lower old.places.items new.places.items old.round to at parent there takes.places takes.heavier v l r)

    still_waits : (v d : ℕ) → WaitsAt old v d → WaitsAt new v d
    still_waits v d w = Contains-permutation (waiting_of at to ∷ heap_items old.waiting) (heap_items new.waiting) (waiting_of d v) takes.waiting (contains_tail (waiting_of at to) (heap_items old.waiting) (waiting_of d v) w)

    here_waits : WaitsAt new to at
    here_waits = Contains-permutation (waiting_of at to ∷ heap_items old.waiting) (heap_items new.waiting) (waiting_of at to) takes.waiting (contains_head (waiting_of at to) (heap_items old.waiting))

    parent_kept : (v d p : ℕ) → HasParent rows old v d p → HasParent rows new v d p
    parent_kept v d p h = record { before = h.before; weight = h.weight; reached = takes_lower p h.before h.reached; edge = h.edge; sum = h.sum }

    takes_search : new.start ≡ old.start → at ≤ limit → HasParent rows old to at parent → IsSearch rows limit busy old → IsSearch rows limit busy new
    takes_search start le from s = record {
      count = ap length takes.places ∙ length-set old.places.items to (record { at = at; parent = parent; round = old.round }) ∙ s.count;
      begun = subst (λ v. Reaches new v 0) (sym start) (takes_lower old.start 0 s.begun);
      within = λ v d p now. elim (knows_was v d p now) [
        | inl was ↦ s.within v d p was.1
        | inr here ↦ (let same = here.1 in omega arith)
      ];
      parents = λ v d p now other. elim (knows_was v d p now) [
        | inl was ↦ parent_kept v d p (s.parents v d p was.1 (λ is. other (is ∙ sym start)))
        | inr here ↦ subst (λ x. HasParent rows new x d p) (sym here.0) (subst (λ x. HasParent rows new to x p) (sym here.1) (subst (λ x. HasParent rows new to at x) (sym here.2) (parent_kept to at parent from)))
      ];
      dealt = λ v d p now. elim (knows_was v d p now) [
        | inl was ↦ elim (s.dealt v d p was.1) [
          | inl waits ↦ inl (still_waits v d waits)
          | inr other ↦ elim other [
            | inl now ↦ inr (inl now)
            | inr closed ↦ inr (inr (λ z w edge le. takes_lower z (d + w) (closed z w edge le)))
          ]
        ]
        | inr here ↦ inl (subst (λ x. WaitsAt new x d) (sym here.0) (subst (λ x. WaitsAt new to x) (sym here.1) here_waits))
      ];
      ordered = takes.ordered s.ordered;
    }

    takes_less : at ≤ limit → work limit new + 1 ≤ work limit old
    takes_less le =
        let less = less_left old.places.items new.places.items old.round to at parent there takes.places takes.heavier limit le in
        let more = takes.one_more in
        subst (λ r. heap_len new.waiting + 2 * sum_by (left_of r limit) new.places.items + 1 ≤ work limit old) (sym round) (omega arith)

  module _ (round : new.round ≡ old.round) (leaves : Leaves old new to at) where
    leaves_lower : AreLower old new
    leaves_lower v l r = subst (λ k. IsKnownWithin new.places.items k v l) (sym round) (subst (λ ps. IsKnownWithin ps old.round v l) (sym leaves.places) r)

    knew : (v d p : ℕ) → Knows new v d p → Knows old v d p
    knew v d p now = subst (λ ps. Known ps old.round v d p) leaves.places (subst (λ r. Known new.places.items r v d p) round now)

    leaves_search : new.start ≡ old.start → IsSearch rows limit busy old → IsSearch rows limit busy new
    leaves_search start s = record {
      count = ap length leaves.places ∙ s.count;
      begun = subst (λ v. Reaches new v 0) (sym start) (leaves_lower old.start 0 s.begun);
      within = λ v d p now. s.within v d p (knew v d p now);
      parents = λ v d p now other. (let h = s.parents v d p (knew v d p now) (λ is. other (is ∙ sym start)) in
          record { before = h.before; weight = h.weight; reached = leaves_lower p h.before h.reached; edge = h.edge; sum = h.sum });
      dealt = λ v d p now. elim (s.dealt v d p (knew v d p now)) [
        | inl waits ↦ inl (subst (λ w. Contains (heap_items w) (waiting_of d v)) (sym leaves.waiting) waits)
        | inr other ↦ elim other [
          | inl now ↦ inr (inl now)
          | inr closed ↦ inr (inr (λ z w edge le. leaves_lower z (d + w) (closed z w edge le)))
        ]
      ];
      ordered = subst (λ w. IsHeap waiting_cmp (heap_items w)) (sym leaves.waiting) s.ordered;
    }

    leaves_less : work limit new ≤ work limit old
    leaves_less = subst (λ r. heap_len new.waiting + 2 * sum_by (left_of r limit) new.places.items ≤ work limit old) (sym round)
        (subst (λ ps. heap_len new.waiting + 2 * sum_by (left_of old.round limit) ps ≤ work limit old) (sym leaves.places)
        (subst (λ h. heap_len h + 2 * sum_by (left_of old.round limit) old.places.items ≤ work limit old) (sym leaves.waiting) (omega arith)))

  module _ (offered : IsWalkOffered old new to at parent) where
    pub offered_lower : AreLower old new
    offered_lower = elim offered.offered [
      | inl takes ↦ takes_lower offered.same.round takes
      | inr leaves ↦ leaves_lower offered.same.round leaves
    ]

    pub offered_search : at ≤ limit → HasParent rows old to at parent → IsSearch rows limit busy old → IsSearch rows limit busy new
    offered_search le from s = elim offered.offered [
      | inl takes ↦ takes_search offered.same.round takes offered.same.start le from s
      | inr leaves ↦ leaves_search offered.same.round leaves offered.same.start s
    ]

    pub offered_less : at ≤ limit → work limit new ≤ work limit old
    offered_less le = elim offered.offered [
      | inl takes ↦ (let less = takes_less offered.same.round takes le in omega arith)
      | inr leaves ↦ leaves_less offered.same.round leaves
    ]

    pub offered_here : Reaches new to at
    offered_here = elim offered.offered [
      | inl takes ↦ subst (λ k. IsKnownWithin new.places.items k to at) (sym offered.same.round)
          (record { at = at; parent = parent; known = known_here old.places.items new.places.items old.round to at parent there takes.places; within = omega arith })
      | inr leaves ↦ leaves_lower offered.same.round leaves to at leaves.lighter
    ]

-- where all that is reached within the limit is closed, a walk within it is followed to its end
module _ (rows : List (Vec Edge Global)) (most limit : ℕ) (w : Workspace) (le : limit ≤ most) (closed : (v at parent : ℕ) → Knows w v at parent → at ≤ limit → IsRelaxed rows most w v at) where
  pub follows : (hops : List Hop) (u v before : ℕ) → AreHops (HasEdge rows) u hops v → before + total hops ≤ limit → Reaches w u before → Reaches w v limit
  follows [] u v before walk within r = subst (λ x. Reaches w x limit) (sym walk) (record { at = r.at; parent = r.parent; known = r.known; within = (let a = r.within in omega arith) })
  follows (hop ∷ hops) u v before (edge, walk) within r =
      let less = r.within in
      let onward = closed u r.at r.parent r.known (omega arith) hop.to hop.weight edge (omega arith) in
      let after = onward.within in
      follows hops hop.to v (before + hop.weight) walk (omega arith)
      (record { at = onward.at; parent = onward.parent; known = onward.known; within = omega arith })

-- ---- a pair taken from the queue

module _ (old new : Workspace) (same : IsSame old new) where
  knew_it : (v d p : ℕ) → Knows new v d p → Knows old v d p
  knew_it v d p now = subst (λ ps. Known ps old.round v d p) same.places (subst (λ r. Known new.places.items r v d p) same.same.round now)

  same_lower : AreLower old new
  same_lower v l r = subst (λ k. IsKnownWithin new.places.items k v l) (sym same.same.round) (subst (λ ps. IsKnownWithin ps old.round v l) (sym same.places) r)

  same_search : (rows : List (Vec Edge Global)) (limit : ℕ) (busy also : ℕ → ℕ → Type 0) → ((v d : ℕ) → WaitsAt old v d → WaitsAt new v d ⊎ also v d) → ((v d : ℕ) → busy v d → also v d)
      → IsHeap waiting_cmp (heap_items new.waiting) → IsSearch rows limit busy old → IsSearch rows limit also new
  same_search rows limit busy also waits more ordered s = record {
    count = ap length same.places ∙ s.count;
    begun = subst (λ v. Reaches new v 0) (sym same.same.start) (same_lower old.start 0 s.begun);
    within = λ v d p now. s.within v d p (knew_it v d p now);
    parents = λ v d p now other. (let h = s.parents v d p (knew_it v d p now) (λ is. other (is ∙ sym same.same.start)) in
        record { before = h.before; weight = h.weight; reached = same_lower p h.before h.reached; edge = h.edge; sum = h.sum });
    dealt = λ v d p now. elim (s.dealt v d p (knew_it v d p now)) [
      | inl was ↦ elim (waits v d was) [ inl still ↦ inl still | inr it ↦ inr (inl it) ]
      | inr other ↦ elim other [
        | inl it ↦ inr (inl (more v d it))
        | inr closed ↦ inr (inr (λ z w edge le. same_lower z (d + w) (closed z w edge le)))
      ]
    ];
    ordered = ordered;
  }

pub next_search : (rows : List (Vec Edge Global)) (limit : ℕ) (old new : Workspace) (at node : ℕ) → IsNext old new at node → IsSearch rows limit NobodyBusy old → IsSearch rows limit (IsBusy node at) new
next_search rows limit old new at node next s = same_search old new next.same rows limit NobodyBusy (IsBusy node at) waits (λ v d it. absurd it) (next.ordered s.ordered) s where
  waits : (v d : ℕ) → WaitsAt old v d → WaitsAt new v d ⊎ IsBusy node at v d
  waits v d was = elim (head_or_tail (waiting_of at node) (heap_items new.waiting) (waiting_of d v) (Contains-permutation (heap_items old.waiting) (waiting_of at node ∷ heap_items new.waiting) (waiting_of d v) next.waiting was)) [
    | inr still ↦ inl still
    | inl it ↦ inr (sym (ap (λ (x : Reverse (ℕ × ℕ)). x.0.1) it), sym (ap (λ (x : Reverse (ℕ × ℕ)). x.0.0) it))
  ]

-- nobody is busy once the ways of who was are closed
unbusy : (rows : List (Vec Edge Global)) (limit : ℕ) (w : Workspace) (busy : ℕ → ℕ → Type 0) → ((v d p : ℕ) → Knows w v d p → busy v d → IsRelaxed rows limit w v d) → IsSearch rows limit busy w → IsSearch rows limit NobodyBusy w
unbusy rows limit w busy closed s = record {
  count = s.count;
  begun = s.begun;
  within = s.within;
  parents = s.parents;
  dealt = λ v d p now. elim (s.dealt v d p now) [
    | inl waits ↦ inl waits
    | inr other ↦ elim other [ inl it ↦ inr (inr (closed v d p now it)) | inr before ↦ inr (inr before) ]
  ];
  ordered = s.ordered;
}

-- a pair of which nothing is known any more is passed over
pub passed_over : (rows : List (Vec Edge Global)) (limit : ℕ) (w : Workspace) (at node : ℕ) → (IsKnownAt w node at → ⊥) → IsSearch rows limit (IsBusy node at) w → IsSearch rows limit NobodyBusy w
passed_over rows limit w at node stale s = unbusy rows limit w (IsBusy node at) (λ v d p now it. absurd (stale (p, subst (λ x. Knows w x at p) it.0 (subst (λ x. Knows w v x p) it.1 now)))) s

-- once its ways are closed, nobody is busy
pub closed_now : (rows : List (Vec Edge Global)) (limit : ℕ) (w : Workspace) (at node : ℕ) → IsRelaxed rows limit w node at → IsSearch rows limit (IsBusy node at) w → IsSearch rows limit NobodyBusy w
closed_now rows limit w at node closed s = unbusy rows limit w (IsBusy node at)
    (λ v d p now it. subst (λ x. IsRelaxed rows limit w x d) (sym it.0) (subst (λ x. IsRelaxed rows limit w node x) (sym it.1) closed)) s

-- the ways so far are closed, and one more
pub closed_more : (limit : ℕ) (old new : Workspace) (at : ℕ) (edges : List Edge) (i : ℕ) (d : Edge) → i < length edges → All (IsEdgeClosed limit old at) (take i edges) → AreLower old new
    → IsEdgeClosed limit new at (get_or edges i d) → All (IsEdgeClosed limit new at) (take (i + 1) edges)
closed_more limit old new at edges i d lt before lower here =
    All-more (IsEdgeClosed limit new at) edges i d lt
    (All-weaker (IsEdgeClosed limit old at) (IsEdgeClosed limit new at) (λ edge closed le. lower edge.to (at + edge.weight) (closed le)) (take i edges) before)
    here

-- and then all that the row has
pub all_closed : (rows : List (Vec Edge Global)) (limit : ℕ) (w : Workspace) (at node : ℕ) (edges : List Edge) (i : ℕ) → row_at rows node ≡ edges → length edges ≤ i → All (IsEdgeClosed limit w at) (take i edges) → IsRelaxed rows limit w node at
all_closed rows limit w at node edges i is le all to weight (entry, listed) within =
    let closed = subst (λ es. All (IsEdgeClosed limit w at) es) (take_all i edges le) all in
    All-contains (IsEdgeClosed limit w at) edges (record { to = to; entry = entry; weight = weight }) closed (subst (λ es. Contains es (record { to = to; entry = entry; weight = weight })) is listed) within

-- ---- the begin

-- the start is offered to a search that knows nothing
pub begins : (rows : List (Vec Edge Global)) (limit u : ℕ) (old new : Workspace) → u < length rows → IsFresh old (length rows) u limit → IsWalkOffered old new u 0 u → IsSearch rows limit NobodyBusy new
begins rows limit u old new there fresh offered = elim offered.offered [
  | inr leaves ↦ (let r = leaves.lighter in absurd (fresh.unknown u r.at r.parent r.known))
  | inl takes ↦ (let inside : u < length old.places.items = omega (arith, fresh.count) in record {
    count = ap length takes.places ∙ length-set old.places.items u (record { at = 0; parent = u; round = old.round }) ∙ fresh.count;
    begun = subst (λ v. Reaches new v 0) (sym (offered.same.start ∙ fresh.start)) (offered_here rows limit NobodyBusy old new u 0 u inside offered);
    within = λ v d p now. elim (knows_was rows limit NobodyBusy old new u 0 u inside offered.same.round takes v d p now) [
      | inl was ↦ absurd (fresh.unknown v d p was.1)
      | inr here ↦ (let zero = here.1 in omega arith)
    ];
    parents = λ v d p now other. elim (knows_was rows limit NobodyBusy old new u 0 u inside offered.same.round takes v d p now) [
      | inl was ↦ absurd (fresh.unknown v d p was.1)
      | inr here ↦ absurd (other (here.0 ∙ sym (offered.same.start ∙ fresh.start)))
    ];
    dealt = λ v d p now. elim (knows_was rows limit NobodyBusy old new u 0 u inside offered.same.round takes v d p now) [
      | inl was ↦ absurd (fresh.unknown v d p was.1)
      | inr here ↦ inl (subst (λ x. WaitsAt new x d) (sym here.0) (subst (λ x. WaitsAt new u x) (sym here.1) (here_waits rows limit NobodyBusy old new u 0 u inside offered.same.round takes)))
    ];
    ordered = takes.ordered fresh.ordered;
  })
]

-- ---- a way that was put in

-- where no walk to v was within its weight, the search is one over the new rows
pub put_search : (rows more : List (Vec Edge Global)) (most v weight : ℕ) (old new : Workspace) → v < length rows → weight ≤ most → (Reaches old v weight → ⊥) → IsEdgePut rows more old.start v weight → IsWalkOffered old new v weight old.start
    → IsSearch rows most NobodyBusy old → IsSearch more most NobodyBusy new
put_search rows more most v weight old new there le heavier put offered s = elim offered.offered [
  | inr leaves ↦ absurd (heavier leaves.lighter)
  | inl takes ↦ taken takes
] where
  inside : v < length old.places.items
  inside = omega (arith, s.count)

  taken : TakesWalk old new v weight old.start → IsSearch more most NobodyBusy new
  taken takes = record {
    count = ap length takes.places ∙ length-set old.places.items v (record { at = weight; parent = old.start; round = old.round }) ∙ s.count ∙ sym put.count;
    begun = begun;
    within = λ z d p now. elim (was z d p now) [
      | inl known ↦ s.within z d p known.1
      | inr here ↦ (let same = here.1 in omega arith)
    ];
    parents = λ z d p now other. elim (was z d p now) [
      | inl known ↦ (let h = s.parents z d p known.1 (λ is. other (is ∙ sym offered.same.start)) in
          record { before = h.before; weight = h.weight; reached = lower p h.before h.reached; edge = elim (put.kept p z h.weight h.edge) [ inl still ↦ still | inr gone ↦ absurd (known.0 gone.1) ]; sum = h.sum })
      | inr here ↦ subst (λ x. HasParent more new x d p) (sym here.0) (subst (λ x. HasParent more new v x p) (sym here.1) (subst (λ x. HasParent more new v weight x) (sym here.2)
          (record { before = 0; weight = weight; reached = lower old.start 0 s.begun; edge = put.there; sum = omega arith })))
    ];
    dealt = λ z d p now. elim (was z d p now) [
      | inl known ↦ elim (s.dealt z d p known.1) [
        | inl waits ↦ inl (still_waits rows most NobodyBusy old new v weight old.start inside offered.same.round takes z d waits)
        | inr other ↦ elim other [ inl it ↦ absurd it | inr closed ↦ inr (inr (still_closed z d closed)) ]
      ]
      | inr here ↦ inl (subst (λ x. WaitsAt new x d) (sym here.0) (subst (λ x. WaitsAt new v x) (sym here.1) (here_waits rows most NobodyBusy old new v weight old.start inside offered.same.round takes)))
    ];
    ordered = takes.ordered s.ordered;
  } where
    lower : AreLower old new
    lower = takes_lower rows most NobodyBusy old new v weight old.start inside offered.same.round takes

    was : (z d p : ℕ) → Knows new z d p → ((z ≢ v) × Knows old z d p) ⊎ ((z ≡ v) × (d ≡ weight) × (p ≡ old.start))
    was = knows_was rows most NobodyBusy old new v weight old.start inside offered.same.round takes

    begun : Reaches new new.start 0
    begun = subst (λ x. Reaches new x 0) (sym offered.same.start) (lower old.start 0 s.begun)

    still_closed : (z d : ℕ) → IsRelaxed rows most old z d → IsRelaxed more most new z d
    still_closed z d closed to w edge le = elim (put.made z to w edge) [
      | inl before ↦ lower to (d + w) (closed to w before le)
      | inr it ↦ (let r = offered_here rows most NobodyBusy old new v weight old.start inside offered in
          let same = it.2 in
          subst (λ x. Reaches new x (d + w)) (sym it.1) (record { at = r.at; parent = r.parent; known = r.known; within = (let a = r.within in omega arith) }))
    ]

-- ---- the end

pub none_found : (rows : List (Vec Edge Global)) (most limit v : ℕ) (w : Workspace) → limit ≤ most → IsSearch rows most NobodyBusy w → NobodyWaitsWithin w limit → (Reaches w v limit → ⊥) → NoWalkWithin rows w.start v limit
none_found rows most limit v w le s nobody unreached hops walk = elim (cases_lt limit (total hops)) [
  | inl more ↦ more
  | inr within ↦ absurd (unreached (follows rows most limit w le closed hops w.start v 0 walk (omega arith) s.begun))
] where
  closed : (x at parent : ℕ) → Knows w x at parent → at ≤ limit → IsRelaxed rows most w x at
  closed x at parent known near = elim (s.dealt x at parent known) [
    | inl waits ↦ absurd (let far = nobody x at waits in omega arith)
    | inr other ↦ elim other [ inl it ↦ absurd it | inr all ↦ all ]
  ]
