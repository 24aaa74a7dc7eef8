-- One contraction keeps a hierarchy sound.
use Rattle.plan_base.proofs.Common.{◌≡◌, ℕ, suc, ◌+◌, ◌<◌, ◌≤◌, ◌⊎◌, inl, inr, Bool, true, false, cond, nat_eq, List, [], ◌∷◌, ◌++◌, ◌∙◌, length, map, get_or, Some, None, refl, sym, ap, subst, arith, Option, All, Contains, ◌≢◌, cases_lt, cases_eq, eq-eqb, ne_eqb, get_or_append_left, get_or_push, length_push, All-contains, Contains-get_or}
use Rattle.search_laws.specs.{HoldsBelow}
use Rattle.mode_network.specs.NetworkLists.{NetworkLists}
use Rattle.hierarchy.specs.{Entry, Hop, AreHops, AreHigh, total, nodes_along, HierarchyLists, height_in, HasEntry, HasLighter, IsFree, MayStandAt, FitsLayer, IsMadeBy, IsMade, IsBridged, NodeIsBridged, IsSound, IsShortcut, IsContractedNext, ContractionsKeepSoundness}
use Rattle.hierarchy.proofs.{HeightLemmas.height_most, HeightLemmas.height_least, SoundLemmas.fits, SoundLemmas.bridged}

-- ---- heights after one node more

pub height_kept : (order : List ℕ) (x v : ℕ) → height_in order v < length order → height_in (order ++ x ∷ []) v ≡ height_in order v
height_kept [] x v lt = absurd (omega arith)
height_kept (y ∷ order) x v lt = by_test (nat_eq y v) lt (height_kept order x v) where
  by_test : (b : Bool) → cond b 0 (suc (height_in order v)) < suc (length order) → (height_in order v < length order → height_in (order ++ x ∷ []) v ≡ height_in order v)
      → cond b 0 (suc (height_in (order ++ x ∷ []) v)) ≡ cond b 0 (suc (height_in order v))
  by_test true h next = refl
  by_test false h next = ap suc (next (omega arith))

pub height_next : (order : List ℕ) (x : ℕ) → height_in order x ≡ length order → height_in (order ++ x ∷ []) x ≡ length order
height_next [] x core = rw (eq-eqb x x refl) refl
height_next (y ∷ order) x core = by_test (nat_eq y x) core (height_next order x) where
  by_test : (b : Bool) → cond b 0 (suc (height_in order x)) ≡ suc (length order) → (height_in order x ≡ length order → height_in (order ++ x ∷ []) x ≡ length order)
      → cond b 0 (suc (height_in (order ++ x ∷ []) x)) ≡ suc (length order)
  by_test true h next = absurd (omega arith)
  by_test false h next = ap suc (next (omega arith))

pub height_other : (order : List ℕ) (x v : ℕ) → v ≢ x → height_in order v ≡ length order → height_in (order ++ x ∷ []) v ≡ length order + 1
height_other [] x v differ core = rw (ne_eqb x v (λ e. differ (sym e))) refl
height_other (y ∷ order) x v differ core = by_test (nat_eq y v) core (height_other order x v differ) where
  by_test : (b : Bool) → cond b 0 (suc (height_in order v)) ≡ suc (length order) → (height_in order v ≡ length order → height_in (order ++ x ∷ []) v ≡ length order + 1)
      → cond b 0 (suc (height_in (order ++ x ∷ []) v)) ≡ suc (length order) + 1
  by_test true h next = absurd (omega arith)
  by_test false h next = (let e = next (omega arith) in omega arith)

module _ (n : NetworkLists) (h : HierarchyLists) (x : ℕ) (h2 : HierarchyLists) (sound : IsSound n h) (c : IsContractedNext n h x h2) where
  abbrev before : ℕ → ℕ
  before v = height_in h.order v

  abbrev after : ℕ → ℕ
  after v = height_in h2.order v

  abbrev old : ℕ
  old = length h.order

  -- where a node stands: contracted before, now, or not yet
  data Place (v : ℕ) : Type 0 where
    low : before v < old → after v ≡ before v → Place v
    now : v ≡ x → before v ≡ old → after v ≡ old → Place v
    high : v ≢ x → before v ≡ old → after v ≡ old + 1 → Place v

  place : (v : ℕ) → Place v
  place v = elim (cases_lt (before v) old) [
    | inl lt ↦ low lt (ap (λ o. height_in o v) c.order ∙ height_kept h.order x v lt)
    | inr le ↦ by_node (let most = height_most h.order v in omega arith) (cases_eq v x)
  ] where
    by_node : before v ≡ old → (v ≡ x) ⊎ (v ≡ x → ⊥) → Place v
    by_node core (inl same) = now same core (ap (λ o. height_in o v) c.order ∙ subst (λ y. height_in (h.order ++ x ∷ []) y ≡ old) (sym same) (height_next h.order x c.core))
    by_node core (inr differ) = high differ core (ap (λ o. height_in o v) c.order ∙ height_other h.order x v differ core)

  long : length h2.order ≡ old + 1
  long = ap length c.order ∙ length_push h.order x

  core_x : before x ≡ old
  core_x = c.core

  -- what is above a node that was contracted before, stays above it
  above_kept : (u v : ℕ) → before u < old → before u < before v → after u < after v
  above_kept u v lt up = by_place (place u) (place v)
    where
      by_place : Place u → Place v → after u < after v
      by_place (low lu eu) (low lv ev) = omega arith
      by_place (low lu eu) (now same bv ev) = omega arith
      by_place (low lu eu) (high differ bv ev) = omega arith
      by_place (now same bu eu) q = absurd (omega arith)
      by_place (high differ bu eu) q = absurd (omega arith)

  -- and what is above it now was above it
  above_was : (u v : ℕ) → before u < old → after u < after v → before u < before v
  above_was u v lt up = by_place (place u) (place v)
    where
      by_place : Place u → Place v → before u < before v
      by_place (low lu eu) (low lv ev) = omega arith
      by_place (low lu eu) (now same bv ev) = omega arith
      by_place (low lu eu) (high differ bv ev) = omega arith
      by_place (now same bu eu) q = absurd (omega arith)
      by_place (high differ bu eu) q = absurd (omega arith)

  after_x : after x ≡ old
  after_x = ap (λ o. height_in o x) c.order ∙ height_next h.order x c.core

  -- a core node that is not x is above x, and what is above x is such a node
  above_x : (v : ℕ) → v ≢ x → before v ≡ old → after x < after v
  above_x v differ core = by_place (place v)
    where
      by_place : Place v → after x < after v
      by_place (low lv ev) = absurd (omega arith)
      by_place (now same bv ev) = absurd (differ same)
      by_place (high apart bv ev) = omega (arith, after_x)

  core_above : (v : ℕ) → after x < after v → before v ≡ old
  core_above v up = by_place (place v)
    where
      by_place : Place v → before v ≡ old
      by_place (low lv ev) = absurd (omega (arith, after_x))
      by_place (now same bv ev) = bv
      by_place (high apart bv ev) = bv

  -- ---- entries

  differs : (u v a : ℕ) → HasEntry h.entries u v a → u ≢ v
  differs u v a e = (fits n h sound u v a e).differ

  contracted_still : (v : ℕ) → before v < old → after v < length h2.order
  contracted_still v lt = by_place (place v)
    where
      by_place : Place v → after v < length h2.order
      by_place (low lv ev) = omega (arith, long)
      by_place (now same bv ev) = absurd (omega arith)
      by_place (high apart bv ev) = absurd (omega arith)

  contracted_now : after x < length h2.order
  contracted_now = omega (arith, long, after_x)

  keep : (u v a : ℕ) → (after u < length h2.order) ⊎ (after v < length h2.order) → HasEntry h.entries u v a → HasEntry h2.entries u v a
  keep u v a at (via, listed) = (via, c.kept (record { from = u; to = v; weight = a; via = via }) listed at)

  -- a shortcut joins core nodes other than x
  no_shortcut : (u v a : ℕ) (via : Option ℕ) → IsShortcut h x (record { from = u; to = v; weight = a; via = via }) → (u ≢ x) × (v ≢ x)
  no_shortcut u v a via s = (differs u x s.first s.is_first, λ same. differs x v s.second s.is_second (sym same))

  was_to : (u y a : ℕ) → (before y < old) ⊎ (y ≡ x) → HasEntry h2.entries u y a → HasEntry h.entries u y a
  was_to u y a at (via, listed) = by_made (c.made (record { from = u; to = y; weight = a; via = via }) listed) at
    where
      by_made : Contains h.entries (record { from = u; to = y; weight = a; via = via }) ⊎ IsShortcut h x (record { from = u; to = y; weight = a; via = via }) → (before y < old) ⊎ (y ≡ x) → HasEntry h.entries u y a
      by_made (inl was) at = (via, was)
      by_made (inr s) (inl lt) = absurd (let core = s.core_to in omega arith)
      by_made (inr s) (inr same) = absurd ((no_shortcut u y a via s).1 same)

  was_from : (y v a : ℕ) → (before y < old) ⊎ (y ≡ x) → HasEntry h2.entries y v a → HasEntry h.entries y v a
  was_from y v a at (via, listed) = by_made (c.made (record { from = y; to = v; weight = a; via = via }) listed) at
    where
      by_made : Contains h.entries (record { from = y; to = v; weight = a; via = via }) ⊎ IsShortcut h x (record { from = y; to = v; weight = a; via = via }) → (before y < old) ⊎ (y ≡ x) → HasEntry h.entries y v a
      by_made (inl was) at = (via, was)
      by_made (inr s) (inl lt) = absurd (let core = s.core_from in omega arith)
      by_made (inr s) (inr same) = absurd ((no_shortcut y v a via s).0 same)

  still_lighter : (u v limit : ℕ) → HasLighter h.entries u v limit → HasLighter h2.entries u v limit
  still_lighter u v limit (w, has, le) = let l = c.lighter u v w has in (l.0, l.1, (let less = l.2 in omega arith))

  -- ---- clause 1

  stands : (k : ℕ) → k < old + 1 → MayStandAt n (h.order ++ x ∷ []) k
  stands k lt = elim (cases_lt k old) [
    | inl earlier ↦ (let was = sound.in_order k earlier in (
      (λ d. subst (IsFree n) (sym (get_or_append_left h.order (x ∷ []) d k earlier)) (was.0 d)),
      λ j d jk same. was.1 j d jk (sym (get_or_append_left h.order (x ∷ []) d j (omega arith)) ∙ same ∙ get_or_append_left h.order (x ∷ []) d k earlier),
    ))
    | inr later ↦ (let last : old ≡ k = omega arith in (
      (λ d. subst (IsFree n) (sym (get_or_push h.order x d k last)) c.free),
      λ j d jk same. not_before j d (omega arith) (sym (get_or_append_left h.order (x ∷ []) d j (omega arith)) ∙ same ∙ get_or_push h.order x d k last),
    ))
  ] where
    not_before : (j d : ℕ) → j < old → get_or h.order j d ≡ x → ⊥
    not_before j d lt is = let least = height_least h.order x j d lt is in omega (arith, core_x)

  in_order : HoldsBelow (length h2.order) (MayStandAt n h2.order)
  in_order = subst (λ o. HoldsBelow (length o) (MayStandAt n o)) (sym c.order) (λ k lt. stands k (omega (arith, length_push h.order x)))

  -- ---- clauses 5, 2 and 3

  layered : (e : Entry) → Contains h2.entries e → FitsLayer n e
  layered e listed = by_made (c.made e listed)
    where
      by_made : Contains h.entries e ⊎ IsShortcut h x e → FitsLayer n e
      by_made (inl was) = All-contains (FitsLayer n) h.entries e sound.in_layers was
      by_made (inr s) =
          let f = fits n h sound e.from x s.first s.is_first in
          let g = fits n h sound x e.to s.second s.is_second in
          record { differ = s.differ; mode = f.mode; from_mode = f.from_mode; to_mode = g.to_mode ∙ sym g.from_mode ∙ f.to_mode; light = s.light }

  remade : (e : Entry) (via : Option ℕ) → IsMadeBy n h e via → IsMadeBy n h2 e via
  remade e None is = is
  remade e (Some m) is =
      let most = height_most h.order e.from in
      let under = is.below_from in
      let lt : before m < old = omega arith in
      record {
        below_from = above_kept m e.from lt is.below_from;
        below_to = above_kept m e.to lt is.below_to;
        first = is.first;
        second = is.second;
        is_first = keep e.from m is.first (inr (contracted_still m lt)) is.is_first;
        is_second = keep m e.to is.second (inl (contracted_still m lt)) is.is_second;
        sum = is.sum;
      }

  made_still : (e : Entry) → Contains h2.entries e → IsMade n h2 e
  made_still e listed = by_made (c.made e listed)
    where
      by_made : Contains h.entries e ⊎ IsShortcut h x e → IsMadeBy n h2 e e.via
      by_made (inl was) = remade e e.via (All-contains (IsMade n h) h.entries e sound.made was)
      by_made (inr s) =
          let middle : IsMadeBy n h2 e (Some x) = record {
            below_from = above_x e.from (differs e.from x s.first s.is_first) s.core_from;
            below_to = above_x e.to (λ same. differs x e.to s.second s.is_second (sym same)) s.core_to;
            first = s.first;
            second = s.second;
            is_first = keep e.from x s.first (inr contracted_now) s.is_first;
            is_second = keep x e.to s.second (inl contracted_now) s.is_second;
            sum = s.sum;
          } in
          subst (IsMadeBy n h2 e) (sym s.via) middle

  -- ---- clause 4

  -- the same nodes over lighter entries
  record Relaxed (y u v : ℕ) (p : List Hop) : Type 0 where
    hops : List Hop
    walk : AreHops (HasEntry h2.entries) u hops v
    above : AreHigh after (after y) hops
    same : map (λ (hop : Hop). hop.to) hops ≡ map (λ (hop : Hop). hop.to) p
    within : total hops ≤ total p

  relaxed : (y : ℕ) → before y < old → (p : List Hop) (u v : ℕ) → AreHops (HasEntry h.entries) u p v → AreHigh before (before y) p → Relaxed y u v p
  relaxed y lt [] u v walk above = record { hops = []; walk = walk; above = tt; same = refl; within = omega arith }
  relaxed y lt (hop ∷ p) u v (entry, walk) (up, above) =
      let l = c.lighter u hop.to hop.weight entry in
      let more = relaxed y lt p hop.to v walk above in
      record {
        hops = record { to = hop.to; weight = l.0 } ∷ more.hops;
        walk = (l.1, more.walk);
        above = (above_kept y hop.to lt up, more.above);
        same = ap (λ ns. hop.to ∷ ns) more.same;
        within = (let first = l.2 in let second = more.within in omega arith);
      }

  keep_bridge : (y u v limit : ℕ) → before y < old → IsBridged h y u v limit → IsBridged h2 y u v limit
  keep_bridge y u v limit lt (inl lighter) = inl (still_lighter u v limit lighter)
  keep_bridge y u v limit lt (inr w) =
      let r = relaxed y lt w.hops u v w.walk w.above in
      let listed = All-contains (Contains h2.witnesses) h.witnesses (record { below = y; nodes = nodes_along u w.hops }) c.witnesses w.listed in
      inr (record {
        hops = r.hops;
        walk = r.walk;
        above = r.above;
        within = (let first = r.within in let second = w.within in omega arith);
        listed = subst (λ ns. Contains h2.witnesses (record { below = y; nodes = u ∷ ns })) (sym r.same) listed;
      })

  bridge : (y u v a b : ℕ) → (before y < old) ⊎ (y ≡ x) → HasEntry h2.entries u y a → HasEntry h2.entries y v b → after y < after u → after y < after v → u ≢ v → IsBridged h2 y u v (a + b)
  bridge y u v a b (inl lt) first second left right differ =
      keep_bridge y u v (a + b) lt (bridged n h sound u y v a b lt (was_to u y a (inl lt) first) (was_from y v b (inl lt) second) (above_was y u lt left) (above_was y v lt right) differ)
  bridge y u v a b (inr same) first second left right differ =
      let up = subst (λ z. after z < after u) same left in
      let over = subst (λ z. after z < after v) same right in
      subst (λ z. IsBridged h2 z u v (a + b)) (sym same)
      (c.bridged u v a b (core_above u up) (core_above v over) (subst (λ z. HasEntry h.entries u z a) same (was_to u y a (inr same) first))
      (subst (λ z. HasEntry h.entries z v b) same (was_from y v b (inr same) second)) differ)

  -- a node of the new order was contracted before, or is x
  node_is : (k d : ℕ) → k < old + 1 → (before (get_or (h.order ++ x ∷ []) k d) < old) ⊎ (get_or (h.order ++ x ∷ []) k d ≡ x)
  node_is k d lt = elim (cases_lt k old) [
    | inr later ↦ (let last : old ≡ k = omega arith in inr (get_or_push h.order x d k last))
    | inl earlier ↦ (let least = height_least h.order (get_or h.order k d) k d earlier refl in
        inl (subst (λ y. before y < old) (sym (get_or_append_left h.order (x ∷ []) d k earlier)) (omega arith)))
  ]

  node_bridged : (y : ℕ) → (before y < old) ⊎ (y ≡ x) → NodeIsBridged h2 y
  node_bridged y at i d lt j e within pair =
      let a = get_or h2.entries i d in
      let b = get_or h2.entries j e in
      bridge y a.from b.to a.weight b.weight at
      (subst (λ z. HasEntry h2.entries a.from z a.weight) pair.to_x (a.via, Contains-get_or h2.entries i d lt))
      (subst (λ z. HasEntry h2.entries z b.to b.weight) pair.from_x (b.via, Contains-get_or h2.entries j e within))
      pair.start_above pair.end_above pair.differ

  pub sound_still : IsSound n h2
  sound_still = record {
    in_order = in_order;
    in_layers = λ k d lt. layered (get_or h2.entries k d) (Contains-get_or h2.entries k d lt);
    arcs_covered = λ k d lt. still_lighter (get_or n.arcs k d).from (get_or n.arcs k d).to (get_or n.arcs k d).ms (sound.arcs_covered k d lt);
    made = λ k d lt. made_still (get_or h2.entries k d) (Contains-get_or h2.entries k d lt);
    bridged = subst (λ o. All (NodeIsBridged h2) o) (sym c.order) (λ k d lt. node_bridged (get_or (h.order ++ x ∷ []) k d) (node_is k d (omega (arith, length_push h.order x))));
  }

pub contractions_keep_soundness : ContractionsKeepSoundness
contractions_keep_soundness n h x h2 sound c = sound_still n h x h2 sound c
