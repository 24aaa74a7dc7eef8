-- The lists of a hierarchy in order.
use Rattle.plan_base.proofs.Common.{◌≡◌, ℕ, ◌+◌, ◌<◌, inl, inr, true, false, List, ◌∙◌, ap, length, get_or, Some, None, refl, sym, subst, arith, Option, All, AllPairs, Contains, IfSome, IsPermutation, IsSorted, IsTotalOrder, eq_by_cmp_equiv, is_lt, is_eq, eq_by_cmp, ordering_reverse, Less, Equal, Greater, cases_Bool, false≢true, nat_tests, All-contains, Contains-get_or, sorted_far, ranks_by, All-permutation, Contains-permutation, IsPermutation-sym, IsDistinct-IsPermutation, apart_from_distinct, Ordering}
use Rattle.std.proofs.lemmas.Map.Keys.{IsDistinct-from_apart}
use Rattle.plan_base.specs.{Mode}
use Rattle.mode_network.specs.{NetworkLists.NetworkLists, mode_at, IsNetwork}
use Rattle.mode_network.proofs.RuleLemmas.{mode_inside, nodes_hold_roads}
use Rattle.search_laws.specs.{HoldsBelow}
use Rattle.hierarchy.specs.{Entry, AreHigh, total, nodes_along, HierarchyLists, WitnessLists, height_in, first_of, last_of, IsHierarchy, IsNode, FitsWitness, entry_cmp, witness_cmp, HasEntry, IsBridged, FitsLayer, IsMade, IsMadeBy, NodeIsBridged, PairsAreBridged, PairIsBridged, MayStandAt, IsSound}
use Rattle.hierarchy.proofs.{HopLemmas.hops_weaker, LookupLemmas.entry_total, LookupLemmas.witness_total}
use Rattle.contractor.specs.{declared.layer.Layer.Layer, inside.HaveOtherEnds, inside.IsTrueWeight, inside.IsState, inside.lists_of, inside.HaveOtherKeys, inside.IsFinished}

-- ---- soundness is of the elements, not of their order

module _ (n : NetworkLists) (h h2 : HierarchyLists) (order : h2.order ≡ h.order) (entries : IsPermutation h.entries h2.entries) (witnesses : IsPermutation h.witnesses h2.witnesses) where
  has_now : (u v w : ℕ) → HasEntry h.entries u v w → HasEntry h2.entries u v w
  has_now u v w (via, there) = (via, Contains-permutation h.entries h2.entries (record { from = u; to = v; weight = w; via = via }) entries there)

  was_there : (e : Entry) → Contains h2.entries e → Contains h.entries e
  was_there e there = Contains-permutation h2.entries h.entries e (IsPermutation-sym h.entries h2.entries entries) there

  made_now : (e : Entry) (via : Option ℕ) → IsMadeBy n h e via → IsMadeBy n h2 e via
  made_now e None is = is
  made_now e (Some m) is = record {
    below_from = subst (λ o. height_in o m < height_in o e.from) (sym order) is.below_from;
    below_to = subst (λ o. height_in o m < height_in o e.to) (sym order) is.below_to;
    first = is.first;
    second = is.second;
    is_first = has_now e.from m is.first is.is_first;
    is_second = has_now m e.to is.second is.is_second;
    sum = is.sum;
  }

  bridged_now : (x u v limit : ℕ) → IsBridged h x u v limit → IsBridged h2 x u v limit
  bridged_now x u v limit (inl (w, has, le)) = inl (w, has_now u v w has, le)
  bridged_now x u v limit (inr w) = inr (record {
    hops = w.hops;
    walk = hops_weaker (HasEntry h.entries) (HasEntry h2.entries) has_now w.hops u v w.walk;
    above = subst (λ o. AreHigh (height_in o) (height_in o x) w.hops) (sym order) w.above;
    within = w.within;
    listed = Contains-permutation h.witnesses h2.witnesses (record { below = x; nodes = nodes_along u w.hops }) witnesses w.listed;
  })

  pub sound_moved : IsSound n h → IsSound n h2
  sound_moved sound = record {
    in_order = subst (λ o. HoldsBelow (length o) (MayStandAt n o)) (sym order) sound.in_order;
    in_layers = All-permutation (FitsLayer n) h.entries h2.entries entries sound.in_layers;
    arcs_covered = λ k d low. (let c = sound.arcs_covered k d low in (c.0, has_now _ _ c.0 c.1, c.2));
    made = λ k d low. (let e = get_or h2.entries k d in made_now e e.via (All-contains (IsMade n h) h.entries e sound.made (was_there e (Contains-get_or h2.entries k d low))));
    bridged = subst (λ o. All (NodeIsBridged h2) o) (sym order) (λ k d low. node (get_or h.order k d) (sound.bridged k d low));
  } where
    node : (x : ℕ) → NodeIsBridged h x → NodeIsBridged h2 x
    node x is i a low j b within pair =
        let first = get_or h2.entries i a in
        let second = get_or h2.entries j b in
        let at_first = All-contains (PairsAreBridged h x) h.entries first is (was_there first (Contains-get_or h2.entries i a low)) in
        let at_second = All-contains (PairIsBridged h x first) h.entries second at_first (was_there second (Contains-get_or h2.entries j b within)) in
        bridged_now x first.from second.to (first.weight + second.weight) (at_second (record {
          to_x = pair.to_x;
          from_x = pair.from_x;
          start_above = subst (λ o. height_in o x < height_in o first.from) order pair.start_above;
          end_above = subst (λ o. height_in o x < height_in o second.to) order pair.end_above;
          differ = pair.differ;
        }))

-- ---- sorted, and no two alike

ascends : {X : Type 0} (cmp : X → X → Ordering) → IsTotalOrder cmp → (Apart : X → X → Type 0) → ((a b : X) → eq_by_cmp cmp a b ≡ true → Apart a b → ⊥) → (old new : List X) → AllPairs Apart old → IsPermutation old new → IsSorted cmp new
    → AllPairs (λ a b. cmp a b ≡ Less) new
ascends {X} cmp total Apart differ old new apart moved sorted = λ i j d lt low. strict (cmp (get_or new i d) (get_or new j d)) (cmp (get_or new j d) (get_or new i d)) (total.antisymm (get_or new j d) (get_or new i d))
    (sorted_far (λ x y. is_lt (cmp x y)) (ranks_by total (λ x. x)) new sorted i j d (omega arith) low)
    (apart_from_distinct (eq_by_cmp cmp) new i j d (IsDistinct-IsPermutation (eq_by_cmp cmp) (eq_by_cmp_equiv total).symm old new moved (IsDistinct-from_apart (eq_by_cmp cmp) old untied)) lt low)
  where
    untied : (i j : ℕ) (d : X) → i < j → j < length old → eq_by_cmp cmp (get_or old i d) (get_or old j d) ≡ false
    untied i j d lt low = elim (cases_Bool (eq_by_cmp cmp (get_or old i d) (get_or old j d))) [
      | inr no_one ↦ no_one
      | inl tied ↦ absurd (differ (get_or old i d) (get_or old j d) tied (apart i j d lt low))
    ]

    strict : (o back : Ordering) → back ≡ ordering_reverse o → is_lt back ≡ false → is_eq o ≡ false → o ≡ Less
    strict Less back is low apart = refl
    strict Equal back is low apart = cc
    strict Greater back is low apart = absurd (false≢true (sym low ∙ ap is_lt is))

ends_differ : (a b : Entry) → eq_by_cmp entry_cmp a b ≡ true → HaveOtherEnds a b → ⊥
ends_differ a b tied apart = let from : a.from ≡ b.from = grind (arith, nat_tests) in let to : a.to ≡ b.to = grind (arith, nat_tests) in apart from to

keys_differ : (a b : WitnessLists) → eq_by_cmp witness_cmp a b ≡ true → HaveOtherKeys a b → ⊥
keys_differ a b tied apart =
    let below : a.below ≡ b.below = grind (arith, nat_tests) in
    let first : first_of a.nodes ≡ first_of b.nodes = grind (arith, nat_tests) in
    let last : last_of a.nodes ≡ last_of b.nodes = grind (arith, nat_tests) in
    apart below first last

-- ---- the whole

module _ (n : NetworkLists) (layer : Layer) (state : IsState n layer) (entries : List Entry) (entries_moved : IsPermutation layer.entries.items entries) (witnesses : List WitnessLists) (witnesses_moved : IsPermutation layer.witnesses witnesses) where
  abbrev h : HierarchyLists
  h = record { order = layer.order.items; entries = entries; witnesses = witnesses }

  sound : IsSound n h
  sound = sound_moved n (lists_of layer) h refl entries_moved witnesses_moved state.good.sound

  pub finished : IsFinished n layer.order.items h
  finished = record { sound = sound; order_is = refl; true_weights = All-permutation (IsTrueWeight n) layer.entries.items entries entries_moved state.good.true_weights }

  module _ (network : IsNetwork n) where
    node_low : (v : ℕ) (mode : Mode) → mode_at n.roads v ≡ Some mode → IsNode v
    node_low v mode road = let low = mode_inside n network v mode road in let hold = nodes_hold_roads n network in let few = network.few_nodes in omega arith

    entry_low : (u v w : ℕ) → HasEntry entries u v w → IsNode u × IsNode v
    entry_low u v w has =
        let f = All-contains (FitsLayer n) entries (record { from = u; to = v; weight = w; via = has.0 }) sound.in_layers has.1 in
        (node_low u f.mode f.from_mode, node_low v f.mode f.to_mode)

    via_low : (e : Entry) (via : Option ℕ) → IsMadeBy n h e via → IfSome via IsNode
    via_low e None is = tt
    via_low e (Some m) is = (entry_low e.from m is.first is.is_first).1

    pub is_hierarchy : IsSorted entry_cmp entries → IsSorted witness_cmp witnesses → IsHierarchy h
    is_hierarchy entries_sorted witnesses_sorted = record {
      order_fits = λ k d low. (let free = (sound.in_order k low).0 d in node_low (get_or layer.order.items k d) free.mode free.road);
      entries_fit = λ k d low. (let e = get_or entries k d in let f = sound.in_layers k d low in
          record { from = node_low e.from f.mode f.from_mode; to = node_low e.to f.mode f.to_mode; via = via_low e e.via (sound.made k d low) });
      entries_ascend = ascends entry_cmp entry_total HaveOtherEnds ends_differ layer.entries.items entries state.good.apart entries_moved entries_sorted;
      witnesses_fit = All-permutation FitsWitness layer.witnesses witnesses witnesses_moved state.walks.fit;
      witnesses_ascend = ascends witness_cmp witness_total HaveOtherKeys keys_differ layer.witnesses witnesses state.walks.apart witnesses_moved witnesses_sorted;
    }
