-- The arcs of the phase graph are its moves, and keep the laws of graphs.
use Rattle.plan_base.proofs.Common.{◌≡◌, ℕ, ◌+◌, ◌-◌, ◌*◌, ◌/◌, ◌%◌, ◌^◌, ◌<◌, ◌≤◌, cond, nat_lt, nat_eq, Bool, true, false, List, length, get_or, Option, Some, None, refl, ap, arith, sym, IfSome, eqb-true, eqb-false, ltb-true, ltb-false, get_or_default, slice_get-get_or}
use Rattle.search_laws.specs.{IsLetter, GraphMeaning, HasArc, IsLawfulGraph}
use Rattle.timetable_arcs.specs.{TableLists, IsTable}
use Rattle.plan_base.specs.{number_of_mode}
use Rattle.mode_network.specs.{NetworkLists.NetworkLists, nodes_of, letter_at, IsNetwork, IsTimetableOf}
use Rattle.mode_network.proofs.{RuleLemmas.letter_of, RuleLemmas.some_is, RuleLemmas.letter_is_road, RuleLemmas.nodes_hold_roads, KeyLemmas.count_most, KeyLemmas.key_in_range}
use Rattle.hierarchy.specs.{HierarchyLists, IsHierarchy, AreBelow, is_rise, IsSound, FitsLayer, from_of, entry_at, no_entry}
use Rattle.hierarchy.proofs.{LookupLemmas.from_rises, RiseLemmas.are_rise_places}
use Rattle.plain_graph.specs.{plain_meaning, arcs_at, plain_lawful}
use Rattle.phase_graph.specs.{PhaseArc, Up, Down, Other, phase_node, is_fall, phase_meaning, phase_arc, phase_arcs_at, arc_of, phase_arrival, rises_at, first_entry, entries_at, others_at, first_other, node_of, is_down}

-- ---- the numbers of nodes

pub half : (v : ℕ) (down : Bool) → node_of (phase_node v down) ≡ v
half v false = omega arith
half v true = omega arith

pub phase_of : (v : ℕ) (down : Bool) → is_down (phase_node v down) ≡ down
phase_of v false = let odd : (2 * v) % 2 ≡ 0 = omega arith in ap (λ k. nat_eq k 1) odd
phase_of v true = let odd : (2 * v + 1) % 2 ≡ 1 = omega arith in ap (λ k. nat_eq k 1) odd

pub whole : (p : ℕ) → phase_node (node_of p) (is_down p) ≡ p
whole p = by_rest (nat_eq (p % 2) 1) refl
  where
    by_rest : (b : Bool) → nat_eq (p % 2) 1 ≡ b → phase_node (p / 2) b ≡ p
    by_rest true e = let one = eqb-true (p % 2) 1 e in omega (arith, one)
    by_rest false e = let none = nat_other p e in omega (arith, none)
      where
        nat_other : (p : ℕ) → nat_eq (p % 2) 1 ≡ false → p % 2 ≡ 0
        nat_other p e = let apart = eqb-false (p % 2) 1 e in omega (arith, apart)

pub in_nodes : (v : ℕ) (down : Bool) (n : ℕ) → v < n → phase_node v down < 2 * n
in_nodes v false n lt = omega arith
in_nodes v true n lt = omega arith

-- the nodes of a sound hierarchy are road nodes
module _ (n : NetworkLists) (h : HierarchyLists) (network : IsNetwork n) (sound : IsSound n h) where
  pub road_inside : (v mode : ℕ) → letter_at n.roads v ≡ Some mode → v < length (nodes_of n)
  road_inside v mode is = let low = (letter_is_road n network v mode is).0 in omega (arith, low, nodes_hold_roads n)

  pub below_nodes : AreBelow h (length (nodes_of n))
  below_nodes = record {
    order = λ k d lt. (let free = (sound.in_order k lt).0 d in road_inside (get_or h.order k d) (number_of_mode free.mode) (letter_of n.roads (get_or h.order k d) _ free.road));
    entries = λ k d lt. (let f = sound.in_layers k d lt in (road_inside (get_or h.entries k d).from (number_of_mode f.mode) (letter_of n.roads (get_or h.entries k d).from _ f.from_mode), road_inside (get_or h.entries k d).to (number_of_mode f.mode) (letter_of n.roads (get_or h.entries k d).to _ f.to_mode)));
  }

-- what is known of an arc out of v
abbrev pub IsArcAt : NetworkLists → HierarchyLists → TableLists → ℕ → Bool → PhaseArc → Type 0
IsArcAt n h t v down (Up place) = (down ≡ false) × (place < length h.entries) × ((entry_at h.entries place).from ≡ v) × (is_rise h.order (entry_at h.entries place) ≡ true)
IsArcAt n h t v down (Down place) = (place < length h.entries) × ((entry_at h.entries place).from ≡ v)
IsArcAt n h t v down (Other place) = (first_other n v down ≤ place) × (place < first_other n v down + others_at n t v down)

-- each of the entries of a node leaves it
pub entry_inside : (h : HierarchyLists) (v i : ℕ) → i < entries_at h v → first_entry h v + i < length h.entries
entry_inside h v i lt = omega (arith, lt, count_most from_of h.entries (v + 1))

pub entry_begins : (h : HierarchyLists) → IsHierarchy h → (v i : ℕ) → i < entries_at h v → (entry_at h.entries (first_entry h v + i)).from ≡ v
entry_begins h rules v i lt = key_in_range from_of h.entries (from_rises h.entries rules.entries_ascend) v (first_entry h v + i) no_entry (omega arith) (omega (arith, lt))

-- what arrives if a test holds
pub taken : (b : Bool) (x at : ℕ) → cond b (Some x) None ≡ Some at → (b ≡ true) × (x ≡ at)
taken true x at e = (refl, some_is e)
taken false x at e = cc

shut : (b : Bool) (x y : ℕ) → cond b (Some x) None ≡ None → cond b (Some y) None ≡ None
shut true x y e = cc
shut false x y e = refl

module _ (n : NetworkLists) (h : HierarchyLists) (network : IsNetwork n) (rules : IsHierarchy h) (sound : IsSound n h) (t : TableLists) (table : IsTable t) (of : IsTimetableOf n t) (marks : List Bool) where
  abbrev g : GraphMeaning
  g = phase_meaning n t h marks

  abbrev plain : GraphMeaning
  plain = plain_meaning n t

  -- what is known of an arc out of v
  abbrev IsKnown : ℕ → Bool → PhaseArc → Type 0
  IsKnown v down a = IsArcAt n h t v down a

  up_at : (v i : ℕ) (down : Bool) → i < length (rises_at h v down) → IsKnown v down (Up (get_or (rises_at h v down) i 0))
  up_at v i true lt = absurd (omega arith)
  up_at v i false lt =
      let are = are_rise_places h rules v in
      let place = get_or (rises_at h v false) i 0 in
      let within = are.within i 0 lt in
      let rises = are.each place (entry_at h.entries place) (i, lt, sym (get_or_default (rises_at h v false) i 0 place lt)) (slice_get-get_or h.entries place no_entry within) in
      (refl, within, rises.begins, rises.leads)

  pub arc_is : (v i : ℕ) (down : Bool) → i < phase_arcs_at n t h v down → IsKnown v down (phase_arc n h v down i)
  arc_is v i down lt = by_kind (nat_lt i (length (rises_at h v down))) refl (nat_lt (i - length (rises_at h v down)) (entries_at h v)) refl
    where
      by_kind : (b : Bool) → nat_lt i (length (rises_at h v down)) ≡ b → (c : Bool) → nat_lt (i - length (rises_at h v down)) (entries_at h v) ≡ c
          → IsKnown v down (cond b (Up (get_or (rises_at h v down) i 0))
          (cond c (Down (first_entry h v + (i - length (rises_at h v down)))) (Other (first_other n v down + (i - length (rises_at h v down) - entries_at h v)))))
      by_kind true e c f = up_at v i down (ltb-true _ _ e)
      by_kind false e true f = let inside = ltb-true _ _ f in (entry_inside h v (i - length (rises_at h v down)) inside, entry_begins h rules v (i - length (rises_at h v down)) inside)
      by_kind false e false f =
          let past = ltb-false _ _ e in
          let more = ltb-false _ _ f in
          (omega arith, omega (arith, past, more, lt))

  -- ---- the laws

  few_double : 2 * length (nodes_of n) ≤ 2 ^ 25
  few_double = let few = network.few_nodes in omega (arith, few)

  layer : (place : ℕ) → place < length h.entries → FitsLayer n (entry_at h.entries place)
  layer place lt = sound.in_layers place no_entry lt

  mode_fits : (v : ℕ) (o : Option ℕ) → letter_at n.roads v ≡ o → IfSome o IsLetter
  mode_fits v None e = tt
  mode_fits v (Some mode) e = let low = letter_is_road n network v mode e in omega (arith, low.1)

  -- a place behind the road arcs is one of the plain graph
  pub place_fits : (v place : ℕ) (down : Bool) → IsKnown v down (Other place) → place < arcs_at n t v
  place_fits v place false is = let past = is.1 in omega (arith, past)
  place_fits v place true is = let past = is.1 in omega (arith, past)

  plain_has : (v place : ℕ) (down : Bool) → v < length (nodes_of n) → IsKnown v down (Other place) → HasArc plain v place
  plain_has v place down node is = record { node = node; arc = place_fits v place down is }

  laws : IsLawfulGraph plain
  laws = plain_lawful n network t table of

  to_fits : (v : ℕ) (down : Bool) (a : PhaseArc) → v < length (nodes_of n) → IsKnown v down a → (arc_of n t h v down a).to < 2 * length (nodes_of n)
  to_fits v down (Up place) node is = let f = layer place is.1 in in_nodes (entry_at h.entries place).to false (length (nodes_of n)) (road_inside n h network sound (entry_at h.entries place).to (number_of_mode f.mode) (letter_of n.roads (entry_at h.entries place).to _ f.to_mode))
  to_fits v down (Down place) node is = let f = layer place is.0 in in_nodes (entry_at h.entries place).to true (length (nodes_of n)) (road_inside n h network sound (entry_at h.entries place).to (number_of_mode f.mode) (letter_of n.roads (entry_at h.entries place).to _ f.to_mode))
  to_fits v down (Other place) node is = in_nodes (plain.arc_at v place).to down (length (nodes_of n)) (laws.to_in_range v place (plain_has v place down node is))

  letter_fits : (v : ℕ) (down : Bool) (a : PhaseArc) → v < length (nodes_of n) → IsKnown v down a → IfSome (arc_of n t h v down a).letter IsLetter
  letter_fits v down (Up place) node is = mode_fits v _ refl
  letter_fits v down (Down place) node is = mode_fits v _ refl
  letter_fits v down (Other place) node is = laws.letter_in_range v place (plain_has v place down node is)

  soon : (v time at : ℕ) (down : Bool) (a : PhaseArc) → v < length (nodes_of n) → IsKnown v down a → phase_arrival n t h marks v time a ≡ Some at → (time ≤ at) × (at ≤ time + 2 ^ 57)
  soon v time at down (Up place) node is e = let light = (layer place is.1).light in let same = some_is e in (omega (arith, same), omega (arith, same, light))
  soon v time at down (Down place) node is e =
      let light = (layer place is.0).light in
      let same = (taken (is_fall h marks (entry_at h.entries place)) _ at e).1 in
      (omega (arith, same), omega (arith, same, light))
  soon v time at down (Other place) node is e = (laws.not_before v place time at (plain_has v place down node is) e, laws.not_late v place time at (plain_has v place down node is) e)

  later : (v s time a b : ℕ) (down : Bool) (arc : PhaseArc) → v < length (nodes_of n) → IsKnown v down arc → s ≤ time → phase_arrival n t h marks v s arc ≡ Some a → phase_arrival n t h marks v time arc ≡ Some b → a ≤ b
  later v s time a b down (Up place) node is le e f = omega (arith, le, some_is e, some_is f)
  later v s time a b down (Down place) node is le e f =
      let first = (taken (is_fall h marks (entry_at h.entries place)) _ a e).1 in
      let second = (taken (is_fall h marks (entry_at h.entries place)) _ b f).1 in
      omega (arith, le, first, second)
  later v s time a b down (Other place) node is le e f = laws.rises v place s time a b (plain_has v place down node is) le e f

  never : (v s time : ℕ) (down : Bool) (arc : PhaseArc) → v < length (nodes_of n) → IsKnown v down arc → s ≤ time → phase_arrival n t h marks v s arc ≡ None → phase_arrival n t h marks v time arc ≡ None
  never v s time down (Up place) node is le e = cc
  never v s time down (Down place) node is le e = shut (is_fall h marks (entry_at h.entries place)) _ _ e
  never v s time down (Other place) node is le e = laws.stays_none v place s time (plain_has v place down node is) le e

  pub node_half : (p : ℕ) → p < 2 * length (nodes_of n) → node_of p < length (nodes_of n)
  node_half p lt = omega (arith, lt)

  known : (p i : ℕ) → HasArc g p i → IsKnown (node_of p) (is_down p) (phase_arc n h (node_of p) (is_down p) i)
  known p i has = arc_is (node_of p) i (is_down p) has.arc

  pub lawful : IsLawfulGraph (phase_meaning n t h marks)
  lawful = record {
    few_nodes = few_double;
    to_in_range = λ p i has. to_fits (node_of p) (is_down p) _ (node_half p has.node) (known p i has);
    letter_in_range = λ p i has. letter_fits (node_of p) (is_down p) _ (node_half p has.node) (known p i has);
    not_before = λ p i time u has e. (soon (node_of p) time u (is_down p) _ (node_half p has.node) (known p i has) e).0;
    not_late = λ p i time u has e. (soon (node_of p) time u (is_down p) _ (node_half p has.node) (known p i has) e).1;
    rises = λ p i s time a b has le e f. later (node_of p) s time a b (is_down p) _ (node_half p has.node) (known p i has) le e f;
    stays_none = λ p i s time has le e. never (node_of p) s time (is_down p) _ (node_half p has.node) (known p i has) le e;
  }
