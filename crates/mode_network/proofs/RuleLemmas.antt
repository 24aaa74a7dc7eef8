-- What follows for the lists of a network from that no rule is broken.
use Rattle.plan_base.proofs.Common.{◌≡◌, ℕ, ◌+◌, ◌<◌, ◌≤◌, length-append, ◌++◌, subst, not, ◌&&◌, nat_lt, suc, zero, Bool, true, false, List, [], ◌∷◌, length, Option, None, Some, cond, refl, arith, ap, sym, ◌∙◌, lit<, le_trans, All, slice_index_or, is_lt, Ordering, Less, Equal, Greater, IsTotalOrder, position, position_or_len, prefix_len, ltb-true, ltb-false, eqb-true, eq-eqb, AllPairs-cons, All-cons, then_total, on_total, nat_cmp_total, int_cmp_total, nat_list_cmp_total, slice_get, option_map, option_and_then_some, slice_get_within}
use Rattle.plan_base.specs.{mode_numbered, number_of_mode, Mode, Foot, Bike, Car, Kind, Caps}
use Rattle.mode_network.specs.{NetFault, Node, Arc, nodes_of, mode_of, mode_at, letter_at, rank_of, node_cmp, name_cmp, arc_cmp, first_unsorted, lists_fault, IsAscending, is_same_mode, AreNamed, AreNames, AreParts, HaveDurations, IsNetwork, or_else, end_or_order_fault, unsorted_fault, NetworkLists.NetworkLists}
use Rattle.timetable_arcs.specs.{AreTrips}

less_of : (o : Ordering) → is_lt o ≡ true → o ≡ Less
less_of Less e = refl
less_of Equal e = cc
less_of Greater e = cc

module _ {X : Type 0} (cmp : X → X → Ordering) (total : IsTotalOrder cmp) where
  -- what is below the first of an ascending list is below all of it
  all_above : (a b : X) (later : List X) → cmp a b ≡ Less → IsAscending cmp (b ∷ later) → All (λ y. cmp a y ≡ Less) (b ∷ later)
  all_above a b later below ascending zero d h = below
  all_above a b later below ascending (suc k) d h =
      total.trans a b _ below (ascending 0 (suc k) d (omega arith) h)

  -- where each row is above the one before it, it is above all before it
  pub ascending_from : (rows : List X) (k : ℕ) → first_unsorted cmp k rows ≡ None → IsAscending cmp rows
  ascending_from [] k e = λ i j d lt h. absurd (omega arith)
  ascending_from (a ∷ []) k e = λ i j d lt h. absurd (omega arith)
  ascending_from (a ∷ b ∷ later) k e = sorted_on (is_lt (cmp a b)) refl e (ascending_from (b ∷ later) (k + 1))
    where
      sorted_on : (t : Bool) → is_lt (cmp a b) ≡ t → cond t (first_unsorted cmp (k + 1) (b ∷ later)) (Some (k + 1)) ≡ None
          → (first_unsorted cmp (k + 1) (b ∷ later) ≡ None → IsAscending cmp (b ∷ later)) → IsAscending cmp (a ∷ b ∷ later)
      sorted_on true h none rest =
          AllPairs-cons (λ x y. cmp x y ≡ Less) a (b ∷ later) (all_above a b later (less_of _ h) (rest none)) (rest none)
      sorted_on false h none rest = cc

-- where the test passes at as many elements from the front as there are, it passes at each
passes : {X : Type 0} (p : X → Bool) (xs : List X) → length xs ≤ prefix_len p xs → All (λ x. p x ≡ true) xs
passes p [] h = λ k d lt. absurd (omega arith)
passes p (x ∷ xs) h = on_first (p x) refl h (passes p xs)
  where
    on_first : (t : Bool) → p x ≡ t → suc (length xs) ≤ cond t (1 + prefix_len p xs) 0 → (length xs ≤ prefix_len p xs → All (λ y. p y ≡ true) xs) → All (λ y. p y ≡ true) (x ∷ xs)
    on_first true e h rest = All-cons (λ y. p y ≡ true) x xs e (rest (omega arith))
    on_first false e h rest = absurd (omega arith)

not_true : (b : Bool) → not (not b) ≡ true → b ≡ true
not_true true e = refl
not_true false e = cc

-- a test that fails nowhere passes everywhere
pub all_pass : {X : Type 0} (p : X → Bool) (xs : List X) → position (λ x. not (p x)) xs ≡ None → All (λ x. p x ≡ true) xs
all_pass p xs e = λ k d h. not_true _ (passes (λ x. not (not (p x))) xs (whole (nat_lt (position_or_len (λ x. not (p x)) xs) (length xs)) refl e) k d h)
  where
    whole : (t : Bool) → nat_lt (position_or_len (λ x. not (p x)) xs) (length xs) ≡ t → cond t (Some (position_or_len (λ x. not (p x)) xs)) None ≡ None → length xs ≤ prefix_len (λ x. not (not (p x))) xs
    whole true h none = cc
    whole false h none = ltb-false _ _ h

-- neither of two faults is there
neither : (a b : Option NetFault) → or_else a b ≡ None → (a ≡ None) × (b ≡ None)
neither None b e = (refl, e)
neither (Some f) b e = cc

no_row : (kind : Kind) (bad unsorted : Option ℕ) → end_or_order_fault kind bad unsorted ≡ None → (bad ≡ None) × (unsorted ≡ None)
no_row kind None None e = (refl, refl)
no_row kind (Some b) None e = cc
no_row kind None (Some u) e = cc
no_row kind (Some b) (Some u) e = cc

in_order : (kind : Kind) (unsorted : Option ℕ) → unsorted_fault kind unsorted ≡ None → unsorted ≡ None
in_order kind None e = refl
in_order kind (Some k) e = cc

-- what there are not too many of
few : (caps n : ℕ) (fault : NetFault) (later : Option NetFault) → cond (nat_lt caps n) (Some fault) later ≡ None → (n ≤ caps) × (later ≡ None)
few caps n fault later e = on_test (nat_lt caps n) refl e
  where
    on_test : (t : Bool) → nat_lt caps n ≡ t → cond t (Some fault) later ≡ None → (n ≤ caps) × (later ≡ None)
    on_test true h none = cc
    on_test false h none = (ltb-false _ _ h, none)

pub names_total : IsTotalOrder name_cmp
names_total = nat_list_cmp_total

pub arcs_total : IsTotalOrder arc_cmp
arcs_total = then_total (on_total (λ (a : Arc). a.from) nat_cmp_total) (on_total (λ (a : Arc). a.to) nat_cmp_total)

pub nodes_total : IsTotalOrder node_cmp
nodes_total = then_total (on_total (λ (a : Node). (rank_of a.key).0) int_cmp_total) (on_total (λ (a : Node). (rank_of a.key).1) nat_cmp_total)

-- parts without a fault are those of a network
pub network_of : (caps : Caps) (n : NetworkLists) → AreParts n → HaveDurations n.arcs → HaveDurations n.links → AreNames n.stop_names → AreNamed n.trips → lists_fault caps n ≡ None
    → AreTrips (length n.days.bases) (length n.stops) n.trips → IsNetwork n
network_of caps n parts arcs_fit links_fit names named none trips_fit =
    let (count, order) = neither _ _ none in
    let (nodes, after_nodes) = few caps.nodes (length (nodes_of n)) _ _ count in
    let (stops, after_stops) = few caps.stops (length n.stops) _ _ after_nodes in
    let (arcs, after_arcs) = few caps.arcs (length n.arcs) _ _ after_stops in
    let (links, done) = few caps.links (length n.links) _ _ after_arcs in
    let (roads_order, after_roads) = neither _ _ order in
    let (names_order, after_names) = neither _ _ after_roads in
    let (switches_order, ends) = neither _ _ after_names in
    let (arc_ends, link_ends) = neither _ _ ends in
    let (bad_arc, arc_order) = no_row _ _ _ arc_ends in
    let (bad_link, link_order) = no_row _ _ _ link_ends in
    let within = caps.within in
    record {
      parts = parts;
      few_nodes = le_trans nodes within.nodes_within;
      few_stops = le_trans stops within.stops_within;
      few_arcs = le_trans arcs within.arcs_within;
      few_links = le_trans links within.links_within;
      roads_ascend = ascending_from node_cmp nodes_total _ 0 (in_order _ _ roads_order);
      names_are = names;
      names_ascend = ascending_from name_cmp names_total _ 0 (in_order _ _ names_order);
      switches_ascend = ascending_from node_cmp nodes_total _ 0 (in_order _ _ switches_order);
      arcs_join = all_pass _ _ bad_arc;
      arcs_ascend = ascending_from arc_cmp arcs_total _ 0 arc_order;
      links_join = all_pass _ _ bad_link;
      links_ascend = ascending_from arc_cmp arcs_total _ 0 link_order;
      arcs_fit = arcs_fit;
      links_fit = links_fit;
      trips_fit = trips_fit;
      trips_named = named;
    }

pub both : (a b : Bool) → a && b ≡ true → (a ≡ true) × (b ≡ true)
both true b e = (refl, e)
both false b e = cc

-- the ends of each link are nodes
pub links_in_range : (n : NetworkLists) → IsNetwork n → All (λ link. (link.from < length (nodes_of n)) × (link.to < length (nodes_of n))) n.links
links_in_range n network k d h =
    let (ends, apart) = both _ _ (network.links_join k d h) in
    let (from, to) = both _ _ ends in
    (ltb-true _ _ from, ltb-true _ _ to)

pub some_is : {X : Type 0} {a b : X} → Some a ≡ Some b → a ≡ b
some_is e = cc

-- ---- modes by their numbers

pub number_is_low : (mode : Mode) → number_of_mode mode < 3
number_is_low Foot = lit< tt
number_is_low Bike = lit< tt
number_is_low Car = lit< tt

pub mode_by_number : (a b : Mode) → number_of_mode a ≡ number_of_mode b → a ≡ b
mode_by_number a b e = some_is (numbered a ∙ (ap mode_numbered e ∙ sym (numbered b)))
  where
    numbered : (mode : Mode) → Some mode ≡ mode_numbered (number_of_mode mode)
    numbered Foot = refl
    numbered Bike = refl
    numbered Car = refl

-- the letter of a node whose mode is known
pub letter_of : (roads : List Node) (v : ℕ) (mode : Mode) → mode_at roads v ≡ Some mode → letter_at roads v ≡ Some (number_of_mode mode)
letter_of roads v mode e = ap (option_map number_of_mode) e

pub same_mode_is : (a b : Mode) → is_same_mode (Some a) (Some b) ≡ true → a ≡ b
same_mode_is a b e = mode_by_number a b (eqb-true _ _ e)

pub mode_is_same : (mode : Mode) → is_same_mode (Some mode) (Some mode) ≡ true
mode_is_same mode = eq-eqb _ _ refl

module _ (n : NetworkLists) (network : IsNetwork n) where
  -- a node that has a mode is a road node
  pub mode_inside : (v : ℕ) (mode : Mode) → mode_at n.roads v ≡ Some mode → v < length n.roads
  mode_inside v mode e = option_and_then_some (λ (node : Node). mode_of node.key) (slice_get n.roads v) mode e (λ node is _. slice_get_within n.roads v node is)

  -- so is one that has a letter, and its letter is one of the three
  pub letter_is_road : (v letter : ℕ) → letter_at n.roads v ≡ Some letter → (v < length n.roads) × (letter < 3)
  letter_is_road v letter e = on_mode (mode_at n.roads v) refl e
    where
      on_mode : (o : Option Mode) → mode_at n.roads v ≡ o → option_map number_of_mode o ≡ Some letter → (v < length n.roads) × (letter < 3)
      on_mode None is e = cc
      on_mode (Some mode) is e = (mode_inside v mode is, subst (λ k. k < 3) (some_is e) (number_is_low mode))

  pub nodes_hold_roads : length n.roads ≤ length (nodes_of n)
  nodes_hold_roads = omega (arith, length-append (n.roads ++ n.stops) n.switches, length-append n.roads n.stops)

  -- the ends of a road arc are road nodes
  pub arcs_in_range : All (λ arc. (arc.from < length n.roads) × (arc.to < length n.roads)) n.arcs
  arcs_in_range place d h = on_modes (mode_at n.roads arc.from) (mode_at n.roads arc.to) refl refl (both _ _ (network.arcs_join place d h)).0
    where
      arc : Arc
      arc = slice_index_or n.arcs place d

      on_modes : (a b : Option Mode) → mode_at n.roads arc.from ≡ a → mode_at n.roads arc.to ≡ b → is_same_mode a b ≡ true → (arc.from < length n.roads) × (arc.to < length n.roads)
      on_modes (Some a) (Some b) at_from at_to e = (mode_inside arc.from a at_from, mode_inside arc.to b at_to)
      on_modes (Some a) None at_from at_to e = cc
      on_modes None b at_from at_to e = cc
