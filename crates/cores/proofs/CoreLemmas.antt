-- The core of a sound hierarchy breaks no rule of a network but how many arcs there may be.
use Rattle.plan_base.proofs.Common.{[], ℕ, ◌++◌, ◌+◌, ◌<◌, ◌^◌, ◌∙◌, ◌∷◌, ◌≡◌, ◌≤◌, All, All-contains, All-contains_itself, All-filter, All-map, All-weaker, AllPairs-filter, ap, ap₂, arith, Bool, cases_lt, cond, Contains, eq-eqb, false, false≢true, filter, get_or, get_or-map, get_or_append_left, get_or_from_slice_get, inl, inr, is_some, le-ltb, length, length-append, length-map, Less, List, ltb-false, ltb-true, nat_eq, nat_lt, ne_eqb, None, not, Option, option_and_then, Ordering, position, position-Some, refl, slice_get, slice_get_cases, Some, subst, suc, sym, take, take_more, true, zero}
use Rattle.plan_base.specs.{Caps, Mode}
use Rattle.service_days.specs.DaysMeaning.{DaysMeaning}
use Rattle.mode_network.specs.{Arc, Node, NodeKey, Road, Stop, Switch, NetFault, OutOfOrder, BadEnd, Table, TooMany, OutOfMemory, IsFaultOf, nodes_of, mode_of, IsRoad, NetworkLists.NetworkLists, Leads, mode_at, arc_cmp, node_cmp, first_unsorted, first_fault, joins_modes, AreParts, IsAscending, IsNetwork}
use Rattle.mode_network.proofs.RuleLemmas.{mode_inside, mode_is_same, nodes_hold_roads}
use Rattle.hierarchy.specs.{Entry, Hop, AreHops, total, HierarchyLists, height_in, is_contracted, is_core, IsHierarchy, IsSound, FitsLayer, entry_cmp, no_entry}
use Rattle.hierarchy.proofs.{HeightLemmas.height_most, PlaceLemmas.Contains-map, RoadLemmas.roads_under}
use Rattle.cores.specs.Cores.{core_arc, core_arcs, is_core_entry, HasNoNetwork}
use Rattle.cores.specs.inside.Parts.{AreRefused}

-- a node is core where it is not contracted
pub core_test : (order : List ℕ) (v : ℕ) → not (is_contracted order v) ≡ is_core order v
core_test order v = go (nat_lt (height_in order v) (length order)) refl where
  go : (b : Bool) → nat_lt (height_in order v) (length order) ≡ b → not b ≡ nat_eq (height_in order v) (length order)
  go true e = let low = ltb-true (height_in order v) (length order) e in sym (ne_eqb (height_in order v) (length order) (λ same. omega arith))
  go false e = let high = ltb-false (height_in order v) (length order) e in let most = height_most order v in sym (eq-eqb (height_in order v) (length order) (omega arith))

-- ---- rows in order

-- where rows ascend, none is out of order
none_unsorted : {X : Type 0} (cmp : X → X → Ordering) (k : ℕ) (rows : List X) → IsAscending cmp rows → first_unsorted cmp k rows ≡ None
none_unsorted cmp k [] ascend = refl
none_unsorted cmp k (row ∷ []) ascend = refl
none_unsorted cmp k (row ∷ next ∷ later) ascend =
    rw (ascend 0 1 row (omega arith) (omega arith)) (none_unsorted cmp (k + 1) (next ∷ later) (λ i j d lt inside. ascend (suc i) (suc j) d (omega arith) (omega arith)))

-- where a test passes everywhere it fails nowhere
fails_nowhere : {X : Type 0} (p : X → Bool) (xs : List X) (d : X) → All (λ x. p x ≡ true) xs → position (λ x. not (p x)) xs ≡ None
fails_nowhere p xs d all = go (position (λ x. not (p x)) xs) refl where
  go : (o : Option ℕ) → position (λ x. not (p x)) xs ≡ o → position (λ x. not (p x)) xs ≡ None
  go None e = e
  go (Some i) e = let found = position-Some (λ x. not (p x)) xs i d e in absurd (false≢true (sym (ap not (all i d found.0)) ∙ found.1))

-- ---- the arcs of a core

no_arc : Arc
no_arc = record { from = 0; to = 0; ms = 0 }

module _ (n : NetworkLists) (h : HierarchyLists) (network : IsNetwork n) (rules : IsHierarchy h) (sound : IsSound n h) where
  -- an entry joins different road nodes of one mode
  fits : (e : Entry) → Contains h.entries e → FitsLayer n e
  fits e listed = All-contains (FitsLayer n) h.entries e sound.in_layers listed

  -- what holds of each entry as an arc, does of all arcs
  all_arcs : (P : Arc → Type 0) → ((e : Entry) → Contains h.entries e → P (core_arc e)) → All P (core_arcs h)
  all_arcs P each =
      All-map P core_arc (filter (is_core_entry h.order) h.entries)
      (All-filter (is_core_entry h.order) (λ e. P (core_arc e)) h.entries (All-weaker (Contains h.entries) (λ e. P (core_arc e)) each h.entries (All-contains_itself h.entries)))

  -- roads to another node take some time
  lasts : (hops : List Hop) (u v : ℕ) → (u ≡ v → ⊥) → AreHops (Leads n.arcs) u hops v → 0 < total hops
  lasts [] u v differ walk = absurd (differ (sym walk))
  lasts (hop ∷ hops) u v differ (leads, walk) =
      let first : 0 < hop.weight = All-contains (λ (arc : Arc). 0 < arc.ms) n.arcs (record { from = u; to = hop.to; ms = hop.weight }) network.parts.arcs_last leads in
      omega arith

  -- the rules that hold of single arcs and of their order
  arcs_last : All (λ arc. 0 < arc.ms) (core_arcs h)
  arcs_last = all_arcs (λ arc. 0 < arc.ms) (λ e listed.
      let roads = roads_under n h sound e.from e.to e.weight (e.via, listed) in
      omega (arith, roads.weighs, lasts roads.hops e.from e.to (fits e listed).differ roads.walk))

  arcs_join : All (λ arc. joins_modes n.roads arc ≡ true) (core_arcs h)
  arcs_join = all_arcs (λ arc. joins_modes n.roads arc ≡ true) (λ e listed.
      let is = fits e listed in
      rw (is.from_mode, is.to_mode, mode_is_same is.mode, ne_eqb e.from e.to is.differ) refl)

  arcs_ascend : IsAscending arc_cmp (core_arcs h)
  arcs_ascend i j d lt inside =
      let kept = filter (is_core_entry h.order) h.entries in
      let last : j < length kept = omega (arith, inside, length-map kept core_arc) in
      rw (get_or-map core_arc kept i no_entry d (omega arith), get_or-map core_arc kept j no_entry d last)
      (AllPairs-filter (λ a b. entry_cmp a b ≡ Less) (is_core_entry h.order) h.entries rules.entries_ascend i j no_entry lt last)

  -- the parts of the core's network
  abbrev pub core_parts : DaysMeaning → NetworkLists
  core_parts days = record { days = days; roads = n.roads; stop_names = []; stops = []; switches = []; arcs = core_arcs h; links = []; trips = [] }

  -- which are such as a network is built of
  pub parts_are : (days : DaysMeaning) → AreParts (core_parts days)
  parts_are days = record {
    roads_are = network.parts.roads_are;
    stops_are = λ k d lt. absurd (omega arith);
    switches_are = λ k d lt. absurd (omega arith);
    one_name_each = refl;
    arcs_last = arcs_last;
    links_last = λ k d lt. absurd (omega arith);
  }

  -- they break no rule but that
  too_many : (caps : Caps) (days : DaysMeaning) (fault : NetFault) → caps.nodes ≡ 2 ^ 24 → caps.arcs ≡ 2 ^ 26 → first_fault caps (core_parts days) ≡ Some fault → 2 ^ 26 < length (core_arcs h)
  too_many caps days fault nodes arcs is = elim (cases_lt (2 ^ 26) (length (core_arcs h))) [
    | inl more ↦ more
    | inr few ↦ (let none = no_fault few in cc)
  ] where
    p : NetworkLists
    p = core_parts days

    few_nodes : length (nodes_of p) ≤ caps.nodes
    few_nodes = omega (arith, length-append (n.roads ++ []) [], length-append n.roads [], network.few_nodes, nodes_hold_roads n network)

    no_fault : length (core_arcs h) ≤ 2 ^ 26 → first_fault caps p ≡ None
    no_fault few =
        let nodes_ok = le-ltb caps.nodes (length (nodes_of p)) few_nodes in
        let arcs_ok = le-ltb caps.arcs (length (core_arcs h)) (omega arith) in
        let roads_ok = none_unsorted node_cmp 0 n.roads network.roads_ascend in
        let ends_ok = fails_nowhere (joins_modes n.roads) (core_arcs h) no_arc arcs_join in
        let order_ok = none_unsorted arc_cmp 0 (core_arcs h) arcs_ascend in
        rw (nodes_ok, le-ltb caps.stops 0 (omega arith), arcs_ok, le-ltb caps.links 0 (omega arith), roads_ok, ends_ok, order_ok, le-ltb caps.trips 0 (omega arith), le-ltb caps.calls 0 (omega arith)) refl

  -- so that is why they are no network
  pub no_network : {caps : Caps} (days : DaysMeaning) → caps.nodes ≡ 2 ^ 24 → caps.arcs ≡ 2 ^ 26 → AreRefused caps (core_parts days) → HasNoNetwork h
  no_network {caps} days nodes arcs refused = inr (too_many caps days refused.fault nodes arcs refused.first)

  -- parts are these, if each list is
  pub made_parts : (p : NetworkLists) → p.roads ≡ n.roads → p.stop_names ≡ [] → p.stops ≡ [] → p.switches ≡ [] → p.arcs ≡ core_arcs h → p.links ≡ [] → p.trips ≡ [] → p ≡ core_parts p.days
  made_parts p roads names stops switches arcs links trips = rw (roads, names, stops, switches, arcs, links, trips) refl

-- what is in a list and passes a test is among those that do
pub Contains-filter : {X : Type 0} (p : X → Bool) (xs : List X) (x : X) → Contains xs x → p x ≡ true → Contains (filter p xs) x
Contains-filter p [] x (k, lt, at) passes = absurd (omega arith)
Contains-filter p (y ∷ xs) x (zero, lt, at) passes = let first : p y ≡ true = ap p at ∙ passes in rw first (0, omega arith, at)
Contains-filter p (y ∷ xs) x (suc k, lt, at) passes = by_test (p y) (Contains-filter p xs x (k, omega arith, at) passes) where
  by_test : (b : Bool) → Contains (filter p xs) x → Contains (cond b (y ∷ filter p xs) (filter p xs)) x
  by_test true (i, less, is) = (suc i, omega arith, is)
  by_test false later = later

-- a network with these arcs keeps both bounds
pub has_network : (h : HierarchyLists) (core : NetworkLists) → core.arcs ≡ core_arcs h → IsNetwork core → HasNoNetwork h → ⊥
has_network h core arcs rules (inl long) =
    let short = All-contains (λ (arc : Arc). arc.ms < 2 ^ 32) core.arcs (core_arc long.entry) rules.arcs_fit
    (subst (λ xs. Contains xs (core_arc long.entry)) (sym arcs) (Contains-map core_arc (filter (is_core_entry h.order) h.entries) long.entry (Contains-filter (is_core_entry h.order) h.entries long.entry long.listed long.core))) in
    let least = long.long in
    omega arith
has_network h core arcs rules (inr many) = omega (arith, ap length arcs, rules.few_arcs)

-- a fault that is not want of memory is a rule that is broken
pub refused_for : (caps : Caps) (p : NetworkLists) (fault : NetFault) → (fault ≡ OutOfMemory → ⊥) → IsFaultOf caps p fault → AreRefused caps p
refused_for caps p (OutOfOrder kind row) other is = record { fault = OutOfOrder kind row; first = is }
refused_for caps p (BadEnd kind row) other is = record { fault = BadEnd kind row; first = is }
refused_for caps p (Table fault) other is = record { fault = Table fault; first = is }
refused_for caps p (TooMany kind) other is = record { fault = TooMany kind; first = is }
refused_for caps p OutOfMemory other is = absurd (other refl)

-- ---- the road nodes of a network

module _ (n : NetworkLists) (network : IsNetwork n) where
  -- a node that has a mode is the next road node
  pub road_more : (v : ℕ) (node : Node) (roads : List Node) → roads ≡ take v n.roads → is_some (mode_at n.roads v) ≡ true → slice_get (nodes_of n) v ≡ Some node
      → (roads ++ node ∷ [] ≡ take (v + 1) n.roads) × (v < length n.roads)
  road_more v node roads before road is =
      let lt : v < length n.roads = inside (mode_at n.roads v) refl road in
      let read : get_or n.roads v node ≡ node = sym (get_or_append_left n.roads n.stops node v lt) ∙ sym (get_or_append_left (n.roads ++ n.stops) n.switches node v (omega (arith, length-append n.roads n.stops)))
      ∙ get_or_from_slice_get (nodes_of n) v node node is in
      (ap₂ (λ xs x. xs ++ x ∷ []) before (sym read) ∙ sym (take_more n.roads v node lt), lt)
    where
      inside : (o : Option Mode) → mode_at n.roads v ≡ o → is_some o ≡ true → v < length n.roads
      inside None e some = cc
      inside (Some mode) e some = mode_inside n network v mode e

  -- one that has none is past them
  pub past_roads : (v : ℕ) → is_some (mode_at n.roads v) ≡ false → length n.roads ≤ v
  past_roads v none = elim (slice_get_cases n.roads v).1 [
    | inl (node, lt, is, read) ↦ absurd (go node.key (subst (λ (x : Node). IsRoad x.key) read (network.parts.roads_are v node lt)) (ap (λ (o : Option Node). is_some (option_and_then (λ (x : Node). mode_of x.key) o)) (sym is) ∙ none))
    | inr (past, is) ↦ past
  ] where
    go : (key : NodeKey) → IsRoad key → is_some (mode_of key) ≡ false → ⊥
    go (Road mode id) is none = cc
    go (Stop stop) is none = is
    go (Switch id) is none = is
