-- What is under the entries of a sound hierarchy, and the steps of a walk through its phase graph.
use Rattle.plan_base.proofs.Common.{◌≡◌, ℕ, zero, suc, ◌+◌, ◌-◌, ◌*◌, ◌<◌, ◌∙◌, ◌&&◌, nat_eq, Bool, true, false, List, [], ◌∷◌, ◌++◌, length, drop, get_or, Option, Some, None, refl, ap, sym, subst, append_assoc, append-nil, arith, All, Contains, map, option_to_list, ◌≢◌, ∥∥₁_map, eqb-true, eqb-false, eq-eqb, and_from, and_parts, get_or_default, map-append, All-contains, All-cons, All-nil, All-append}
use Rattle.std.proofs.Props.{props}
use Rattle.std.proofs.Math.Logic.{∥∥₁_elim}
use Rattle.search_laws.specs.{collapse, GraphMeaning, HasArc, GraphArc}
use Rattle.timetable_arcs.specs.{TableLists, IsTable}
use Rattle.mode_network.specs.{Arc, Step, letter_at, mode_at, IsNetwork, is_same_mode, joins_modes, IsTimetableOf, Leads, AreSteps, declared.steps.Step.TheVariants.Road, NetworkLists.NetworkLists}
use Rattle.plan_base.specs.{number_of_mode, Mode}
use Rattle.mode_network.proofs.RuleLemmas.{letter_is_road, letter_of, same_mode_is, some_is}
use Rattle.hierarchy.specs.{Entry, Hop as RoadHop, AreHops, total, HierarchyLists, IsHierarchy, HasEntry, IsSound, IsMade, IsMadeBy, FitsLayer, IsEntryFor, HasNoEntry, entry_at}
use Rattle.hierarchy.proofs.{HopLemmas.hops_then, HopLemmas.total-append, LookupLemmas.weight_once, RoadLemmas.Roads, RoadLemmas.roads_under}
use Rattle.product_search.specs.{Hop}
use Rattle.plain_graph.specs.{plain_meaning, plain_arc, arcs_at, arrival, graph_arc, no_arc, step_of, inside.out_of}
use Rattle.plain_graph.proofs.Same.{step_at}
use Rattle.phase_graph.specs.{PhaseArc, Other, phase_node, phase_arc, arc_of, phase_arrival as arrives_along, node_of, is_down}
use Rattle.phase_graph.proofs.{GraphLemmas.half, WordLemmas.same_letter, WordLemmas.again}
use Rattle.journey.specs.{AreOnTime}
use Rattle.unpack.specs.{AreHopsIn, IsSoon, with_wait, node_after, arrival_after, letters_of, letters_in, IsUnpacked, GoesOn, GoesOnByArc, road_step, GoesOnByRoads, AreStillPacked, weight_of, ArePartsOf}
use Rattle.unpack.proofs.UnpackLemmas.{leaves, behind, arc_soon, are_real, plain_letters}

-- ---- what an entry is made of, where it is known that the hierarchy is sound

-- a place that is known to be there can be found
find_place : (p : ℕ → Bool) (n : ℕ) → ∥ ((k : ℕ) × (k < n) × (p k ≡ true)) ∥₁ → (k : ℕ) × (k < n) × (p k ≡ true)
find_place p zero there = absurd (∥∥₁_elim there (hlevel props) (λ x. (let none = x.1 in omega (arith, none))))
find_place p (suc n) there = by_test (p n) refl (λ none. find_place p n (∥∥₁_map there (earlier none)))
  where
    earlier : p n ≡ false → (k : ℕ) × (k < suc n) × (p k ≡ true) → (k : ℕ) × (k < n) × (p k ≡ true)
    earlier none (k, lt, is) = by_place (nat_eq k n) refl
      where
        by_place : (b : Bool) → nat_eq k n ≡ b → (k : ℕ) × (k < n) × (p k ≡ true)
        by_place true e = absurd (let clash = sym (ap p (eqb-true k n e) ∙ none) ∙ is in cc)
        by_place false e = (k, (let apart = eqb-false k n e in omega (arith, apart, lt)), is)

    by_test : (b : Bool) → p n ≡ b → (p n ≡ false → (k : ℕ) × (k < n) × (p k ≡ true)) → (k : ℕ) × (k < suc n) × (p k ≡ true)
    by_test true e before = (n, omega arith, e)
    by_test false e before = let found = before e in (found.0, (let lt = found.1 in omega (arith, lt)), found.2)

-- the arc at a place is that of an entry
abbrev is_arc : Arc → Entry → Bool
is_arc a e = nat_eq a.from e.from && (nat_eq a.to e.to && nat_eq a.ms e.weight)

module _ (n : NetworkLists) (network : IsNetwork n) (h : HierarchyLists) (rules : IsHierarchy h) (sound : ∥ IsSound n h ∥₁) where
  made : IsSound n h → (e : Entry) → Contains h.entries e → (o : Option ℕ) → e.via ≡ o → IsMadeBy n h e o
  made s e listed o via = subst (IsMadeBy n h e) via (All-contains (IsMade n h) h.entries e s.made listed)

  -- an entry without a middle is a road arc
  pub is_road : (e : Entry) → Contains h.entries e → e.via ≡ None → Leads n.arcs e.from e.to e.weight
  is_road e listed via =
      let found = find_place (λ k. is_arc (get_or n.arcs k no_arc) e) (length n.arcs) (∥∥₁_map sound (λ s. there (made s e listed None via))) in
      (found.0, found.1, get_or_default n.arcs found.0 (arc_of e) no_arc found.1 ∙ same (get_or n.arcs found.0 no_arc) found.2)
    where
      arc_of : Entry → Arc
      arc_of e = record { from = e.from; to = e.to; ms = e.weight }

      there : Leads n.arcs e.from e.to e.weight → (k : ℕ) × (k < length n.arcs) × (is_arc (get_or n.arcs k no_arc) e ≡ true)
      there (k, lt, is) =
          let at : get_or n.arcs k no_arc ≡ arc_of e = get_or_default n.arcs k no_arc (arc_of e) lt ∙ is in
          (k, lt, ap (λ (a : Arc). is_arc a e) at ∙ and_from _ _ (eq-eqb e.from e.from refl) (and_from _ _ (eq-eqb e.to e.to refl) (eq-eqb e.weight e.weight refl)))

      same : (a : Arc) → is_arc a e ≡ true → a ≡ record { from = e.from; to = e.to; ms = e.weight }
      same a is =
          let first = and_parts _ _ is in
          let second = and_parts _ _ first.1 in
          let from = eqb-true a.from e.from first.0 in
          let to = eqb-true a.to e.to second.0 in
          let ms = eqb-true a.ms e.weight second.1 in
          ap (λ x. record { from = x; to = a.to; ms = a.ms }) from ∙ ap (λ x. record { from = e.from; to = x; ms = a.ms }) to ∙ ap (λ x. record { from = e.from; to = e.to; ms = x }) ms

  -- the parts of a shortcut are there
  pub has_first : (e : Entry) (m : ℕ) → Contains h.entries e → e.via ≡ Some m → HasNoEntry h.entries e.from m → ⊥
  has_first e m listed via none = ∥∥₁_elim sound (hlevel props) (λ s. (let middle = made s e listed (Some m) via in none middle.first middle.is_first))

  pub has_second : (e : Entry) (m : ℕ) → Contains h.entries e → e.via ≡ Some m → HasNoEntry h.entries m e.to → ⊥
  has_second e m listed via none = ∥∥₁_elim sound (hlevel props) (λ s. (let middle = made s e listed (Some m) via in none middle.second middle.is_second))

  entry_has : (u v : ℕ) (e : Entry) → IsEntryFor h.entries u v e → HasEntry h.entries u v e.weight
  entry_has u v e is = (
    e.via,
    subst (λ x. Contains h.entries (record { from = x; to = v; weight = e.weight; via = e.via })) is.from
        (subst (λ x. Contains h.entries (record { from = e.from; to = x; weight = e.weight; via = e.via })) is.to is.listed),
  )

  -- and it weighs as much as both together
  pub parts_weigh : (e : Entry) (m : ℕ) (first second : Entry) → Contains h.entries e → e.via ≡ Some m → IsEntryFor h.entries e.from m first → IsEntryFor h.entries m e.to second
      → first.weight + second.weight ≡ e.weight
  parts_weigh e m first second listed via one two = ∥∥₁_elim sound (hlevel props) (λ s. (
      let middle = made s e listed (Some m) via in
      let a = weight_once h.entries rules.entries_ascend e.from m first.weight middle.first (entry_has e.from m first one) middle.is_first in
      let b = weight_once h.entries rules.entries_ascend m e.to second.weight middle.second (entry_has m e.to second two) middle.is_second in
      let sum = middle.sum in
      omega (arith, a, b, sum)
      ))

  -- an entry leads to another node, and takes some time
  pub differs : (e : Entry) → Contains h.entries e → e.from ≢ e.to
  differs e listed same = ∥∥₁_elim sound (hlevel props) (λ s. (All-contains (FitsLayer n) h.entries e s.in_layers listed).differ same)

  pub takes_time : (e : Entry) → Contains h.entries e → 0 < e.weight
  takes_time e listed = ∥∥₁_elim sound (hlevel props) (λ s. by_roads (roads_under n h s e.from e.to e.weight (e.via, listed)))
    where
      by_list : (hops : List RoadHop) → AreHops (Leads n.arcs) e.from hops e.to → total hops ≡ e.weight → 0 < e.weight
      by_list [] walk weighs = absurd (differs e listed (sym walk))
      by_list (hop ∷ hops) ((k, lt, is), walk) weighs =
          let lasts = subst (λ (a : Arc). 0 < a.ms) is (network.parts.arcs_last k (record { from = e.from; to = hop.to; ms = hop.weight }) lt) in
          omega (arith, lasts, weighs)

      by_roads : Roads n e.from e.to e.weight → 0 < e.weight
      by_roads r = by_list r.hops r.walk r.weighs

-- ---- the entries that wait

module _ (entries : List Entry) where
  top : (stack : List Entry) (e : Entry) (u v : ℕ) → AreStillPacked entries u (stack ++ e ∷ []) v → Contains entries e × (u ≡ e.from) × AreStillPacked entries e.to stack v
  top [] e u v (listed, to, from) = (listed, from, to)
  top (x ∷ stack) e u v (listed, to, more) = let t = top stack e u x.from more in (t.0, t.1, (listed, to, t.2))

  put : (stack : List Entry) (e : Entry) (v : ℕ) → Contains entries e → AreStillPacked entries e.to stack v → AreStillPacked entries e.from (stack ++ e ∷ []) v
  put [] e v listed to = (listed, to, refl)
  put (x ∷ stack) e v listed (there, to, more) = (there, to, put stack e x.from listed more)

weight_push : (stack : List Entry) (e : Entry) → weight_of (stack ++ e ∷ []) ≡ weight_of stack + e.weight
weight_push [] e = omega arith
weight_push (x ∷ stack) e = let more = weight_push stack e in omega (arith, more)

-- what is still to be done: less with each turn, since each weight is above 0
abbrev pub work_of : List Entry → ℕ
work_of [] = 0
work_of (e ∷ above) = (2 * e.weight - 1) + work_of above

work_push : (stack : List Entry) (e : Entry) → work_of (stack ++ e ∷ []) ≡ work_of stack + (2 * e.weight - 1)
work_push [] e = omega arith
work_push (x ∷ stack) e = let more = work_push stack e in omega (arith, more)

-- how far an entry is unpacked: roads lead from its start to where the entries that wait begin
pub record IsUnpacking (n : NetworkLists) (h : HierarchyLists) (e : Entry) (old steps : List Step) (stack : List Entry) : Type 0 where
  pub at : ℕ
  pub roads : List RoadHop
  pub lead : AreHops (Leads n.arcs) e.from roads at
  pub waiting : AreStillPacked h.entries at stack e.to
  pub weigh : total roads + weight_of stack ≡ e.weight
  pub list : steps ≡ old ++ map road_step roads

pub unpacking_begins : (n : NetworkLists) (h : HierarchyLists) (e : Entry) (old : List Step) → Contains h.entries e → IsUnpacking n h e old old (e ∷ [])
unpacking_begins n h e old listed = record {
  at = e.from;
  roads = [];
  lead = refl;
  waiting = (listed, refl, refl);
  weigh = omega arith;
  list = sym (append-nil old);
}

module _ (n : NetworkLists) (network : IsNetwork n) (h : HierarchyLists) (rules : IsHierarchy h) (sound : ∥ IsSound n h ∥₁) (e : Entry) (old steps : List Step) (stack : List Entry) (x : Entry)
    (far : IsUnpacking n h e old steps (stack ++ x ∷ [])) where
  next : Contains h.entries x × (far.at ≡ x.from) × AreStillPacked h.entries x.to stack e.to
  next = top h.entries stack x far.at e.to far.waiting

  pub next_listed : Contains h.entries x
  next_listed = next.0

  -- a road arc is written
  pub unpacking_road : x.via ≡ None → (steps2 : List Step) → steps2 ≡ steps ++ Road x.to ∷ [] → IsUnpacking n h e old steps2 stack
  unpacking_road via steps2 push =
      let hop : RoadHop = record { to = x.to; weight = x.weight } in
      let road : AreHops (Leads n.arcs) far.at (hop ∷ []) x.to = (subst (λ u. Leads n.arcs u x.to x.weight) (sym next.1) (is_road n network h rules sound x next.0 via), refl) in
      let sum = far.weigh in
      record {
        at = x.to;
        roads = far.roads ++ hop ∷ [];
        lead = hops_then (Leads n.arcs) far.roads (hop ∷ []) e.from far.at x.to far.lead road;
        waiting = next.2;
        weigh = omega (arith, sum, total-append far.roads (hop ∷ []), weight_push stack x);
        list = push ∙ ap (λ (ss : List Step). ss ++ Road x.to ∷ []) far.list ∙ append_assoc old (map road_step far.roads) (Road x.to ∷ [])
            ∙ ap (λ (ss : List Step). old ++ ss) (sym (map-append road_step far.roads (hop ∷ [])));
      }

  -- two parts wait in place of a shortcut
  pub unpacking_parts : (m : ℕ) (stack2 : List Entry) → ArePartsOf h.entries x m stack stack2 → IsUnpacking n h e old steps stack2
  unpacking_parts m stack2 p =
      let behind = put h.entries stack p.second e.to p.second_listed (subst (λ u. AreStillPacked h.entries u stack e.to) (sym p.second_to) next.2) in
      let before = put h.entries (stack ++ p.second ∷ []) p.first e.to p.first_listed (subst (λ u. AreStillPacked h.entries u (stack ++ p.second ∷ []) e.to) (p.second_from ∙ sym p.first_to) behind) in
      let sum = far.weigh in
      let both = p.weigh in
      record {
        at = far.at;
        roads = far.roads;
        lead = far.lead;
        waiting = subst (λ u. AreStillPacked h.entries u stack2 e.to) (p.first_from ∙ sym next.1) (subst (λ s. AreStillPacked h.entries p.first.from s e.to) (sym p.list) before);
        weigh = subst (λ s. total far.roads + weight_of s ≡ e.weight) (sym p.list)
            (omega (arith, sum, both, weight_push (stack ++ p.second ∷ []) p.first, weight_push stack p.second, weight_push stack x));
        list = far.list;
      }

  pub less_by_road : work_of stack < work_of (stack ++ x ∷ [])
  less_by_road = let lasts = takes_time n network h rules sound x next.0 in omega (arith, lasts, work_push stack x)

  pub less_by_parts : (m : ℕ) (stack2 : List Entry) → ArePartsOf h.entries x m stack stack2 → work_of stack2 < work_of (stack ++ x ∷ [])
  less_by_parts m stack2 p =
      let both = p.weigh in
      let first = takes_time n network h rules sound p.first p.first_listed in
      let second = takes_time n network h rules sound p.second p.second_listed in
      subst (λ s. work_of s < work_of (stack ++ x ∷ [])) (sym p.list)
      (omega (arith, both, first, second, work_push (stack ++ p.second ∷ []) p.first, work_push stack p.second, work_push stack x))

-- ---- roads as steps

module _ (n : NetworkLists) (network : IsNetwork n) where
  -- the ends of a road arc have one mode
  one_mode : (v w ms : ℕ) → Leads n.arcs v w ms → (mode : ℕ) × (letter_at n.roads v ≡ Some mode) × (letter_at n.roads w ≡ Some mode)
  one_mode v w ms (k, lt, is) =
      by_modes (mode_at n.roads v) (mode_at n.roads w) refl refl (and_parts _ _ (subst (λ (a : Arc). joins_modes n.roads a ≡ true) is (network.arcs_join k (record { from = v; to = w; ms = ms }) lt))).0
    where
      by_modes : (a b : Option Mode) → mode_at n.roads v ≡ a → mode_at n.roads w ≡ b → is_same_mode a b ≡ true → (mode : ℕ) × (letter_at n.roads v ≡ Some mode) × (letter_at n.roads w ≡ Some mode)
      by_modes None b at_v at_w same = cc
      by_modes (Some a) None at_v at_w same = cc
      by_modes (Some a) (Some b) at_v at_w same = (number_of_mode a, letter_of n.roads v _ at_v, letter_of n.roads w _ (at_w ∙ ap Some (sym (same_mode_is a b same))))

  -- roads in a row: their letters, after the mode's, are told already
  record Driven (m v t : ℕ) (roads : List RoadHop) (w : ℕ) : Type 0 where
    letters : List ℕ
    on_time : AreOnTime n v t (map road_step roads) w (t + total roads) letters
    told : (word : List ℕ) → collapse (m ∷ (letters ++ word)) ≡ collapse (m ∷ word)

  drive : (m : ℕ) → m < 3 → (roads : List RoadHop) (v t w : ℕ) → AreHops (Leads n.arcs) v roads w → letter_at n.roads v ≡ Some m → Driven m v t roads w
  drive m road [] v t w walk mode = record { letters = []; on_time = (walk, omega arith, refl); told = λ word. refl }
  drive m road (hop ∷ roads) v t w (leads, walk) mode =
      let modes = one_mode v hop.to hop.weight leads in
      let same : modes.0 ≡ m = some_is (sym modes.1 ∙ mode) in
      let more = drive m road roads hop.to (t + hop.weight) w walk (modes.2 ∙ ap Some same) in
      let sum : (t + hop.weight) + total roads ≡ t + (hop.weight + total roads) = omega arith in
      record {
        letters = m ∷ more.letters;
        on_time = (
          hop.to,
          t + hop.weight,
          Some m,
          more.letters,
          (hop.weight, leads, refl, refl, sym mode),
          tt,
          subst (λ s. AreOnTime n hop.to (t + hop.weight) (map road_step roads) w s more.letters) sum more.on_time,
          refl,
        );
        told = λ word. again m (more.letters ++ word) road ∙ more.told word;
      }

  roads_soon : (roads : List RoadHop) → All IsSoon (map road_step roads)
  roads_soon [] = All-nil IsSoon
  roads_soon (hop ∷ roads) = All-cons IsSoon (road_step hop) (map road_step roads) tt (roads_soon roads)

  pub by_roads : (v w ms t u : ℕ) (letter : Option ℕ) (old new : List Step) → GoesOnByRoads n v w ms old new → v ≢ w → letter ≡ letter_at n.roads v → u ≡ t + ms → GoesOn n v t w u (option_to_list letter) old new
  by_roads v w ms t u letter old new g differ told_is at = by_list g.roads g.lead g.weigh g.list
    where
      by_list : (roads : List RoadHop) → AreHops (Leads n.arcs) v roads w → total roads ≡ ms → new ≡ old ++ map road_step roads → GoesOn n v t w u (option_to_list letter) old new
      by_list [] walk weighs list = absurd (differ (sym walk))
      by_list (hop ∷ roads) (leads, walk) weighs list =
          let modes = one_mode v hop.to hop.weight leads in
          let road = (letter_is_road n network v modes.0 modes.1).1 in
          let more = drive modes.0 road roads hop.to (t + hop.weight) w walk modes.2 in
          let sum : (t + hop.weight) + total roads ≡ u = omega (arith, weighs, at) in
          let is : letter ≡ Some modes.0 = told_is ∙ modes.1 in
          record {
            more = map road_step (hop ∷ roads);
            letters = modes.0 ∷ more.letters;
            list = list;
            on_time = (
              hop.to,
              t + hop.weight,
              Some modes.0,
              more.letters,
              (hop.weight, leads, refl, refl, sym modes.1),
              tt,
              subst (λ s. AreOnTime n hop.to (t + hop.weight) (map road_step roads) w s more.letters) sum more.on_time,
              refl,
            );
            once = λ word. more.told word ∙ ap (λ o. collapse (option_to_list o ++ word)) (sym is);
            soon = roads_soon (hop ∷ roads);
          }

-- ---- an arc of the plain graph as steps

module _ (n : NetworkLists) (network : IsNetwork n) (table : TableLists) (keeps : IsTable table) (of : IsTimetableOf n table) where
  pub by_plain_arc : (v place t u : ℕ) (old new : List Step) → place < arcs_at n table v → arrival table t (plain_arc n table v place) ≡ Some u
      → new ≡ old ++ with_wait table t (step_of table t (plain_arc n table v place))
      → GoesOn n v t (graph_arc n table v (plain_arc n table v place)).to u (option_to_list (graph_arc n table v (plain_arc n table v place)).letter) old new
  by_plain_arc v place t u old new within arrives list =
      let a = plain_arc n table v place in
      let out = out_of n network table keeps v place within in
      let to = (graph_arc n table v a).to in
      let letter = (graph_arc n table v a).letter in
      let step = step_at n network table keeps of v t u a out arrives in
      let one = behind n network table keeps of v t step.0 to u letter [] to u [] (leaves n network table keeps of v t step.0 to u letter step.2) (refl, refl, refl) in
      record {
        more = with_wait table t (step_of table t a);
        letters = option_to_list letter ++ [];
        list = list;
        on_time = subst (λ (o : Option Step). AreOnTime n v t (with_wait table t o) to u (option_to_list letter ++ [])) (sym step.1)
            (subst (λ (ss : List Step). AreOnTime n v t ss to u (option_to_list letter ++ [])) (append-nil (with_wait table t (Some step.0))) one);
        once = λ word. ap (λ ls. collapse (ls ++ word)) (append-nil (option_to_list letter));
        soon = arc_soon n network table keeps of v t a out;
      }

-- ---- an arc of the phase graph as steps

module _ (n : NetworkLists) (network : IsNetwork n) (table : TableLists) (h : HierarchyLists) (marks : List Bool) (p i t : ℕ) (old new : List Step) where
  abbrev arc_there : PhaseArc
  arc_there = phase_arc n h (node_of p) (is_down p) i

  -- along an entry
  pub by_entry : (a : PhaseArc) (down : Bool) (place : ℕ) → a ≡ arc_there → arc_of n table h (node_of p) (is_down p) a ≡ record { to = phase_node (entry_at h.entries place).to down; letter = letter_at n.roads (node_of p) }
      → ((u : ℕ) → arrives_along n table h marks (node_of p) t a ≡ Some u → t + (entry_at h.entries place).weight ≡ u) → (entry_at h.entries place).from ≡ node_of p → (entry_at h.entries place).from ≢ (entry_at h.entries place).to
      → GoesOnByRoads n (entry_at h.entries place).from (entry_at h.entries place).to (entry_at h.entries place).weight old new → GoesOnByArc n table h marks p i t old new
  by_entry a down place at leads takes from differ roads u arrives =
      let e = entry_at h.entries place in
      let is : arc_of n table h (node_of p) (is_down p) arc_there ≡ record { to = phase_node e.to down; letter = letter_at n.roads (node_of p) } = sym (ap (arc_of n table h (node_of p) (is_down p)) at) ∙ leads in
      let ends : u ≡ t + e.weight = sym (takes u (ap (arrives_along n table h marks (node_of p) t) at ∙ arrives)) in
      let to : e.to ≡ node_of (arc_of n table h (node_of p) (is_down p) arc_there).to = sym (half e.to down) ∙ sym (ap (λ (x : GraphArc). node_of x.to) is) in
      let letter = ap (λ (x : GraphArc). x.letter) is in
      let on = by_roads n network (node_of p) e.to e.weight t u (arc_of n table h (node_of p) (is_down p) arc_there).letter old new (subst (λ x. GoesOnByRoads n x e.to e.weight old new) from roads)
      (λ same. differ (from ∙ same)) letter ends in
      subst (λ x. GoesOn n (node_of p) t x u (option_to_list (arc_of n table h (node_of p) (is_down p) arc_there).letter) old new) to on

  -- along an arc of the plain graph
  pub by_other : IsTable table → IsTimetableOf n table → (place : ℕ) → Other place ≡ arc_there → place < arcs_at n table (node_of p)
      → new ≡ old ++ with_wait table t (step_of table t (plain_arc n table (node_of p) place)) → GoesOnByArc n table h marks p i t old new
  by_other keeps of place at within list u arrives =
      let v = node_of p in
      let arc = graph_arc n table v (plain_arc n table v place) in
      let is : arc_of n table h v (is_down p) arc_there ≡ record { to = phase_node arc.to (is_down p); letter = arc.letter } = sym (ap (arc_of n table h v (is_down p)) at) in
      let on = by_plain_arc n network table keeps of v place t u old new within (ap (arrives_along n table h marks v t) at ∙ arrives) list in
      let to : arc.to ≡ node_of (arc_of n table h v (is_down p) arc_there).to = sym (half arc.to (is_down p)) ∙ sym (ap (λ (x : GraphArc). node_of x.to) is) in
      let letter : arc.letter ≡ (arc_of n table h v (is_down p) arc_there).letter = sym (ap (λ (x : GraphArc). x.letter) is) in
      subst (λ x. GoesOn n v t x u (option_to_list (arc_of n table h v (is_down p) arc_there).letter) old new) to (subst (λ o. GoesOn n v t arc.to u (option_to_list o) old new) letter on)

-- ---- one after the other

alike : (told x y : List ℕ) → collapse x ≡ collapse y → collapse (told ++ x) ≡ collapse (told ++ y)
alike [] x y same = same
alike (c ∷ told) x y same = same_letter c (told ++ x) (told ++ y) (alike told x y same)

on_time_then : (n : NetworkLists) (first second : List Step) (v t m s w u : ℕ) (a b : List ℕ) → AreOnTime n v t first m s a → AreOnTime n m s second w u b → AreOnTime n v t (first ++ second) w u (a ++ b)
on_time_then n [] second v t m s w u a b (em, es, ea) next =
    subst (λ ls. AreOnTime n v t second w u (ls ++ b)) (sym ea) (subst (λ x. AreOnTime n x t second w u b) em (subst (λ x. AreOnTime n m x second w u b) es next))
on_time_then n (step ∷ first) second v t m s w u a b (v1, t1, letter, more, is, departs, walk, ea) next =
    (v1, t1, letter, more ++ b, is, departs, on_time_then n first second v1 t1 m s w u more b walk next, ap (λ ls. ls ++ b) ea ∙ append_assoc (option_to_list letter) more b)

goes_further : (n : NetworkLists) (v t m s w u : ℕ) (a b : List ℕ) (old now new : List Step) → GoesOn n v t m s a old now → GoesOn n m s w u b now new → GoesOn n v t w u (a ++ b) old new
goes_further n v t m s w u a b old now new first second = record {
  more = first.more ++ second.more;
  letters = first.letters ++ second.letters;
  list = second.list ∙ ap (λ (ss : List Step). ss ++ second.more) first.list ∙ append_assoc old first.more second.more;
  on_time = on_time_then n first.more second.more v t m s w u first.letters second.letters first.on_time second.on_time;
  once = λ word. ap collapse (append_assoc first.letters second.letters word) ∙ first.once (second.letters ++ word) ∙ alike a (second.letters ++ word) (b ++ word) (second.once word)
      ∙ ap collapse (sym (append_assoc a b word));
  soon = All-append IsSoon first.more second.more first.soon second.soon;
}

-- how far the hops are unpacked
pub record IsUnderWay (n : NetworkLists) (g : GraphMeaning) (start at : ℕ) (hops : List Hop) (k p time : ℕ) (steps : List Step) : Type 0 where
  pub done : List ℕ
  pub far : GoesOn n (node_of start) at (node_of p) time done [] steps
  pub rest : AreHopsIn g p time (drop k hops)
  pub told : letters_in g start hops ≡ done ++ letters_in g p (drop k hops)
  pub ends : node_after p (drop k hops) ≡ node_after start hops
  pub arrives : arrival_after time (drop k hops) ≡ arrival_after at hops

module _ (n : NetworkLists) (g : GraphMeaning) (start at : ℕ) (hops : List Hop) (k p time : ℕ) (steps : List Step) (way : IsUnderWay n g start at hops k p time steps) where
  -- the next hop is by an arc
  pub hop_taken : (hop : Hop) → drop k hops ≡ hop ∷ drop (k + 1) hops → HasArc g p hop.arc × (g.arrive p hop.arc time ≡ Some hop.at) × (hop.to ≡ (g.arc_at p hop.arc).to)
  hop_taken hop is = let rest = subst (AreHopsIn g p time) is way.rest in (rest.0, rest.1, rest.2)

  pub further : (hop : Hop) (steps2 : List Step) → drop k hops ≡ hop ∷ drop (k + 1) hops
      → GoesOn n (node_of p) time (node_of (g.arc_at p hop.arc).to) hop.at (option_to_list (g.arc_at p hop.arc).letter) steps steps2
      → IsUnderWay n g start at hops (k + 1) hop.to hop.at steps2
  further hop steps2 is on =
      let rest = subst (AreHopsIn g p time) is way.rest in
      let letter = option_to_list (g.arc_at p hop.arc).letter in
      record {
        done = way.done ++ letter;
        far = goes_further n (node_of start) at (node_of p) time (node_of hop.to) hop.at way.done letter [] steps steps2 way.far
            (subst (λ x. GoesOn n (node_of p) time (node_of x) hop.at letter steps steps2) (sym rest.2) on);
        rest = rest.3;
        told = way.told ∙ ap (λ hs. way.done ++ letters_in g p hs) is ∙ sym (append_assoc way.done letter (letters_in g hop.to (drop (k + 1) hops)));
        ends = ap (node_after p) (sym is) ∙ way.ends;
        arrives = ap (arrival_after time) (sym is) ∙ way.arrives;
      }

-- the steps of all hops are a journey
pub is_unpacked : (n : NetworkLists) → IsNetwork n → (table : TableLists) → IsTable table → IsTimetableOf n table → (v t w u : ℕ) (word : List ℕ) (steps : List Step) → GoesOn n v t w u word [] steps
    → IsUnpacked n v t steps w u word
is_unpacked n network table keeps of v t w u word steps on =
    let boarded = subst (λ (ss : List Step). AreOnTime n v t ss w u on.letters) (sym on.list) on.on_time in
    record {
      letters = on.letters;
      real = are_real n network table keeps of v t steps w u on.letters boarded;
      boarded = boarded;
      same_word = ap collapse (sym (append-nil on.letters)) ∙ on.once [] ∙ ap collapse (append-nil word);
    }

-- those of a walk through the graph of a network too
pub plain_unpacked : (n : NetworkLists) (table : TableLists) (v t w u : ℕ) (steps : List Step) (hops : List Hop) (x : ℕ) → AreSteps n v t steps w u (letters_of n table x hops)
    → AreOnTime n v t steps w u (letters_of n table x hops) → IsUnpacked n v t steps w u (letters_in (plain_meaning n table) x hops)
plain_unpacked n table v t w u steps hops x real boarded = record { letters = letters_of n table x hops; real = real; boarded = boarded; same_word = ap collapse (plain_letters n table hops x) }
