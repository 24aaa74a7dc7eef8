-- The laws of the graph in use, without a hierarchy and with one.
use Rattle.plan_base.proofs.Common.{◌≡◌, ℕ, zero, suc, ◌<◌, ◌⊎◌, inl, inr, get_or, Bool, false, true, cond, List, [], ◌∷◌, map, length, Option, Some, None, refl, sym, ◌∙◌, ap, subst, arith, Contains, flat_map, lt-ltb, length-map, get_or_default, Contains-append_left, Contains-append_right, Contains-append_cases}
use Rattle.std.proofs.Math.ListN.{get_or-map}
use Rattle.search_laws.specs.{collapse, GraphMeaning, HasArc, IsLawfulGraph}
use Rattle.mode_network.specs.{NetworkLists.NetworkLists, IsNetwork, Step, AreSteps}
use Rattle.hierarchy.specs.{HierarchyLists, is_contracted, IsContracted}
use Rattle.plain_graph.specs.{plain_meaning, plain_lawful}
use Rattle.plain_graph.proofs.Same.{journeys_are_walks, arcs_are_steps, steps_are_arcs}
use Rattle.phase_graph.specs.{phase_node, IsArcBy, IsPhaseGraph, phase_meaning, node_of, is_down, IsInUse, IsSoundIfGiven, IsPlain, starts_in, target_numbers, ends_in, node_under, HasWalkInUse, JourneysHaveWalksInUse, GraphsInUseAreLawful, Covers, GraphsInUseAreAlike}
use Rattle.phase_graph.proofs.{GraphLemmas.lawful, GraphLemmas.whole, GraphLemmas.half, GraphMoves.is_phase_graph, WalkedLemmas.journeys_have_walks}

-- ---- starts and ends

mapped : (f : ℕ → ℕ) (list : List ℕ) (v : ℕ) → Contains list v → Contains (map f list) (f v)
mapped f list v (k, lt, is) = (k, omega (arith, lt, length-map list f), get_or-map f list k v ∙ ap f is)

-- a number of a target is among those of all
listed : (h : HierarchyLists) (targets : List ℕ) (v p : ℕ) → Contains targets v → Contains (target_numbers h v) p → Contains (flat_map (target_numbers h) targets) p
listed h [] v p (k, lt, is) there = absurd (omega (arith, lt))
listed h (x ∷ targets) v p (zero, lt, is) there = Contains-append_left (target_numbers h x) (flat_map (target_numbers h) targets) p (subst (λ y. Contains (target_numbers h y) p) (sym is) there)
listed h (x ∷ targets) v p (suc k, lt, is) there = Contains-append_right (target_numbers h x) (flat_map (target_numbers h) targets) p (listed h targets v p (k, omega (arith, lt), is) there)

numbered : (h : HierarchyLists) (v : ℕ) (down : Bool) → (down ≡ true → IsContracted h.order v) → Contains (target_numbers h v) (phase_node v down)
numbered h v down low = by_test (is_contracted h.order v) refl down low
  where
    by_test : (b : Bool) → is_contracted h.order v ≡ b → (down : Bool) → (down ≡ true → IsContracted h.order v)
        → Contains (cond b (phase_node v false ∷ phase_node v true ∷ []) (phase_node v false ∷ [])) (phase_node v down)
    by_test true e false low = (0, omega arith, refl)
    by_test true e true low = (1, omega arith, refl)
    by_test false e false low = (0, omega arith, refl)
    by_test false e true low = absurd (let is = lt-ltb _ _ (low refl) in let clash = sym is ∙ e in cc)

unmapped : (list : List ℕ) (p : ℕ) → Contains (map (λ v. phase_node v false) list) p → Contains list (node_of p)
unmapped list p (k, lt, is) =
    let inside : k < length list = omega (arith, lt, length-map list (λ v. phase_node v false)) in
    let at = get_or-map (λ v. phase_node v false) list k 0 in
    let v = get_or list k 0 in
    let same : v ≡ node_of p = sym (half v false) ∙ ap node_of (sym at ∙ get_or_default (map (λ v. phase_node v false) list) k (phase_node 0 false) p lt ∙ is) in
    (k, inside, get_or_default list k (node_of p) 0 inside ∙ same)

unnumbered : (h : HierarchyLists) (v p : ℕ) → Contains (target_numbers h v) p → node_of p ≡ v
unnumbered h v p there = by_test (is_contracted h.order v) there
  where
    by_test : (b : Bool) → Contains (cond b (phase_node v false ∷ phase_node v true ∷ []) (phase_node v false ∷ [])) p → node_of p ≡ v
    by_test true (zero, lt, is) = ap node_of (sym is) ∙ half v false
    by_test true (suc zero, lt, is) = ap node_of (sym is) ∙ half v true
    by_test true (suc (suc k), lt, is) = absurd (omega (arith, lt))
    by_test false (zero, lt, is) = ap node_of (sym is) ∙ half v false
    by_test false (suc k, lt, is) = absurd (omega (arith, lt))

unlisted : (h : HierarchyLists) (targets : List ℕ) (p : ℕ) → Contains (flat_map (target_numbers h) targets) p → Contains targets (node_of p)
unlisted h [] p (k, lt, is) = absurd (omega (arith, lt))
unlisted h (x ∷ targets) p there = by_part (Contains-append_cases (target_numbers h x) (flat_map (target_numbers h) targets) p there) (λ later. unlisted h targets p later)
  where
    by_part : Contains (target_numbers h x) p ⊎ Contains (flat_map (target_numbers h) targets) p → (Contains (flat_map (target_numbers h) targets) p → Contains targets (node_of p)) → Contains (x ∷ targets) (node_of p)
    by_part (inl here) below = (0, omega arith, sym (unnumbered h x p here))
    by_part (inr later) below = Contains-append_right (x ∷ []) targets (node_of p) (below later)

-- a number of a start is that of an origin, and one of an end that of a target
pub starts_under : (o : Option HierarchyLists) (origins : List ℕ) (p : ℕ) → Contains (starts_in o origins) p → Contains origins (node_under o p)
starts_under None origins p there = there
starts_under (Some h) origins p there = unmapped origins p there

pub ends_under : (o : Option HierarchyLists) (targets : List ℕ) (p : ℕ) → Contains (ends_in o targets) p → Contains targets (node_under o p)
ends_under None targets p there = there
ends_under (Some h) targets p there = unlisted h targets p there

-- ---- journeys are walks

-- a journey from an origin to one of some among the targets has a walk to their numbers
pub walk_to_some : (n : NetworkLists) → IsNetwork n → (o : Option HierarchyLists) → IsSoundIfGiven n o → (origins targets ends : List ℕ) → ((v : ℕ) → Contains ends v → Contains targets v)
    → (g : GraphMeaning) → IsInUse n o targets g → (steps : List Step) (v t w u : ℕ) (letters : List ℕ) → AreSteps n v t steps w u letters → Contains origins v → Contains ends w
    → HasWalkInUse g (starts_in o origins) (ends_in o ends) t u letters
walk_to_some n network None sound origins targets ends inside g in_use steps v t w u letters real from to =
    let walk = journeys_are_walks n network in_use.table in_use.keeps in_use.of v t steps w u letters real in
    subst (λ (x : GraphMeaning). HasWalkInUse x origins ends t u letters) (sym in_use.is) (record {
      start = v;
      end = w;
      at = u;
      steps = walk.walk;
      starts_there = from;
      ends_there = to;
      walk = walk.leads;
      no_later = omega arith;
      same_word = ap collapse walk.word;
    })
walk_to_some n network (Some h) (rules, sound) origins targets ends inside g in_use steps v t w u letters real from to =
    let is = is_phase_graph n h targets network rules sound in_use.table in_use.keeps in_use.of in_use.marks in_use.are in
    let p = journeys_have_walks n h targets network sound (phase_meaning n in_use.table h in_use.marks) is steps v t w u letters real (inside w to) in
    let walk = p.walk in
    subst (λ (x : GraphMeaning). HasWalkInUse x (starts_in (Some h) origins) (ends_in (Some h) ends) t u letters) (sym in_use.is) (record {
      start = phase_node v false;
      end = phase_node w p.down;
      at = p.at;
      steps = walk.steps;
      starts_there = mapped (λ x. phase_node x false) origins v from;
      ends_there = listed h ends w (phase_node w p.down) to (numbered h w p.down p.at_target);
      walk = walk.walk;
      no_later = p.no_later;
      same_word = ap collapse walk.word_is ∙ p.same_word;
    })

pub journeys_have_walks_in_use : JourneysHaveWalksInUse
journeys_have_walks_in_use n network o sound origins targets g in_use = walk_to_some n network o sound origins targets targets (λ v there. there) g in_use

-- ---- laws

pub graphs_in_use_are_lawful : GraphsInUseAreLawful
graphs_in_use_are_lawful n network None sound targets g in_use = subst IsLawfulGraph (sym in_use.is) (plain_lawful n network in_use.table in_use.keeps in_use.of)
graphs_in_use_are_lawful n network (Some h) (rules, sound) targets g in_use =
    subst IsLawfulGraph (sym in_use.is) (lawful n h network rules sound in_use.table in_use.keeps in_use.of in_use.marks)

-- ---- one graph

-- an arc of a network's graph is a step of the network, and so an arc of its graph with another timetable
plain_covers : (n : NetworkLists) → IsNetwork n → (g h : GraphMeaning) → IsPlain n g → IsPlain n h → Covers g h
plain_covers n network g h one other =
    subst (λ (x : GraphMeaning). Covers x h) (sym one.is) (subst (λ (y : GraphMeaning). Covers (plain_meaning n one.table) y) (sym other.is) (λ p t i u has arrives. (
    let step = arcs_are_steps n network one.table one.keeps one.of p i t u has arrives in
    let way = steps_are_arcs n network other.table other.keeps other.of p t t ((plain_meaning n one.table).arc_at p i).to u step.0 ((plain_meaning n one.table).arc_at p i).letter (omega arith) step.1 step.2 in
    (way.place, way.at, record { has = way.has; to = way.to; tells = way.same; arrives = way.arrives; in_time = way.soon })
    )))

-- an arc of a phase graph is a move, and so an arc of any other
phases_cover : (n : NetworkLists) (h : HierarchyLists) (targets : List ℕ) (g k : GraphMeaning) → IsPhaseGraph n h targets g → IsPhaseGraph n h targets k → Covers g k
phases_cover n h targets g k one other p t i u = subst (λ q. HasArc g q i → g.arrive q i t ≡ Some u → (j : ℕ) × (a : ℕ) × IsArcBy k q t (g.arc_at q i).to u (g.arc_at q i).letter j a) (whole p)
    (λ has arrives.
    let v = node_of p in
    let down = is_down p in
    let m = one.move_of v down t i u has arrives in
    let way = other.arc_of v down t m.move m.to m.down2 u (g.arc_at (phase_node v down) i).letter m.is m.moves in
    subst (λ q. (j : ℕ) × (a : ℕ) × IsArcBy k (phase_node v down) t q u (g.arc_at (phase_node v down) i).letter j a) (sym m.leads) way)

pub graphs_in_use_are_alike : GraphsInUseAreAlike
graphs_in_use_are_alike n network None sound targets one other first second = record {
  nodes = ap (λ (x : GraphMeaning). x.nodes) first.is ∙ sym (ap (λ (x : GraphMeaning). x.nodes) second.is);
  forth = plain_covers n network one other first second;
  back = plain_covers n network other one second first;
}
graphs_in_use_are_alike n network (Some h) (rules, sound) targets one other first second =
    let a = subst (IsPhaseGraph n h targets) (sym first.is) (is_phase_graph n h targets network rules sound first.table first.keeps first.of first.marks first.are) in
    let b = subst (IsPhaseGraph n h targets) (sym second.is) (is_phase_graph n h targets network rules sound second.table second.keeps second.of second.marks second.are) in
    record {
      nodes = ap (λ (x : GraphMeaning). x.nodes) first.is ∙ sym (ap (λ (x : GraphMeaning). x.nodes) second.is);
      forth = phases_cover n h targets one other a b;
      back = phases_cover n h targets other one b a;
    }
