-- The journey of a walk through the graph of a network.
use Rattle.std.specs.Prelude.{◌≡◌, ℕ, ◌<◌, ◌^◌, nat_lt, List, [], ◌∷◌, ◌++◌, Option, Some, None, option_to_list, if◌then◌else◌}
use Rattle.search_laws.specs.{GraphMeaning, HasArc}
use Rattle.timetable_arcs.specs.{TableLists, departs}
use Rattle.mode_network.specs.{Step, Wait, Link, Stand, Ride, declared.steps.Step.TheVariants.Road, NetworkLists.NetworkLists}
use Rattle.product_search.specs.{Hop}
use Rattle.plain_graph.specs.{plain_meaning, plain_arc, graph_arc, step_of}

-- the hops are a walk of a graph from v at t, each taken when the one before it arrives
abbrev pub AreHopsIn : GraphMeaning → ℕ → ℕ → List Hop → Type 0
AreHopsIn g v t [] = Unit {0}
AreHopsIn g v t (hop ∷ hops) = HasArc g v hop.arc × (g.arrive v hop.arc t ≡ Some hop.at) × (hop.to ≡ (g.arc_at v hop.arc).to) × AreHopsIn g hop.to hop.at hops

-- so of the graph of a network
abbrev pub ArePlainHops : NetworkLists → TableLists → ℕ → ℕ → List Hop → Type 0
ArePlainHops n table v t hops = AreHopsIn (plain_meaning n table) v t hops

-- when a step leaves that is taken at t: a ride when its run departs, and any other step at once
abbrev pub leaves_at : TableLists → ℕ → Step → ℕ
leaves_at table t (Wait until) = t
leaves_at table t (Road to) = t
leaves_at table t (Link to) = t
leaves_at table t Stand = t
leaves_at table t (Ride trip day board alight) = departs table (record { trip = trip; day = day }) board

-- a step, and before it a wait until it leaves where that is later than t
abbrev pub with_wait : TableLists → ℕ → Option Step → List Step
with_wait table t None = []
with_wait table t (Some step) = if nat_lt t (leaves_at table t step) then Wait (leaves_at table t step) ∷ step ∷ [] else step ∷ []

-- the steps of each hop, from v at t
abbrev pub steps_of : NetworkLists → TableLists → ℕ → ℕ → List Hop → List Step
steps_of n table v t [] = []
steps_of n table v t (hop ∷ hops) = with_wait table t (step_of table t (plain_arc n table v hop.arc)) ++ steps_of n table hop.to hop.at hops

-- where and when the hops end, and their letters
abbrev pub node_after : ℕ → List Hop → ℕ
node_after v [] = v
node_after v (hop ∷ hops) = node_after hop.to hops

abbrev pub arrival_after : ℕ → List Hop → ℕ
arrival_after t [] = t
arrival_after t (hop ∷ hops) = arrival_after hop.at hops

abbrev pub letters_of : NetworkLists → TableLists → ℕ → List Hop → List ℕ
letters_of n table v [] = []
letters_of n table v (hop ∷ hops) = option_to_list (graph_arc n table v (plain_arc n table v hop.arc)).letter ++ letters_of n table hop.to hops

-- each hop is by an arc of the node before it
abbrev pub HaveArcs : NetworkLists → TableLists → ℕ → List Hop → Type 0
HaveArcs n table v [] = Unit {0}
HaveArcs n table v (hop ∷ hops) = HasArc (plain_meaning n table) v hop.arc × HaveArcs n table hop.to hops

-- a wait ends when runs still run, which is below 2 ^ 41
abbrev pub IsSoon : Step → Type 0
IsSoon (Wait until) = until < 2 ^ 41
IsSoon (Road to) = Unit {0}
IsSoon (Link to) = Unit {0}
IsSoon Stand = Unit {0}
IsSoon (Ride trip day board alight) = Unit {0}
