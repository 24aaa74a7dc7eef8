-- The journey under a walk through the phase graph.
use Rattle.std.specs.Prelude.{◌≡◌, ℕ, ◌+◌, Bool, List, [], ◌∷◌, ◌++◌, map, Some, All, Contains, option_to_list}
use Rattle.search_laws.specs.{collapse, GraphMeaning}
use Rattle.timetable_arcs.specs.{TableLists}
use Rattle.mode_network.specs.{Step, Leads, AreSteps, declared.steps.Step.TheVariants.Road, NetworkLists.NetworkLists}
use Rattle.hierarchy.specs.{Entry, Hop as RoadHop, AreHops, total, HierarchyLists}
use Rattle.product_search.specs.{Hop}
use Rattle.phase_graph.specs.{phase_meaning, node_of}
use Rattle.journey.specs.{AreOnTime}
use Rattle.unpack.specs.Unpacking.{IsSoon}

-- the letters of hops through a graph, from v on
abbrev pub letters_in : GraphMeaning → ℕ → List Hop → List ℕ
letters_in g v [] = []
letters_in g v (hop ∷ hops) = option_to_list (g.arc_at v hop.arc).letter ++ letters_in g hop.to hops

-- the steps lead from v at t to w at u, each ride is boarded when it departs, and their word collapses to the same
pub record IsUnpacked (n : NetworkLists) (v t : ℕ) (steps : List Step) (w u : ℕ) (word : List ℕ) : Type 0 where
  pub letters : List ℕ
  pub real : AreSteps n v t steps w u letters
  pub boarded : AreOnTime n v t steps w u letters
  pub same_word : collapse letters ≡ collapse word

-- the list of steps goes on from v at t to w at u: each ride is boarded when it departs, each wait ends soon, and before any word they tell what `told` tells
pub record GoesOn (n : NetworkLists) (v t w u : ℕ) (told : List ℕ) (old new : List Step) : Type 0 where
  pub more : List Step
  pub letters : List ℕ
  pub list : new ≡ old ++ more
  pub on_time : AreOnTime n v t more w u letters
  pub once : (word : List ℕ) → collapse (letters ++ word) ≡ collapse (told ++ word)
  pub soon : All IsSoon more

-- where the arc at this place of p arrives at some time, the list goes on by it
abbrev pub GoesOnByArc : NetworkLists → TableLists → HierarchyLists → List Bool → ℕ → ℕ → ℕ → List Step → List Step → Type 0
GoesOnByArc n table h marks p i t old new =
    (u : ℕ) → (phase_meaning n table h marks).arrive p i t ≡ Some u
    → GoesOn n (node_of p) t (node_of ((phase_meaning n table h marks).arc_at p i).to) u (option_to_list ((phase_meaning n table h marks).arc_at p i).letter) old new

-- ---- under an entry

abbrev pub road_step : RoadHop → Step
road_step hop = Road hop.to

-- the list goes on by road arcs that lead from v to w and take so long together
pub record GoesOnByRoads (n : NetworkLists) (v w ms : ℕ) (old new : List Step) : Type 0 where
  pub roads : List RoadHop
  pub lead : AreHops (Leads n.arcs) v roads w
  pub weigh : total roads ≡ ms
  pub list : new ≡ old ++ map road_step roads

-- entries that wait to be unpacked, the next one at the end: they lead from u to v, the last ones first
abbrev pub AreStillPacked : List Entry → ℕ → List Entry → ℕ → Type 0
AreStillPacked entries u [] v = u ≡ v
AreStillPacked entries u (e ∷ above) v = Contains entries e × (e.to ≡ v) × AreStillPacked entries u above e.from

-- what they weigh together
abbrev pub weight_of : List Entry → ℕ
weight_of [] = 0
weight_of (e ∷ above) = e.weight + weight_of above

-- the two parts of an entry are put on the stack
pub record ArePartsOf (entries : List Entry) (e : Entry) (middle : ℕ) (old new : List Entry) : Type 0 where
  pub first : Entry
  pub second : Entry
  pub first_listed : Contains entries first
  pub second_listed : Contains entries second
  pub first_from : first.from ≡ e.from
  pub first_to : first.to ≡ middle
  pub second_from : second.from ≡ middle
  pub second_to : second.to ≡ e.to
  pub weigh : first.weight + second.weight ≡ e.weight
  pub list : new ≡ (old ++ second ∷ []) ++ first ∷ []
