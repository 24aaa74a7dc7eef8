-- The arcs of a node that can be taken at a time, by a letter of a set or by none.
use Rattle.std.specs.Prelude.{◌≡◌, ℕ, ◌+◌, ◌-◌, ◌^◌, ◌==◌, Bool, true, not, List, [], ◌∷◌, Option, Some, None, if◌then◌else◌, flat_map, bit_and}
use Rattle.std.specs.List.{range_with_len}
use Rattle.search_laws.specs.{GraphLaws.GraphMeaning, GraphLaws.HasArc, declared.graph.GraphArc.GraphArc}
pub use Rattle.search_laws.specs.{declared.graph.Leg.Leg, declared.graph.Way.Way}

-- the letter is in the set, of which it is a bit, or there is none
abbrev pub is_open : ℕ → Option ℕ → Bool
is_open letters None = true
is_open letters (Some c) = not (bit_and letters (2 ^ c) == 0)

-- the set, or no letter at all where this one is outside a second set
abbrev pub moving_letters : ℕ → ℕ → Option ℕ → ℕ
moving_letters letters leaving letter = if is_open leaving letter then letters else 0

-- the arc at this place, if it arrives
abbrev pub way_if : ℕ → GraphArc → Option ℕ → List Way
way_if i arc None = []
way_if i arc (Some at) = record { place = i; arc = arc; at = at } ∷ []

-- the same, if its letter is in the set or it has none
abbrev pub open_way : ℕ → ℕ → GraphArc → Option ℕ → List Way
open_way letters i arc at = if is_open letters arc.letter then way_if i arc at else []

abbrev pub way_at : GraphMeaning → ℕ → ℕ → ℕ → ℕ → List Way
way_at g v t letters i = open_way letters i (g.arc_at v i) (g.arrive v i t)

-- those of so many places, from one on
abbrev pub ways_from : GraphMeaning → ℕ → ℕ → ℕ → ℕ → ℕ → List Way
ways_from g v t letters i n = flat_map (way_at g v t letters) (range_with_len i n)

-- those of all places of v, in order
abbrev pub ways_of : GraphMeaning → ℕ → ℕ → ℕ → List Way
ways_of g v t letters = ways_from g v t letters 0 (g.arcs v)

-- those of the places of v from one on, in order
abbrev pub ways_past : GraphMeaning → ℕ → ℕ → ℕ → ℕ → List Way
ways_past g v t letters i = ways_from g v t letters i (g.arcs v - i)

-- the way is the arc at its place of v, and arrives then if it is taken at t
pub record IsWay (g : GraphMeaning) (v t : ℕ) (way : Way) : Type 0 where
  pub has : HasArc g v way.place
  pub is : way.arc ≡ g.arc_at v way.place
  pub arrives : g.arrive v way.place t ≡ Some way.at

-- the leg tells where the arc at place i of v leads, and how long it takes, whenever it is taken
pub record IsLeg (g : GraphMeaning) (v i : ℕ) (leg : Leg) : Type 0 where
  pub to : leg.to ≡ (g.arc_at v i).to
  pub time : (t : ℕ) → g.arrive v i t ≡ Some (t + leg.ms)
