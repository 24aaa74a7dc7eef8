-- The entries that lead up from a node, or along the core.
use Rattle.std.specs.Prelude.{◌≡◌, ℕ, ◌*◌, ◌^◌, ◌<◌, ◌≤◌, ◌==◌, ◌||◌, ◌&&◌, nat_lt, Bool, true, if◌then◌else◌, List, [], length, map, All, Contains, slice_range, slice_index_or}
use Rattle.std.specs.List.{list_all}
use Rattle.std.specs.List.Sorted.{IsNonDecreasingBy}
use Rattle.search_laws.specs.{Leg}
use Rattle.hierarchy.specs.{declared.entry.Entry.Entry, Lists.HierarchyLists, Lists.height_in, Lists.is_above, Lookups.entry_at, Lookups.places_of}
use Rattle.mode_network.specs.{range_of}

abbrev pub is_core : List ℕ → ℕ → Bool
is_core order v = height_in order v == length order

-- v is above u, or both are core
abbrev pub leads_up : List ℕ → ℕ → ℕ → Bool
leads_up order u v = is_above order v u || (is_core order u && is_core order v)

abbrev pub is_rise : List ℕ → Entry → Bool
is_rise order e = leads_up order e.from e.to

-- an entry that leads up or along the core, with its place among the entries
pub record Rise : Type 0 where
  pub from : ℕ
  pub to : ℕ
  pub place : ℕ
  pub weight : ℕ

abbrev pub rise_from : Rise → ℕ
rise_from rise = rise.from

abbrev pub place_of : Rise → ℕ
place_of rise = rise.place

-- an entry at a place, as a rise
abbrev pub rise_at : ℕ → Entry → Rise
rise_at place e = record { from = e.from; to = e.to; place = place; weight = e.weight }

-- those at these places
abbrev pub rises_at : List Entry → List ℕ → List Rise
rises_at entries places = map (λ place. rise_at place (entry_at entries place)) places

-- all of them, in order
abbrev pub rises_in : List ℕ → List Entry → List Rise
rises_in order entries = rises_at entries (places_of (is_rise order) entries)

abbrev pub all_rises : HierarchyLists → List Rise
all_rises h = rises_in h.order h.entries

-- those from u: the entries ascend by the node that they leave, so they stand side by side
abbrev pub rises_of : HierarchyLists → ℕ → List Rise
rises_of h u = slice_range (all_rises h) (range_of rise_from (all_rises h) u).0 (range_of rise_from (all_rises h) u).1

-- their places among the entries
abbrev pub rise_places_from : HierarchyLists → ℕ → List ℕ
rise_places_from h u = map place_of (rises_of h u)

-- the entry begins at u, and leads up or along the core
pub record RisesFrom (order : List ℕ) (u : ℕ) (e : Entry) : Type 0 where
  pub begins : e.from ≡ u
  pub leads : is_rise order e ≡ true

-- ---- rises as legs

-- a node has two numbers in the graph that is searched: this one before the descent, and in it the next
abbrev pub number_before : ℕ → ℕ
number_before v = 2 * v

abbrev pub leg_of : Rise → Leg
leg_of rise = record { to = number_before rise.to; ms = rise.weight }

-- a leg has no room for a greater weight
abbrev pub is_short : Rise → Bool
is_short rise = nat_lt rise.weight (2 ^ 32)

abbrev pub has_legs : HierarchyLists → Bool
has_legs h = list_all is_short (all_rises h)

-- those of rises, if all of them are short
abbrev pub legs_of_rises : List Rise → List Leg
legs_of_rises rises = if list_all is_short rises then map leg_of rises else []

abbrev pub legs_from : HierarchyLists → ℕ → List Leg
legs_from h u = if has_legs h then map leg_of (rises_of h u) else []

-- ---- what rises are

-- a rise is an entry that leads up or along the core, and begins and ends where it says, with its weight
pub record IsRiseOf (order : List ℕ) (entries : List Entry) (rise : Rise) : Type 0 where
  pub within : rise.place < length entries
  pub begins : (d : Entry) → (slice_index_or entries rise.place d).from ≡ rise.from
  pub ends : (d : Entry) → (slice_index_or entries rise.place d).to ≡ rise.to
  pub weighs : (d : Entry) → (slice_index_or entries rise.place d).weight ≡ rise.weight
  pub leads : (d : Entry) → is_rise order (slice_index_or entries rise.place d) ≡ true

-- all rises among the entries, in order
pub record AreRises (order : List ℕ) (entries : List Entry) (rises : List Rise) : Type 0 where
  pub each : All (IsRiseOf order entries) rises
  pub all : (k : ℕ) (d : Entry) → k < length entries → is_rise order (slice_index_or entries k d) ≡ true → Contains rises (rise_at k (slice_index_or entries k d))
  pub rising : IsNonDecreasingBy rise_from rises

-- the rises from u are these
pub record AreRisesFrom (h : HierarchyLists) (u : ℕ) (rises : List Rise) : Type 0 where
  pub each : All (IsRiseOf h.order h.entries) rises
  pub from_u : All (λ rise. rise.from ≡ u) rises
  pub all : (k : ℕ) (d : Entry) → k < length h.entries → (slice_index_or h.entries k d).from ≡ u → is_rise h.order (slice_index_or h.entries k d) ≡ true
      → Contains rises (rise_at k (slice_index_or h.entries k d))

-- the rises at the places from low to high of a list are those from u
pub record IsRiseRange (h : HierarchyLists) (u : ℕ) (rises : List Rise) (low high : ℕ) : Type 0 where
  pub in_order : low ≤ high
  pub within : high ≤ length rises
  pub are : AreRisesFrom h u (slice_range rises low high)
