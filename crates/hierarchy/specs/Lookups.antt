-- What the lists of a hierarchy are asked for.
use Rattle.std.specs.Prelude.{◌≡◌, ℕ, ◌<◌, ◌≤◌, Bool, ◌&&◌, ◌==◌, List, length, map, Some, None, All, AllPairs, Contains, filter, slice_get, slice_index_or}
use Rattle.std.specs.List.{range_with_len}
use Rattle.hierarchy.specs.{declared.entry.Entry.Entry, Lists.HierarchyLists, Lists.WitnessLists, Lists.IsAbove, Lists.first_of, Lists.is_above, Lists.last_of, Soundness.HasEntry}
pub use Rattle.hierarchy.specs.declared.falls.Fall.{Fall}

-- the listed entry leads from u to v
pub record IsEntryFor (entries : List Entry) (u v : ℕ) (e : Entry) : Type 0 where
  pub listed : Contains entries e
  pub from : e.from ≡ u
  pub to : e.to ≡ v

abbrev pub HasNoEntry : List Entry → ℕ → ℕ → Type 0
HasNoEntry entries u v = (weight : ℕ) → HasEntry entries u v weight → ⊥

-- the listed walk is one for this node, with these ends
pub record IsWitnessFor (witnesses : List WitnessLists) (below first last : ℕ) (w : WitnessLists) : Type 0 where
  pub listed : Contains witnesses w
  pub below_is : w.below ≡ below
  pub first_is : first_of w.nodes ≡ first
  pub last_is : last_of w.nodes ≡ last

abbrev pub HasNoWitness : List WitnessLists → ℕ → ℕ → ℕ → Type 0
HasNoWitness witnesses below first last = (w : WitnessLists) → IsWitnessFor witnesses below first last w → ⊥

abbrev pub from_of : Entry → ℕ
from_of e = e.from

-- the entries from u are those at the places from low on, up to high
pub record AreFrom (entries : List Entry) (u low high : ℕ) : Type 0 where
  pub in_order : low ≤ high
  pub within : high ≤ length entries
  pub inside : (k : ℕ) (e : Entry) → low ≤ k → k < high → slice_get entries k ≡ Some e → e.from ≡ u
  pub all : (k : ℕ) (e : Entry) → slice_get entries k ≡ Some e → e.from ≡ u → (low ≤ k) × (k < high)

-- ---- the places of some entries

abbrev pub no_entry : Entry
no_entry = record { from = 0; to = 0; weight = 0; via = None }

abbrev pub entry_at : List Entry → ℕ → Entry
entry_at entries place = slice_index_or entries place no_entry

-- of the first n entries the places of those that pass a test
abbrev pub places_before : (Entry → Bool) → List Entry → ℕ → List ℕ
places_before passes entries n = filter (λ place. passes (entry_at entries place)) (range_with_len 0 n)

-- and of all entries
abbrev pub places_of : (Entry → Bool) → List Entry → List ℕ
places_of passes entries = places_before passes entries (length entries)

-- the entries of which P holds are those at these places
pub record ArePlaces (P : Entry → Type 0) (entries : List Entry) (places : List ℕ) : Type 0 where
  pub ascending : AllPairs (λ j k. j < k) places
  pub within : All (λ k. k < length entries) places
  pub each : (k : ℕ) (e : Entry) → Contains places k → slice_get entries k ≡ Some e → P e
  pub all : (k : ℕ) (e : Entry) → slice_get entries k ≡ Some e → P e → Contains places k

abbrev pub is_fall : List ℕ → Entry → Bool
is_fall order e = is_above order e.from e.to

-- the entry leads down to x
abbrev pub falls_to : List ℕ → ℕ → Entry → Bool
falls_to order x e = is_fall order e && (e.to == x)

-- which is that it ends there, and begins above it
pub record FallsTo (order : List ℕ) (x : ℕ) (e : Entry) : Type 0 where
  pub ends : e.to ≡ x
  pub above : IsAbove order e.from x

-- an entry at a place, as it is kept by its end
abbrev pub fall_at : List Entry → ℕ → Fall
fall_at entries place = record { from = (entry_at entries place).from; place = place; weight = (entry_at entries place).weight }

abbrev pub place_of_fall : Fall → ℕ
place_of_fall fall = fall.place

-- those that lead down to x, in order
abbrev pub falls_in : List ℕ → List Entry → ℕ → List Fall
falls_in order entries x = map (fall_at entries) (places_of (falls_to order x) entries)

abbrev pub falls_into : HierarchyLists → ℕ → List Fall
falls_into h x = falls_in h.order h.entries x
