-- How the destinations of queries are kept, so that one search finds the arrivals at all of them.
use Rattle.std.specs.Prelude.{◌≡◌, ℕ, ◌+◌, ◌<◌, List, [], ◌∷◌, ◌++◌, length, min, Option, Some, None, All, Contains, IfSome, slice_index, slice_index_or, option_map, fold, slice_range}
use Rattle.std.specs.Borrow.{Bor}
use Rattle.search_laws.specs.{GraphMeaning, LabelsMeaning}
use Rattle.product_search.specs.{IsArrival}
use Rattle.hierarchy.specs.{declared.hierarchy.Hierarchy.Hierarchy, HierarchyLists}
use Rattle.phase_graph.specs.{IsInUse, IsSoundIfGiven, starts_in, ends_in, meaning_in_use}
use Rattle.cores.specs.{IsSoundOnCore}
use Rattle.descents.specs.{declared.descents.Descents.Descents, AreDescents, IsServed}
use Rattle.mode_network.specs.NetworkLists.{NetworkLists}
use Rattle.journey.specs.{Query, AreTheCopies}
pub use Rattle.planning.specs.{declared.destinations.Part.Part, declared.destinations.Listing.Listing, declared.destinations.Destinations.Destinations}

-- the copies of a query's destination, if there is a query
abbrev pub AreCopiesTo : NetworkLists → Option Query → List ℕ → Type 0
AreCopiesTo n None copies = copies ≡ []
AreCopiesTo n (Some q) copies = AreTheCopies n q.to copies

-- the copies of a destination were listed behind those of others, and their numbers in the graph in use behind the others'
pub record AddsDestination (n : NetworkLists) (h : Option HierarchyLists) (q : Option Query) (old new : Listing) : Type 0 where
  pub copies : List ℕ
  pub are : AreCopiesTo n q copies
  pub targets : new.targets.items ≡ old.targets.items ++ copies
  pub numbers : new.numbers.items ≡ old.numbers.items ++ ends_in h copies
  pub parts : new.parts.items ≡ old.parts.items ++ record { first = length old.numbers.items; end = length new.numbers.items } ∷ []

-- the copies of a destination are among the targets, and their numbers are this part of all
pub record IsPartFor (n : NetworkLists) (h : Option HierarchyLists) (targets numbers : List ℕ) (q : Option Query) (part : Part) : Type 0 where
  pub copies : List ℕ
  pub are : AreCopiesTo n q copies
  pub inside : (v : ℕ) → Contains copies v → Contains targets v
  pub before : List ℕ
  pub after : List ℕ
  pub numbers_are : numbers ≡ before ++ (ends_in h copies ++ after)
  pub first : part.first ≡ length before
  pub end : part.end ≡ length before + length (ends_in h copies)

-- so it is for the first so many queries
abbrev pub ArePartsFor : NetworkLists → Option HierarchyLists → List ℕ → List ℕ → List (Option Query) → List Part → ℕ → Type 0
ArePartsFor n h targets numbers queries parts count = (k : ℕ) → k < count → (p : Part) → IsPartFor n h targets numbers (slice_index_or queries k None) (slice_index_or parts k p)

-- all destinations of the queries are listed
pub record AreListed (n : NetworkLists) (h : Option HierarchyLists) (queries : List (Option Query)) (l : Listing) : Type 0 where
  pub one_each : length l.parts.items ≡ length queries
  pub numbers_are : l.numbers.items ≡ ends_in h l.targets.items
  pub are : ArePartsFor n h l.targets.items l.numbers.items queries l.parts.items (length queries)

-- where there is a hierarchy, and one of its core, this is sound
abbrev pub IsCoreIfGiven : NetworkLists → Option HierarchyLists → Option HierarchyLists → Type 0
IsCoreIfGiven n None core = Unit
IsCoreIfGiven n (Some h) None = Unit
IsCoreIfGiven n (Some h) (Some k) = IsSoundOnCore n h k

-- the descents are those of the hierarchy to the targets
pub record DescendTo (n : NetworkLists) (h : Option HierarchyLists) (targets : List ℕ) (d : Descents) : Type 0 where
  pub are : AreDescents d
  pub network : d.network.now ≡ n
  pub hierarchy : h ≡ Some d.hierarchy.now
  pub served : All (IsServed d) targets

-- the hierarchy that destinations are searched over, if there is one
abbrev pub hierarchy_searched : Destinations → Option HierarchyLists
hierarchy_searched d = option_map (λ (h : Bor Hierarchy). h.now) d.hierarchy

-- the graph in use is that for the copies of all destinations, the table has their numbers in it, and what descents there are lead to them
pub record AreDestinations (d : Destinations) : Type 0 where
  pub sound : IsSoundIfGiven d.network.now (hierarchy_searched d)
  pub targets : List ℕ
  pub in_use : IsInUse d.network.now (hierarchy_searched d) targets (meaning_in_use d.graph)
  pub numbers_are : d.table.nodes.items ≡ ends_in (hierarchy_searched d) targets
  pub descents : IfSome d.descents (DescendTo d.network.now (hierarchy_searched d) targets)
  pub one_each : length d.parts.items ≡ length d.queries.now
  pub are : ArePartsFor d.network.now (hierarchy_searched d) targets d.table.nodes.items d.queries.now d.parts.items (length d.queries.now)

-- ---- the arrivals at the numbers

-- The least arrival at some ends, of which p is one. Wherever p is a number of some targets, so are all of these: as p alone is, and as are
-- the numbers of its node.
pub record IsArrivalAround (h : Option HierarchyLists) (g : GraphMeaning) (l : LabelsMeaning) (starts : List ℕ) (dep p : ℕ) (arrival : Option ℕ) : Type 0 where
  pub ends : List ℕ
  pub there : Contains ends p
  pub alike : (targets : List ℕ) → Contains (ends_in h targets) p → (v : ℕ) → Contains ends v → Contains (ends_in h targets) v
  pub is : IsArrival g l starts ends dep None arrival

-- one for each of these numbers, in order
pub record AreArrivalsAround (h : Option HierarchyLists) (g : GraphMeaning) (l : LabelsMeaning) (starts numbers : List ℕ) (dep : ℕ) (times : List (Option ℕ)) : Type 0 where
  pub one_each : length times ≡ length numbers
  pub are : (k : ℕ) → k < length numbers → IsArrivalAround h g l starts dep (slice_index numbers k) (slice_index_or times k None)

-- one for each number of the destinations, from these origins on
abbrev pub AreNumberArrivals : Destinations → LabelsMeaning → List ℕ → ℕ → List (Option ℕ) → Type 0
AreNumberArrivals d l origins dep times =
    AreArrivalsAround (hierarchy_searched d) (meaning_in_use d.graph) l (starts_in (hierarchy_searched d) origins) d.table.nodes.items dep times

-- ---- the earliest of some times

abbrev pub earlier : Option ℕ → Option ℕ → Option ℕ
earlier None other = other
earlier (Some a) None = Some a
earlier (Some a) (Some b) = Some (min a b)

abbrev pub earliest : List (Option ℕ) → Option ℕ
earliest times = fold earlier None times

-- the earliest of a part
abbrev pub earliest_in : List (Option ℕ) → Part → Option ℕ
earliest_in times part = earliest (slice_range times part.first part.end)
