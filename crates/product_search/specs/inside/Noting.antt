-- What a search for many targets keeps: where each target stands in their list, and when it was reached.
use Rattle.std.specs.Prelude.{◌≡◌, ◌≢◌, ℕ, zero, suc, ◌+◌, ◌-◌, ◌^◌, ◌<◌, ◌≤◌, ◌⊎◌, List, [], ◌∷◌, length, slice_index, slice_index_or, Option, Some, None, IsTrue, nat_lt, if◌then◌else◌}
use Rattle.search_laws.specs.{GraphMeaning, LabelsMeaning, ArrivesAt}
use Rattle.product_search.specs.{declared.frontier.Scan.Scan, declared.targets.Noted.Noted, Arrivals.IsArrivalAt, inside.Places.IsPlaced}

-- the time at a place, where 0 is none
abbrev pub time_by : List (Option ℕ) → ℕ → Option ℕ
time_by times zero = None
time_by times (suc j) = slice_index_or times j None

-- when a target was reached, if it was
abbrev pub time_of : List ℕ → List (Option ℕ) → ℕ → Option ℕ
time_of places times v = time_by times (slice_index places v)

abbrev pub IsReached : List ℕ → List (Option ℕ) → ℕ → Type 0
IsReached places times v = (t : ℕ) × (time_of places times v ≡ Some t)

-- each of the first so many targets was reached
abbrev pub AreReached : List ℕ → List ℕ → List (Option ℕ) → ℕ → Type 0
AreReached nodes places times count = (k : ℕ) → k < count → k < length nodes → IsReached places times (slice_index nodes k)

-- the earlier one of what was noted, if anything was, and another time
abbrev pub earlier : Option ℕ → ℕ → ℕ
earlier None at = at
earlier (Some t) at = if nat_lt at t then at else t

-- if v is a target, it was reached at that time, unless it was by then
pub record IsNoted (places : List ℕ) (old new : List (Option ℕ)) (v at : ℕ) : Type 0 where
  pub here : IsPlaced places v → time_of places new v ≡ Some (earlier (time_of places old v) at)
  pub others : (w : ℕ) → w ≢ v → time_of places new w ≡ time_of places old w

-- the same where v is reached in an accepting state, and nothing else
pub record IsEndNoted (l : LabelsMeaning) (places : List ℕ) (base : ℕ) (old new : Noted) (s : Scan) : Type 0 where
  pub ends : IsTrue (l.accepts s.state) → IsNoted places old.times.items new.times.items s.node (base + s.delay)
  pub passes : (IsTrue (l.accepts s.state) → ⊥) → new.times.items ≡ old.times.items
  pub latest : old.latest ≤ new.latest
  pub late : IsTrue (l.accepts s.state) → IsPlaced places s.node → s.delay ≤ new.latest

-- a target was reached by then
abbrev pub IsNotedBy : List ℕ → List (Option ℕ) → ℕ → ℕ → Type 0
IsNotedBy places times v t = (u : ℕ) × (time_of places times v ≡ Some u) × (u ≤ t)

-- if v is a target and the state accepts, it is noted that it was reached by then
abbrev pub IsEndNotedBy : LabelsMeaning → List ℕ → List (Option ℕ) → ℕ → ℕ → ℕ → Type 0
IsEndNotedBy l places times v q t = IsPlaced places v → IsTrue (l.accepts q) → IsNotedBy places times v t

-- a walk arrives at v then, which is no later than the latest
abbrev pub IsArrivalBy : GraphMeaning → LabelsMeaning → List ℕ → ℕ → ℕ → ℕ → ℕ → Type 0
IsArrivalBy g l starts dep latest v t = ArrivesAt g l starts (v ∷ []) dep t × (t ≤ dep + latest) × (t < dep + 2 ^ 64)

-- what is noted is an arrival; and the search goes on without an end, or to where all are noted
pub record AreNoted (g : GraphMeaning) (l : LabelsMeaning) (starts : List ℕ) (dep : ℕ) (places : List ℕ) (until : ℕ) (noted : Noted) : Type 0 where
  pub right : (v t : ℕ) → time_of places noted.times.items v ≡ Some t → IsArrivalBy g l starts dep noted.latest v t
  pub goes_to : (until ≡ 2 ^ 64 - 1) ⊎ ((v : ℕ) → IsPlaced places v → IsNotedBy places noted.times.items v (dep + until))
  pub in_range : until < 2 ^ 64

-- the times are those of the least arrivals at all targets
abbrev pub AreAllTimes : GraphMeaning → LabelsMeaning → List ℕ → ℕ → List ℕ → List (Option ℕ) → Type 0
AreAllTimes g l starts dep places times = (v : ℕ) → IsPlaced places v → IsArrivalAt g l starts dep v (time_of places times v)
