-- What a rider may do in the phase graph of a hierarchy: climb over entries, go along the core, and descend to the targets.
use Rattle.std.specs.Prelude.{◌≡◌, ℕ, ◌+◌, ◌≤◌, ◌⊎◌, Bool, true, false, List, [], ◌∷◌, ◌++◌, Option, Some, None, Contains, option_to_list}
use Rattle.mode_network.specs.{NetworkLists.NetworkLists, letter_at, Step, Wait, Link, Stand, Ride, IsStep, declared.steps.Step.TheVariants.Road}
use Rattle.hierarchy.specs.{Hop, AreHops, IsDescent, HierarchyLists, height_in, IsAbove, IsCore, HasEntry}

-- a chain of entries, each to a lower node, leads from v to a target; the empty chain counts
pub record IsMarked (h : HierarchyLists) (targets : List ℕ) (v : ℕ) : Type 0 where
  pub end : ℕ
  pub hops : List Hop
  pub ends_there : Contains targets end
  pub chain : AreHops (HasEntry h.entries) v hops end
  pub falls : IsDescent (height_in h.order) v hops

-- a wait until a time; an entry up or along the core; an entry down; a link or a ride; a leg of length zero
pub data PhaseMove : Type 0 where
  rest : ℕ → PhaseMove
  rise : Hop → PhaseMove
  fall : Hop → PhaseMove
  cross : Step → PhaseMove
  stand : PhaseMove

abbrev pub IsCrossing : Step → Type 0
IsCrossing (Wait until) = ⊥
IsCrossing (Road to) = ⊥
IsCrossing (Link to) = Unit {0}
IsCrossing Stand = ⊥
IsCrossing (Ride trip day board alight) = Unit {0}

-- v is above u, or both are core
abbrev pub IsRise : HierarchyLists → ℕ → ℕ → Type 0
IsRise h u v = IsAbove h.order v u ⊎ (IsCore h.order u × IsCore h.order v)

-- the move leads from the node v, before the descent or in it, at the time t to w, before it or in it, at the time u; its letter
abbrev pub IsPhaseMove : NetworkLists → HierarchyLists → List ℕ → ℕ → Bool → ℕ → PhaseMove → ℕ → Bool → ℕ → Option ℕ → Type 0
IsPhaseMove n h targets v down t (rest until) w down2 u letter = (t ≤ until) × (w ≡ v) × (down2 ≡ down) × (u ≡ until) × (letter ≡ None)
IsPhaseMove n h targets v down t (rise hop) w down2 u letter =
    (down ≡ false) × HasEntry h.entries v hop.to hop.weight × IsRise h v hop.to
    × (w ≡ hop.to) × (down2 ≡ false) × (u ≡ t + hop.weight) × (letter ≡ letter_at n.roads v)
IsPhaseMove n h targets v down t (fall hop) w down2 u letter =
    HasEntry h.entries v hop.to hop.weight × IsAbove h.order v hop.to × IsMarked h targets hop.to
    × (w ≡ hop.to) × (down2 ≡ true) × (u ≡ t + hop.weight) × (letter ≡ letter_at n.roads v)
IsPhaseMove n h targets v down t (cross step) w down2 u letter =
    (down ≡ false) × IsCore h.order v × IsCrossing step × IsStep n v t step w u letter × (down2 ≡ false)
IsPhaseMove n h targets v down t stand w down2 u letter =
    (mode : ℕ) × (letter_at n.roads v ≡ Some mode) × (w ≡ v) × (down2 ≡ down) × (u ≡ t) × (letter ≡ Some mode)

-- the moves lead from v at t to w at u, each from where and when the one before it ended, and these are their letters
abbrev pub AreMoves : NetworkLists → HierarchyLists → List ℕ → ℕ → Bool → ℕ → List PhaseMove → ℕ → Bool → ℕ → List ℕ → Type 0
AreMoves n h targets v down t [] w down2 u letters = (w ≡ v) × (down2 ≡ down) × (u ≡ t) × (letters ≡ [])
AreMoves n h targets v down t (move ∷ moves) w down2 u letters =
    (v1 : ℕ) × (down1 : Bool) × (t1 : ℕ) × (letter : Option ℕ) × (more : List ℕ)
    × IsPhaseMove n h targets v down t move v1 down1 t1 letter × AreMoves n h targets v1 down1 t1 moves w down2 u more × (letters ≡ option_to_list letter ++ more)
