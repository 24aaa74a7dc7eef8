-- What a search answers: the least arrival of the walks that count, and a walk that has it.
use Rattle.std.specs.Prelude.{◌≡◌, ℕ, ◌+◌, ◌^◌, ◌<◌, ◌≤◌, List, [], ◌∷◌, ⊤, Option, Some, None, IfSome, IsTrue, Contains, All}
use Rattle.search_laws.specs.{GraphMeaning, HasArc, LabelsMeaning, Follows, ArrivesAt, IsLeast}
pub use Rattle.product_search.specs.{declared.label.Hop.Hop, declared.label.Walk.Walk, declared.label.Found.Found}
use Rattle.product_search.specs.Reach.{IsWithin}

-- the least arrival within the bound, or none where no walk arrives within it
abbrev pub IsArrival : GraphMeaning → LabelsMeaning → List ℕ → List ℕ → ℕ → Option ℕ → Option ℕ → Type 0
IsArrival g l starts targets dep bound None = (t : ℕ) → IsWithin bound t → ArrivesAt g l starts targets dep t → ⊥
IsArrival g l starts targets dep bound (Some a) = IsLeast g l starts targets dep a × IsWithin bound a

-- the hop is by an arc of v that is taken at t, in the state q
pub record IsHop (g : GraphMeaning) (l : LabelsMeaning) (v q t : ℕ) (h : Hop) : Type 0 where
  pub has : HasArc g v h.arc
  pub arrives : g.arrive v h.arc t ≡ Some h.at
  pub to : h.to ≡ (g.arc_at v h.arc).to
  pub state : Follows l q (g.arc_at v h.arc).letter h.state

-- the hops lead from v in the state q at t to v2 in the state q2 at t2, each taken when the one before arrives
abbrev pub AreWalkHops : GraphMeaning → LabelsMeaning → ℕ → ℕ → ℕ → List Hop → ℕ → ℕ → ℕ → Type 0
AreWalkHops g l v q t [] v2 q2 t2 = (v2 ≡ v) × (q2 ≡ q) × (t2 ≡ t)
AreWalkHops g l v q t (h ∷ hops) v2 q2 t2 = IsHop g l v q t h × AreWalkHops g l h.to h.state h.at hops v2 q2 t2

-- the walk leaves a start in a start state at dep, and reaches a target in an accepting state at t2
pub record IsWalkTo (g : GraphMeaning) (l : LabelsMeaning) (starts targets : List ℕ) (dep t2 : ℕ) (w : Walk) : Type 0 where
  pub end : ℕ
  pub final : ℕ
  pub starts_there : Contains starts w.node
  pub is_state : w.state < l.states
  pub is_start : IsTrue (l.is_start w.state)
  pub leaves : w.at ≡ dep
  pub hops : AreWalkHops g l w.node w.state w.at w.hops.items end final t2
  pub ends_there : Contains targets end
  pub accepts : IsTrue (l.accepts final)

-- a walk with that arrival, exactly where there is one
abbrev pub IsWalkFor : GraphMeaning → LabelsMeaning → List ℕ → List ℕ → ℕ → Option ℕ → Option Walk → Type 0
IsWalkFor g l starts targets dep None None = ⊤
IsWalkFor g l starts targets dep None (Some w) = ⊥
IsWalkFor g l starts targets dep (Some a) None = ⊥
IsWalkFor g l starts targets dep (Some a) (Some w) = IsWalkTo g l starts targets dep a w

-- no time of the answer is above dep + 2^98
abbrev pub last_time : ℕ → ℕ
last_time dep = dep + 2 ^ 98

pub record IsByLastTime (dep : ℕ) (f : Found) : Type 0 where
  pub arrival : IfSome f.arrival (λ a. a ≤ last_time dep)
  pub labels : All (λ x. x.at ≤ last_time dep) f.labels.items
  pub walk : IfSome f.walk (λ w. (w.at ≤ last_time dep) × All (λ h. h.at ≤ last_time dep) w.hops.items)
