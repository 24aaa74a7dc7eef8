-- The way back through the ways that were taken.
use Rattle.std.specs.Prelude.{◌≡◌, ℕ, ◌+◌, ◌^◌, ◌<◌, suc, List, [], ◌∷◌, reverse, ⊤, Option, Some, None, slice_get}
use Rattle.product_search.specs.{declared.label.Hop.Hop, declared.label.Walk.Walk, declared.row.Row.Row, declared.row.Taken.Taken, declared.frontier.Scan.Scan, declared.frontier.Frontier.Frontier, inside.Waiting.rows, inside.Waiting.ways}

-- each way leads to a row, and goes on from a way before it
pub record HasParents (f : Frontier) : Type 0 where
  pub lead : (n : ℕ) (w : Taken) → slice_get (ways f) n ≡ Some w → (r : Row) × (slice_get (rows f) w.row ≡ Some r)
  pub before : (n k : ℕ) (w : Taken) → slice_get (ways f) n ≡ Some w → w.parent ≡ suc k → k < n

-- it is the number of a way, and 1
abbrev pub IsWayTo : Frontier → ℕ → Type 0
IsWayTo f link = (n : ℕ) × (link ≡ suc n) × (w : Taken) × (slice_get (ways f) n ≡ Some w)

-- the way leads to the node and the state at that time, before the delay of 2^64
pub record IsWayAt (f : Frontier) (n v q t : ℕ) (w : Taken) : Type 0 where
  pub known : slice_get (ways f) n ≡ Some w
  pub row : Row
  pub leads : slice_get (rows f) w.row ≡ Some row
  pub node : v ≡ row.node
  pub state : q ≡ row.state
  pub at : t ≡ f.base + w.delay
  pub soon : w.delay < 2 ^ 64

-- the hop is the last arc of the way n, which goes on from the way before
pub record IsTrailHop (f : Frontier) (before n : ℕ) (h : Hop) : Type 0 where
  pub way : Taken
  pub is_at : IsWayAt f n h.to h.state h.at way
  pub parent : way.parent ≡ suc before
  pub arc : h.arc ≡ way.arc

-- the hops lead from the way n to the way last
abbrev pub AreTrail : Frontier → ℕ → List Hop → ℕ → Type 0
AreTrail f n [] last = last ≡ n
AreTrail f n (h ∷ hops) last = (next : ℕ) × IsTrailHop f n next h × AreTrail f next hops last

-- the way was come back to from the one that the link stands for, by these hops
pub record IsBackTo (f : Frontier) (link : ℕ) (way : Taken) (hops : List Hop) : Type 0 where
  pub number : ℕ
  pub known : slice_get (ways f) number ≡ Some way
  pub last : ℕ
  pub trail : AreTrail f number (reverse hops) last
  pub ends : link ≡ suc last

-- the walk leads from a way without a parent, hop by hop, to the way that the link stands for
pub record IsTrailTo (f : Frontier) (link : ℕ) (walk : Walk) : Type 0 where
  pub first : ℕ
  pub last : ℕ
  pub way : Taken
  pub is_at : IsWayAt f first walk.node walk.state walk.at way
  pub no_parent : way.parent ≡ 0
  pub hops : AreTrail f first walk.hops.items last
  pub ends : link ≡ suc last

-- a walk to the end, exactly where there is one
abbrev pub IsTrailIfAny : Frontier → Option Scan → Option Walk → Type 0
IsTrailIfAny f None None = ⊤
IsTrailIfAny f None (Some walk) = ⊥
IsTrailIfAny f (Some s) None = ⊥
IsTrailIfAny f (Some s) (Some walk) = IsTrailTo f s.link walk
