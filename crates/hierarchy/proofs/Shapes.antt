-- Walks that nowhere dip: whatever a walk passes below its neighbours is replaced by something higher, lowest nodes first. What
-- remains climbs, goes on along the top, and descends.
use Rattle.plan_base.proofs.Common.{◌≡◌, ℕ, zero, suc, ◌+◌, ◌<◌, ◌≤◌, ◌⊎◌, inl, inr, List, [], ◌∷◌, ◌++◌, ◌∙◌, sym, subst, arith, cases_lt, cases_order}
use Rattle.hierarchy.specs.{Hop, AreHops, total, AreHigh, IsDescent}
use Rattle.hierarchy.proofs.HopLemmas.{hops_then, total-append}

-- between the node u before it and the next node, both higher, x is no node of a height below k
abbrev pub IsNoDip : (ℕ → ℕ) → ℕ → ℕ → ℕ → List Hop → Type 0
IsNoDip height k u x [] = Unit {0}
IsNoDip height k u x (hop ∷ hops) = height x < k → height x < height u → height x < height hop.to → ⊥

abbrev pub HasNoDips : (ℕ → ℕ) → ℕ → ℕ → List Hop → Type 0
HasNoDips height k u [] = Unit {0}
HasNoDips height k u (hop ∷ hops) = IsNoDip height k u hop.to hops × HasNoDips height k hop.to hops

-- another walk from u to v, over nodes higher than k, no heavier than the limit
pub record IsBridge (height : ℕ → ℕ) (Leads : ℕ → ℕ → ℕ → Type 0) (k u v limit : ℕ) : Type 0 where
  pub hops : List Hop
  pub walk : AreHops Leads u hops v
  pub above : AreHigh height k hops
  pub within : total hops ≤ limit

-- a walk with the same ends, no heavier, without dips up to k; and the node before it sees no new dip at its start
pub record Lowered (height : ℕ → ℕ) (Leads : ℕ → ℕ → ℕ → Type 0) (k u v : ℕ) (p : List Hop) : Type 0 where
  pub hops : List Hop
  pub walk : AreHops Leads u hops v
  pub no_heavier : total hops ≤ total p
  pub no_dips : HasNoDips height (suc k) u hops
  pub keeps : (w : ℕ) → IsNoDip height (suc k) w u p → IsNoDip height (suc k) w u hops

-- a walk without dips below k
pub record Cleared (height : ℕ → ℕ) (Leads : ℕ → ℕ → ℕ → Type 0) (k u v : ℕ) (p : List Hop) : Type 0 where
  pub hops : List Hop
  pub walk : AreHops Leads u hops v
  pub no_heavier : total hops ≤ total p
  pub no_dips : HasNoDips height k u hops

no_dip_if_high : (height : ℕ → ℕ) (k u x : ℕ) (hops : List Hop) → k < height x → IsNoDip height (suc k) u x hops
no_dip_if_high height k u x [] high = tt
no_dip_if_high height k u x (hop ∷ hops) high = λ low left right. omega arith

high_front : (height : ℕ → ℕ) (Leads : ℕ → ℕ → ℕ → Type 0) (k : ℕ) (b q : List Hop) (u y : ℕ) → AreHops Leads u b y → AreHigh height k b → HasNoDips height (suc k) y q → HasNoDips height (suc k) u (b ++ q)
high_front height Leads k [] q u y walk above none = subst (λ x. HasNoDips height (suc k) x q) walk none
high_front height Leads k (hop ∷ b) q u y (leads, walk) (high, above) none =
    (no_dip_if_high height k u hop.to (b ++ q) high, high_front height Leads k b q hop.to y walk above none)

module _ (height : ℕ → ℕ) (Leads : ℕ → ℕ → ℕ → Type 0) where
  -- where each dip at k can be bridged
  module _ (k : ℕ) (bridge : (u x v a b : ℕ) → Leads u x a → Leads x v b → height x ≡ k → k < height u → k < height v → IsBridge height Leads k u v (a + b)) where
    pub lower : (p : List Hop) (u v : ℕ) → AreHops Leads u p v → HasNoDips height k u p → Lowered height Leads k u v p
    lower [] u v walk none = record { hops = []; walk = walk; no_heavier = omega arith; no_dips = tt; keeps = λ w h. h }
    lower (x ∷ []) u v walk none = record { hops = x ∷ []; walk = walk; no_heavier = omega arith; no_dips = (tt, tt); keeps = λ w h. h }
    lower (x ∷ y ∷ p) u v (first, (second, walk)) (here, (next, none)) = by_height (is_dip (height x.to) (height u) (height y.to)) (lower p y.to v walk none) (lower (y ∷ p) x.to v (second, walk) (next, none))
      where
        -- whether x is a dip at k
        is_dip : (at left right : ℕ) → ((at ≡ k) × (k < left) × (k < right)) ⊎ ((at ≡ k → k < left → k < right → ⊥))
        is_dip at left right = elim (cases_order at k) [
          | inr apart ↦ inr (λ e l r. elim apart [ inl lt ↦ omega arith | inr gt ↦ omega arith ])
          | inl same ↦ elim (cases_lt k left) [
            | inr le ↦ inr (λ e l r. omega arith)
            | inl lt ↦ elim (cases_lt k right) [
              | inr le ↦ inr (λ e l r. omega arith)
              | inl gt ↦ inl (same, lt, gt)
            ]
          ]
        ]

        by_height : ((height x.to ≡ k) × (k < height u) × (k < height y.to)) ⊎ (height x.to ≡ k → k < height u → k < height y.to → ⊥) → Lowered height Leads k y.to v p → Lowered height Leads k x.to v (y ∷ p)
            → Lowered height Leads k u v (x ∷ y ∷ p)
        by_height (inl (at, left, right)) rest more =
            let b = bridge u x.to y.to x.weight y.weight first second at left right in
            record {
              hops = b.hops ++ rest.hops;
              walk = hops_then Leads b.hops rest.hops u y.to v b.walk rest.walk;
              no_heavier = omega (arith, total-append b.hops rest.hops, b.within, rest.no_heavier);
              no_dips = high_front height Leads k b.hops rest.hops u y.to b.walk b.above rest.no_dips;
              keeps = λ w h. no_dip_if_high height k w u (b.hops ++ rest.hops) left;
            }
        by_height (inr no_dip) rest more = record {
          hops = x ∷ more.hops;
          walk = (first, more.walk);
          no_heavier = omega (arith, more.no_heavier);
          no_dips = (
            more.keeps u (λ low left right. elim (cases_lt (height x.to) k) [
              | inl below ↦ here below left right
              | inr above ↦ (let at : height x.to ≡ k = omega arith in no_dip at (omega arith) (omega arith))
            ]),
            more.no_dips,
          );
          keeps = λ w h. h;
        }

  none_below_zero : (p : List Hop) (u : ℕ) → HasNoDips height zero u p
  none_below_zero [] u = tt
  none_below_zero (x ∷ []) u = (tt, tt)
  none_below_zero (x ∷ y ∷ p) u = ((λ low left right. omega arith), none_below_zero (y ∷ p) x.to)

  -- where each dip below n can be bridged, a walk has one without any
  pub clear : (n : ℕ) → ((u x v a b : ℕ) → height x < n → Leads u x a → Leads x v b → height x < height u → height x < height v → IsBridge height Leads (height x) u v (a + b))
      → (p : List Hop) (u v : ℕ) → AreHops Leads u p v → (k : ℕ) → k ≤ n → Cleared height Leads k u v p
  clear n bridge p u v walk zero le = record { hops = p; walk = walk; no_heavier = omega arith; no_dips = none_below_zero p u }
  clear n bridge p u v walk (suc k) le =
      let before = clear n bridge p u v walk k (omega arith) in
      let at_k : (u x v a b : ℕ) → Leads u x a → Leads x v b → height x ≡ k → k < height u → k < height v → IsBridge height Leads k u v (a + b) =
      λ u x v a b first second at left right. subst (λ j. IsBridge height Leads j u v (a + b)) at (bridge u x v a b (omega arith) first second (omega arith) (omega arith)) in
      let next = lower k at_k before.hops u v before.walk before.no_dips in
      record { hops = next.hops; walk = next.walk; no_heavier = omega (arith, next.no_heavier, before.no_heavier); no_dips = next.no_dips }

-- ---- the shape of what remains

-- climbs, then goes along nodes of the height n, and then descends
abbrev pub IsShaped : (ℕ → ℕ) → ℕ → ℕ → List Hop → Type 0
IsShaped height n u [] = Unit {0}
IsShaped height n u (hop ∷ hops) =
    ((height u < height hop.to) × IsShaped height n hop.to hops)
    ⊎ ((height u ≡ n) × (height hop.to ≡ n) × IsShaped height n hop.to hops)
    ⊎ IsDescent height u (hop ∷ hops)

module _ (height : ℕ → ℕ) (Leads : ℕ → ℕ → ℕ → Type 0) (n : ℕ) (top : (u : ℕ) → height u ≤ n) (apart : (u v a : ℕ) → Leads u v a → height u ≡ height v → height u ≡ n) where
  -- after a hop that leads lower each does
  descends : (hops : List Hop) (u x v : ℕ) → height x < height u → AreHops Leads x hops v → IsNoDip height n u x hops → HasNoDips height n x hops → IsDescent height x hops
  descends [] u x v lt walk here none = tt
  descends (y ∷ hops) u x v lt (leads, walk) here (next, none) =
      let most = top u in
      let lower : height y.to < height x = elim (cases_order (height y.to) (height x)) [
        | inl same ↦ (let high = apart x y.to y.weight leads (sym same) in omega arith)
        | inr other ↦ elim other [
          | inl below ↦ below
          | inr above ↦ absurd (here (omega arith) lt above)
        ]
      ] in
      (lower, descends hops x y.to v lower walk next none)

  pub shape : (p : List Hop) (u v : ℕ) → AreHops Leads u p v → HasNoDips height n u p → IsShaped height n u p
  shape [] u v walk none = tt
  shape (hop ∷ hops) u v (leads, walk) (here, none) = by_order (cases_order (height u) (height hop.to)) (shape hops hop.to v walk none)
    where
      by_order : (height u ≡ height hop.to) ⊎ ((height u < height hop.to) ⊎ (height hop.to < height u)) → IsShaped height n hop.to hops → IsShaped height n u (hop ∷ hops)
      by_order (inl same) rest = let high = apart u hop.to hop.weight leads same in inr (inl (high, sym same ∙ high, rest))
      by_order (inr (inl up)) rest = inl (up, rest)
      by_order (inr (inr down)) rest = inr (inr (down, descends hops u hop.to v down walk here none))
