-- The nearest road node of a place has one id and one length.
use Rattle.plan_base.proofs.Common.{◌≡◌, ℕ, ℤ, pos, ◌≤◌, ◌<◌, ◌≤ℤ◌, ◌^◌, ◌-◌, List, [], ◌∷◌, ◌++◌, Option, Some, None, arith, ap, subst, sym, refl, ap₂, true, ◌&&◌, int_eq, ◌∙◌, ◌+◌, take, length, get_or, Contains, All, All-contains, All-push, All-weaker, Contains-append_left, Contains-push, IsPermutation, All-permutation, Contains-permutation, take_more, map-append, Decides-int_eq, ints, same_Some}
use Rattle.plan_base.specs.{Place}
use Rattle.geo_length.specs.{Point, IsClosest, IsNearest, length_to}
use Rattle.geo_length.proofs.LengthLaws.{length-few}
use Rattle.plan_base.proofs.PlaceAgain.{place_again, place_is}
use Rattle.mode_network.proofs.RuleLemmas.{both}
use Rattle.mode_network.specs.{Node, point_of, road_points, IsRoadCopy, IsNearCopy, IsNearestRoad, AreExactly, HoldSame}

module _ (points : List Point) (place : Place) where
  no_longer : (a b : ℤ) (mm nn : ℕ) → IsClosest points place a mm → IsClosest points place b nn → nn ≤ mm
  no_longer a b mm nn first second =
      let near = second.closest first.given.0 (a, first.at) first.given.1 in
      rw first.length_is (subst (λ (p : Point). nn ≤ length_to place p) first.given.2 near)

  no_lower : (a b : ℤ) (mm : ℕ) → IsClosest points place a mm → IsClosest points place b mm → b ≤ℤ a
  no_lower a b mm first second =
      let low = second.first first.given.0 (a, first.at) first.given.1 in
      subst (λ (p : Point). length_to place p ≡ mm → b ≤ℤ p.0) first.given.2 low (sym first.length_is)

  pub same_length : (a b : ℤ) (mm nn : ℕ) → IsClosest points place a mm → IsClosest points place b nn → mm ≡ nn
  same_length a b mm nn first second = omega (arith, no_longer a b mm nn first second, no_longer b a nn mm second first)

  pub same_id : (a b : ℤ) (mm nn : ℕ) → IsClosest points place a mm → IsClosest points place b nn → a ≡ b
  same_id a b mm nn first second =
      let other = subst (IsClosest points place b) (sym (same_length a b mm nn first second)) second in
      omega (arith, ints, no_lower a b mm first other, no_lower b a mm other first)

-- where the nearest road node is near enough, its copies are those of the place
pub near_copies : (roads : List Node) (place : Place) (id : ℤ) (mm : ℕ) → IsClosest (road_points roads) place id mm → mm ≤ 2000000
    → (range : Option (ℕ × ℕ)) → AreExactly (IsRoadCopy roads id) range → AreExactly (IsNearCopy roads place) range
near_copies roads place id mm nearest near range copies = on_range range copies
  where
    of_id : (v : ℕ) → IsNearCopy roads place v → IsRoadCopy roads id v
    of_id v copy = subst (λ i. IsRoadCopy roads i v) (same_id (road_points roads) place copy.id id copy.mm mm copy.nearest nearest) copy.copy

    on_range : (range : Option (ℕ × ℕ)) → AreExactly (IsRoadCopy roads id) range → AreExactly (IsNearCopy roads place) range
    on_range (Some range) (some, all) = (some, λ v. (λ copy. (all v).0 (of_id v copy), λ h. record { id = id; mm = mm; nearest = nearest; within = near; copy = (all v).1 h }))
    on_range None none = λ v copy. none v (of_id v copy)

-- the nearest within the greatest length is the nearest at all
pub nearest_found : (roads : List Node) (place : Place) (nearest : Option (ℤ × ℕ)) → IsNearest (road_points roads) place (2 ^ 64 - 1) nearest → IsNearestRoad roads place nearest
nearest_found roads place (Some nearest) h = h.1
nearest_found [] place None h = refl
nearest_found (node ∷ roads) place None h =
    let far = h 0 (pos 0, place) (omega arith) in
    absurd (omega (arith, far, length-few place node.place))

-- Lists that hold the same points have the same nearest ones.
module _ (xs ys : List Point) (same : HoldSame xs ys) where
  each : (P : Point → Type 0) → All P xs → All P ys
  each P h = All-weaker (Contains xs) P (λ y. All-contains P xs y h) ys same.all

  pub same_nearest : (place : Place) (within : ℕ) (best : Option (ℤ × ℕ)) → IsNearest xs place within best → IsNearest ys place within best
  same_nearest place within None h = each (λ point. within < length_to place point) h
  same_nearest place within (Some best) h = (
    h.0,
    record {
      at = h.1.at;
      given = All-contains (Contains ys) xs (best.0, h.1.at) same.given h.1.given;
      length_is = h.1.length_is;
      closest = each (λ point. best.1 ≤ length_to place point) h.1.closest;
      first = each (λ point. length_to place point ≡ best.1 → best.0 ≤ℤ point.0) h.1.first;
    },
  )

-- a permutation holds the same
pub permuted : (xs ys zs : List Point) → IsPermutation xs zs → HoldSame xs ys → HoldSame zs ys
permuted xs ys zs moved same = record {
  given = All-permutation (Contains ys) xs zs moved same.given;
  all = All-weaker (Contains xs) (Contains zs) (λ x held. Contains-permutation xs zs x moved held) ys same.all;
}

-- one point more of both lists, or of the second alone where the first has it
pub both_more : (xs ys : List Point) (p : Point) → HoldSame xs ys → HoldSame (xs ++ p ∷ []) (ys ++ p ∷ [])
both_more xs ys p h = record {
  given = All-push (Contains (ys ++ p ∷ [])) xs p (All-weaker (Contains ys) (Contains (ys ++ p ∷ [])) (λ x held. Contains-append_left ys (p ∷ []) x held) xs h.given) (Contains-push ys p);
  all = All-push (Contains (xs ++ p ∷ [])) ys p (All-weaker (Contains xs) (Contains (xs ++ p ∷ [])) (λ x held. Contains-append_left xs (p ∷ []) x held) ys h.all) (Contains-push xs p);
}

pub one_more : (xs ys : List Point) (p : Point) → HoldSame xs ys → Contains xs p → HoldSame xs (ys ++ p ∷ [])
one_more xs ys p h held = record {
  given = All-weaker (Contains ys) (Contains (ys ++ p ∷ [])) (λ x held. Contains-append_left ys (p ∷ []) x held) xs h.given;
  all = All-push (Contains xs) ys p h.all held;
}

-- one road node more: its point is put in the list, or is there
module _ (points : List Point) (roads : List Node) (k : ℕ) (node : Node) (within : k < length roads) (is : node ≡ get_or roads k node) (same : HoldSame points (road_points (take k roads))) where
  points_more : road_points (take (k + 1) roads) ≡ road_points (take k roads) ++ point_of node ∷ []
  points_more = ap road_points (take_more roads k node within ∙ ap (λ x. take k roads ++ x ∷ []) (sym is)) ∙ map-append point_of (take k roads) (node ∷ [])

  pub pushed : HoldSame (points ++ point_of node ∷ []) (road_points (take (k + 1) roads))
  pushed = subst (HoldSame (points ++ point_of node ∷ [])) (sym points_more) (both_more points (road_points (take k roads)) (point_of node) same)

  pub kept : Contains points (point_of node) → HoldSame points (road_points (take (k + 1) roads))
  kept held = subst (HoldSame points) (sym points_more) (one_more points (road_points (take k roads)) (point_of node) same held)

-- points of one id, one latitude and one longitude are the same
pub same_point : (p q : Point) → p.0 ≡ q.0 → int_eq p.1.lat q.1.lat && int_eq p.1.lon q.1.lon ≡ true → p ≡ q
same_point p q id e =
    let parts = both _ _ e in
    let lat : p.1.lat ≡ q.1.lat = (Decides-int_eq p.1.lat q.1.lat).0 parts.0 in
    let lon : p.1.lon ≡ q.1.lon = (Decides-int_eq p.1.lon q.1.lon).0 parts.1 in
    let place : p.1 ≡ q.1 = same_Some p.1 q.1 (place_is p.1 q.1.lat q.1.lon lat lon ∙ place_again q.1) in
    ap₂ (λ i at. (i, at)) id place
