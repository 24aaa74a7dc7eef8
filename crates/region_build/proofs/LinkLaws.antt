-- The links of a region join a layer and a place that is in none, and ascend.
use Rattle.plan_base.proofs.Common.{◌≡◌, ◌≢◌, ℕ, ℤ, ◌+◌, ◌<◌, ◌≤◌, List, [], ◌∷◌, ◌++◌, get_or, length, map, Bool, true, false, not, Option, None, Some, if◌then◌else◌, refl, sym, ap, ◌∙◌, arith, ◌⊎◌, inl, inr, ⊎_elim, ◌&&◌, nat_le, nat_lt, All, flat_map, position, false_from_ne_true, nat_tests, length-map, All-append, All-cons, All-head, All-map, All-nil, All-tail, All-weaker, All-permutation}
use Rattle.plan_base.specs.{Mode, Foot, Bike, Car, Place, Links}
use Rattle.geo_length.specs.{duration_of}
use Rattle.opl_reader.specs.{Amenity, Nothing, Parking, BicycleParking, BicycleRental, OsmNode}
use Rattle.mode_network.specs.{arc_cmp, end_or_order_fault, first_unsorted, joins_layers, Arc, Node}
use Rattle.region_build.specs.{End, number_of_end, AreLinks, join, join_links, joined_stop, joined_switch, linked, linked_to, links_at, place_links, stop_joins, switch_joins, Join, StopEntry}
use Rattle.region_build.proofs.{ArcLaws.arc_total, ArcLaws.position_none, ArcLaws.same_ends, EndLaws.number_is, EndLaws.number_same, OrderLaws.Once, OrderLaws.none_cons, OrderLaws.once_apart, OrderLaws.once_cons, OrderLaws.once_nil, OrderLaws.once_permutation, OrderLaws.rises_from_sorted, OrderLaws.rises_sorted, OrderLaws.same_key, PartLaws.IsLinkOf, PartLaws.join_fits, PartLaws.joins_fit, PartLaws.places_fit}

once_one : (link : Arc) → Once (same_key arc_cmp) (link ∷ [])
once_one link = once_cons (same_key arc_cmp) link [] (λ q e. refl) (once_nil (same_key arc_cmp))

-- two links that lead from different nodes, where there are such
once_two : (x y : Arc) → x.from ≢ y.from → (enters leaves : Bool) → Once (same_key arc_cmp) ((if enters then x ∷ [] else []) ++ (if leaves then y ∷ [] else []))
once_two x y differ false false = once_nil (same_key arc_cmp)
once_two x y differ true false = once_one x
once_two x y differ false true = once_one y
once_two x y differ true true =
    once_cons (same_key arc_cmp) x (y ∷ [])
    (λ q e. none_cons (same_key arc_cmp) q y [] (false_from_ne_true (same_key arc_cmp q y) (λ f. differ (same_ends q x y e f).0)) refl) (once_one y)

-- joins of different modes
abbrev Differ : List Join → Type 0
Differ [] = Unit {0}
Differ (join ∷ joins) = All (λ other. other.mode ≢ join.mode) joins × Differ joins

stops_differ : Differ stop_joins
stops_differ = (All-nil (λ (other : Join). other.mode ≢ Foot), tt)

two_differ : (join other : Join) → other.mode ≢ join.mode → Differ (join ∷ other ∷ [])
two_differ join other e = (All-cons (λ other. other.mode ≢ join.mode) other [] e (All-nil (λ other. other.mode ≢ join.mode)), (All-nil (λ more. more.mode ≢ other.mode), tt))

switches_differ : (amenity : Amenity) → Differ (switch_joins amenity)
switches_differ Nothing = tt
switches_differ Parking = two_differ (join Car true true) (join Foot true true) (λ (e : Foot ≡ Car). cc)
switches_differ BicycleParking = two_differ (join Bike true false) (join Foot false true) (λ (e : Foot ≡ Bike). cc)
switches_differ BicycleRental = two_differ (join Foot true true) (join Bike true true) (λ (e : Bike ≡ Foot). cc)

-- places from a number on, and below another
abbrev Within : ℕ → ℕ → ℕ → Mode → Type 0
Within low high place mode = (low ≤ place) × (place < high)

-- one place, with a mode or with others
abbrev Of : ℕ → Mode → ℕ → Mode → Type 0
Of number mode place more = (place ≡ number) × (more ≡ mode)

abbrev Besides : ℕ → Mode → ℕ → Mode → Type 0
Besides number mode place more = (place ≡ number) × (more ≢ mode)

module _ (ends : List End) where
  road_below : (P : ℕ → Mode → Type 0) (link : Arc) (l : IsLinkOf ends P link) → l.road < length ends
  road_below P link l = (number_is ends (l.id, l.mode) l.road (l.id, l.mode) l.number).0

  module _ (P Q : ℕ → Mode → Type 0) (high : (place : ℕ) (mode : Mode) → P place mode → length ends ≤ place) (above : (place : ℕ) (mode : Mode) → Q place mode → length ends ≤ place) where
    -- the same link has one place and one mode
    one_place : (x y : Arc) (l : IsLinkOf ends P x) (r : IsLinkOf ends Q y) → (x.from ≡ y.from) × (x.to ≡ y.to) → (l.place ≡ r.place) × (l.mode ≡ r.mode)
    one_place x y l r same =
        let low = road_below P x l in
        let below = road_below Q y r in
        let up = high l.place l.mode l.fits in
        let over = above r.place r.mode r.fits in
        let one : (l.road ≡ r.road) × (l.place ≡ r.place) = ⊎_elim
        (λ p. ⊎_elim (λ q. (omega (arith, p, q, same), omega (arith, p, q, same))) (λ q. absurd (omega (arith, p, q, same, low, over))) r.shape)
        (λ p. ⊎_elim (λ q. absurd (omega (arith, p, q, same, below, up))) (λ q. (omega (arith, p, q, same), omega (arith, p, q, same))) r.shape)
        l.shape in
        (one.1, (number_same ends (l.id, l.mode) (r.id, r.mode) l.road l.number (r.number ∙ ap Some (sym one.0))).1)

    -- links of places and modes that are never the same, side by side
    once_beside : ((place other : ℕ) (mode more : Mode) → P place mode → Q other more → place ≡ other → mode ≡ more → ⊥) → (xs ys : List Arc) → All (IsLinkOf ends P) xs → All (IsLinkOf ends Q) ys
        → Once (same_key arc_cmp) xs → Once (same_key arc_cmp) ys → Once (same_key arc_cmp) (xs ++ ys)
    once_beside apart =
        once_apart (same_key arc_cmp) (IsLinkOf ends P) (IsLinkOf ends Q)
        (λ q x y l r e f. let one = one_place x y l r (same_ends q x y e f) in apart l.place r.place l.mode r.mode l.fits r.fits one.0 one.1)

  -- links below a number and links from it on
  once_split : (low middle high : ℕ) → length ends ≤ low → low ≤ middle → (xs ys : List Arc) → All (IsLinkOf ends (Within low middle)) xs → All (IsLinkOf ends (Within middle high)) ys
      → Once (same_key arc_cmp) xs → Once (same_key arc_cmp) ys → Once (same_key arc_cmp) (xs ++ ys)
  once_split low middle high above up =
      once_beside (Within low middle) (Within middle high) (λ place mode p. omega (arith, above, p)) (λ place mode p. omega (arith, above, up, p))
      (λ place other mode more p q e f. absurd (omega (arith, p, q, e)))

  once_join : (number : ℕ) (join : Join) (nearest : Option (ℤ × ℕ)) → length ends ≤ number → Once (same_key arc_cmp) (linked_to ends join number nearest)
  once_join number join None high = once_nil (same_key arc_cmp)
  once_join number join (Some nearest) high = by_number (number_of_end ends (nearest.0, join.mode)) refl (duration_of nearest.1 1400)
    where
      by_number : (road : Option ℕ) → number_of_end ends (nearest.0, join.mode) ≡ road → (ms : Option ℕ) → Once (same_key arc_cmp) (linked join number road ms)
      by_number None is ms = once_nil (same_key arc_cmp)
      by_number (Some road) is None = once_nil (same_key arc_cmp)
      by_number (Some road) is (Some ms) =
          let low = (number_is ends (nearest.0, join.mode) road (nearest.0, join.mode) is).0 in
          once_two (record { from = road; to = number; ms = ms }) (record { from = number; to = road; ms = ms }) (λ (e : road ≡ number). absurd (omega (arith, e, low, high))) join.enters join.leaves

  module _ (near : Mode → Place → Option (ℤ × ℕ)) where
    once_at : (number : ℕ) (place : Place) (joins : List Join) → length ends ≤ number → Differ joins → Once (same_key arc_cmp) (links_at near ends number place joins)
    unfolding links_at join_links
    once_at number place [] high differ = once_nil (same_key arc_cmp)
    once_at number place (join ∷ joins) high differ =
        once_beside (Of number join.mode) (Besides number join.mode) (λ k mode p. omega (arith, high, p.0)) (λ k mode p. omega (arith, high, p.0)) (λ k other mode more p q e f. q.1 (sym f ∙ p.1))
        (linked_to ends join number (near join.mode place)) (flat_map (join_links near ends number place) joins)
        (join_fits ends (Of number join.mode) near number join (refl, refl) (near join.mode place))
        (joins_fit ends (Besides number join.mode) near number place joins (λ k d below. (refl, differ.0 k d below)))
        (once_join number join (near join.mode place) high) (once_at number place joins high differ.1)

    once_from : (number : ℕ) (places : List (Place × List Join)) → length ends ≤ number → All (λ place. Differ place.1) places → Once (same_key arc_cmp) (place_links near ends number places)
    once_from number [] high differ = once_nil (same_key arc_cmp)
    once_from number (place ∷ places) high differ =
        once_split number (number + 1) (number + 1 + length places) high (omega arith) (links_at near ends number place.0 place.1) (place_links near ends (number + 1) places)
        (joins_fit ends (Within number (number + 1)) near number place.0 place.1 (λ k d below. (omega arith, omega arith)))
        (places_fit ends (Within (number + 1) (number + 1 + length places)) near (number + 1) places (λ k mode low high. (low, high)))
        (once_at number place.0 place.1 high (All-head (λ place. Differ place.1) place places differ))
        (once_from (number + 1) places (omega arith) (All-tail (λ place. Differ place.1) place places differ))

  -- it joins a layer and a place that is in none
  joins_both : (high : ℕ) (link : Arc) → IsLinkOf ends (Within (length ends) high) link → joins_layers (length ends) high link ≡ true
  joins_both high link l =
      let low = road_below (Within (length ends) high) link l in
      let fits = l.fits in
      ⊎_elim
      (λ p. joined link.from link.to (omega (arith, p, low, fits)) (omega (arith, p, fits)) (inl (omega (arith, p, low), omega (arith, p, fits))))
      (λ p. joined link.from link.to (omega (arith, p, fits)) (omega (arith, p, low, fits)) (inr (omega (arith, p, fits), omega (arith, p, low))))
      l.shape
    where
      joined : (from to : ℕ) → from < high → to < high → ((from < length ends) × (length ends ≤ to)) ⊎ ((length ends ≤ from) × (to < length ends))
          → (nat_lt from high && nat_lt to high && (if nat_lt from (length ends) then nat_le (length ends) to else nat_lt to (length ends))) ≡ true
      joined from to p q h = grind (arith, nat_tests, p, q, h)

pub links_right : (roads : List Node) (ends : List End) (entries : List StopEntry) (switches : List OsmNode) (links : List Arc) (nodes : ℕ)
    → length roads ≡ length ends → nodes ≡ length roads + length entries + length switches → AreLinks roads ends entries switches links
    → end_or_order_fault Links (position (λ link. not (joins_layers (length roads) nodes link)) links) (first_unsorted arc_cmp 0 links) ≡ None
links_right roads ends entries switches links nodes long all are =
    let stops = map joined_stop entries in
    let places = map joined_switch switches in
    let stops_long = length-map entries joined_stop in
    let places_long = length-map switches joined_switch in
    let front = place_links are.near ends (length roads) stops in
    let back = place_links are.near ends (length roads + length entries) places in
    let within = All-append (IsLinkOf ends (Within (length ends) nodes)) front back
    (places_fit ends (Within (length ends) nodes) are.near (length roads) stops (λ k mode low high. (omega (arith, long, low), omega (arith, all, high, stops_long))))
    (places_fit ends (Within (length ends) nodes) are.near (length roads + length entries) places (λ k mode low high. (omega (arith, long, low), omega (arith, all, high, places_long)))) in
    let joined : All (λ link. joins_layers (length roads) nodes link ≡ true) (front ++ back) =
    All-weaker (IsLinkOf ends (Within (length ends) nodes)) (λ link. joins_layers (length roads) nodes link ≡ true) (λ link l. rw long (joins_both ends nodes link l)) (front ++ back) within in
    let sorted = All-permutation (λ link. joins_layers (length roads) nodes link ≡ true) (front ++ back) links are.are.same joined in
    let once_given = once_split ends (length roads) (length roads + length entries) nodes (omega (arith, long)) (omega arith) front back
    (places_fit ends (Within (length roads) (length roads + length entries)) are.near (length roads) stops (λ k mode low high. (low, omega (arith, high, stops_long))))
    (places_fit ends (Within (length roads + length entries) nodes) are.near (length roads + length entries) places (λ k mode low high. (low, omega (arith, all, high, places_long))))
    (once_from ends are.near (length roads) stops (omega (arith, long)) (All-map (λ (place : Place × List Join). Differ place.1) joined_stop entries (λ k d below. stops_differ)))
    (once_from ends are.near (length roads + length entries) places (omega (arith, long))
    (All-map (λ (place : Place × List Join). Differ place.1) joined_switch switches (λ k d below. switches_differ (get_or switches k d).amenity))) in
    let once = once_permutation (same_key arc_cmp) (front ++ back) links are.are.same once_given in
    let bad : position (λ link. not (joins_layers (length roads) nodes link)) links ≡ None = position_none (joins_layers (length roads) nodes) links sorted in
    let unsorted : first_unsorted arc_cmp 0 links ≡ None = rises_sorted arc_cmp 0 links (rises_from_sorted arc_cmp arc_total links are.are.ascend once) in
    rw (bad, unsorted) refl
