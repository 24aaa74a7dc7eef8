-- The links join a road node and a stop or a switch, and ascend.
use Rattle.plan_base.proofs.Common.{◌≡◌, ℕ, pos, ◌+◌, ◌*◌, ◌<◌, ◌≤◌, ◌⊎◌, inl, inr, ⊎_elim, List, [], ◌∷◌, ◌++◌, length, nat_le, nat_lt, true, not, ◌&&◌, None, Some, if◌then◌else◌, refl, sym, ap, subst, ◌∙◌, arith, append_assoc, position, IsPermutation, is_eq, nat_tests, All-permutation, IsPermutation-append_comm, IsPermutation-append_right, IsPermutation-trans, length_permutation}
use Rattle.plan_base.specs.{Links}
use Rattle.mode_network.specs.{AreInOrder, arc_cmp, end_or_order_fault, first_unsorted, joins_layers, Arc, Node}
use Rattle.mode_network.proofs.RuleLemmas.{arcs_total}
use Rattle.sample_city.specs.{arc_between, road_number, city_links, city_stop_links, city_switch_links, first_corner, last_corner, link_both, CityStop}
use Rattle.sample_city.proofs.{ArcLaws.arc_rises, ArcLaws.position_none, ArcLaws.same_ends, RiseLaws.Rise, RiseLaws.rise_all, RiseLaws.rise_append, RiseLaws.rise_few, RiseLaws.rise_sorted, RoadLaws.number_below, RoadLaws.number_same}

module _ (nodes : List Node) where
  -- a link between a place behind the road nodes and a road node, tagged by the place, the mode and the way
  record IsLinkBy (tag : ℕ) (link : Arc) : Type 0 where
    place : ℕ
    id : ℕ
    mode : ℕ
    out : ℕ
    road : ℕ
    is : tag ≡ 4 * place + 2 * mode + out
    low : mode < 2
    behind : length nodes ≤ place
    number : road_number nodes (pos id, mode) ≡ Some road
    ends : ((out ≡ 0) × (link.from ≡ road) × (link.to ≡ place)) ⊎ ((out ≡ 1) × (link.from ≡ place) × (link.to ≡ road))

  road_below : (tag : ℕ) (link : Arc) (p : IsLinkBy tag link) → p.road < length nodes
  road_below tag link p = number_below nodes p.id p.mode p.road p.number

  one_tag : (tag other : ℕ) (a b : Arc) → IsLinkBy tag a → IsLinkBy other b → is_eq (arc_cmp a b) ≡ true → tag ≡ other
  one_tag tag other a b p q e =
      let same = same_ends a b e in
      let below = road_below tag a p in
      let under = road_below other b q in
      let behind = p.behind in
      let past = q.behind in
      let one = p.ends in
      let two = q.ends in
      let alike : (p.road ≡ q.road) × (p.place ≡ q.place) × (p.out ≡ q.out) = (
        grind (arith, same, below, under, behind, past, one, two),
        grind (arith, same, below, under, behind, past, one, two),
        grind (arith, same, below, under, behind, past, one, two),
      ) in
      let modes = (number_same nodes p.id p.mode q.id q.mode p.road p.number (q.number ∙ ap Some (sym alike.0))).1 in
      omega (arith, p.is, q.is, alike.1, alike.2, modes)

  into_rises : (ms place id mode low high : ℕ) → mode < 2 → length nodes ≤ place → low ≡ 4 * place + 2 * mode → low < high → Rise IsLinkBy low high (arc_between (road_number nodes (pos id, mode)) (Some place) ms)
  into_rises ms place id mode low high small behind is below =
      arc_rises IsLinkBy (road_number nodes (pos id, mode)) (Some place) ms low high below (λ road end e f.
      record { place = place; id = id; mode = mode; out = 0; road = road; is = omega (arith, is); low = small; behind = behind; number = e; ends = inl (refl, refl, cc) })

  out_rises : (ms place id mode low high : ℕ) → mode < 2 → length nodes ≤ place → low ≡ 4 * place + 2 * mode + 1 → low < high → Rise IsLinkBy low high (arc_between (Some place) (road_number nodes (pos id, mode)) ms)
  out_rises ms place id mode low high small behind is below =
      arc_rises IsLinkBy (Some place) (road_number nodes (pos id, mode)) ms low high below (λ start road e f.
      record { place = place; id = id; mode = mode; out = 1; road = road; is = is; low = small; behind = behind; number = f; ends = inr (refl, cc, refl) })

  both_rise : (ms place id mode low high : ℕ) → mode < 2 → length nodes ≤ place → low ≡ 4 * place + 2 * mode → low + 2 ≤ high → Rise IsLinkBy low high (link_both ms place (road_number nodes (pos id, mode)))
  both_rise ms place id mode low high small behind is below =
      rise_append IsLinkBy low (low + 1) high (arc_between (road_number nodes (pos id, mode)) (Some place) ms) (arc_between (Some place) (road_number nodes (pos id, mode)) ms)
      (into_rises ms place id mode low (low + 1) small behind is (omega arith)) (out_rises ms place id mode (low + 1) high small behind (omega (arith, is)) (omega (arith, below)))

  stop_links_rise : (k high : ℕ) (stops : List CityStop) → length nodes ≤ k → high ≡ 4 * (k + length stops) → Rise IsLinkBy (4 * k) high (city_stop_links (road_number nodes) k stops)
  stop_links_rise k high [] behind is = omega (arith, is)
  stop_links_rise k high (stop ∷ stops) behind is =
      rise_append IsLinkBy (4 * k) (4 * (k + 1)) high (link_both 60000 k (road_number nodes (pos stop.id, 0))) (city_stop_links (road_number nodes) (k + 1) stops)
      (both_rise 60000 k stop.id 0 (4 * k) (4 * (k + 1)) (omega arith) behind (omega arith) (omega arith))
      (stop_links_rise (k + 1) high stops (omega (arith, behind)) (omega (arith, is)))

  module _ (n k : ℕ) where
    abbrev hired : List Arc
    hired = link_both 30000 k (road_number nodes (pos (first_corner n).id, 0)) ++ link_both 30000 k (road_number nodes (pos (first_corner n).id, 1))

    abbrev parked : List Arc
    parked = arc_between (road_number nodes (pos (last_corner n).id, 1)) (Some (k + 1)) 30000

    abbrev left : List Arc
    left = arc_between (Some (k + 1)) (road_number nodes (pos (last_corner n).id, 0)) 30000

    switch_links_rise : length nodes ≤ k → Rise IsLinkBy (4 * k) (4 * (k + 2)) (hired ++ (left ++ parked))
    switch_links_rise behind =
        rise_append IsLinkBy (4 * k) (4 * (k + 1)) (4 * (k + 2)) hired (left ++ parked)
        (rise_append IsLinkBy (4 * k) (4 * k + 2) (4 * (k + 1)) (link_both 30000 k (road_number nodes (pos (first_corner n).id, 0))) (link_both 30000 k (road_number nodes (pos (first_corner n).id, 1)))
        (both_rise 30000 k (first_corner n).id 0 (4 * k) (4 * k + 2) (omega arith) behind (omega arith) (omega arith))
        (both_rise 30000 k (first_corner n).id 1 (4 * k + 2) (4 * (k + 1)) (omega arith) behind (omega arith) (omega arith)))
        (rise_append IsLinkBy (4 * (k + 1)) (4 * (k + 1) + 2) (4 * (k + 2)) left parked
        (rise_out (out_rises 30000 (k + 1) (last_corner n).id 0 (4 * (k + 1) + 1) (4 * (k + 1) + 2) (omega arith) (omega (arith, behind)) (omega arith) (omega arith)))
        (into_rises 30000 (k + 1) (last_corner n).id 1 (4 * (k + 1) + 2) (4 * (k + 2)) (omega arith) (omega (arith, behind)) (omega arith) (omega arith)))
      where
        rise_out : Rise IsLinkBy (4 * (k + 1) + 1) (4 * (k + 1) + 2) left → Rise IsLinkBy (4 * (k + 1)) (4 * (k + 1) + 2) left
        rise_out rise = rise_append IsLinkBy (4 * (k + 1)) (4 * (k + 1) + 1) (4 * (k + 1) + 2) [] left (omega arith) rise

    switches_moved : IsPermutation (hired ++ (left ++ parked)) (city_switch_links n (road_number nodes) k)
    switches_moved =
        subst (λ links. IsPermutation (hired ++ (left ++ parked)) links) (sym (append_assoc hired parked left))
        (IsPermutation-append_right hired (left ++ parked) (parked ++ left) (IsPermutation-append_comm left parked))

  module _ (n : ℕ) (stops : List CityStop) (links : List Arc) (are : AreInOrder (city_links n (road_number nodes) (length nodes) stops) links) where
    abbrev last : ℕ
    last = length nodes + length stops

    abbrev given : List Arc
    given = city_stop_links (road_number nodes) (length nodes) stops ++ (hired n last ++ (left n last ++ parked n last))

    behind : length nodes ≤ last
    behind = omega arith

    moved : IsPermutation given links
    moved =
        IsPermutation-trans given (city_links n (road_number nodes) (length nodes) stops) links
        (IsPermutation-append_right (city_stop_links (road_number nodes) (length nodes) stops) _ _ (switches_moved n last)) are.same

    links_rise : Rise IsLinkBy (4 * length nodes) (4 * (last + 2)) given
    links_rise =
        rise_append IsLinkBy (4 * length nodes) (4 * last) (4 * (last + 2)) (city_stop_links (road_number nodes) (length nodes) stops) _
        (stop_links_rise (length nodes) (4 * last) stops (omega arith) refl) (switch_links_rise n last behind)

    link_joins : (tag : ℕ) (link : Arc) → tag < 4 * (last + 2) → IsLinkBy tag link → joins_layers (length nodes) (last + 2) link ≡ true
    link_joins tag link below p =
        let road = road_below tag link p in
        let place : p.place < last + 2 = omega (arith, below, p.is) in
        let past = p.behind in
        let ends = p.ends in
        ⊎_elim
        (λ into. joined link.from link.to (omega (arith, into.1, road, past, place)) (omega (arith, into.2, place)) (inl (omega (arith, into.1, road), omega (arith, into.2, past))))
        (λ out. joined link.from link.to (omega (arith, out.1, place)) (omega (arith, out.2, road, past, place)) (inr (omega (arith, out.1, past), omega (arith, out.2, road))))
        ends
      where
        joined : (from to : ℕ) → from < last + 2 → to < last + 2 → ((from < length nodes) × (length nodes ≤ to)) ⊎ ((length nodes ≤ from) × (to < length nodes))
            → (nat_lt from (last + 2) && nat_lt to (last + 2) && (if nat_lt from (length nodes) then nat_le (length nodes) to else nat_lt to (length nodes))) ≡ true
        joined from to p q h = grind (arith, nat_tests, p, q, h)

    pub links_right : (all : ℕ) → all ≡ last + 2 → end_or_order_fault Links (position (λ link. not (joins_layers (length nodes) all link)) links) (first_unsorted arc_cmp 0 links) ≡ None
    links_right all same =
        let joined = All-permutation (λ link. joins_layers (length nodes) (last + 2) link ≡ true) given links moved
        (rise_all IsLinkBy (λ link. joins_layers (length nodes) (last + 2) link ≡ true) (4 * (last + 2)) link_joins (4 * length nodes) given links_rise) in
        let bad : position (λ link. not (joins_layers (length nodes) (last + 2) link)) links ≡ None = position_none (joins_layers (length nodes) (last + 2)) links joined in
        let unsorted : first_unsorted arc_cmp 0 links ≡ None = rise_sorted IsLinkBy arc_cmp arcs_total one_tag (4 * length nodes) (4 * (last + 2)) given links links_rise moved are.ascend in
        rw (same, bad, unsorted) refl

    pub links_few : length links ≤ 4 * (length stops + 2)
    links_few = omega (arith, length_permutation given links moved, rise_few IsLinkBy (4 * length nodes) (4 * (last + 2)) given links_rise)
