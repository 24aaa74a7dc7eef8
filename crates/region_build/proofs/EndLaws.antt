-- The ends of a map's road arcs ascend, each has a number of its own, and the road nodes are theirs.
use Rattle.plan_base.proofs.Common.{◌≡◌, ℕ, ℤ, ap₂, suc, ◌+◌, ◌<◌, List, [], ◌∷◌, ◌++◌, length, map, get_or, Bool, true, false, Option, None, Some, if◌then◌else◌, refl, sym, ap, subst, ◌∙◌, arith, is_some, nat_eq, option_and_then, option_map, option_to_list, slice_get, IsTotalOrder, nat_cmp_total, int_cmp_total, All, flat_map, list_any, IsSorted, int_cmp, int_eq, is_lt, nat_cmp, ordering_reverse, ordering_then, Ordering, Less, Equal, Greater, and_from, and_parts, false≢true, or_parts, Decides-int_eq, on_total, then_total, length-map, All-append, All-cons, All-head, All-nil, All-tail, position-Some, All-permutation, ranks_by, sorted_far, exact_pairs, exact_signed, exact_unsigned, slice_get-get_or}
use Rattle.std.proofs.lemmas.Option.{slice_get-map}
use Rattle.plan_base.specs.{number_of_mode, Mode, Place}
use Rattle.opl_reader.specs.ObjectLists.{ObjectLists}
use Rattle.road_profile.specs.{JoinsPlaces, place_of_node}
use Rattle.road_profile.proofs.EndLaws.{arcs_joined}
use Rattle.mode_network.proofs.RuleLemmas.{mode_by_number, mode_is_same, same_mode_is}
use Rattle.mode_network.specs.{mode_at, mode_of, first_unsorted, node_cmp, rank_of, Arc, Node, NodeKey, Road}
use Rattle.region_build.specs.{AreRoads, End, end_cmp, ends_at, is_same_end, key_of_end, number_of_end, once_behind, road_node, road_nodes}
use Rattle.region_build.proofs.{OrderLaws.Rises, OrderLaws.rises_by, OrderLaws.rises_map, OrderLaws.rises_push, OrderLaws.rises_sorted, PartLaws.flat_map-if, PartLaws.once_keeps}

pub end_total : IsTotalOrder end_cmp
end_total = then_total (on_total (λ (end : End). end.0) int_cmp_total) (on_total (λ (end : End). number_of_mode end.1) nat_cmp_total)

same_end : (a b : End) → is_same_end a b ≡ true → (a.0 ≡ b.0) × (a.1 ≡ b.1)
same_end a b e =
    let parts = and_parts (int_eq a.0 b.0) (nat_eq (number_of_mode a.1) (number_of_mode b.1)) e in
    ((Decides-int_eq a.0 b.0).0 parts.0, same_mode_is a.1 b.1 parts.1)

-- ends that stand at one place of the order are one
pub exact_end : (x e : End) → end_cmp x e ≡ Equal → x ≡ e
exact_end x e is =
    let keys : key_of_end x ≡ key_of_end e = exact_pairs int_cmp nat_cmp exact_signed exact_unsigned (key_of_end x) (key_of_end e) is in
    ap₂ (λ (id : ℤ) (mode : Mode). (id, mode)) (ap (λ (key : ℤ × ℕ). key.0) keys) (mode_by_number x.1 e.1 (ap (λ (key : ℤ × ℕ). key.1) keys))

-- an end that is another's, and not below it, is above it
is_above : (x e : End) → is_same_end e x ≡ false → is_lt (end_cmp e x) ≡ false → is_lt (end_cmp x e) ≡ true
is_above x e differs not_below = by_order (end_cmp x e) refl
  where
    by_order : (o : Ordering) → end_cmp x e ≡ o → is_lt (end_cmp x e) ≡ true
    by_order Less is = ap is_lt is
    by_order Equal is =
        let one = exact_end x e is in
        let itself : is_same_end e e ≡ true = and_from (int_eq e.0 e.0) (nat_eq (number_of_mode e.1) (number_of_mode e.1)) ((Decides-int_eq e.0 e.0).1 refl) (mode_is_same e.1) in
        absurd (false≢true (sym differs ∙ ap (is_same_end e) one ∙ itself))
    by_order Greater is = absurd (false≢true (sym not_below ∙ ap is_lt (end_total.antisymm e x ∙ ap ordering_reverse is)))

-- no later one is below an earlier one
abbrev Upward : List End → Type 0
Upward [] = Unit {0}
Upward (e ∷ es) = All (λ y. is_lt (end_cmp y e) ≡ false) es × Upward es

upward : (es : List End) → IsSorted end_cmp es → Upward es
upward [] sorted = tt
upward (e ∷ es) sorted = (
  (λ k d below. sorted_far (λ x y. is_lt (end_cmp x y)) (ranks_by end_total (λ (x : End). x)) (e ∷ es) sorted 0 (suc k) d (omega arith) (omega arith)),
  upward es
      (λ k d low below.
      let next : suc k + 1 ≡ suc (k + 1) = omega arith in
      rw next at (sorted (suc k) d (omega arith) (omega arith))),
)

above_all : (e : End) (seen : List End) → list_any (is_same_end e) seen ≡ false → All (λ x. is_lt (end_cmp e x) ≡ false) seen → All (λ x. is_lt (end_cmp x e) ≡ true) seen
above_all e [] new low = All-nil (λ x. is_lt (end_cmp x e) ≡ true)
above_all e (x ∷ seen) new low =
    let parts = or_parts (is_same_end e x) (list_any (is_same_end e) seen) new in
    All-cons (λ x. is_lt (end_cmp x e) ≡ true) x seen (is_above x e parts.0 (All-head (λ x. is_lt (end_cmp e x) ≡ false) x seen low))
    (above_all e seen parts.1 (All-tail (λ x. is_lt (end_cmp e x) ≡ false) x seen low))

once_rises : (seen es : List End) → Rises end_cmp seen → Upward es → All (λ x. All (λ y. is_lt (end_cmp y x) ≡ false) es) seen → Rises end_cmp (once_behind seen es)
once_rises seen [] rises up low = rises
once_rises seen (e ∷ es) rises up low = by_test (λ seen rises low. once_rises seen es rises up.1 low) (list_any (is_same_end e) seen) refl
  where
    later : All (λ x. All (λ y. is_lt (end_cmp y x) ≡ false) es) seen
    later k d below = All-tail (λ y. is_lt (end_cmp y (get_or seen k d)) ≡ false) e es (low k d below)

    now_low : All (λ x. is_lt (end_cmp e x) ≡ false) seen
    now_low k d below = All-head (λ y. is_lt (end_cmp y (get_or seen k d)) ≡ false) e es (low k d below)

    by_test : ((seen : List End) → Rises end_cmp seen → All (λ x. All (λ y. is_lt (end_cmp y x) ≡ false) es) seen → Rises end_cmp (once_behind seen es))
        → (known : Bool) → list_any (is_same_end e) seen ≡ known → Rises end_cmp (once_behind (if known then seen else seen ++ e ∷ []) es)
    by_test rest true is = rest seen rises later
    by_test rest false is =
        rest (seen ++ e ∷ []) (rises_push end_cmp seen e rises (above_all e seen is now_low))
        (All-append (λ x. All (λ y. is_lt (end_cmp y x) ≡ false) es) seen (e ∷ []) later
        (All-cons (λ x. All (λ y. is_lt (end_cmp y x) ≡ false) es) e [] up.0 (All-nil (λ x. All (λ y. is_lt (end_cmp y x) ≡ false) es))))

-- the end that has a number
pub number_is : (ends : List End) (end : End) (k : ℕ) (d : End) → number_of_end ends end ≡ Some k → (k < length ends) × ((end.0 ≡ (get_or ends k d).0) × (end.1 ≡ (get_or ends k d).1))
unfolding number_of_end
number_is ends end k d e =
    let found = position-Some (is_same_end end) ends k d e in
    (found.0, same_end end (get_or ends k d) found.1)

pub number_same : (ends : List End) (a b : End) (k : ℕ) → number_of_end ends a ≡ Some k → number_of_end ends b ≡ Some k → (a.0 ≡ b.0) × (a.1 ≡ b.1)
number_same ends a b k p q =
    let here = number_is ends a k a p in
    let there = number_is ends b k a q in
    (here.1.0 ∙ sym there.1.0, here.1.1 ∙ sym there.1.1)

-- the key of an end's node
abbrev key_of : End → NodeKey
key_of end = Road end.1 end.0

abbrev key_cmp : NodeKey → NodeKey → Ordering
key_cmp a b = ordering_then (int_cmp (rank_of a).0 (rank_of b).0) (nat_cmp (rank_of a).1 (rank_of b).1)

module _ (objects : ObjectLists) (ends : List End) (nodes : List Node) (arcs : List Arc) (are : AreRoads objects ends nodes arcs) where
  abbrev IsPlaced : End → Type 0
  IsPlaced end = is_some (place_of_node objects.nodes end.0) ≡ true

  placed : All IsPlaced ends
  placed =
      let given = flat_map-if IsPlaced (JoinsPlaces objects.nodes) ends_at (λ row joins.
      All-cons IsPlaced (row.from, row.mode) ((row.to, row.mode) ∷ []) joins.from
      (All-cons IsPlaced (row.to, row.mode) [] joins.to (All-nil IsPlaced))) are.rows (arcs_joined objects are.rows are.rows_are) in
      let sorted = All-permutation IsPlaced (flat_map ends_at are.rows) are.ends_are.sorted are.ends_are.same given in
      subst (All IsPlaced) (sym are.ends_are.once) (once_keeps IsPlaced [] are.ends_are.sorted (All-nil IsPlaced) sorted)

  keys_of_ends : (es : List End) → All IsPlaced es → map (λ (node : Node). node.key) (road_nodes (place_of_node objects.nodes) es) ≡ map key_of es
  unfolding road_node
  keys_of_ends [] all = refl
  keys_of_ends (e ∷ es) all = by_place (keys_of_ends es (All-tail IsPlaced e es all)) (place_of_node objects.nodes e.0) (All-head IsPlaced e es all)
    where
      by_place : map (λ (node : Node). node.key) (road_nodes (place_of_node objects.nodes) es) ≡ map key_of es → (there : Option Place) → is_some there ≡ true
          → map (λ (node : Node). node.key) (option_to_list (option_map (λ (place : Place). record { key = Road e.1 e.0; place = place }) there) ++ road_nodes (place_of_node objects.nodes) es) ≡ key_of e ∷ map key_of es
      by_place rest None some = absurd (false≢true some)
      by_place rest (Some there) some = ap (λ keys. key_of e ∷ keys) rest

  keys_are : map (λ (node : Node). node.key) nodes ≡ map key_of ends
  keys_are = ap (map (λ (node : Node). node.key)) are.nodes_are ∙ keys_of_ends ends placed

  pub roads_long : length nodes ≡ length ends
  roads_long = sym (length-map nodes (λ (node : Node). node.key)) ∙ ap length keys_are ∙ length-map ends key_of

  -- the node with the number of an end is of its mode
  pub mode_of_number : (end : End) (k : ℕ) → number_of_end ends end ≡ Some k → mode_at nodes k ≡ Some end.1
  mode_of_number end k e =
      let found = number_is ends end k end e in
      by_key (slice_get nodes k)
      ∙ ap (option_and_then mode_of) (sym (slice_get-map (λ (node : Node). node.key) nodes k) ∙ ap (λ keys. slice_get keys k) keys_are ∙ slice_get-map key_of ends k ∙ ap (option_map key_of) (slice_get-get_or ends k end found.0))
      ∙ ap Some (sym found.1.1)
    where
      by_key : (node : Option Node) → option_and_then (λ (node : Node). mode_of node.key) node ≡ option_and_then mode_of (option_map (λ (node : Node). node.key) node)
      by_key None = refl
      by_key (Some node) = refl

  pub roads_rise : first_unsorted node_cmp 0 nodes ≡ None
  roads_rise =
      let ascend = once_rises [] are.ends_are.sorted tt (upward are.ends_are.sorted are.ends_are.ascend) (All-nil (λ x. All (λ y. is_lt (end_cmp y x) ≡ false) are.ends_are.sorted)) in
      let ends_rise = subst (Rises end_cmp) (sym are.ends_are.once) ascend in
      let keys_rise = rises_map end_cmp key_cmp key_of (λ a b h. h) ends ends_rise in
      rises_sorted node_cmp 0 nodes (rises_by key_cmp (λ (node : Node). node.key) nodes (subst (Rises key_cmp) (sym keys_are) keys_rise))
