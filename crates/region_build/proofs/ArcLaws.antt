-- The road arcs of a map join numbers of one mode, and ascend.
use Rattle.plan_base.proofs.Common.{◌≡◌, ℕ, suc, List, [], ◌∷◌, ◌++◌, length, Bool, true, false, not, Option, None, Some, refl, sym, ap, ◌∙◌, arith, nat_eq, nat_lt, ◌==◌, option_to_list, IsTotalOrder, int_cmp_total, nat_cmp_total, All, AllPairs, position, position_or_len, Less, Equal, and_from, false_from_ne_true, nat_tests, on_total, then_total, tied_itself, All-cons, All-head, All-nil, All-tail, All-permutation, same_Some}
use Rattle.plan_base.specs.{Arcs, number_of_mode}
use Rattle.opl_reader.specs.ObjectLists.{ObjectLists}
use Rattle.road_profile.specs.{JoinsPlaces, row_cmp, RoadRow}
use Rattle.road_profile.proofs.EndLaws.{arcs_joined}
use Rattle.mode_network.proofs.RuleLemmas.{mode_is_same}
use Rattle.mode_network.specs.{mode_at, arc_cmp, end_or_order_fault, first_unsorted, is_same_mode, joins_modes, Arc, Node}
use Rattle.region_build.specs.{AreRoads, End, number_of_end, arc_between, arc_by_row, arcs_of}
use Rattle.region_build.proofs.{EndLaws.mode_of_number, EndLaws.number_same, OrderLaws.None_of, OrderLaws.Once, OrderLaws.none_cons, OrderLaws.once_cons, OrderLaws.once_nil, OrderLaws.once_permutation, OrderLaws.rises_from_sorted, OrderLaws.rises_sorted, OrderLaws.same_key, PartLaws.flat_map-if}

pub arc_total : IsTotalOrder arc_cmp
arc_total = then_total (on_total (λ (arc : Arc). arc.from) nat_cmp_total) (on_total (λ (arc : Arc). arc.to) nat_cmp_total)

-- arcs that are the same as one have the same ends
pub same_ends : (q a b : Arc) → same_key arc_cmp q a ≡ true → same_key arc_cmp q b ≡ true → (a.from ≡ b.from) × (a.to ≡ b.to)
same_ends q a b e f = let here = of_one q a e in let there = of_one q b f in (sym here.0 ∙ there.0, sym here.1 ∙ there.1)
  where
    of_one : (a b : Arc) → same_key arc_cmp a b ≡ true → (a.from ≡ b.from) × (a.to ≡ b.to)
    of_one a b e = grind (arith, nat_tests, e)

-- nothing is the first that fails, where all pass
none_fails : {X : Type 0} (p : X → Bool) (ys : List X) → All (λ y. p y ≡ true) ys → position_or_len (λ y. not (p y)) ys ≡ length ys
none_fails p [] all = refl
none_fails p (y ∷ ys) all = rw (All-head (λ y. p y ≡ true) y ys all) (let rest = none_fails p ys (All-tail (λ y. p y ≡ true) y ys all) in omega (arith, rest))

pub position_none : {X : Type 0} (p : X → Bool) (xs : List X) → All (λ x. p x ≡ true) xs → position (λ x. not (p x)) xs ≡ None
position_none p xs all =
    let none : position_or_len (λ x. not (p x)) xs ≡ length xs = none_fails p xs all in
    rw none (let test : nat_lt (length xs) (length xs) ≡ false = grind (arith, nat_tests) in rw test refl)

-- where a row's arc leads from and to
arc_ends : (from to : Option ℕ) (ms : ℕ) (arc : Arc) → arc_between from to ms ≡ Some arc → (from ≡ Some arc.from) × (to ≡ Some arc.to)
arc_ends None to ms arc e = absurd cc
arc_ends (Some from) None ms arc e = absurd cc
arc_ends (Some from) (Some to) ms arc e =
    let one = same_Some (record { from = from; to = to; ms = ms }) arc e in
    (ap (λ (arc : Arc). Some arc.from) one, ap (λ (arc : Arc). Some arc.to) one)

module _ (ends : List End) where
  -- rows of which one is below the other have different arcs
  differ : (row other : RoadRow) (q arc : Arc) → row_cmp row other ≡ Less → arc_by_row ends row ≡ Some q → arc_by_row ends other ≡ Some arc → (q.from ≡ arc.from) × (q.to ≡ arc.to) → ⊥
  unfolding arc_by_row
  differ row other q arc below one two same =
      let here = arc_ends (number_of_end ends (row.from, row.mode)) (number_of_end ends (row.to, row.mode)) row.ms q one in
      let there = arc_ends (number_of_end ends (other.from, other.mode)) (number_of_end ends (other.to, other.mode)) other.ms arc two in
      let from = number_same ends (row.from, row.mode) (other.from, other.mode) q.from here.0 (there.0 ∙ ap Some (sym same.0)) in
      let to = number_same ends (row.to, row.mode) (other.to, other.mode) q.to here.1 (there.1 ∙ ap Some (sym same.1)) in
      equal_is_not_below row other from.0 to.0 from.1 below
    where
      equal_is_not_below : (row other : RoadRow) → row.from ≡ other.from → row.to ≡ other.to → row.mode ≡ other.mode → row_cmp row other ≡ Less → ⊥
      equal_is_not_below row other from to mode below =
          let tied : row_cmp row other ≡ Equal = rw (from, to, mode, tied_itself int_cmp_total other.from, tied_itself int_cmp_total other.to, tied_itself nat_cmp_total (number_of_mode other.mode)) refl in
          let both : Less ≡ Equal = sym below ∙ tied in
          cc

  none_later : (q : Arc) (row : RoadRow) → arc_by_row ends row ≡ Some q → (q2 : Arc) → same_key arc_cmp q2 q ≡ true → (rows : List RoadRow) → All (λ other. row_cmp row other ≡ Less) rows → None_of (same_key arc_cmp) q2 (arcs_of ends rows)
  none_later q row is q2 same [] all = refl
  none_later q row is q2 same (other ∷ rows) all = by_arc (none_later q row is q2 same rows (All-tail (λ other. row_cmp row other ≡ Less) other rows all)) (arc_by_row ends other) refl
    where
      by_arc : None_of (same_key arc_cmp) q2 (arcs_of ends rows) → (arc : Option Arc) → arc_by_row ends other ≡ arc → None_of (same_key arc_cmp) q2 (option_to_list arc ++ arcs_of ends rows)
      by_arc later None e = later
      by_arc later (Some arc) e =
          none_cons (same_key arc_cmp) q2 arc (arcs_of ends rows)
          (false_from_ne_true (same_key arc_cmp q2 arc) (λ f. differ row other q arc (All-head (λ other. row_cmp row other ≡ Less) other rows all) is e (same_ends q2 q arc same f))) later

  once_each : (rows : List RoadRow) → AllPairs (λ a b. row_cmp a b ≡ Less) rows → Once (same_key arc_cmp) (arcs_of ends rows)
  once_each [] pairs = once_nil (same_key arc_cmp)
  once_each (row ∷ rows) pairs = by_arc (once_each rows (λ i j d below within. pairs (suc i) (suc j) d (omega arith) (omega arith))) (arc_by_row ends row) refl
    where
      below_all : All (λ other. row_cmp row other ≡ Less) rows
      below_all k d within = pairs 0 (suc k) d (omega arith) (omega arith)

      by_arc : Once (same_key arc_cmp) (arcs_of ends rows) → (arc : Option Arc) → arc_by_row ends row ≡ arc → Once (same_key arc_cmp) (option_to_list arc ++ arcs_of ends rows)
      by_arc others None e = others
      by_arc others (Some arc) e = once_cons (same_key arc_cmp) arc (arcs_of ends rows) (λ q same. none_later arc row e q same rows below_all) others

module _ (objects : ObjectLists) (ends : List End) (nodes : List Node) (arcs : List Arc) (are : AreRoads objects ends nodes arcs) where
  row_joins : (row : RoadRow) → JoinsPlaces objects.nodes row → All (λ arc. joins_modes nodes arc ≡ true) (option_to_list (arc_by_row ends row))
  unfolding arc_by_row
  row_joins row joins = by_numbers (number_of_end ends (row.from, row.mode)) (number_of_end ends (row.to, row.mode)) refl refl
    where
      by_numbers : (from to : Option ℕ) → number_of_end ends (row.from, row.mode) ≡ from → number_of_end ends (row.to, row.mode) ≡ to → All (λ arc. joins_modes nodes arc ≡ true) (option_to_list (arc_between from to row.ms))
      by_numbers None to p q = All-nil (λ arc. joins_modes nodes arc ≡ true)
      by_numbers (Some from) None p q = All-nil (λ arc. joins_modes nodes arc ≡ true)
      by_numbers (Some from) (Some to) p q =
          let one : mode_at nodes from ≡ Some row.mode = mode_of_number objects ends nodes arcs are (row.from, row.mode) from p in
          let two : mode_at nodes to ≡ Some row.mode = mode_of_number objects ends nodes arcs are (row.to, row.mode) to q in
          let mode : is_same_mode (mode_at nodes from) (mode_at nodes to) ≡ true = rw (one, two) (mode_is_same row.mode) in
          All-cons (λ arc. joins_modes nodes arc ≡ true) (record { from = from; to = to; ms = row.ms }) []
          (and_from (is_same_mode (mode_at nodes from) (mode_at nodes to)) (not (from == to)) mode (apart (nat_eq from to) refl))
          (All-nil (λ arc. joins_modes nodes arc ≡ true))
        where
          apart : (t : Bool) → nat_eq from to ≡ t → not (nat_eq from to) ≡ true
          apart false e = ap not e
          apart true e =
              let one : from ≡ to = grind (arith, nat_tests, e) in
              absurd (joins.differ (number_same ends (row.from, row.mode) (row.to, row.mode) from p (q ∙ ap Some (sym one))).0)

  pub arcs_right : end_or_order_fault Arcs (position (λ arc. not (joins_modes nodes arc)) arcs) (first_unsorted arc_cmp 0 arcs) ≡ None
  arcs_right =
      let given = flat_map-if (λ arc. joins_modes nodes arc ≡ true) (JoinsPlaces objects.nodes) (λ row. option_to_list (arc_by_row ends row)) row_joins are.rows (arcs_joined objects are.rows are.rows_are) in
      let joined = All-permutation (λ arc. joins_modes nodes arc ≡ true) (arcs_of ends are.rows) arcs are.arcs_are.same given in
      let once = once_permutation (same_key arc_cmp) (arcs_of ends are.rows) arcs are.arcs_are.same (once_each ends are.rows are.rows_are.ascending) in
      let bad : position (λ arc. not (joins_modes nodes arc)) arcs ≡ None = position_none (joins_modes nodes) arcs joined in
      let unsorted : first_unsorted arc_cmp 0 arcs ≡ None = rises_sorted arc_cmp 0 arcs (rises_from_sorted arc_cmp arc_total arcs are.arcs_are.ascend once) in
      rw (bad, unsorted) refl
