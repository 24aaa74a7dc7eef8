-- The ways by a node, in order.
use Rattle.plan_base.proofs.Common.{◌≡◌, ◌≢◌, ℕ, ◌+◌, ◌<◌, ◌≤◌, ◌⊎◌, inl, inr, Bool, true, nat_eq, ◌&&◌, List, [], ◌∷◌, ◌∙◌, length, take, get_or, refl, sym, ap, subst, arith, AllPairs, Contains, IsPermutation, IsSorted, Vec, Global, dedup, IsTotalOrder, eq_by_cmp, Less, cases_order, nat_tests, then_total, on_total, nat_cmp_total, eq_by_cmp_equiv, Contains-from_dedup, IsStrictlySortedBy-dedup, Contains-permutation, IsPermutation-sym, All-contains, All-more, All-weaker, Contains-append_left, Contains-push, Contains-push_cases, Contains-get_or, All-contains_itself, take_more, get_or_default}
use mathlib.Core.Path.{fun_ext}
use Rattle.std.proofs.lemmas.List.Kept.{Contains-dedup}
use Rattle.std.proofs.lemmas.Map.Keys.{Less-from_sorted}
use Rattle.hierarchy.specs.{Entry, HierarchyLists, HasEntry, HasLighter}
use Rattle.contractor.specs.{inside.IsWayPast, inside.AreWays, inside.HaveOtherEnds, inside.HasWithin, inside.IsListedOrWithin, inside.IsWayTaken, inside.IsWayOf, inside.AreWaysWith, inside.AreWaysOf, inside.AreFirst, inside.AreSecond, inside.way_with, inside.way_cmp, inside.side_of, declared.way.Way.Way, declared.way.Side.Side}
use Rattle.witness.specs.{Edge, row_at}
use Rattle.witness.proofs.ListLemmas.{contains_head, head_or_tail}
use Rattle.contractor.proofs.ListLemmas.{none_in, take_more_cases}

-- tests that agree are one
same_test : (E : Way → Way → Bool) → ((a b : Way) → E a b ≡ eq_by_cmp way_cmp a b) → E ≡ eq_by_cmp way_cmp
same_test E ties = fun_ext (λ a. fun_ext (λ b. ties a b))

-- the ways from nodes so far
pub record AreWaysSoFar (rows : List (Vec Edge Global)) (first : List Side) (second : List Edge) (ways : List Way) : Type 0 where
  pub each : (way : Way) → Contains ways way → IsWayOf first second way
  pub all : (side : Side) (edge : Edge) → Contains first side → Contains second edge → side.node ≢ edge.to → IsListedOrWithin (row_at rows side.node) ways (way_with side edge)

wider : (first wide : List Side) (second long : List Edge) (way : Way) → ((side : Side) → Contains first side → Contains wide side) → ((edge : Edge) → Contains second edge → Contains long edge) → IsWayOf first second way → IsWayOf wide long way
wider first wide second long way sides edges w = record { side = w.side; edge = w.edge; is_side = sides w.side w.is_side; is_edge = edges w.edge w.is_edge; differ = w.differ; is = w.is }

contains_more_left : {X : Type 0} (xs : List X) (i : ℕ) (d : X) (y : X) → i < length xs → Contains (take i xs) y → Contains (take (i + 1) xs) y
contains_more_left xs i d y lt there = subst (λ ys. Contains ys y) (sym (take_more xs i d lt)) (Contains-append_left (take i xs) (get_or xs i d ∷ []) y there)

contains_more_here : {X : Type 0} (xs : List X) (i : ℕ) (d : X) → i < length xs → Contains (take (i + 1) xs) (get_or xs i d)
contains_more_here xs i d lt = subst (λ ys. Contains ys (get_or xs i d)) (sym (take_more xs i d lt)) (Contains-push (take i xs) (get_or xs i d))

-- ---- one node

module _ (row : List Edge) (side : Side) (second : List Edge) (old ways new : List Way) (i : ℕ) (d : Edge) (lt : i < length second) (are : AreWaysWith row side (take i second) old ways) where
  abbrev next : Edge
  next = get_or second i d

  earlier : (way : Way) → Contains old way ⊎ IsWayOf (side ∷ []) (take i second) way → Contains old way ⊎ IsWayOf (side ∷ []) (take (i + 1) second) way
  earlier way (inl was) = inl was
  earlier way (inr w) = inr (wider (side ∷ []) (side ∷ []) (take i second) (take (i + 1) second) way (λ s t. t) (λ e t. contains_more_left second i d e lt t) w)

  pub way_more : next.to ≢ side.node → IsWayTaken row (way_with side next) ways new → AreWaysWith row side (take (i + 1) second) old new
  way_more differ taken = record {
    kept = λ k e low. still (get_or old k e) (are.kept k e low);
    each = λ way there. elim (was way there) [
      | inl before ↦ earlier way (are.each way before)
      | inr here ↦ inr (record { side = side; edge = next; is_side = contains_head side []; is_edge = contains_more_here second i d lt; differ = λ same. differ (sym same); is = sym here })
    ];
    all = All-more (λ (e : Edge). side.node ≢ e.to → IsListedOrWithin row new (way_with side e)) second i d lt
        (All-weaker (λ (e : Edge). side.node ≢ e.to → IsListedOrWithin row ways (way_with side e)) (λ (e : Edge). side.node ≢ e.to → IsListedOrWithin row new (way_with side e)) (λ e h apart. more e (h apart)) (take i second) are.all)
        (λ apart. here taken);
  } where
    still : (way : Way) → Contains ways way → Contains new way
    still way there = elim taken [
      | inl pushed ↦ subst (λ ws. Contains ws way) (sym pushed) (Contains-append_left ways (way_with side next ∷ []) way there)
      | inr same ↦ subst (λ ws. Contains ws way) (sym same.0) there
    ]

    more : (e : Edge) → IsListedOrWithin row ways (way_with side e) → IsListedOrWithin row new (way_with side e)
    more e (inl there) = inl (still (way_with side e) there)
    more e (inr within) = inr within

    was : (way : Way) → Contains new way → Contains ways way ⊎ (way_with side next ≡ way)
    was way there = elim taken [
      | inl pushed ↦ Contains-push_cases ways (way_with side next) way (subst (λ ws. Contains ws way) pushed there)
      | inr same ↦ inl (subst (λ ws. Contains ws way) same.0 there)
    ]

    here : IsWayTaken row (way_with side next) ways new → IsListedOrWithin row new (way_with side next)
    here (inl pushed) = inl (subst (λ ws. Contains ws (way_with side next)) (sym pushed) (Contains-push ways (way_with side next)))
    here (inr same) = inr same.1

  pub way_back : next.to ≡ side.node → AreWaysWith row side (take (i + 1) second) old ways
  way_back same = record {
    kept = are.kept;
    each = λ way there. earlier way (are.each way there);
    all = All-more (λ (e : Edge). side.node ≢ e.to → IsListedOrWithin row ways (way_with side e)) second i d lt are.all (λ apart. absurd (apart (sym same)));
  }

-- ---- all nodes

pub sides_more : (rows : List (Vec Edge Global)) (first : List Side) (second : List Edge) (ways new : List Way) (i : ℕ) (d : Side) → i < length first → AreWaysSoFar rows (take i first) second ways
    → AreWaysWith (row_at rows (get_or first i d).node) (get_or first i d) second ways new → AreWaysSoFar rows (take (i + 1) first) second new
sides_more rows first second ways new i d lt far with_ = record {
  each = λ way there. elim (with_.each way there) [
    | inl was ↦ wider (take i first) (take (i + 1) first) second second way (λ s t. contains_more_left first i d s lt t) (λ e t. t) (far.each way was)
    | inr w ↦ wider (get_or first i d ∷ []) (take (i + 1) first) second second way
        (λ s t. elim (head_or_tail (get_or first i d) [] s t) [ inl same ↦ subst (λ z. Contains (take (i + 1) first) z) same (contains_more_here first i d lt) | inr never ↦ absurd (none_in s never) ]) (λ e t. t) w
  ];
  all = λ side edge there listed differ. elim (take_more_cases first i d side lt there) [
    | inl before ↦ still side edge (far.all side edge before listed differ)
    | inr here ↦ (let at = All-contains (λ (e : Edge). (get_or first i d).node ≢ e.to → IsListedOrWithin (row_at rows (get_or first i d).node) new (way_with (get_or first i d) e)) second edge with_.all listed in
        subst (λ (s : Side). IsListedOrWithin (row_at rows s.node) new (way_with s edge)) here (at (λ same. differ (ap (λ (s : Side). s.node) (sym here) ∙ same))))
  ];
} where
  still : (side : Side) (edge : Edge) → IsListedOrWithin (row_at rows side.node) ways (way_with side edge) → IsListedOrWithin (row_at rows side.node) new (way_with side edge)
  still side edge (inl there) = inl (All-contains (Contains new) ways (way_with side edge) with_.kept there)
  still side edge (inr within) = inr within

pub ways_begin : (row : List Edge) (side : Side) (ways : List Way) → AreWaysWith row side [] ways ways
ways_begin row side ways = record { kept = All-contains_itself ways; each = λ way there. inl there; all = λ k d low. absurd (omega arith) }

-- ---- in order, each once

abbrev way_of : ℕ → ℕ → ℕ → ℕ → Way
way_of first from sum to = record { first = first; from = from; sum = sum; to = to }

pub way_total : IsTotalOrder way_cmp
way_total = then_total (on_total (λ (w : Way). w.first) nat_cmp_total)
    (then_total (on_total (λ (w : Way). w.from) nat_cmp_total) (then_total (on_total (λ (w : Way). w.sum) nat_cmp_total) (on_total (λ (w : Way). w.to) nat_cmp_total)))

same_way : (a b : Way) → eq_by_cmp way_cmp a b ≡ true → a ≡ b
same_way a b h =
    let first : a.first ≡ b.first = grind (arith, nat_tests) in
    let sum : a.sum ≡ b.sum = grind (arith, nat_tests) in
    let from : a.from ≡ b.from = grind (arith, nat_tests) in
    let to : a.to ≡ b.to = grind (arith, nat_tests) in
    ap (λ k. way_of k a.from a.sum a.to) first ∙ ap (λ k. way_of b.first k a.sum a.to) from ∙ ap (λ k. way_of b.first b.from k a.to) sum ∙ ap (λ k. way_of b.first b.from b.sum k) to

pub same_is : (a b : Way) → (nat_eq a.first b.first && (nat_eq a.from b.from && (nat_eq a.sum b.sum && nat_eq a.to b.to))) ≡ eq_by_cmp way_cmp a b
same_is a b = grind (arith, nat_tests)

pub in_order : (rows : List (Vec Edge Global)) (first : List Side) (second : List Edge) (ways sorted kept : List Way) → AreWaysSoFar rows first second ways → IsPermutation ways sorted → IsSorted way_cmp sorted
    → (E : Way → Way → Bool) → ((a b : Way) → E a b ≡ eq_by_cmp way_cmp a b) → kept ≡ dedup E sorted → AreWaysOf rows first second kept
in_order rows first second ways sorted kept far moved ordered E ties is = record {
  each = λ way there. far.each way (Contains-permutation sorted ways way (IsPermutation-sym ways sorted moved) (Contains-from_dedup E sorted way (subst (λ ws. Contains ws way) is there)));
  all = λ side edge there listed differ. still side edge (far.all side edge there listed differ);
  rising = subst (λ ws. AllPairs (λ p q. way_cmp p q ≡ Less) ws) (sym is) (λ i j d lt low. Less-from_sorted way_cmp (dedup E sorted) i j d (IsStrictlySortedBy-dedup way_total ties sorted ordered) lt low);
} where
  dedup_keeps : (way : Way) → Contains sorted way → Contains (dedup E sorted) way
  dedup_keeps way there = subst (λ (F : Way → Way → Bool). Contains (dedup F sorted) way) (sym (same_test E ties))
      (Contains-dedup (eq_by_cmp_equiv way_total) same_way sorted way there)

  still : (side : Side) (edge : Edge) → IsListedOrWithin (row_at rows side.node) ways (way_with side edge) → IsListedOrWithin (row_at rows side.node) kept (way_with side edge)
  still side edge (inl there) = inl (subst (λ ws. Contains ws (way_with side edge)) (sym is) (dedup_keeps (way_with side edge) (Contains-permutation ways sorted (way_with side edge) moved there)))
  still side edge (inr within) = inr within

-- ---- what AreWays asks for

first_rises : (p q : Way) → way_cmp p q ≡ Less → p.first ≤ q.first
first_rises p q h = grind (arith, nat_tests)

sum_rises : (p q : Way) → way_cmp p q ≡ Less → p.first ≡ q.first → p.from ≡ q.from → p.sum ≤ q.sum
sum_rises p q h first from = grind (arith, nat_tests)

not_itself : (p q : Way) → way_cmp p q ≡ Less → p.first ≡ q.first → p.from ≡ q.from → p.sum ≡ q.sum → p.to ≡ q.to → ⊥
not_itself p q h first from sum to = grind (arith, nat_tests)

-- entries with the same ends weigh the same
pub weight_once : (entries : List Entry) (u v a b : ℕ) → AllPairs HaveOtherEnds entries → HasEntry entries u v a → HasEntry entries u v b → a ≡ b
weight_once entries u v a b apart (via, (i, low_i, at_i)) (other, (j, low_j, at_j)) = elim (cases_order i j) [
  | inl same ↦ ap (λ (e : Entry). e.weight) (sym at_i ∙ get_or_default entries i e f low_i ∙ ap (λ k. get_or entries k f) same ∙ at_j)
  | inr differ ↦ elim differ [
    | inl lower ↦ absurd (apart i j e lower low_j (ap (λ (y : Entry). y.from) at_i ∙ sym (ap (λ (y : Entry). y.from) (get_or_default entries j e f low_j ∙ at_j)))
        (ap (λ (y : Entry). y.to) at_i ∙ sym (ap (λ (y : Entry). y.to) (get_or_default entries j e f low_j ∙ at_j))))
    | inr higher ↦ absurd (apart j i e higher low_i (ap (λ (y : Entry). y.from) (get_or_default entries j e f low_j ∙ at_j) ∙ sym (ap (λ (y : Entry). y.from) at_i))
        (ap (λ (y : Entry). y.to) (get_or_default entries j e f low_j ∙ at_j) ∙ sym (ap (λ (y : Entry). y.to) at_i)))
  ]
] where
  e : Entry
  e = record { from = u; to = v; weight = a; via = via }

  f : Entry
  f = record { from = u; to = v; weight = b; via = other }

pub are_ways : (h : HierarchyLists) (x : ℕ) (rows : List (Vec Edge Global)) (first : List Side) (second : List Edge) (ways : List Way) → AllPairs HaveOtherEnds h.entries
    → ((u v most : ℕ) → HasWithin (row_at rows u) v most → HasLighter h.entries u v most) → AreFirst h.order h.entries x first → AreSecond h.order h.entries x second → AreWaysOf rows first second ways → AreWays h x ways
are_ways h x rows first second ways apart lighter before after are = record {
  each = λ k d low. is_way (get_or ways k d) (Contains-get_or ways k d low);
  all = λ u v a b core_u core_v to_x from_x differ. (let there = after.all v b core_v from_x in
      listed_or_lighter u v a b (are.all (side_of u a) (record { to = v; entry = there.0; weight = b }) (before.all u a core_u to_x) there.1 differ));
  rising = λ i j d lt low. record {
    first = first_rises (get_or ways i d) (get_or ways j d) (are.rising i j d lt low);
    sum = λ from. (let p = get_or ways i d in let q = get_or ways j d in
        sum_rises p q (are.rising i j d lt low) (one_first p q (is_way p (Contains-get_or ways i d (omega arith))) (is_way q (Contains-get_or ways j d low)) from) from);
  };
  apart = λ i j d lt low from to. (let p = get_or ways i d in let q = get_or ways j d in
      let v = is_way p (Contains-get_or ways i d (omega arith)) in
      let w = is_way q (Contains-get_or ways j d low) in
      let one = one_first p q v w from in
      let two : v.second ≡ w.second = weight_once h.entries x q.to v.second w.second apart (subst (λ u. HasEntry h.entries x u v.second) to v.is_second) w.is_second in
      not_itself p q (are.rising i j d lt low) one from (let a = v.sum in let b = w.sum in omega (arith, one, two)) to);
} where
  listed_or_lighter : (u v a b : ℕ) → IsListedOrWithin (row_at rows u) ways (record { first = a; from = u; sum = a + b; to = v }) → Contains ways (record { first = a; from = u; sum = a + b; to = v }) ⊎ HasLighter h.entries u v (a + b)
  listed_or_lighter u v a b (inl there) = inl there
  listed_or_lighter u v a b (inr within) = inr (lighter u v (a + b) within)

  one_first : (p q : Way) → IsWayPast h x p → IsWayPast h x q → p.from ≡ q.from → p.first ≡ q.first
  one_first p q v w from = weight_once h.entries q.from x p.first q.first apart (subst (λ u. HasEntry h.entries u x p.first) from v.is_first) w.is_first

  is_way : (way : Way) → Contains ways way → IsWayPast h x way
  is_way way there =
      let w = are.each way there in
      let a = before.each w.side w.is_side in
      let b = after.each w.edge w.is_edge in
      subst (IsWayPast h x) (sym w.is) (record { second = w.edge.weight; is_first = a.0; is_second = b.0; sum = refl; core_from = a.1; core_to = b.1; differ = w.differ })
