-- The list of what is reached before a delay has exactly the least labels, in order.
use Rattle.plan_base.proofs.Common.{◌≡◌, ℕ, zero, suc, ◌+◌, ◌-◌, ◌^◌, ◌<◌, ◌≤◌, ◌⊎◌, Bool, true, false, ◌&&◌, cond, nat_lt, List, [], ◌∷◌, get_or, Some, None, inl, inr, refl, sym, ◌∙◌, ap, subst, arith, Option, All, Contains, filter_map, IsSorted, IsPermutation, slice_get, ◌==◌, AllByRecursion, cons_option, is_lt, nat_cmp, ordering_then, IsTotalOrder, lt-ltb, le-ltb, ltb-true, and_parts, eqb-true, cases_lt, nat_tests, slice_get-get_or, All-nil, All-cons, All-head, All-tail, All-contains, Contains-append_right, recursion_from_All, sorted_far, ranks_by, All-permutation, Contains-permutation, then_total, on_total, nat_cmp_total, IsDistinct-cons, IsDistinct-IsPermutation, apart_from_distinct, Less}
use Rattle.std.specs.List.{IsDistinct}
use Rattle.search_laws.specs.{GraphMeaning, LabelsMeaning}
use Rattle.product_search.specs.{Label, IsReachedAt, IsLeastAt, IsWithin, IsToList, label_of, label_order, IsBelow, AreAscendingLabels, AreLeastLabels, last_time, IsListedBy, declared.label.Best.Best, declared.frontier.Frontier.Frontier, declared.row.Row.Row, inside.rows, inside.IsAt, inside.IsApart, inside.IsFrontier, inside.IsReachedBy, inside.IsWanted, inside.AreTraced, inside.EndsWith, inside.IsAnswered, inside.label_of_row, inside.until_of}
use Rattle.product_search.proofs.ReachLemmas.{row_reached, row_wanted, wanted_down}

-- ---- what `filter_map` gives

all_cons_option : {Y : Type 0} (P : Y → Type 0) (o : Option Y) (ys : List Y) → ((y : Y) → o ≡ Some y → P y) → All P ys → All P (cons_option o ys)
all_cons_option P None ys here rest = rest
all_cons_option P (Some y) ys here rest = All-cons P y ys (here y refl) rest

filter_map_all : {X Y : Type 0} (h : X → Option Y) (P : Y → Type 0) (xs : List X) → All (λ x. (y : Y) → h x ≡ Some y → P y) xs → All P (filter_map h xs)
filter_map_all h P [] all = All-nil P
filter_map_all {X} {Y} h P (x ∷ xs) all =
    all_cons_option P (h x) (filter_map h xs) (All-head (λ x. (y : Y) → h x ≡ Some y → P y) x xs all)
    (filter_map_all h P xs (All-tail (λ x. (y : Y) → h x ≡ Some y → P y) x xs all))

contains_here : {Y : Type 0} (o : Option Y) (ys : List Y) (y : Y) → o ≡ Some y → Contains (cons_option o ys) y
contains_here None ys y is = cc
contains_here (Some x) ys y is = let same : x ≡ y = cc in (0, (omega arith), same)

contains_more : {Y : Type 0} (o : Option Y) (ys : List Y) (y : Y) → Contains ys y → Contains (cons_option o ys) y
contains_more None ys y has = has
contains_more (Some x) ys y has = Contains-append_right (x ∷ []) ys y has

-- what h gives of an item is in the list
contains_given : {X Y : Type 0} (h : X → Option Y) (xs : List X) (k : ℕ) (x : X) (y : Y) → slice_get xs k ≡ Some x → h x ≡ Some y → Contains (filter_map h xs) y
contains_given h [] k x y known is = cc
contains_given h (z ∷ xs) zero x y known is = (let same : z ≡ x = cc in contains_here (h z) (filter_map h xs) y (ap h same ∙ is))
contains_given h (z ∷ xs) (suc k) x y known is = contains_more (h z) (filter_map h xs) y (contains_given h xs k x y known is)

-- ---- the labels of rows

-- only what is reached before the delay has a label
label_parts : (base until : ℕ) (r : Row) (x : Label) → label_of_row base until r ≡ Some x → (x ≡ label_of r.node r.state (base + r.delay)) × (r.delay < until)
label_parts base until r x is = go (nat_lt r.delay until) refl where
  label : Label
  label = label_of r.node r.state (base + r.delay)

  go : (b : Bool) → nat_lt r.delay until ≡ b → (x ≡ label_of r.node r.state (base + r.delay)) × (r.delay < until)
  go false late = (let h : None ≡ Some x = sym (ap (λ b. cond b (Some (label_of r.node r.state (base + r.delay))) None) late) ∙ is in cc)
  go true early =
      let h : Some (label_of r.node r.state (base + r.delay)) ≡ Some x = sym (ap (λ b. cond b (Some (label_of r.node r.state (base + r.delay))) None) early) ∙ is in
      let same : x ≡ label_of r.node r.state (base + r.delay) = cc in
      (same, ltb-true r.delay until early)

label_if : (base until : ℕ) (r : Row) → r.delay < until → label_of_row base until r ≡ Some (label_of r.node r.state (base + r.delay))
label_if base until r early = ap (λ b. cond b (Some (label_of r.node r.state (base + r.delay))) None) (lt-ltb r.delay until early)

-- two labels are of one product state
same_key : Label → Label → Bool
same_key x y = (x.node == y.node) && (x.state == y.state)

apart_tail : (r : Row) (rs : List Row) → IsApart (r ∷ rs) → IsApart rs
apart_tail r rs apart v q j k a b = let same = apart v q (suc j) (suc k) (later j a) (later k b) in omega (arith, same) where
  later : (k : ℕ) → IsAt rs v q k → IsAt (r ∷ rs) v q (suc k)
  later k at = record { row = at.row; known = at.known; node = at.node; state = at.state }

keys_differ : (r : Row) (rs : List Row) → IsApart (r ∷ rs) → (k : ℕ) (s : Row) → slice_get rs k ≡ Some s → ((r.node == s.node) && (r.state == s.state)) ≡ false
keys_differ r rs apart k s known = go ((r.node == s.node) && (r.state == s.state)) refl where
  go : (b : Bool) → ((r.node == s.node) && (r.state == s.state)) ≡ b → b ≡ false
  go false e = refl
  go true e =
      let p = and_parts (r.node == s.node) (r.state == s.state) e in
      let same = apart r.node r.state 0 (suc k) (record { row = r; known = refl; node = refl; state = refl })
      (record { row = s; known = known; node = sym (eqb-true r.node s.node p.0); state = sym (eqb-true r.state s.state p.1) }) in
      absurd (omega (arith, same))

key_differs : (base until : ℕ) (r s : Row) (x y : Label) → label_of_row base until r ≡ Some x → label_of_row base until s ≡ Some y
    → ((r.node == s.node) && (r.state == s.state)) ≡ false → same_key x y ≡ false
unfolding same_key
key_differs base until r s x y is also differ =
    subst (λ (a : Label). ((a.node == y.node) && (a.state == y.state)) ≡ false) (sym (label_parts base until r x is).0)
    (subst (λ (b : Label). ((r.node == b.node) && (r.state == b.state)) ≡ false) (sym (label_parts base until s y also).0) differ)

distinct_cons_option : (o : Option Label) (ys : List Label) → ((y : Label) → o ≡ Some y → AllByRecursion (λ z. same_key y z ≡ false) ys) → IsDistinct same_key ys
    → IsDistinct same_key (cons_option o ys)
distinct_cons_option None ys here rest = rest
distinct_cons_option (Some y) ys here rest = IsDistinct-cons same_key y ys (here y refl) rest

none_distinct : IsDistinct same_key []
unfolding IsDistinct
none_distinct = tt

-- no two labels are of one product state
distinct : (base until : ℕ) (rs : List Row) → IsApart rs → IsDistinct same_key (filter_map (label_of_row base until) rs)
distinct base until [] apart = none_distinct
distinct base until (r ∷ rs) apart =
    distinct_cons_option (label_of_row base until r) (filter_map (label_of_row base until) rs)
    (λ x is. recursion_from_All (λ z. same_key x z ≡ false) (filter_map (label_of_row base until) rs)
    (filter_map_all (label_of_row base until) (λ y. same_key x y ≡ false) rs
    (λ k d lt y also. key_differs base until r (get_or rs k d) x y is also (keys_differ r rs apart k (get_or rs k d) (slice_get-get_or rs k d lt)))))
    (distinct base until rs (apart_tail r rs apart))

-- sorted labels of which no two are of one product state ascend
pub order_total : IsTotalOrder label_order
order_total = then_total (then_total (on_total (λ (x : Label). x.node) nat_cmp_total) (on_total (λ (x : Label). x.state) nat_cmp_total))
    (on_total (λ (x : Label). x.at) nat_cmp_total)

less_from : (a b c d s t : ℕ) → is_lt (ordering_then (ordering_then (nat_cmp c a) (nat_cmp d b)) (nat_cmp t s)) ≡ false → ((a == c) && (b == d)) ≡ false
    → ordering_then (nat_cmp a c) (nat_cmp b d) ≡ Less
less_from a b c d s t not_less differ = grind (arith, nat_tests)

below_from : (x y : Label) → is_lt (label_order y x) ≡ false → same_key x y ≡ false → IsBelow x y
unfolding same_key
below_from x y not_less differ = less_from x.node x.state y.node y.state x.at y.at not_less differ

ascending : (xs : List Label) → IsSorted label_order xs → IsDistinct same_key xs → AreAscendingLabels xs
ascending xs sorted apart i j d lt in_range =
    below_from (get_or xs i d) (get_or xs j d)
    (sorted_far (λ x y. is_lt (label_order x y)) (ranks_by order_total (λ x. x)) xs sorted i j d (omega arith) in_range)
    (apart_from_distinct same_key xs i j d apart lt in_range)

same_key_flips : (x y : Label) → same_key x y ≡ same_key y x
unfolding same_key
same_key_flips x y = grind (arith, nat_tests)

-- ---- a list of all that is reached before a delay, up to which all is known

module _ (g : GraphMeaning) (l : LabelsMeaning) (starts : List ℕ) (dep : ℕ) (f : Frontier) (right : IsFrontier f) (base : f.base ≡ dep)
    (traced : AreTraced g l starts f) (until : ℕ)
    (complete : (v q t : ℕ) → IsReachedAt g l starts dep v q t → t < f.base + until → IsReachedBy f v q t)
    (list : List Label) (sorted : IsSorted label_order list) (listed_all : IsPermutation (filter_map (label_of_row f.base until) (rows f)) list) where
  pub all_ascending : AreAscendingLabels list
  all_ascending = ascending list sorted (IsDistinct-IsPermutation same_key same_key_flips (filter_map (label_of_row f.base until) (rows f)) list listed_all
      (distinct f.base until (rows f) right.apart))

  reached : (k : ℕ) (r : Row) → slice_get (rows f) k ≡ Some r → IsReachedAt g l starts dep r.node r.state (f.base + r.delay)
  reached k r known = subst (λ d. IsReachedAt g l starts d r.node r.state (f.base + r.delay)) base (row_reached g l starts f traced right k r known)

  -- a row before the delay is at its least time
  row_least : (k : ℕ) (r : Row) → slice_get (rows f) k ≡ Some r → r.delay < until → IsLeastAt g l starts dep r.node r.state (f.base + r.delay)
  row_least k r known early = record { reached = reached k r known; least = earliest } where
    earliest : (u : ℕ) → IsReachedAt g l starts dep r.node r.state u → f.base + r.delay ≤ u
    earliest u walk = elim (cases_lt u (f.base + r.delay)) [
      | inr ge ↦ ge
      | inl lt ↦ (let y = complete r.node r.state u walk (omega arith) in
          let same = right.apart r.node r.state y.number k (record { row = y.row; known = y.known; node = y.node; state = y.state })
          (record { row = r; known = known; node = refl; state = refl }) in
          let h : Some y.row ≡ Some r = sym y.known ∙ ap (slice_get (rows f)) same ∙ known in
          let is : y.row ≡ r = cc in
          absurd (omega (arith, y.by, ap (λ (x : Row). x.delay) is)))
    ]

  pub all_least : All (λ x. IsLeastAt g l starts dep x.node x.state x.at × (x.at < f.base + until)) list
  all_least = All-permutation Is (filter_map (label_of_row f.base until) (rows f)) list listed_all (filter_map_all (label_of_row f.base until) Is (rows f) each) where
    Is : Label → Type 0
    Is x = IsLeastAt g l starts dep x.node x.state x.at × (x.at < f.base + until)

    each : All (λ r. (x : Label) → label_of_row f.base until r ≡ Some x → Is x) (rows f)
    each k d lt x is =
        let p = label_parts f.base until (get_or (rows f) k d) x is in
        subst Is (sym p.0) (row_least k (get_or (rows f) k d) (slice_get-get_or (rows f) k d lt) p.1, omega (arith, p.1))

  row_there : (v q t : ℕ) → (y : IsReachedBy f v q t) → (y.row).delay < until → Contains list (label_of v q (f.base + (y.row).delay))
  row_there v q t y early = Contains-permutation (filter_map (label_of_row f.base until) (rows f)) list (label_of v q (f.base + (y.row).delay)) listed_all
      (contains_given (label_of_row f.base until) (rows f) y.number y.row (label_of v q (f.base + (y.row).delay)) y.known
      (label_if f.base until y.row early ∙ ap (λ w. Some (label_of w (y.row).state (f.base + (y.row).delay))) y.node
      ∙ ap (λ r. Some (label_of v r (f.base + (y.row).delay))) y.state))

-- ---- the times to list

pub within_down : (bound : Option ℕ) (s t : ℕ) → s ≤ t → IsWithin bound t → IsWithin bound s
within_down None s t le within = tt
within_down (Some b) s t le within = omega arith

-- up to the bound, or to the greatest delay
until_cases : (dep last : ℕ)
    → ((until_of dep (Some last) ≡ last - dep + 1) × (last - dep + 1 < 2 ^ 64 - 1)) ⊎ ((until_of dep (Some last) ≡ 2 ^ 64 - 1) × (2 ^ 64 - 1 ≤ last - dep + 1))
until_cases dep last = elim (cases_lt (last - dep) (2 ^ 64 - 2)) [
  | inl lt ↦ inl (ap (λ b. cond b (last - dep) (2 ^ 64 - 2) + 1) (lt-ltb (last - dep) (2 ^ 64 - 2) lt), omega (arith, lt))
  | inr ge ↦ inr (ap (λ b. cond b (last - dep) (2 ^ 64 - 2) + 1) (le-ltb (last - dep) (2 ^ 64 - 2) ge), omega (arith, ge))
]

pub listed_before : (dep : ℕ) (bound arrival : Option ℕ) (f : Frontier) → f.base ≡ dep → IsWithin bound dep → EndsWith dep bound f arrival
    → (t : ℕ) → t < f.base + f.until → IsToList bound arrival t
listed_before dep None None f base within ends t lt = tt
listed_before dep (Some last) None f base within ends t lt = elim (until_cases dep last) [
  | inl is ↦ omega (arith, is.0)
  | inr is ↦ omega (arith, is.0, is.1)
]
listed_before dep bound (Some a) f base within ends t lt = omega (arith, ends.0)

pub listed_wanted : (dep : ℕ) (bound arrival : Option ℕ) (f : Frontier) → f.base ≡ dep → EndsWith dep bound f arrival → (t : ℕ) → IsToList bound arrival t → IsWanted f t
listed_wanted dep None None f base ends t listed = inl ends
listed_wanted dep (Some last) None f base ends t listed = elim (until_cases dep last) [
  | inl is ↦ inr (omega (arith, is.0))
  | inr is ↦ inl (ends ∙ is.0)
]
listed_wanted dep bound (Some a) f base ends t listed = inr (omega (arith, ends.0))

soon_enough : (dep : ℕ) (bound arrival : Option ℕ) (f : Frontier) → EndsWith dep bound f arrival → f.until < 2 ^ 64
soon_enough dep None None f ends = omega (arith, ends)
soon_enough dep (Some last) None f ends = elim (until_cases dep last) [
  | inl is ↦ omega (arith, is.0, is.1, ends)
  | inr is ↦ omega (arith, is.0, ends)
]
soon_enough dep bound (Some a) f ends = omega (arith, ends.1)

-- ---- the whole list of an answer

module _ (g : GraphMeaning) (l : LabelsMeaning) (starts targets : List ℕ) (dep : ℕ) (bound : Option ℕ) (within : IsWithin bound dep) (f : Frontier) (best : Best)
    (answered : IsAnswered g l starts targets dep bound f best)
    (list : List Label) (sorted : IsSorted label_order list) (listed_all : IsPermutation (filter_map (label_of_row f.base f.until) (rows f)) list) where
  complete : (v q t : ℕ) → IsReachedAt g l starts dep v q t → t < f.base + f.until → IsReachedBy f v q t
  complete v q t reached lt = (answered.searched).complete v q t reached (inr lt)

  list_least : All (λ x. IsLeastAt g l starts dep x.node x.state x.at × (x.at < f.base + f.until)) list
  list_least = all_least g l starts dep f (answered.searched).right (answered.searched).base (answered.searched).traced f.until complete list sorted listed_all

  -- all that is reached at a time to list has a label by then
  pub reached_listed : (v q t : ℕ) → IsReachedAt g l starts dep v q t → IsToList bound best.arrival t → IsListedBy list v q t
  reached_listed v q t walk listed =
      let wanted = listed_wanted dep bound best.arrival f (answered.searched).base answered.ends_with t listed in
      let y = (answered.searched).complete v q t walk wanted in
      let early = row_wanted f (answered.searched).right y.number y.row y.known (wanted_down f (f.base + (y.row).delay) t y.by wanted) in (
        f.base + (y.row).delay,
        y.by,
        row_there g l starts dep f (answered.searched).right (answered.searched).base (answered.searched).traced f.until complete list sorted listed_all v q t y early,
      )

  pub least_labels : AreLeastLabels g l starts dep bound best.arrival list
  least_labels = record {
    ascending = all_ascending g l starts dep f (answered.searched).right (answered.searched).base (answered.searched).traced f.until complete list sorted listed_all;
    least = λ k d lt. (let is = list_least k d lt in (is.0, listed_before dep bound best.arrival f (answered.searched).base within answered.ends_with _ is.1));
    complete = λ v q t least listed.
        (let there = reached_listed v q t least.reached listed in
        let is = All-contains (λ x. IsLeastAt g l starts dep x.node x.state x.at × (x.at < f.base + f.until)) list (label_of v q there.0) list_least there.2 in
        let same : there.0 ≡ t = omega (arith, there.1, least.least there.0 is.0.reached) in
        subst (λ s. Contains list (label_of v q s)) same there.2);
  }

  pub labels_in_time : All (λ x. x.at ≤ last_time dep) list
  labels_in_time k d lt = omega (arith, (list_least k d lt).1, soon_enough dep bound best.arrival f answered.ends_with, (answered.searched).base)
