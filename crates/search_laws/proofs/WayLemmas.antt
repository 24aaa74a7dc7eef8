-- Laws of the lists of arcs that can be taken.
use Rattle.plan_base.proofs.Common.{◌≡◌, ℕ, ◌+◌, ◌-◌, ◌<◌, ◌≤◌, Bool, true, false, cond, nat_eq, List, [], ◌∷◌, ◌++◌, Some, None, zero, suc, refl, sym, ◌∙◌, ap, subst, append_assoc, append-nil, arith, flat_map, range_with_len, flat_map-append, eqb-true, eqb-false, All-cons, All-nil, All-append, Contains-append_left, Contains-append_right, Option, All, Contains}
use Rattle.search_laws.specs.{GraphMeaning, HasArc, Way, GraphArc, is_open, way_if, open_way, way_at, ways_from, ways_of, ways_past, IsWay}

pub range_more : (i m n : ℕ) → range_with_len i (m + n) ≡ range_with_len i m ++ range_with_len (i + m) n
range_more i zero n =
    let none : 0 + n ≡ n = omega arith in
    let same : i ≡ i + 0 = omega arith in
    ap (range_with_len i) none ∙ ap (λ (k : ℕ). range_with_len k n) same
range_more i (suc m) n =
    let one : suc m + n ≡ suc (m + n) = omega arith in
    let same : i + 1 + m ≡ i + suc m = omega arith in
    ap (range_with_len i) one
    ∙ ap (λ (xs : List ℕ). i ∷ xs) (range_more (i + 1) m n ∙ ap (λ (k : ℕ). range_with_len (i + 1) m ++ range_with_len k n) same)

-- so many places, and then so many more
pub ways_split : (g : GraphMeaning) (v t letters i m n : ℕ) → ways_from g v t letters i (m + n) ≡ ways_from g v t letters i m ++ ways_from g v t letters (i + m) n
ways_split g v t letters i m n =
    ap (flat_map (way_at g v t letters)) (range_more i m n) ∙ flat_map-append (way_at g v t letters) (range_with_len i m) (range_with_len (i + m) n)

-- one place more
pub ways_more : (g : GraphMeaning) (v t letters i m : ℕ) → ways_from g v t letters i (m + 1) ≡ ways_from g v t letters i m ++ way_at g v t letters (i + m)
ways_more g v t letters i m = ways_split g v t letters i m 1 ∙ ap (λ (xs : List Way). ways_from g v t letters i m ++ xs) (append-nil (way_at g v t letters (i + m)))

-- one place more, as it is pushed
pub ways_pushed : (g : GraphMeaning) (v t letters first i : ℕ) (before now next : List Way) (arc : GraphArc) (at : Option ℕ) → first ≤ i
    → now ≡ before ++ ways_from g v t letters first (i - first) → arc ≡ g.arc_at v i → at ≡ g.arrive v i t → next ≡ now ++ open_way letters i arc at
    → next ≡ before ++ ways_from g v t letters first (i + 1 - first)
ways_pushed g v t letters first i before now next arc at from was is arrives push =
    let here : first + (i - first) ≡ i = omega (arith, from) in
    let more : i - first + 1 ≡ i + 1 - first = omega (arith, from) in
    let same : open_way letters i arc at ≡ way_at g v t letters (first + (i - first)) = rw (here, is, arrives) refl in
    push ∙ ap (λ (xs : List Way). xs ++ open_way letters i arc at) was
    ∙ append_assoc before (ways_from g v t letters first (i - first)) (open_way letters i arc at)
    ∙ ap (λ (xs : List Way). before ++ (ways_from g v t letters first (i - first) ++ xs)) same
    ∙ ap (λ (xs : List Way). before ++ xs) (sym (ways_more g v t letters first (i - first)))
    ∙ ap (λ n. before ++ ways_from g v t letters first n) more

-- each of them is an arc of its node
way_is : (g : GraphMeaning) (v t letters i : ℕ) → HasArc g v i → All (IsWay g v t) (way_at g v t letters i)
way_is g v t letters i has = by_test (is_open letters (g.arc_at v i).letter)
  where
    by_arrival : (o : Option ℕ) → g.arrive v i t ≡ o → All (IsWay g v t) (way_if i (g.arc_at v i) o)
    by_arrival None e = All-nil (IsWay g v t)
    by_arrival (Some at) e = All-cons (IsWay g v t) _ [] (record { has = has; is = refl; arrives = e }) (All-nil (IsWay g v t))

    by_test : (b : Bool) → All (IsWay g v t) (cond b (way_if i (g.arc_at v i) (g.arrive v i t)) [])
    by_test true = by_arrival (g.arrive v i t) refl
    by_test false = All-nil (IsWay g v t)

ways_between_are : (g : GraphMeaning) (v t letters i n : ℕ) → v < g.nodes → i + n ≤ g.arcs v → All (IsWay g v t) (ways_from g v t letters i n)
ways_between_are g v t letters i zero node within = All-nil (IsWay g v t)
ways_between_are g v t letters i (suc n) node within =
    All-append (IsWay g v t) (way_at g v t letters i) (ways_from g v t letters (i + 1) n)
    (way_is g v t letters i (record { node = node; arc = omega arith }))
    (ways_between_are g v t letters (i + 1) n node (omega arith))

pub ways_are : (g : GraphMeaning) (v t letters first : ℕ) → v < g.nodes → first ≤ g.arcs v → All (IsWay g v t) (ways_past g v t letters first)
ways_are g v t letters first node within = ways_between_are g v t letters first (g.arcs v - first) node (omega (arith, within))

-- each arc that arrives is among them, if its letter is in the set
way_there : (g : GraphMeaning) (v t letters i at : ℕ) → g.arrive v i t ≡ Some at → is_open letters (g.arc_at v i).letter ≡ true
    → Contains (way_at g v t letters i) (record { place = i; arc = g.arc_at v i; at = at })
way_there g v t letters i at arrives opens = rw (opens, arrives) (0, omega arith, refl)

between_there : (g : GraphMeaning) (v t letters j at i n : ℕ) → g.arrive v j t ≡ Some at → is_open letters (g.arc_at v j).letter ≡ true
    → i ≤ j → j < i + n → Contains (ways_from g v t letters i n) (record { place = j; arc = g.arc_at v j; at = at })
between_there g v t letters j at i zero arrives opens from within = absurd (omega arith)
between_there g v t letters j at i (suc n) arrives opens from within = by_place (nat_eq i j) refl (λ later. between_there g v t letters j at (i + 1) n arrives opens later (omega arith))
  where
    way : Way
    way = record { place = j; arc = g.arc_at v j; at = at }

    by_place : (b : Bool) → nat_eq i j ≡ b → (i + 1 ≤ j → Contains (ways_from g v t letters (i + 1) n) way) → Contains (ways_from g v t letters i (suc n)) way
    by_place true e later =
        let here : j ≡ i = sym (eqb-true i j e) in
        Contains-append_left (way_at g v t letters i) (ways_from g v t letters (i + 1) n) way
        (subst (λ (k : ℕ). Contains (way_at g v t letters k) way) here (way_there g v t letters j at arrives opens))
    by_place false e later =
        let apart = eqb-false i j e in
        Contains-append_right (way_at g v t letters i) (ways_from g v t letters (i + 1) n) way
        (later (omega (arith, apart, from)))

pub ways_there : (g : GraphMeaning) (v t letters first i at : ℕ) → first ≤ i → i < g.arcs v → g.arrive v i t ≡ Some at → is_open letters (g.arc_at v i).letter ≡ true
    → Contains (ways_past g v t letters first) (record { place = i; arc = g.arc_at v i; at = at })
ways_there g v t letters first i at from within arrives opens = between_there g v t letters i at first (g.arcs v - first) arrives opens from (omega (arith, from, within))

-- where no arc is steady, those past the steady ones are all
pub past_none : (g : GraphMeaning) (v t letters : ℕ) → ways_past g v t letters 0 ≡ ways_of g v t letters
past_none g v t letters =
    let all : g.arcs v - 0 ≡ g.arcs v = omega arith in
    ap (ways_from g v t letters 0) all
