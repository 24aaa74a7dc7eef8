-- The road arcs join different road nodes of one mode, and ascend.
use Rattle.plan_base.proofs.Common.{◌≡◌, ℕ, pos, ◌+◌, ◌*◌, ◌<◌, ◌≤◌, ◌⊎◌, inl, inr, ⊎_elim, List, [], ◌∷◌, ◌++◌, length, nat_eq, nat_lt, Bool, true, false, not, Option, None, Some, refl, sym, ap, subst₂, ◌∙◌, arith, eqb-true, ◌==◌, All, position, position_or_len, is_eq, and_from, eq-eqb, ltb-true, nat_tests, All-head, All-tail, All-permutation, length_permutation}
use Rattle.plan_base.specs.{number_of_mode, Mode, Foot, Bike, Car, Arcs}
use Rattle.mode_network.specs.{mode_at, AreInOrder, arc_cmp, end_or_order_fault, first_unsorted, is_same_mode, joins_modes, Arc, Node}
use Rattle.mode_network.proofs.RuleLemmas.{arcs_total, number_is_low}
use Rattle.sample_city.specs.{corner, is_car_line, along, arc_between, city_arcs, column_bases, corner_arcs, road_between, road_key, road_number, row_bases, street, streets, time_between, Corner, Row, Column, Bases}
use Rattle.sample_city.proofs.{CornerLaws.corners_rise, RiseLaws.Rise, RiseLaws.rise_all, RiseLaws.rise_append, RiseLaws.rise_few, RiseLaws.rise_if, RiseLaws.rise_one, RiseLaws.rise_sorted, RoadLaws.mode_of_number, RoadLaws.number_same}

-- arcs that tie have the same ends
pub same_ends : (a b : Arc) → is_eq (arc_cmp a b) ≡ true → (a.from ≡ b.from) × (a.to ≡ b.to)
same_ends a b e = grind (arith, nat_tests, e)

-- where all pass, none fails
none_fails : {X : Type 0} (p : X → Bool) (xs : List X) → All (λ x. p x ≡ true) xs → position_or_len (λ x. not (p x)) xs ≡ length xs
none_fails p [] all = refl
none_fails p (x ∷ xs) all =
    rw (All-head (λ x. p x ≡ true) x xs all) (let rest = none_fails p xs (All-tail (λ x. p x ≡ true) x xs all) in omega (arith, rest))

pub position_none : {X : Type 0} (p : X → Bool) (xs : List X) → All (λ x. p x ≡ true) xs → position (λ x. not (p x)) xs ≡ None
position_none p xs all =
    let none : position_or_len (λ x. not (p x)) xs ≡ length xs = none_fails p xs all in
    rw none (let test : nat_lt (length xs) (length xs) ≡ false = grind (arith, nat_tests) in rw test refl)

-- the arc from a node to another rises, where it has this tag
pub arc_rises : (Tagged : ℕ → Arc → Type 0) (from to : Option ℕ) (ms low high : ℕ) → low < high
    → ((start end : ℕ) → from ≡ Some start → to ≡ Some end → Tagged low (record { from = start; to = end; ms = ms })) → Rise Tagged low high (arc_between from to ms)
arc_rises Tagged None to ms low high below is = omega (arith, below)
arc_rises Tagged (Some start) None ms low high below is = omega (arith, below)
arc_rises Tagged (Some start) (Some end) ms low high below is = rise_one Tagged low high (record { from = start; to = end; ms = ms }) below (is start end refl refl)

-- from one corner to another that is further by so much (back 0), or back (back 1)
abbrev AreEnds : ℕ → ℕ → ℕ → ℕ → ℕ → Type 0
AreEnds id far back from to = ((back ≡ 0) × (from ≡ id) × (to ≡ id + far)) ⊎ ((back ≡ 1) × (from ≡ id + far) × (to ≡ id))

one_way : (id far back other also more from to : ℕ) → 1 ≤ far → 1 ≤ also → AreEnds id far back from to → AreEnds other also more from to → (id ≡ other) × (far ≡ also) × (back ≡ more)
one_way id far back other also more from to some any p q = (grind (arith, some, any, p, q), grind (arith, some, any, p, q), grind (arith, some, any, p, q))

-- to the next corner of the row (step 0), or of the column (step 1)
abbrev IsStep : ℕ → ℕ → ℕ → Type 0
IsStep n step far = ((step ≡ 0) × (far ≡ 1)) ⊎ ((step ≡ 1) × (far ≡ n))

one_step : (n step far more also : ℕ) → 2 ≤ n → IsStep n step far → IsStep n more also → far ≡ also → step ≡ more
one_step n step far more also many p q e = grind (arith, many, p, q, e)

some_far : (n step far : ℕ) → 2 ≤ n → IsStep n step far → 1 ≤ far
some_far n step far many p = grind (arith, many, p)

module _ (n : ℕ) (nodes : List Node) where
  -- an arc of a mode between a corner and a next one, tagged by the lower id, the step, the mode and the way
  record IsArcBy (tag : ℕ) (arc : Arc) : Type 0 where
    id : ℕ
    step : ℕ
    mode : ℕ
    back : ℕ
    far : ℕ
    from : ℕ
    to : ℕ
    is : tag ≡ 12 * id + 6 * step + 2 * mode + back
    low : mode < 3
    many : 2 ≤ n
    along : IsStep n step far
    ends : AreEnds id far back from to
    start : road_number nodes (pos from, mode) ≡ Some arc.from
    end : road_number nodes (pos to, mode) ≡ Some arc.to

  one_tag : (tag other : ℕ) (a b : Arc) → IsArcBy tag a → IsArcBy other b → is_eq (arc_cmp a b) ≡ true → tag ≡ other
  one_tag tag other a b p q e =
      let same = same_ends a b e in
      let from = number_same nodes p.from p.mode q.from q.mode a.from p.start (q.start ∙ ap Some (sym same.0)) in
      let to = number_same nodes p.to p.mode q.to q.mode a.to p.end (q.end ∙ ap Some (sym same.1)) in
      let ends = subst₂ (λ from to. AreEnds q.id q.far q.back from to) (sym from.0) (sym to.0) q.ends in
      let way = one_way p.id p.far p.back q.id q.far q.back p.from p.to (some_far n p.step p.far p.many p.along) (some_far n q.step q.far q.many q.along) p.ends ends in
      let step = one_step n p.step p.far q.step q.far p.many p.along q.along way.1 in
      omega (arith, p.is, q.is, way.0, way.2, step, from.1)

  -- ---- the tags of all arcs

  -- a part of the row of a corner's arcs
  module _ (id step : ℕ) (many : 2 ≤ n) (far : ℕ) (along : IsStep n step far) (other : ℕ) (there : other ≡ id + far) where
    road_rises : (mode : Mode) (base back from to low high : ℕ) → low ≡ 12 * id + 6 * step + 2 * number_of_mode mode + back → low < high → AreEnds id far back from to
        → Rise IsArcBy low high (road_between (road_number nodes) mode base from to)
    road_rises mode base back from to low high is below ends =
        arc_rises IsArcBy (road_number nodes (road_key from mode)) (road_number nodes (road_key to mode)) (time_between base from to) low high below (λ start end e f.
        record { id = id; step = step; mode = number_of_mode mode; back = back; far = far; from = from; to = to; is = is; low = number_is_low mode; many = many; along = along; ends = ends; start = e; end = f })

    street_rises : (mode : Mode) (base low high : ℕ) → low ≡ 12 * id + 6 * step + 2 * number_of_mode mode → low + 2 ≤ high → Rise IsArcBy low high (street (road_number nodes) mode base id other)
    street_rises mode base low high is below =
        rise_append IsArcBy low (low + 1) high (road_between (road_number nodes) mode base id other) (road_between (road_number nodes) mode base other id)
        (road_rises mode base 0 id other low (low + 1) (omega (arith, is)) (omega arith) (inl (refl, refl, there)))
        (road_rises mode base 1 other id (low + 1) high (omega (arith, is)) (omega (arith, below)) (inr (refl, there, refl)))

    streets_rise : (bases : Bases) (cars : Bool) (low high : ℕ) → low ≡ 12 * id + 6 * step → low + 6 ≤ high → Rise IsArcBy low high (streets (road_number nodes) bases cars id other)
    streets_rise bases cars low high is below =
        rise_append IsArcBy low (low + 4) high (street (road_number nodes) Foot bases.foot id other ++ street (road_number nodes) Bike bases.bike id other) _
        (rise_append IsArcBy low (low + 2) (low + 4) (street (road_number nodes) Foot bases.foot id other) (street (road_number nodes) Bike bases.bike id other)
        (street_rises Foot bases.foot low (low + 2) (omega (arith, is)) (omega arith))
        (street_rises Bike bases.bike (low + 2) (low + 4) (omega (arith, is)) (omega arith)))
        (rise_if IsArcBy (low + 4) high cars (street (road_number nodes) Car bases.car id other) (omega (arith, below))
        (λ there. street_rises Car bases.car (low + 4) high (omega (arith, is)) (omega (arith, below))))

  arcs_rise_at : (at : Corner) (id : ℕ) → id ≡ at.id → Rise IsArcBy (12 * id) (12 * (id + 1)) (corner_arcs n (road_number nodes) at)
  arcs_rise_at at id is =
      rise_append IsArcBy (12 * id) (12 * id + 6) (12 * (id + 1)) (along n (road_number nodes) at Row) (along n (road_number nodes) at Column)
      (rise_if IsArcBy (12 * id) (12 * id + 6) (nat_lt (at.column + 1) n) (streets (road_number nodes) row_bases (is_car_line at.row) at.id (at.id + 1)) (omega arith)
      (λ there. streets_rise at.id 0 (omega (arith, ltb-true (at.column + 1) n there)) 1 (inl (refl, refl)) (at.id + 1) refl row_bases (is_car_line at.row) (12 * id) (12 * id + 6) (omega (arith, is)) (omega arith)))
      (rise_if IsArcBy (12 * id + 6) (12 * (id + 1)) (nat_lt (at.row + 1) n) (streets (road_number nodes) column_bases (is_car_line at.column) at.id (at.id + n)) (omega arith)
      (λ there. streets_rise at.id 1 (omega (arith, ltb-true (at.row + 1) n there)) n (inr (refl, refl)) (at.id + n) refl column_bases (is_car_line at.column) (12 * id + 6) (12 * (id + 1)) (omega (arith, is)) (omega arith)))

  arcs_rise : Rise IsArcBy 12 (12 * (1 + n * n)) (city_arcs n (road_number nodes))
  arcs_rise = corners_rise IsArcBy (λ id. 12 * id) n (corner_arcs n (road_number nodes)) (λ row column id there too is. arcs_rise_at (corner n row column) id is)

  arc_joins : (tag : ℕ) (arc : Arc) → tag < 12 * (1 + n * n) → IsArcBy tag arc → joins_modes nodes arc ≡ true
  arc_joins tag arc below p =
      let (m, one, number) = mode_of_number nodes p.from p.mode arc.from p.start in
      let (w, two, count) = mode_of_number nodes p.to p.mode arc.to p.end in
      let mode : is_same_mode (mode_at nodes arc.from) (mode_at nodes arc.to) ≡ true = rw (one, two) (eq-eqb _ _ (number ∙ sym count)) in
      and_from (is_same_mode (mode_at nodes arc.from) (mode_at nodes arc.to)) (not (arc.from == arc.to)) mode (apart (nat_eq arc.from arc.to) refl)
    where
      apart : (t : Bool) → nat_eq arc.from arc.to ≡ t → not (nat_eq arc.from arc.to) ≡ true
      apart false e = ap not e
      apart true e =
          let one = (number_same nodes p.from p.mode p.to p.mode arc.from p.start (p.end ∙ ap Some (sym (eqb-true arc.from arc.to e)))).0 in
          let some = some_far n p.step p.far p.many p.along in
          absurd (⊎_elim (λ there. omega (arith, some, one, there.1, there.2)) (λ back. omega (arith, some, one, back.1, back.2)) p.ends)

  module _ (arcs : List Arc) (are : AreInOrder (city_arcs n (road_number nodes)) arcs) where
    pub arcs_right : end_or_order_fault Arcs (position (λ arc. not (joins_modes nodes arc)) arcs) (first_unsorted arc_cmp 0 arcs) ≡ None
    arcs_right =
        let joined = All-permutation (λ arc. joins_modes nodes arc ≡ true) (city_arcs n (road_number nodes)) arcs are.same
        (rise_all IsArcBy (λ arc. joins_modes nodes arc ≡ true) (12 * (1 + n * n)) arc_joins 12 (city_arcs n (road_number nodes)) arcs_rise) in
        let bad : position (λ arc. not (joins_modes nodes arc)) arcs ≡ None = position_none (joins_modes nodes) arcs joined in
        let unsorted : first_unsorted arc_cmp 0 arcs ≡ None = rise_sorted IsArcBy arc_cmp arcs_total one_tag 12 (12 * (1 + n * n)) (city_arcs n (road_number nodes)) arcs arcs_rise are.same are.ascend in
        rw (bad, unsorted) refl

    pub arcs_few : length arcs ≤ 12 * (n * n)
    arcs_few = omega (arith, length_permutation (city_arcs n (road_number nodes)) arcs are.same, rise_few IsArcBy 12 (12 * (1 + n * n)) (city_arcs n (road_number nodes)) arcs_rise)
