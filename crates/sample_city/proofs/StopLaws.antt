-- The names of stops ascend, there is one where two lines have stops, and both switches are there.
use Rattle.plan_base.proofs.Common.{◌≡◌, ℕ, zero, suc, pos, ◌+◌, ◌*◌, ◌%◌, ◌^◌, ◌<◌, ◌≤◌, List, [], ◌∷◌, ◌++◌, length, get_or, map, decimal, neg_ℤ, int_le, Bool, true, false, T, Option, None, Some, if◌then◌else◌, is_some, refl, sym, ap, subst, ◌∙◌, arith, append_assoc, le-leb, Contains, option_and_then, option_map, option_to_list, All, IsPermutation, IsSorted, is_eq, is_lt, Ordering, false≢true, nat_list_cmp_total, on_total, decimal_digit, All-cons, All-head, All-nil, All-push, All-tail, Contains-append_left, Contains-append_right, length-flat_map, length_permutation, get_or-le-sum_by, is_eq-slice_cmp, bytes_eq-Decides}
use Rattle.std.proofs.lemmas.Fmt.{decimal_by_steps, decimal_injective}
use Rattle.plain_texts.specs.{is_name, name_of}
use Rattle.plan_base.specs.{place_of, shown, Place}
use Rattle.mode_network.specs.{first_unsorted, name_cmp, node_cmp, Switch}
use Rattle.sample_city.specs.{corner, corner_place, corners, lines, node_at, city_stops, city_switches, corner_stop, corner_text, first_corner, has_stop, last_corner, stop_in, Corner, CityStop}
use Rattle.sample_city.proofs.{CornerLaws.corners_rise, RiseLaws.Rise, RiseLaws.rise_few, RiseLaws.rise_one, RiseLaws.rise_sorted}

-- ---- names

-- what stands before the first underscore, and what behind it
cut_once : (xs ys us vs : List ℕ) → All (λ b. b < 58) xs → All (λ b. b < 58) us → xs ++ (95 ∷ ys) ≡ us ++ (95 ∷ vs) → (xs ≡ us) × (ys ≡ vs)
cut_once [] ys [] vs low less e = (refl, cc)
cut_once [] ys (u ∷ us) vs low less e = (let first : 95 ≡ u = cc in absurd (omega (arith, All-head (λ b. b < 58) u us less, first)))
cut_once (x ∷ xs) ys [] vs low less e = (let first : x ≡ 95 = cc in absurd (omega (arith, All-head (λ b. b < 58) x xs low, first)))
cut_once (x ∷ xs) ys (u ∷ us) vs low less e =
    let first : x ≡ u = cc in
    let later : xs ++ (95 ∷ ys) ≡ us ++ (95 ∷ vs) = cc in
    let rest = cut_once xs ys us vs (All-tail (λ b. b < 58) x xs low) (All-tail (λ b. b < 58) u us less) later in
    (ap (λ front. front ∷ xs) first ∙ ap (λ front. u ∷ front) rest.0, rest.1)

digits_low : (k : ℕ) → k < 2 ^ 64 → All (λ b. b < 58) (decimal k)
digits_low = decimal_by_steps (λ k ds. All (λ b. b < 58) ds)
    (λ k small. All-cons (λ b. b < 58) (48 + k) [] (omega (arith, small)) (All-nil (λ b. b < 58)))
    (λ k ds many front. All-push (λ b. b < 58) ds (48 + k % 10) front (omega arith))

text_once : (letter line other also more : ℕ) → line < 300 → other < 300 → also < 300 → more < 300 → corner_text letter line other ≡ corner_text letter also more → (line ≡ also) × (other ≡ more)
text_once letter line other also more one two three four e =
    let flat : (k j : ℕ) → corner_text letter k j ≡ letter ∷ (decimal k ++ (95 ∷ decimal j)) = λ k j. append_assoc (letter ∷ decimal k) (95 ∷ []) (decimal j) in
    let same : letter ∷ (decimal line ++ (95 ∷ decimal other)) ≡ letter ∷ (decimal also ++ (95 ∷ decimal more)) = sym (flat line other) ∙ e ∙ flat also more in
    let later : decimal line ++ (95 ∷ decimal other) ≡ decimal also ++ (95 ∷ decimal more) = cc in
    let parts = cut_once (decimal line) (decimal other) (decimal also) (decimal more) (digits_low line (omega (arith, one))) (digits_low also (omega (arith, three))) later in
    (decimal_injective line also (omega (arith, one)) (omega (arith, three)) parts.0, decimal_injective other more (omega (arith, two)) (omega (arith, four)) parts.1)

module _ (n : ℕ) (size : n ≤ 300) where
  -- a stop, tagged by its id
  record IsStopBy (tag : ℕ) (stop : CityStop) : Type 0 where
    row : ℕ
    column : ℕ
    north : row < n
    west : column < n
    name : stop.name ≡ corner_text 83 row column
    is : tag ≡ 1 + row * n + column

  abbrev stop_cmp : CityStop → CityStop → Ordering
  stop_cmp a b = name_cmp a.name b.name

  one_tag : (tag other : ℕ) (a b : CityStop) → IsStopBy tag a → IsStopBy other b → is_eq (stop_cmp a b) ≡ true → tag ≡ other
  one_tag tag other a b p q e =
      let same : a.name ≡ b.name = (bytes_eq-Decides a.name b.name).0 (sym (is_eq-slice_cmp a.name b.name) ∙ e) in
      let parts = text_once 83 p.row p.column q.row q.column (omega (arith, size, p.north)) (omega (arith, size, p.west)) (omega (arith, size, q.north)) (omega (arith, size, q.west)) (sym p.name ∙ same ∙ q.name) in
      omega (arith, p.is, q.is, ap (λ row. row * n) parts.0, parts.1)

  stop_rises : (row column id : ℕ) → row < n → column < n → id ≡ 1 + row * n + column → Rise IsStopBy id (id + 1) (option_to_list (corner_stop (corner n row column)))
  stop_rises row column id north west is = by_test (has_stop (corner n row column))
    where
      by_name : (name : Option (List ℕ)) (place : Option Place) → (name ≡ name_of (corner_text 83 row column)) → Rise IsStopBy id (id + 1) (option_to_list (stop_in name place (corner n row column)))
      by_name None place e = omega arith
      by_name (Some name) None e = omega arith
      by_name (Some name) (Some place) e =
          rise_one IsStopBy id (id + 1) (record { name = name; id = 1 + row * n + column; place = place }) (omega arith)
          (record { row = row; column = column; north = north; west = west; name = named (is_name (corner_text 83 row column)) e; is = is })
        where
          named : (t : Bool) → Some name ≡ (if t then Some (corner_text 83 row column) else None) → name ≡ corner_text 83 row column
          named true e = cc
          named false e = absurd cc

      by_test : (t : Bool) → Rise IsStopBy id (id + 1) (option_to_list (if t then stop_in (name_of (corner_text 83 row column)) (corner_place (corner n row column)) (corner n row column) else None))
      by_test true = by_name (name_of (corner_text 83 row column)) (corner_place (corner n row column)) refl
      by_test false = omega arith

  stops_rise : Rise IsStopBy 1 (1 + n * n) (city_stops n)
  stops_rise = corners_rise IsStopBy (λ id. id) n (λ at. option_to_list (corner_stop at)) stop_rises

  named_in_order : (k : ℕ) (stops : List CityStop) → first_unsorted name_cmp k (map (λ (stop : CityStop). stop.name) stops) ≡ first_unsorted stop_cmp k stops
  named_in_order k [] = refl
  named_in_order k (stop ∷ []) = refl
  named_in_order k (stop ∷ next ∷ stops) =
      ap (λ later. if is_lt (name_cmp stop.name next.name) then later else Some (k + 1)) (named_in_order (k + 1) (next ∷ stops))

  module _ (city : List CityStop) (moved : IsPermutation (city_stops n) city) where
    pub names_in_order : IsSorted (λ a b. name_cmp a.name b.name) city → first_unsorted name_cmp 0 (map (λ (stop : CityStop). stop.name) city) ≡ None
    names_in_order sorted =
        named_in_order 0 city
        ∙ rise_sorted IsStopBy stop_cmp (on_total (λ (stop : CityStop). stop.name) nat_list_cmp_total) one_tag 1 (1 + n * n) (city_stops n) city stops_rise moved sorted

    pub stops_few : length city ≤ n * n
    stops_few = omega (arith, length_permutation (city_stops n) city moved, rise_few IsStopBy 1 (1 + n * n) (city_stops n) stops_rise)

-- ---- places

shown_some : (t : Bool) → t ≡ true → is_some (shown t) ≡ true
shown_some true e = refl
shown_some false e = absurd (false≢true e)

placed : (lat lon : ℕ) → lat ≤ 900000000 → lon ≤ 1800000000 → is_some (place_of (pos lat) (pos lon)) ≡ true
placed lat lon low less =
    by_tests (shown (int_le (neg_ℤ (pos 900000000)) (pos lat))) (shown (int_le (pos lat) (pos 900000000))) (shown (int_le (neg_ℤ (pos 1800000000)) (pos lon))) (shown (int_le (pos lon) (pos 1800000000)))
    (shown_some _ refl) (shown_some _ (le-leb lat 900000000 low)) (shown_some _ refl) (shown_some _ (le-leb lon 1800000000 less))
  where
    by_tests : (south : Option (T (int_le (neg_ℤ (pos 900000000)) (pos lat)))) (north : Option (T (int_le (pos lat) (pos 900000000))))
        (west : Option (T (int_le (neg_ℤ (pos 1800000000)) (pos lon)))) (east : Option (T (int_le (pos lon) (pos 1800000000))))
        → is_some south ≡ true → is_some north ≡ true → is_some west ≡ true → is_some east ≡ true
        → is_some {T = Place} (option_and_then (λ south. option_and_then (λ north. option_and_then (λ west. option_map (λ east.
        record { lat = pos lat; lon = pos lon; in_range = record { south = record { le = south }; north = record { le = north }; west = record { le = west }; east = record { le = east } } }) east) west) north) south) ≡ true
    by_tests (Some s) (Some n) (Some w) (Some e) a b c d = refl
    by_tests None n w e a b c d = absurd (false≢true a)
    by_tests (Some s) None w e a b c d = absurd (false≢true b)
    by_tests (Some s) (Some n) None e a b c d = absurd (false≢true c)
    by_tests (Some s) (Some n) (Some w) None a b c d = absurd (false≢true d)

pub corner_placed : (at : Corner) → at.row ≤ 300 → at.column ≤ 300 → is_some (corner_place at) ≡ true
corner_placed at north west = placed (480000000 + 10000 * at.row) (110000000 + 10000 * at.column) (omega (arith, north)) (omega (arith, west))

-- ---- where lines have stops, there is one

has_second : (m : ℕ) → Contains (corners (suc (suc m))) (corner (suc (suc m)) 1 1)
has_second m =
    let n = suc (suc m) in
    Contains-append_right (map (corner n 0) (lines n)) _ (corner n 1 1) (Contains-append_left (map (corner n 1) (lines n)) _ (corner n 1 1) (1, omega arith, refl))

has_text : is_name (corner_text 83 1 1) ≡ true
unfolding is_name
has_text = rw (decimal_digit 1 (omega arith)) refl

second_stops : (n : ℕ) → 0 < length (option_to_list (corner_stop (corner n 1 1)))
second_stops n =
    rw (has_text) (by_place (corner_place (corner n 1 1)) (corner_placed (corner n 1 1) (omega arith) (omega arith)))
  where
    by_place : (place : Option Place) → is_some place ≡ true → 0 < length (option_to_list (stop_in (Some (corner_text 83 1 1)) place (corner n 1 1)))
    by_place None e = absurd (false≢true e)
    by_place (Some place) e = omega arith

pub some_stop : (n : ℕ) (city : List CityStop) → IsPermutation (city_stops n) city → 2 ≤ n → 0 < length city
some_stop zero city moved many = absurd (omega (arith, many))
some_stop (suc zero) city moved many = absurd (omega (arith, many))
some_stop (suc (suc m)) city moved many =
    let n = suc (suc m) in
    let each = λ (at : Corner). option_to_list (corner_stop at) in
    let second = has_second m in
    let less = get_or-le-sum_by (λ (at : Corner). length (each at)) (corners n) second.0 (corner n 1 1) second.1 in
    let here : 0 < length (each (get_or (corners n) second.0 (corner n 1 1))) = subst (λ (at : Corner). 0 < length (each at)) (sym second.2) (second_stops n) in
    omega (arith, less, here, length-flat_map each (corners n), length_permutation (city_stops n) city moved)

-- ---- switches

pub record AreBoth (n : ℕ) : Type 0 where
  pub two : length (city_switches n) ≡ 2
  pub in_order : first_unsorted node_cmp 0 (city_switches n) ≡ None

pub both_switches : (n : ℕ) → n ≤ 300 → AreBoth n
both_switches n size =
    by_places (corner_place (first_corner n)) (corner_place (last_corner n)) (corner_placed (first_corner n) (omega arith) (omega arith)) (corner_placed (last_corner n) (omega (arith, size)) (omega (arith, size)))
    (λ long order. record { two = long; in_order = order })
  where
    by_places : {G : Type 0} (first last : Option Place) → is_some first ≡ true → is_some last ≡ true
        → (length (node_at first (Switch (pos 1000000)) ++ node_at last (Switch (pos 1000001))) ≡ 2
        → first_unsorted node_cmp 0 (node_at first (Switch (pos 1000000)) ++ node_at last (Switch (pos 1000001))) ≡ None → G) → G
    by_places (Some first) (Some last) a b give = give refl refl
    by_places None last a b give = absurd (false≢true a)
    by_places (Some first) None a b give = absurd (false≢true b)
