-- The two laws of records in a row, for every kind of record that has them by itself; and rows in order.
use Rattle.plan_base.proofs.Common.{◌≡◌, ℕ, zero, suc, true, List, [], ◌∷◌, ◌++◌, length, Some, None, Result, Ok, Err, refl, sym, ap, subst, ◌∙◌, append_assoc, arith, Option, All, AllPairs, flat_map, AllByRecursion, IsTotalOrder, is_lt, flat_map-cons, All-cons, All-nil, All-head, All-weaker, none-some, Ordering, Less, Equal, Greater}
use Rattle.file_records.specs.{with_first}
use Rattle.file_records.proofs.{Steps.err_is, NumberLaws.IsBytes, NumberLaws.Takes, NumberLaws.Takes-then, RowLaws.first_ok, RowLaws.first_err}
use Rattle.hierarchy_file.specs.{many_ascending, record_then, is_after, Follow, StopsAt}

-- a record, where the reading went on behind it
behind_ok : {X : Type 0} (others : X → List ℕ → Result (List X × List ℕ) ℕ) (left : ℕ) (o : Option (X × List ℕ)) (y : List X × List ℕ) → record_then others left o ≡ Ok y
    → (x : X × List ℕ) × (o ≡ Some x) × (with_first x.0 (others x.0 x.1) ≡ Ok y)
behind_ok others left None y e = absurd cc
behind_ok others left (Some x) y e = (x, refl, e)

module _ {X K : Type 0} (read : Option K → List ℕ → Option (X × List ℕ)) (key : X → K) (text : X → List ℕ) (Fits : X → Type 0) (Next : Option K → K → Type 0)
    (takes : (before : Option K) (bytes : List ℕ) (x : X × List ℕ) → IsBytes bytes → read before bytes ≡ Some x → Takes bytes (text x.0) x.1 × Fits x.0 × Next before (key x.0))
    (again : (before : Option K) (x : X) (rest : List ℕ) → Fits x → Next before (key x) → read before (text x ++ rest) ≡ Some (x, rest)) where
  pub many_takes : (n : ℕ) (before : Option K) (bytes : List ℕ) (y : List X × List ℕ) → IsBytes bytes → many_ascending read key n before bytes ≡ Ok y
      → Takes bytes (flat_map text y.0) y.1 × (length y.0 ≡ n) × AllByRecursion Fits y.0 × Follow Next key before y.0
  unfolding many_ascending
  many_takes zero before bytes y fits e =
      let same : ◌≡◌ {A = List X × List ℕ} ([], bytes) y = cc in
      subst (λ (z : List X × List ℕ). Takes bytes (flat_map text z.0) z.1 × (length z.0 ≡ 0) × AllByRecursion Fits z.0 × Follow Next key before z.0) same
      (record { parts = refl; rest_fits = fits }, refl, tt, tt)
  many_takes (suc n) before bytes y fits e =
      let first = behind_ok (λ x rest. many_ascending read key n (Some (key x)) rest) (length bytes) (read before bytes) y e in
      let others = first_ok first.0.0 (many_ascending read key n (Some (key first.0.0)) first.0.1) y first.2 in
      let one = takes before bytes first.0 fits first.1 in
      let more = many_takes n (Some (key first.0.0)) first.0.1 others.0 one.0.rest_fits others.1 in
      let both = Takes-then bytes (text first.0.0) first.0.1 (flat_map text others.0.0) others.0.1 one.0 more.0 in
      subst (λ (z : List X × List ℕ). Takes bytes (flat_map text z.0) z.1 × (length z.0 ≡ suc n) × AllByRecursion Fits z.0 × Follow Next key before z.0) others.2
      (rw flat_map-cons both, ap suc more.1, (one.1, more.2), (one.2, more.3))

  pub many_again : (xs : List X) (before : Option K) (rest : List ℕ) → AllByRecursion Fits xs → Follow Next key before xs
      → many_ascending read key (length xs) before (flat_map text xs ++ rest) ≡ Ok (xs, rest)
  unfolding many_ascending
  many_again [] before rest fits follow = refl
  many_again (x ∷ xs) before rest fits follow =
      let regrouped : flat_map text (x ∷ xs) ++ rest ≡ text x ++ (flat_map text xs ++ rest) =
      ap (λ t. t ++ rest) (flat_map-cons text x xs) ∙ append_assoc (text x) (flat_map text xs) rest in
      ap (many_ascending read key (suc (length xs)) before) regrouped
      ∙ ap (record_then (λ y left. many_ascending read key (length xs) (Some (key y)) left) (length (text x ++ (flat_map text xs ++ rest)))) (again before x (flat_map text xs ++ rest) fits.0 follow.0)
      ∙ ap (with_first x) (many_again xs (Some (key x)) rest fits.1 follow.1)

  -- where reading stops, no record stands that may
  pub many_stops : (n : ℕ) (before : Option K) (bytes : List ℕ) (left : ℕ) → IsBytes bytes → many_ascending read key n before bytes ≡ Err left → StopsAt text Fits Next key before n bytes left
  unfolding many_ascending
  many_stops zero before bytes left fits e = absurd cc
  many_stops (suc n) before bytes left fits e = by_first (read before bytes) refl e (λ x rest fit stop. many_stops n (Some (key x)) rest left fit stop)
    where
      by_first : (o : Option (X × List ℕ)) → read before bytes ≡ o → record_then (λ x rest. many_ascending read key n (Some (key x)) rest) (length bytes) o ≡ Err left
          → ((x : X) (rest : List ℕ) → IsBytes rest → many_ascending read key n (Some (key x)) rest ≡ Err left → StopsAt text Fits Next key (Some (key x)) n rest left) → StopsAt text Fits Next key before (suc n) bytes left
      by_first None unread e more = record {
        rows = [];
        rest = bytes;
        fewer = omega arith;
        fit = tt;
        follow = tt;
        are = refl;
        left_is = sym (err_is {A = List X × List ℕ} (length bytes) left e);
        none = λ x rest fit next is. none-some (x, rest) (sym unread ∙ ap (read before) is ∙ again before x rest fit next);
      }
      by_first (Some x) is e more =
          let one = takes before bytes x fits is in
          let rest = more x.0 x.1 one.0.rest_fits (first_err x.0 (many_ascending read key n (Some (key x.0)) x.1) left e) in
          record {
            rows = x.0 ∷ rest.rows;
            rest = rest.rest;
            fewer = (let lt = rest.fewer in omega arith);
            fit = (one.1, rest.fit);
            follow = (one.2, rest.follow);
            are = one.0.parts ∙ ap (λ t. text x.0 ++ t) rest.are ∙ sym (append_assoc (text x.0) (flat_map text rest.rows) rest.rest) ∙ ap (λ t. t ++ rest.rest) (sym (flat_map-cons text x.0 rest.rows));
            left_is = rest.left_is;
            none = rest.none;
          }

-- ---- rows in order

less_from : (o : Ordering) → is_lt o ≡ true → o ≡ Less
less_from Less e = refl
less_from Equal e = absurd cc
less_from Greater e = absurd cc

module _ {X K : Type 0} (cmp : K → K → Ordering) (total : IsTotalOrder cmp) (key : X → K) where
  abbrev IsNext : Option K → K → Type 0
  IsNext before k = is_after cmp before k ≡ true

  above_all : (k : K) (xs : List X) → Follow IsNext key (Some k) xs → All (λ x. cmp k (key x) ≡ Less) xs
  above_all k [] follow = All-nil (λ (x : X). cmp k (key x) ≡ Less)
  above_all k (x ∷ xs) follow =
      let first = less_from _ follow.0 in
      All-cons (λ (y : X). cmp k (key y) ≡ Less) x xs first
      (All-weaker (λ (y : X). cmp (key x) (key y) ≡ Less) (λ (y : X). cmp k (key y) ≡ Less) (λ y next. total.trans k (key x) (key y) first next) xs (above_all (key x) xs follow.1))

  pub ascending_from : (before : Option K) (xs : List X) → Follow IsNext key before xs → AllPairs (λ a b. cmp (key a) (key b) ≡ Less) xs
  ascending_from before [] follow i j d lt h = absurd (omega arith)
  ascending_from before (x ∷ xs) follow zero zero d lt h = absurd (omega arith)
  ascending_from before (x ∷ xs) follow (suc i) zero d lt h = absurd (omega arith)
  ascending_from before (x ∷ xs) follow zero (suc j) d lt h = above_all (key x) xs follow.1 j d (omega arith)
  ascending_from before (x ∷ xs) follow (suc i) (suc j) d lt h = ascending_from (Some (key x)) xs follow.1 i j d (omega arith) (omega arith)

  follow_after : (k : K) (xs : List X) → AllPairs (λ a b. cmp (key a) (key b) ≡ Less) xs → All (λ x. cmp k (key x) ≡ Less) xs → Follow IsNext key (Some k) xs
  follow_after k [] pairs above = tt
  follow_after k (x ∷ xs) pairs above = (
    ap is_lt (All-head (λ (y : X). cmp k (key y) ≡ Less) x xs above),
    follow_after (key x) xs (λ i j d lt h. pairs (suc i) (suc j) d (omega arith) (omega arith)) (λ j d h. pairs zero (suc j) d (omega arith) (omega arith)),
  )

  pub follow_from : (xs : List X) → AllPairs (λ a b. cmp (key a) (key b) ≡ Less) xs → Follow IsNext key None xs
  follow_from [] pairs = tt
  follow_from (x ∷ xs) pairs =
      (refl, follow_after (key x) xs (λ i j d lt h. pairs (suc i) (suc j) d (omega arith) (omega arith)) (λ j d h. pairs zero (suc j) d (omega arith) (omega arith)))
