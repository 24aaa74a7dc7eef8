-- The rounds of the search make the boardings list.
use Rattle.plan_base.proofs.Common.{◌≡◌, ℕ, ◌<◌, ◌≤◌, ◌⊎◌, Bool, true, false, cond, List, [], ◌∷◌, length, Option, Some, None, inl, inr, refl, sym, ap, subst, arith, All, AllPairs, Contains, IfSome, ◌↔◌, cases_lt, ltb-false, ltb-true, All-nil, All-cons, All-contains, Contains-append_left, Contains-append_right, AllPairs-cons}
use Rattle.mode_network.specs.{NetworkLists.NetworkLists, Route}
use Rattle.journey.specs.{Asked, Answers}
use Rattle.few_boardings.specs.{FewRow, Found, rides, IsListedArrival, IsFewRow, AreFewRows, HasNoneByFew, IsPrintableFewRow, IsLeastFound, IsLeastBelow, is_later, with_fewer_rides, HasRowAsGood, IsOpen, AreRowsSoFar}

first_of_all : (row : FewRow) (rows : List FewRow) → Contains (row ∷ rows) row
first_of_all row rows = Contains-append_left (row ∷ []) rows row (0, omega arith, refl)

after_first : (row other : FewRow) (rows : List FewRow) → Contains rows other → Contains (row ∷ rows) other
after_first row other rows there = Contains-append_right (row ∷ []) rows other there

module _ (n : NetworkLists) (q : Asked) where
  -- what was found with fewer rides than a limit has no more rides and arrives no later than a journey below the limit, or has more
  open_below : (limit : ℕ) (best : Option Found) → IsLeastBelow n q limit best → (k : Route) (u : ℕ) → rides k < limit → Answers n q k u → IsOpen best k u
  open_below limit None none k u below answers = none k u below answers
  open_below limit (Some f) least k u below answers = on_rides (cases_lt (rides k) f.row.boardings)
    where
      on_rides : (rides k < f.row.boardings) ⊎ (f.row.boardings ≤ rides k) → IsOpen (Some f) k u
      on_rides (inl fewer) = inr fewer
      on_rides (inr as_many) = inl (as_many, least.least k u below answers)

  pub starts : (best : Option Found) → IsLeastBelow n q 9 best → AreRowsSoFar n q [] best
  starts best least = record {
    rising = λ i j d less within. absurd (omega arith);
    right = All-nil (IsFewRow n q);
    printable = All-nil (IsPrintableFewRow n);
    below = nothing best;
    limit = 9;
    few = omega arith;
    found = least;
    covers = λ k u few answers. inr (open_below 9 best least k u (omega arith) answers);
  }
    where
      nothing : (best : Option Found) → IfSome best (λ found. All (λ (row : FewRow). found.row.boardings < row.boardings) [])
      nothing None = tt
      nothing (Some f) = All-nil (λ (row : FewRow). f.row.boardings < row.boardings)

  -- a row that is later with fewer rides is listed
  row_of : (f : Found) (limit : ℕ) → limit ≤ 9 → IsLeastFound n q limit f → (fewer : Option Found) → IsLeastBelow n q f.row.boardings fewer
      → is_later fewer f.arrival ≡ true → IsFewRow n q f.row
  row_of f limit few least fewer below later = record {
    arrival = f.arrival;
    listed = record {
      few = (let b = least.below in omega arith);
      least = record {
        journey = f.row.journey;
        within = (let b = least.boards in omega arith);
        answers = least.answers;
        least = λ k u most answers. least.least k u (let b = least.below in omega arith) answers;
      };
      later = λ k u less answers. later_than fewer below later k u less answers;
    };
    answers = least.answers;
    boards = least.boards;
    boarded = least.boarded;
  }
    where
      later_than : (fewer : Option Found) → IsLeastBelow n q f.row.boardings fewer → is_later fewer f.arrival ≡ true
          → (k : Route) (u : ℕ) → rides k < f.row.boardings → Answers n q k u → f.arrival < u
      later_than None none test k u less answers = absurd (none k u less answers)
      later_than (Some g) some test k u less answers =
          let at = some.least k u less answers in let apart = ltb-true f.arrival g.arrival test in omega arith

  -- one with as few rides that is as early takes the place of what was found
  as_early : (f : Found) (limit : ℕ) → IsLeastFound n q limit f → (fewer : Option Found) → IsLeastBelow n q f.row.boardings fewer → is_later fewer f.arrival ≡ false
      → (k : Route) (u : ℕ) → f.row.boardings ≤ rides k → f.arrival ≤ u → IsOpen fewer k u
  as_early f limit least None none test k u few soon = absurd cc
  as_early f limit least (Some g) some test k u few soon =
      let early = ltb-false f.arrival g.arrival test in let less = some.below in inl (omega arith, omega arith)

  below_all : (f : Found) (rows : List FewRow) → All (λ (row : FewRow). f.row.boardings < row.boardings) rows → (fewer : Option Found) → IsLeastBelow n q f.row.boardings fewer
      → (t : ℕ) → IfSome fewer (λ found. All (λ (row : FewRow). found.row.boardings < row.boardings) (with_fewer_rides fewer t f.row rows))
  below_all f rows below None none t = tt
  below_all f rows below (Some g) some t = on_test (is_later (Some g) t)
    where
      less : g.row.boardings < f.row.boardings
      less = some.below

      others : All (λ (row : FewRow). g.row.boardings < row.boardings) rows
      others = λ k d within. (let b = below k d within in let l = less in omega arith)

      on_test : (b : Bool) → All (λ (row : FewRow). g.row.boardings < row.boardings) (cond b (f.row ∷ rows) rows)
      on_test true = All-cons (λ (row : FewRow). g.row.boardings < row.boardings) f.row rows less others
      on_test false = others

  pub goes_on : (f : Found) (rows : List FewRow) → AreRowsSoFar n q rows (Some f) → (fewer : Option Found) → IsLeastBelow n q f.row.boardings fewer
      → AreRowsSoFar n q (with_fewer_rides fewer f.arrival f.row rows) fewer
  goes_on f rows so_far fewer below = on_test (is_later fewer f.arrival) refl
    where
      least : IsLeastFound n q so_far.limit f
      least = so_far.found

      few : f.row.boardings ≤ 9
      few = let b = least.below in let l = so_far.few in omega arith

      after : (k : Route) (u : ℕ) → IsOpen (Some f) k u → Answers n q k u → (HasRowAsGood n q (f.row ∷ rows) k u) ⊎ ((f.row.boardings ≤ rides k) × (f.arrival ≤ u)) ⊎ IsOpen fewer k u
      after k u (inl both) answers = inr (inl both)
      after k u (inr more) answers = inr (inr (open_below f.row.boardings fewer below k u more answers))

      still : (rest : List FewRow) → ((row : FewRow) → Contains rows row → Contains rest row) → (k : Route) (u : ℕ) → HasRowAsGood n q rows k u → HasRowAsGood n q rest k u
      still rest there k u covered = record {
        row = covered.row;
        listed = there covered.row covered.listed;
        few = covered.few;
        arrival = covered.arrival;
        answers = covered.answers;
        soon = covered.soon;
      }

      by_row : (k : Route) (u : ℕ) → f.row.boardings ≤ rides k → f.arrival ≤ u → HasRowAsGood n q (f.row ∷ rows) k u
      by_row k u boards soon = record {
        row = f.row;
        listed = first_of_all f.row rows;
        few = boards;
        arrival = f.arrival;
        answers = least.answers;
        soon = soon;
      }

      covers_kept : (k : Route) (u : ℕ) → Answers n q k u → HasRowAsGood n q rows k u ⊎ IsOpen (Some f) k u → HasRowAsGood n q (f.row ∷ rows) k u ⊎ IsOpen fewer k u
      covers_kept k u answers (inl covered) = inl (still (f.row ∷ rows) (λ (row : FewRow) there. after_first f.row row rows there) k u covered)
      covers_kept k u answers (inr (inl (boards, soon))) = inl (by_row k u boards soon)
      covers_kept k u answers (inr (inr more)) = inr (open_below f.row.boardings fewer below k u more answers)

      covers_passed : is_later fewer f.arrival ≡ false → (k : Route) (u : ℕ) → Answers n q k u → HasRowAsGood n q rows k u ⊎ IsOpen (Some f) k u → HasRowAsGood n q rows k u ⊎ IsOpen fewer k u
      covers_passed test k u answers (inl covered) = inl covered
      covers_passed test k u answers (inr (inl (boards, soon))) = inr (as_early f so_far.limit least fewer below test k u boards soon)
      covers_passed test k u answers (inr (inr more)) = inr (open_below f.row.boardings fewer below k u more answers)

      on_test : (b : Bool) → is_later fewer f.arrival ≡ b → AreRowsSoFar n q (with_fewer_rides fewer f.arrival f.row rows) fewer
      on_test true e =
          let same : with_fewer_rides fewer f.arrival f.row rows ≡ f.row ∷ rows = ap (λ (t : Bool). cond t (f.row ∷ rows) rows) e in
          record {
            rising = subst (AllPairs (λ (first second : FewRow). first.boardings < second.boardings)) (sym same)
                (AllPairs-cons (λ (first second : FewRow). first.boardings < second.boardings) f.row rows so_far.below so_far.rising);
            right = subst (All (IsFewRow n q)) (sym same) (All-cons (IsFewRow n q) f.row rows (row_of f so_far.limit so_far.few least fewer below e) so_far.right);
            printable = subst (All (IsPrintableFewRow n)) (sym same) (All-cons (IsPrintableFewRow n) f.row rows least.printable so_far.printable);
            below = below_all f rows so_far.below fewer below f.arrival;
            limit = f.row.boardings;
            few = few;
            found = below;
            covers = λ k u most answers. subst (λ (rs : List FewRow). HasRowAsGood n q rs k u ⊎ IsOpen fewer k u) (sym same) (covers_kept k u answers (so_far.covers k u most answers));
          }
      on_test false e =
          let same : with_fewer_rides fewer f.arrival f.row rows ≡ rows = ap (λ (t : Bool). cond t (f.row ∷ rows) rows) e in
          record {
            rising = subst (AllPairs (λ (first second : FewRow). first.boardings < second.boardings)) (sym same) so_far.rising;
            right = subst (All (IsFewRow n q)) (sym same) so_far.right;
            printable = subst (All (IsPrintableFewRow n)) (sym same) so_far.printable;
            below = below_all f rows so_far.below fewer below f.arrival;
            limit = f.row.boardings;
            few = few;
            found = below;
            covers = λ k u most answers. subst (λ (rs : List FewRow). HasRowAsGood n q rs k u ⊎ IsOpen fewer k u) (sym same) (covers_passed e k u answers (so_far.covers k u most answers));
          }

  covered_at_end : (rows : List FewRow) (k : Route) (u : ℕ) → HasRowAsGood n q rows k u ⊎ IsOpen None k u → HasRowAsGood n q rows k u
  covered_at_end rows k u (inl covered) = covered
  covered_at_end rows k u (inr none) = absurd none

  -- where nothing is open any more, the rows are the boardings list
  pub are_rows : (rows : List FewRow) → AreRowsSoFar n q rows None → AreFewRows n q rows
  are_rows rows so_far = record { rising = so_far.rising; right = so_far.right; whole = whole }
    where
      whole : (boardings t : ℕ) → IsListedArrival n q boardings t → (row : FewRow) × Contains rows row × (row.boardings ≡ boardings)
      whole boardings t listed =
          let least = listed.least in
          let few = listed.few in
          let within = least.within in
          let covered = covered_at_end rows least.journey t (so_far.covers least.journey t (omega arith) least.answers) in
          let row = All-contains (IsFewRow n q) rows covered.row so_far.right covered.listed in
          (covered.row, covered.listed, same covered row (cases_lt covered.row.boardings boardings) (omega (arith, covered.few)))
        where
          same : (covered : HasRowAsGood n q rows listed.least.journey t) → IsFewRow n q covered.row → (covered.row.boardings < boardings) ⊎ (boardings ≤ covered.row.boardings)
              → covered.row.boardings ≤ boardings → covered.row.boardings ≡ boardings
          same covered row (inr le) ge = omega arith
          same covered row (inl less) ge =
              let later = listed.later covered.row.journey covered.arrival (let b = row.boards in omega arith) covered.answers in
              let soon = covered.soon in absurd (omega arith)

  pub none_or_some : (rows : List FewRow) → AreRowsSoFar n q rows None → (rows ≡ []) ↔ HasNoneByFew n q
  none_or_some rows so_far = (out, back rows so_far.right)
    where
      out : rows ≡ [] → HasNoneByFew n q
      out none k u few answers =
          let covered = covered_at_end rows k u (so_far.covers k u few answers) in
          let (place, within, is) = covered.listed in
          let empty = ap length none in absurd (omega arith)

      back : (rs : List FewRow) → All (IsFewRow n q) rs → HasNoneByFew n q → rs ≡ []
      back [] right none = refl
      back (row ∷ rs) right none =
          let is = right 0 row (omega arith) in
          let boards = is.boards in let few = is.listed.few in
          absurd (none row.journey is.arrival (omega arith) is.answers)

  -- the same, where the parts are given by what they are equal to
  pub goes_on_by : (best fewer : Option Found) (f : Found) (rows new : List FewRow) → AreRowsSoFar n q rows best → best ≡ Some f → IsLeastBelow n q f.row.boardings fewer
      → new ≡ with_fewer_rides fewer f.arrival f.row rows → AreRowsSoFar n q new fewer
  goes_on_by best fewer f rows new so_far is below e =
      subst (λ (rs : List FewRow). AreRowsSoFar n q rs fewer) (sym e) (goes_on f rows (subst (λ (b : Option Found). AreRowsSoFar n q rows b) is so_far) fewer below)
