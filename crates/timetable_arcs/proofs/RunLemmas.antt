-- The runs of a pattern in turn, and what is found among them.
use Rattle.plan_base.proofs.Common.{◌≡◌, ℕ, suc, zero, cond, take, ◌-◌, ◌<◌, ◌≤◌, List, [], ◌∷◌, length, Option, Some, None, true, false, Bool, nat_lt, nat_le, refl, ap, sym, subst, ◌∙◌, ◌⊎◌, inl, inr, arith, slice_get, slice_index_or, Contains, find, position_or_len, IsPartitionPoint, IsNonDecreasingBy, le_refl, ltb-true, ltb-false, lt-ltb, le-ltb, leb-true, le-leb, slice_get_within, get_or_from_slice_get, slice_get_cases, same_Some, none-some, get_or_default, get_or_past, fails_before_first, passes_at_first, position_or_len_is}
use Rattle.std.proofs.lemmas.List.Folds.{find_at}
use Rattle.timetable_arcs.specs.{Instance, TableLists, trip_at, runs_of, pattern_trip, arrives, departs, last_arrived, IsIn, IsBehind, ArePatterns, inside.IsFirstFrom}

-- where a search finds an element: the test passes there, and fails before
pub record IsFoundAt {X : Type 0} (test : X → Bool) (xs : List X) (x : X) (k : ℕ) : Type 0 where
  pub within : k < length xs
  pub is : slice_index_or xs k x ≡ x
  pub passes : test x ≡ true
  pub fails : (j : ℕ) (d : X) → j < k → test (slice_index_or xs j d) ≡ false

pub found_at : {X : Type 0} (test : X → Bool) (xs : List X) (x : X) → find test xs ≡ Some x → IsFoundAt test xs x (position_or_len test xs)
found_at test xs x e =
    let at = sym (find_at test xs) ∙ e in
    let within = slice_get_within xs (position_or_len test xs) x at in
    let is = get_or_from_slice_get xs (position_or_len test xs) x x at in
    record {
      within = within;
      is = is;
      passes = ap test (sym is) ∙ passes_at_first test xs x within;
      fails = λ j d h. fails_before_first test xs j d h;
    }

pub found_nowhere : {X : Type 0} (test : X → Bool) (xs : List X) → find test xs ≡ None → (x : X) → Contains xs x → test x ≡ false
found_nowhere test xs e x (k, within, is) =
    ap test (sym is) ∙ fails_before_first test xs k x (past (slice_get_cases xs (position_or_len test xs)).1)
  where
    past : ((y : _) × (position_or_len test xs < length xs) × (slice_get xs (position_or_len test xs) ≡ Some y) × (slice_index_or xs (position_or_len test xs) y ≡ y)) ⊎ ((length xs ≤ position_or_len test xs) × (slice_get xs (position_or_len test xs) ≡ None)) → k < position_or_len test xs
    past (inl (y, lt, some, same)) = let clash = sym some ∙ (sym (find_at test xs) ∙ e) in cc
    past (inr (le, none)) = omega arith

-- of two found by tests of which the second is stricter, the first is no later
pub found_no_later : {X : Type 0} (test : X → Bool) (xs : List X) (x y : X) (j : ℕ) → find test xs ≡ Some x → slice_index_or xs j y ≡ y → test y ≡ true → position_or_len test xs ≤ j
found_no_later test xs x y j e is passes = by_place (nat_lt j (position_or_len test xs)) refl
  where
    by_place : (b : Bool) → nat_lt j (position_or_len test xs) ≡ b → position_or_len test xs ≤ j
    by_place true h = let fails = fails_before_first test xs j y (ltb-true _ _ h) in let held = ap test is in cc
    by_place false h = ltb-false _ _ h

module _ (t : TableLists) (patterns : ArePatterns t) (p : ℕ) where
  pub within_patterns : (run : Instance) → IsIn t p run → p < length t.patterns
  within_patterns run (k, within, is) = by_place (nat_lt p (length t.patterns)) refl
    where
      by_place : (b : Bool) → nat_lt p (length t.patterns) ≡ b → p < length t.patterns
      by_place true h = ltb-true _ _ h
      by_place false h =
          let none : runs_of t p ≡ [] = get_or_past t.patterns p [] (ltb-false _ _ h) in
          let empty = subst (λ (runs : List Instance). k < length runs) none within in
          absurd (omega arith)

  -- a run arrives and departs no later than one that is not before it
  pub record IsNoLater (a b : Instance) (call : ℕ) : Type 0 where
    pub arrives : arrives t a call ≤ arrives t b call
    pub departs : departs t a call ≤ departs t b call

  pub in_order : (i j : ℕ) (a b : Instance) → slice_index_or (runs_of t p) i a ≡ a → slice_index_or (runs_of t p) j b ≡ b → i ≤ j → j < length (runs_of t p)
      → (call : ℕ) → call < length (pattern_trip t p).calls → IsNoLater a b call
  in_order i j a b at_a at_b le within call h = by_place (nat_lt i j) refl
    where
      is_in : IsIn t p a
      is_in = (i, omega arith, at_a)

      call_of_a : call < length (trip_at t a.trip).calls
      call_of_a = let same = (patterns.alike p a is_in).calls in omega arith

      behind : i < j → IsBehind t a b
      behind lt =
          subst (λ (x : Instance). IsBehind t x b) at_a
          (subst (λ (y : Instance). IsBehind t (slice_index_or (runs_of t p) i a) y) (sym (get_or_default (runs_of t p) j b a within) ∙ at_b)
          (patterns.in_turn p (within_patterns a is_in) i j a lt within))

      same : i ≡ j → a ≡ b
      same e = sym at_a ∙ (get_or_default (runs_of t p) i a b (omega arith) ∙ (ap (λ (k : ℕ). slice_index_or (runs_of t p) k b) e ∙ at_b))

      by_place : (c : Bool) → nat_lt i j ≡ c → IsNoLater a b call
      by_place true e =
          let is = behind (ltb-true _ _ e) in
          let later : departs t a call < departs t b call = is.departs_later call call_of_a in
          record { arrives = is.arrives_no_earlier call call_of_a; departs = omega arith }
      by_place false e =
          let one = same (omega (arith, ltb-false _ _ e)) in
          subst (λ (x : Instance). IsNoLater a x call) one (record { arrives = le_refl _; departs = le_refl _ })

not_leb : (a b : ℕ) → b < a → nat_le a b ≡ false
not_leb a b lt = by_test (nat_le a b) refl
  where
    by_test : (c : Bool) → nat_le a b ≡ c → c ≡ false
    by_test true e = let le = leb-true a b e in absurd (omega arith)
    by_test false e = refl

-- what a search by halves finds
module _ {X : Type 0} (n : X → ℕ) (time : ℕ) where
  pub found_from : (xs : List X) (place : ℕ) → place ≤ length xs → IsPartitionPoint (λ y. nat_lt (n y) time ≡ true) (λ y. nat_lt (n y) time ≡ false) xs place
      → slice_get xs place ≡ find (λ y. nat_le time (n y)) xs
  found_from xs place within point = by_length xs refl
    where
      by_length : (ys : List X) → xs ≡ ys → slice_get xs place ≡ find (λ y. nat_le time (n y)) xs
      by_length [] e = rw e refl
      by_length (d ∷ ys) e =
          let place_is = position_or_len_is (λ (y : X). nat_le time (n y)) xs place d within
          (λ k lt. not_leb _ _ (ltb-true _ _ (point.0 k d (omega arith) lt)))
          (λ lt. le-leb _ _ (ltb-false _ _ (point.1 place d (le_refl _) lt))) in
          sym (find_at (λ (y : X). nat_le time (n y)) xs ∙ ap (slice_get xs) place_is)

-- what stands at a place that fits
pub found_at_hint : {X : Type 0} (n : X → ℕ) (time : ℕ) (xs : List X) (place : ℕ) → IsNonDecreasingBy n xs → IsFirstFrom n time xs place
    → slice_get xs place ≡ find (λ y. nat_le time (n y)) xs
found_at_hint n time xs place rise first = found_from n time xs place first.within (
  (λ k d from lt. lt-ltb _ _ (let here = first.before d (omega arith) in let le = rise k (place - 1) d (omega arith) (let within = first.within in omega arith) in omega arith)),
  (λ k d from lt. le-ltb _ _ (let here = first.at d (omega arith) in let le = rise place k d from lt in omega arith)),
)

module _ (t : TableLists) (call time : ℕ) where
  abbrev pub passes : Instance → Bool
  passes run = nat_le (arrives t run call) time

  -- the last of so many runs
  abbrev last_of : List Instance → ℕ → Option Instance → Option Instance
  last_of xs zero o = o
  last_of [] (suc k) o = o
  last_of (x ∷ xs) (suc k) o = last_of xs k (Some x)

  none_arrives : (xs : List Instance) (o : Option Instance) → ((k : ℕ) (d : Instance) → k < length xs → passes (slice_index_or xs k d) ≡ false) → last_arrived t call time xs o ≡ o
  none_arrives [] o h = refl
  none_arrives (x ∷ xs) o h =
      let first : passes x ≡ false = h 0 x (omega arith) in
      rw first (none_arrives xs o (λ k d lt. h (suc k) d (omega arith)))

  last_place : (xs : List Instance) (place : ℕ) (o : Option Instance) → IsPartitionPoint (λ y. passes y ≡ true) (λ y. passes y ≡ false) xs place
      → last_arrived t call time xs o ≡ last_of xs place o
  last_place xs zero o point = none_arrives xs o (λ k d lt. point.1 k d (omega arith) lt)
  last_place [] (suc k) o point = refl
  last_place (x ∷ xs) (suc place) o point =
      let first : passes x ≡ true = point.0 0 x (omega arith) (omega arith) in
      rw first (last_place xs place (Some x) (λ k d le lt. point.0 (suc k) d (omega arith) (omega arith), λ k d le lt. point.1 (suc k) d (omega arith) (omega arith)))

  last_after : (x : Instance) (xs : List Instance) (place : ℕ) → slice_get (x ∷ take place xs) (length (take place xs)) ≡ last_of xs place (Some x)
  last_after x xs zero = refl
  last_after x [] (suc place) = refl
  last_after x (y ∷ ys) (suc place) = last_after y ys place

  last_taken : (xs : List Instance) (place : ℕ) → slice_get (take place xs) (length (take place xs) - 1) ≡ last_of xs place None
  last_taken xs zero = refl
  last_taken [] (suc place) = refl
  last_taken (x ∷ xs) (suc place) =
      let less : length (take (suc place) (x ∷ xs)) - 1 ≡ length (take place xs) = omega arith in
      ap (slice_get (x ∷ take place xs)) less ∙ last_after x xs place

  pub found_by : (xs : List Instance) (place : ℕ) → IsPartitionPoint (λ y. passes y ≡ true) (λ y. passes y ≡ false) xs place
      → slice_get (take place xs) (length (take place xs) - 1) ≡ last_arrived t call time xs None
  found_by xs place point = last_taken xs place ∙ sym (last_place xs place None point)

  -- where the last that passes is
  pub record IsLastPassing (xs : List Instance) (run : Instance) (k : ℕ) : Type 0 where
    pub within : k < length xs
    pub is : slice_index_or xs k run ≡ run
    pub passes_there : passes run ≡ true
    pub fails : (j : ℕ) (d : Instance) → k < j → j < length xs → passes (slice_index_or xs j d) ≡ false

  abbrev pub NonePasses : List Instance → Type 0
  NonePasses xs = (j : ℕ) (d : Instance) → j < length xs → passes (slice_index_or xs j d) ≡ false

  none_more : (x : Instance) (xs : List Instance) → passes x ≡ false → NonePasses xs → NonePasses (x ∷ xs)
  none_more x xs first rest zero d lt = first
  none_more x xs first rest (suc j) d lt = rest j d (omega arith)

  one_on : (x : Instance) (xs : List Instance) (run : Instance) → (k : ℕ) × IsLastPassing xs run k → (k : ℕ) × IsLastPassing (x ∷ xs) run k
  one_on x xs run (k, h) = (
    suc k,
    record {
      within = omega (arith, h.within);
      is = h.is;
      passes_there = h.passes_there;
      fails = later;
    },
  )
    where
      later : (j : ℕ) (d : Instance) → suc k < j → j < length (x ∷ xs) → passes (slice_index_or (x ∷ xs) j d) ≡ false
      later zero d lt within = absurd (omega arith)
      later (suc j) d lt within = h.fails j d (omega arith) (omega arith)

  pub last_is : (xs : List Instance) (o : Option Instance) (run : Instance) → last_arrived t call time xs o ≡ Some run
      → ((o ≡ Some run) × NonePasses xs) ⊎ ((k : ℕ) × IsLastPassing xs run k)
  last_is [] o run e = inl (e, λ j d lt. absurd (omega arith))
  last_is (x ∷ xs) o run e = on_first (passes x) refl e (last_is xs (Some x) run) (last_is xs o run)
    where
      Answers : Option Instance → List Instance → Type 0
      Answers p ys = ((p ≡ Some run) × NonePasses ys) ⊎ ((k : ℕ) × IsLastPassing ys run k)

      on_first : (b : Bool) → passes x ≡ b → last_arrived t call time xs (cond b (Some x) o) ≡ Some run
          → (last_arrived t call time xs (Some x) ≡ Some run → ((Some x ≡ Some run) × NonePasses xs) ⊎ ((k : ℕ) × IsLastPassing xs run k))
          → (last_arrived t call time xs o ≡ Some run → ((o ≡ Some run) × NonePasses xs) ⊎ ((k : ℕ) × IsLastPassing xs run k))
          → ((o ≡ Some run) × NonePasses (x ∷ xs)) ⊎ ((k : ℕ) × IsLastPassing (x ∷ xs) run k)
      on_first true h e with_x without = after (with_x e)
        where
          after : ((Some x ≡ Some run) × NonePasses xs) ⊎ ((k : ℕ) × IsLastPassing xs run k) → ((o ≡ Some run) × NonePasses (x ∷ xs)) ⊎ ((k : ℕ) × IsLastPassing (x ∷ xs) run k)
          after (inl (same, none)) = inr (
            0,
            record {
              within = omega arith;
              is = same_Some x run same;
              passes_there = ap passes (sym (same_Some x run same)) ∙ h;
              fails = here;
            },
          )
            where
              here : (j : ℕ) (d : Instance) → 0 < j → j < length (x ∷ xs) → passes (slice_index_or (x ∷ xs) j d) ≡ false
              here zero d lt within = absurd (omega arith)
              here (suc j) d lt within = none j d (omega arith)
          after (inr later) = inr (one_on x xs run later)
      on_first false h e with_x without = after (without e)
        where
          after : ((o ≡ Some run) × NonePasses xs) ⊎ ((k : ℕ) × IsLastPassing xs run k) → ((o ≡ Some run) × NonePasses (x ∷ xs)) ⊎ ((k : ℕ) × IsLastPassing (x ∷ xs) run k)
          after (inl (same, none)) = inl (same, none_more x xs h none)
          after (inr later) = inr (one_on x xs run later)

  pub last_none : (xs : List Instance) (o : Option Instance) → last_arrived t call time xs o ≡ None → (o ≡ None) × NonePasses xs
  last_none [] o e = (e, λ j d lt. absurd (omega arith))
  last_none (x ∷ xs) o e = on_first (passes x) refl e (last_none xs (Some x)) (last_none xs o)
    where
      on_first : (b : Bool) → passes x ≡ b → last_arrived t call time xs (cond b (Some x) o) ≡ None
          → (last_arrived t call time xs (Some x) ≡ None → (Some x ≡ None) × NonePasses xs)
          → (last_arrived t call time xs o ≡ None → (o ≡ None) × NonePasses xs) → (o ≡ None) × NonePasses (x ∷ xs)
      on_first true h e with_x without = absurd (none-some x (sym (with_x e).0))
      on_first false h e with_x without = let rest = without e in (rest.0, none_more x xs h rest.1)
