-- Laws of the nearest point.
use Rattle.plan_base.proofs.Common.{◌≡◌, ℕ, ℤ, ◌<◌, ◌≤◌, ◌≤ℤ◌, List, [], ◌∷◌, ◌++◌, Option, Some, None, Bool, true, false, ◌&&◌, ◌||◌, nat_lt, nat_eq, int_le, if◌then◌else◌, ◌⊎◌, inl, inr, ⊎_elim, refl, ap, ap₂, ◌∙◌, append_assoc, arith, All, filter, IsPermutation, cases_lt, le-ltb, lt-ltb, nat_tests, ints, append-nil, All-filter, All-nil, All-cons, All-append, All-push, All-weaker, All-contains, Contains-append_left, Contains-push, All-permutation, Contains-permutation, IsPermutation-append_comm, IsPermutation-append_right}
use Rattle.plan_base.specs.{Place}
use Rattle.geo_length.specs.{length_between, ComesLater, ExtendsNearest, IsClosest, IsNearest, Point, length_to, limit_of, nearer_of}

-- the test whether the best so far comes no later than a point
abbrev later_test : ℤ × ℕ → ℤ → ℕ → Bool
later_test best id mm = nat_lt best.1 mm || (nat_eq best.1 mm && int_le best.0 id)

later_first : (best : ℤ × ℕ) (id : ℤ) (mm : ℕ) → later_test best id mm ≡ true → (best.1 ≤ mm) × (mm ≡ best.1 → best.0 ≤ℤ id)
later_first best id mm h = grind (arith, nat_tests, ints)

sooner_first : (best : ℤ × ℕ) (id : ℤ) (mm : ℕ) → later_test best id mm ≡ false → (mm ≤ best.1) × (mm ≡ best.1 → id ≤ℤ best.0)
sooner_first best id mm h = grind (arith, nat_tests, ints)

ltb_tells : (a b : ℕ) → ((nat_lt a b ≡ true) × (a < b)) ⊎ ((nat_lt a b ≡ false) × (b ≤ a))
ltb_tells a b = ⊎_elim (λ h. inl (lt-ltb a b h, h)) (λ h. inr (le-ltb a b h, h)) (cases_lt a b)

module _ (place : Place) (within : ℕ) where
  -- the order of the points does not matter
  pub IsNearest-permutation : (xs ys : List Point) (best : Option (ℤ × ℕ)) → IsPermutation xs ys → IsNearest xs place within best → IsNearest ys place within best
  IsNearest-permutation xs ys None same h = All-permutation (λ point. within < length_to place point) xs ys same h
  IsNearest-permutation xs ys (Some best) same h = (
    h.0,
    record {
      at = h.1.at;
      given = Contains-permutation xs ys (best.0, h.1.at) same h.1.given;
      length_is = h.1.length_is;
      closest = All-permutation (λ point. best.1 ≤ length_to place point) xs ys same h.1.closest;
      first = All-permutation (λ point. length_to place point ≡ best.1 → best.0 ≤ℤ point.0) xs ys same h.1.first;
    },
  )

  -- there is one answer
  closest_only : (points : List Point) (a b : ℤ) (x y : ℕ) → IsClosest points place a x → IsClosest points place b y → (a ≤ℤ b) × (x ≤ y)
  closest_only points a b x y p q =
      let no_closer = All-contains (λ point. x ≤ length_to place point) points (b, q.at) p.closest q.given in
      let no_closer_back = All-contains (λ point. y ≤ length_to place point) points (a, p.at) q.closest p.given in
      let same : length_between place q.at ≡ x = omega (arith, no_closer, no_closer_back, p.length_is, q.length_is) in
      (All-contains (λ point. length_to place point ≡ x → a ≤ℤ point.0) points (b, q.at) p.first q.given same, omega (arith, no_closer, q.length_is))

  none_closest : (points : List Point) (best : ℤ × ℕ) → IsNearest points place within None → IsNearest points place within (Some best) → ⊥
  none_closest points best none some =
      let past = All-contains (λ point. within < length_to place point) points (best.0, some.1.at) none some.1.given in
      omega (arith, past, some.0, some.1.length_is)

  pub IsNearest-only : (points : List Point) (a b : Option (ℤ × ℕ)) → IsNearest points place within a → IsNearest points place within b → a ≡ b
  IsNearest-only points None None p q = refl
  IsNearest-only points None (Some b) p q = absurd (none_closest points b p q)
  IsNearest-only points (Some a) None p q = absurd (none_closest points a q p)
  IsNearest-only points (Some a) (Some b) p q =
      let up = closest_only points a.0 b.0 a.1 b.1 p.1 q.1 in
      let down = closest_only points b.0 a.0 b.1 a.1 q.1 p.1 in
      let ids : a.0 ≡ b.0 = omega (arith, ints, up.0, down.0) in
      let lengths : a.1 ≡ b.1 = omega (arith, up.1, down.1) in
      ap Some (ap₂ (λ (id : ℤ) (mm : ℕ). (id, mm)) ids lengths)

  pub takes_none : (best : Option (ℤ × ℕ)) → ExtendsNearest [] place within best best
  takes_none best = record { joined = λ seen h. rw append-nil h }

  pub takes_append : (xs ys : List Point) (a b c : Option (ℤ × ℕ)) → ExtendsNearest xs place within a b → ExtendsNearest ys place within b c → ExtendsNearest (xs ++ ys) place within a c
  takes_append xs ys a b c first second =
      record { joined = λ seen h. rw (← append_assoc seen xs ys) (second.joined (seen ++ xs) (first.joined seen h)) }

  -- the points behind may be taken in before those in front
  pub takes_behind : (xs ys : List Point) (a b c : Option (ℤ × ℕ)) → ExtendsNearest ys place within a b → ExtendsNearest xs place within b c → ExtendsNearest (xs ++ ys) place within a c
  takes_behind xs ys a b c first second =
      record { joined = λ seen h. IsNearest-permutation (seen ++ (ys ++ xs)) (seen ++ (xs ++ ys)) c (IsPermutation-append_right seen (ys ++ xs) (xs ++ ys) (IsPermutation-append_comm ys xs)) ((takes_append ys xs a b c first second).joined seen h) }

  -- a point that is too far comes later
  pub far_later : (best : Option (ℤ × ℕ)) (point : Point) → limit_of within best < length_to place point → ComesLater place within best point
  far_later None point far = far
  far_later (Some best) point far = (omega (arith, far), λ same. absurd (omega (arith, far, same)))

  -- points that come later change nothing
  pub takes_later : (xs : List Point) (best : Option (ℤ × ℕ)) → All (ComesLater place within best) xs → ExtendsNearest xs place within best best
  takes_later xs None later = record { joined = λ seen h. All-append (λ point. within < length_to place point) seen xs h later }
  takes_later xs (Some best) later =
      let as_far = λ (point : Point). best.1 ≤ length_to place point in
      let no_lower = λ (point : Point). length_to place point ≡ best.1 → best.0 ≤ℤ point.0 in
      record {
        joined = λ seen h. (
          h.0,
          record {
            at = h.1.at;
            given = Contains-append_left seen xs (best.0, h.1.at) h.1.given;
            length_is = h.1.length_is;
            closest = All-append as_far seen xs h.1.closest (All-weaker (ComesLater place within (Some best)) as_far (λ point later. later.0) xs later);
            first = All-append no_lower seen xs h.1.first (All-weaker (ComesLater place within (Some best)) no_lower (λ point later. later.1) xs later);
          },
        );
      }

  pub passing_later : (passes : Point → Bool) (xs : List Point) (best : Option (ℤ × ℕ)) → All (ComesLater place within best) xs → ExtendsNearest (filter passes xs) place within best best
  passing_later passes xs best later = takes_later (filter passes xs) best (All-filter passes (ComesLater place within best) xs later)

  pub takes_one_later : (best : Option (ℤ × ℕ)) (point : Point) → ComesLater place within best point → ExtendsNearest (point ∷ []) place within best best
  takes_one_later best point later = takes_later (point ∷ []) best (All-cons (ComesLater place within best) point [] later (All-nil (ComesLater place within best)))

  -- a point that comes no later than the best so far takes its place
  takes_sooner : (best : ℤ × ℕ) (id : ℤ) (at : Place) → length_between place at ≤ best.1 → (length_between place at ≡ best.1 → id ≤ℤ best.0) → ExtendsNearest ((id, at) ∷ []) place within (Some best) (Some (id, length_between place at))
  takes_sooner best id at sooner first =
      let mm : ℕ = length_between place at in
      record {
        joined = λ seen h. (
          omega (arith, sooner, h.0),
          record {
            at = at;
            given = Contains-push seen (id, at);
            length_is = refl;
            closest = All-push (λ point. mm ≤ length_to place point) seen (id, at) (All-weaker (λ point. best.1 ≤ length_to place point) (λ point. mm ≤ length_to place point) (λ point more. omega (arith, more, sooner)) seen h.1.closest) (omega arith);
            first = All-push (λ point. length_to place point ≡ mm → id ≤ℤ point.0) seen (id, at) (λ k d below same.
                let no_closer = h.1.closest k d below in
                let as_close : mm ≡ best.1 = omega (arith, no_closer, same, sooner) in
                let low = first as_close in
                let high = h.1.first k d below (same ∙ as_close) in
                omega (arith, ints, low, high)) (λ same. omega (arith, ints));
          },
        );
      }

  takes_first : (id : ℤ) (at : Place) → length_between place at ≤ within → ExtendsNearest ((id, at) ∷ []) place within None (Some (id, length_between place at))
  takes_first id at near =
      let mm : ℕ = length_between place at in
      record {
        joined = λ seen h. (
          near,
          record {
            at = at;
            given = Contains-push seen (id, at);
            length_is = refl;
            closest = All-push (λ point. mm ≤ length_to place point) seen (id, at) (All-weaker (λ point. within < length_to place point) (λ point. mm ≤ length_to place point) (λ point more. omega (arith, more, near)) seen h) (omega arith);
            first = All-push (λ point. length_to place point ≡ mm → id ≤ℤ point.0) seen (id, at) (All-weaker (λ point. within < length_to place point) (λ point. length_to place point ≡ mm → id ≤ℤ point.0) (λ point more same. absurd (omega (arith, more, near, same))) seen h) (λ same. omega (arith, ints));
          },
        );
      }

  -- each point is taken in
  pub takes_point : (best : Option (ℤ × ℕ)) (point : Point) → ExtendsNearest (point ∷ []) place within best (nearer_of within best point.0 (length_to place point))
  takes_point None point =
      ⊎_elim
      (λ t. rw t.0 (takes_one_later None point t.1))
      (λ t. rw t.0 (takes_first point.0 point.1 t.1))
      (ltb_tells within (length_to place point))
  takes_point (Some best) point = by_test (later_test best point.0 (length_to place point)) refl
    where
      by_test : (b : Bool) → later_test best point.0 (length_to place point) ≡ b → ExtendsNearest (point ∷ []) place within (Some best) (if b then Some best else Some (point.0, length_to place point))
      by_test true e = takes_one_later (Some best) point (later_first best point.0 _ e)
      by_test false e = takes_sooner best point.0 point.1 (sooner_first best point.0 _ e).0 (sooner_first best point.0 _ e).1

-- where all points pass, a filter leaves them as they are
pub all_pass : (xs : List Point) → filter (λ point. true) xs ≡ xs
all_pass [] = refl
all_pass (x ∷ xs) = ap (λ ys. x ∷ ys) (all_pass xs)
