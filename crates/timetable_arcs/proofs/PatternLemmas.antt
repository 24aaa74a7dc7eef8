-- Patterns as runs are put into them.
use Rattle.plan_base.proofs.Common.{◌≡◌, ℕ, zero, suc, replicate, ◌+◌, ◌-◌, ◌<◌, List, [], ◌∷◌, ◌++◌, length, refl, ap, sym, subst, ◌∙◌, arith, Bool, true, false, nat_lt, set, get_or, All, sum_by, slice_index_or, slice_set, le_trans, ltb-true, ltb-false, none-some, get_or_default, get_or_append_left, get_or-replicate, get_or_past, length-replicate, length_push, All-push, all_pairs_push, sum_by-set, sum_by_push}
use Rattle.std.proofs.Common.{lt_trans}
use Rattle.std.proofs.lemmas.List.Elements.{All-set}
use Rattle.timetable_arcs.specs.{Instance, TripLists, TableLists, trip_at, no_run, AreAlike, IsBehind, declared.patterns.LastPut.LastPut, inside.IsPattern, inside.MayJoinPattern, inside.AreCallsBehind, inside.AreLastPuts, inside.IsBehindNoted, inside.nothing_put, inside.sum_all}

pub alike_itself : (t : TableLists) (place : ℕ) → AreAlike (trip_at t place) (trip_at t place)
alike_itself t place = record { letter = refl; calls = refl; each = λ k d lt. record { stop = refl; board = refl; alight = refl } }

pub one_run : (t : TableLists) (run : Instance) → IsPattern t (run ∷ [])
one_run t run = record {
  some = omega arith;
  alike = All-push (λ (r : Instance). AreAlike (trip_at t run.trip) (trip_at t r.trip)) [] run (λ k d lt. absurd (omega arith)) (alike_itself t run.trip);
  in_turn = λ i j d lt within. absurd (omega arith);
}

-- of two runs of one day one is behind the other if and only if its calls are
pub behind_on_day : (t : TableLists) (first second : Instance) → first.day ≡ second.day → AreCallsBehind (trip_at t first.trip).calls (trip_at t second.trip).calls → IsBehind t first second
behind_on_day t first second same behind = record {
  departs_later = λ call lt. let later = behind.departs_later call lt in rw same (omega arith);
  arrives_no_earlier = λ call lt. let no_earlier = behind.arrives_no_earlier call lt in rw same (omega arith);
}

pub calls_behind : (t : TableLists) (first second : Instance) → first.day ≡ second.day → IsBehind t first second → AreCallsBehind (trip_at t first.trip).calls (trip_at t second.trip).calls
calls_behind t first second same behind = record {
  departs_later = λ call lt. let later = rw (← same) at (behind.departs_later call lt) in omega arith;
  arrives_no_earlier = λ call lt. let no_earlier = rw (← same) at (behind.arrives_no_earlier call lt) in omega arith;
}

-- what is behind a run that is behind another, as long, is behind that one
pub behind_both : (t : TableLists) (a b d : Instance) → length (trip_at t a.trip).calls ≡ length (trip_at t b.trip).calls → IsBehind t a b → IsBehind t b d → IsBehind t a d
behind_both t a b d same first second = record {
  departs_later = λ call lt. lt_trans (first.departs_later call lt) (second.departs_later call (omega arith));
  arrives_no_earlier = λ call lt. le_trans (first.arrives_no_earlier call lt) (second.arrives_no_earlier call (omega arith));
}

pub pushed_pattern : (t : TableLists) (runs : List Instance) (run : Instance) → IsPattern t runs → MayJoinPattern t runs run → IsPattern t (runs ++ run ∷ [])
pushed_pattern t runs run are follows = record {
  some = omega (arith, length_push runs run);
  alike = rw (get_or_append_left runs (run ∷ []) no_run 0 are.some)
      (All-push (λ (r : Instance). AreAlike (trip_at t (slice_index_or runs 0 no_run).trip) (trip_at t r.trip)) runs run are.alike follows.alike);
  in_turn = all_pairs_push (IsBehind t) runs run are.in_turn behind;
}
  where
    last : Instance
    last = slice_index_or runs (length runs - 1) no_run

    behind : (k : ℕ) (d : Instance) → k < length runs → IsBehind t (get_or runs k d) run
    behind k d lt = by_place (nat_lt k (length runs - 1)) refl
      where
        by_place : (b : Bool) → nat_lt k (length runs - 1) ≡ b → IsBehind t (get_or runs k d) run
        by_place true e =
            let before = ltb-true _ _ e in
            let to_last = subst (λ (r : Instance). IsBehind t (get_or runs k d) r) (get_or_default runs (length runs - 1) d no_run (omega arith)) (are.in_turn k (length runs - 1) d before (omega arith)) in
            let same = sym (are.alike k d lt).calls ∙ (are.alike (length runs - 1) no_run (omega arith)).calls in
            behind_both t (get_or runs k d) last run same to_last follows.behind
        by_place false e =
            let here : length runs - 1 ≡ k = omega (arith, ltb-false _ _ e) in
            subst (λ (r : Instance). IsBehind t r run) (ap (λ (j : ℕ). get_or runs j no_run) here ∙ get_or_default runs k no_run d lt) follows.behind

-- a run that is put behind those of a pattern counts once more
pub sum_pushed : (weight : Instance → ℕ) (patterns : List (List Instance)) (place : ℕ) (run : Instance) → place < length patterns
    → sum_all weight (set patterns place (get_or patterns place [] ++ run ∷ [])) ≡ sum_all weight patterns + weight run
sum_pushed weight patterns place run within =
    omega (
      arith,
      sum_by-set (λ (runs : List Instance). sum_by weight runs) patterns place (get_or patterns place [] ++ run ∷ []) [] within,
      sum_by_push weight (get_or patterns place []) run,
    )

-- the pattern at a place takes a run behind its own
pub put_behind : (t : TableLists) (patterns : List (List Instance)) (place : ℕ) (runs new : List Instance) (run : Instance) → All (IsPattern t) patterns → place < length patterns
    → runs ≡ get_or patterns place runs → MayJoinPattern t (get_or patterns place []) run → new ≡ runs ++ run ∷ [] → All (IsPattern t) (set patterns place new)
put_behind t patterns place runs new run are within is follows pushed =
    let here : runs ≡ get_or patterns place [] = is ∙ get_or_default patterns place runs [] within in
    All-set (IsPattern t) patterns place new (rw (pushed, here) (pushed_pattern t (get_or patterns place []) run (are place [] within) follows)) are

pub sum_behind : (patterns : List (List Instance)) (place : ℕ) (runs new : List Instance) (run : Instance) → place < length patterns
    → runs ≡ get_or patterns place runs → new ≡ runs ++ run ∷ [] → (weight : Instance → ℕ) → sum_all weight (set patterns place new) ≡ sum_all weight patterns + weight run
sum_behind patterns place runs new run within is pushed weight =
    let here : runs ≡ get_or patterns place [] = is ∙ get_or_default patterns place runs [] within in
    ap (λ (n : List Instance). sum_all weight (set patterns place n)) (pushed ∙ ap (λ (r : List Instance). r ++ run ∷ []) here) ∙ sum_pushed weight patterns place run within

pub put_first : (t : TableLists) (run : Instance) (runs : List Instance) → runs ≡ run ∷ [] → IsPattern t runs
put_first t run runs is = subst (IsPattern t) (sym is) (one_run t run)

-- what holds at each place holds there once the element of one is another of which it holds
set_each : {X : Type 0} (P : ℕ → X → Type 0) (xs : List X) (i : ℕ) (x d : X) → ((k : ℕ) → P k (slice_index_or xs k d)) → P i x → (k : ℕ) → P k (slice_index_or (slice_set xs i x) k d)
set_each P [] i x d each here k = each k
set_each P (z ∷ xs) zero x d each here zero = here
set_each P (z ∷ xs) zero x d each here (suc k) = each (suc k)
set_each P (z ∷ xs) (suc i) x d each here zero = each zero
set_each P (z ∷ xs) (suc i) x d each here (suc k) = set_each (λ j. P (suc j)) xs i x d (λ j. each (suc j)) here k

pub kept_put : (trips : List TripLists) (puts : List LastPut) (trip : ℕ) (put : LastPut) → AreLastPuts trips puts → IsBehindNoted trips trip put.before → AreLastPuts trips (slice_set puts trip put)
kept_put trips puts trip put are behind = set_each (λ (place : ℕ) (p : LastPut). IsBehindNoted trips place p.before) puts trip put nothing_put are behind

pub none_put : (trips : List TripLists) (n : ℕ) → AreLastPuts trips (replicate n nothing_put)
none_put trips n place before is = absurd (none-some before (sym (ap (λ (put : LastPut). put.before) (same (nat_lt place n) refl)) ∙ is))
  where
    same : (b : Bool) → nat_lt place n ≡ b → slice_index_or (replicate n nothing_put) place nothing_put ≡ nothing_put
    same true e = get_or-replicate n place nothing_put nothing_put (ltb-true _ _ e)
    same false e = get_or_past (replicate n nothing_put) place nothing_put (omega (arith, ltb-false _ _ e, length-replicate n nothing_put))
