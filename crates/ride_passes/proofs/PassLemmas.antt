-- What one call of a pass does.
use Rattle.plan_base.proofs.Common.{◌≡◌, ℕ, ◌+◌, ◌<◌, ◌≤◌, ◌⊎◌, inl, inr, List, length, Option, Some, None, true, false, Bool, nat_lt, ltb-true, ltb-false, below_more, get_or_append_left, get_or_push, refl, sym, subst, ◌∙◌, [], ◌∷◌, ◌++◌, arith, le_refl, le_trans, same_Some, none-some, slice_index_or, if◌then◌else◌, option_map, IfSome}
use Rattle.timetable_arcs.specs.{Instance, TableLists, IsIn, pattern_trip, no_call, arrives, departs, IsTable, IsNextRun}
use Rattle.ride_passes.specs.{IsBoardedAt, CanBeIn, IsArrivalAt, inside.IsNoLater, inside.IsEarliestOf, inside.IsFirstOf, inside.IsBoardedOr}
use Rattle.ride_passes.proofs.RunLemmas.{no_later_by}

module _ (t : TableLists) (table : IsTable t) (p call since : ℕ) (within : call < length (pattern_trip t p).calls) where
  -- the run that is boarded departs by then: what departs later is no earlier
  pub keeps : (run : Instance) → IsIn t p run → departs t run call ≤ since → IsFirstOf t p (IsBoardedOr t p (Some run) call since) (Some run)
  keeps run is_in early = record { is_in = is_in; is = inl refl; first = by_way }
    where
      by_way : (other : Instance) → IsBoardedOr t p (Some run) call since other → IsNoLater t p run other
      by_way other (inl e) = subst (IsNoLater t p run) (same_Some run other e) (no_later_by t table p run run is_in is_in call within (le_refl _))
      by_way other (inr (other_in, late)) = no_later_by t table p run other is_in other_in call within (omega (arith, early, late))

  -- none is boarded, or one that departs no earlier: the next run is the earliest
  pub changes : (boarded next : Option Instance) → IfSome boarded (λ run. IsIn t p run × (since ≤ departs t run call)) → IsNextRun t p call since next
      → IsFirstOf t p (IsBoardedOr t p boarded call since) next
  changes boarded next late found = by_found next found
    where
      known : (run : Instance) → boarded ≡ Some run → IsIn t p run × (since ≤ departs t run call)
      known run e = subst (λ (o : Option Instance). IfSome o (λ run. IsIn t p run × (since ≤ departs t run call))) e late

      one : (run : Instance) → IsBoardedOr t p boarded call since run → IsIn t p run × (since ≤ departs t run call)
      one run (inl e) = known run e
      one run (inr here) = here

      by_found : (o : Option Instance) → IsNextRun t p call since o → IsFirstOf t p (IsBoardedOr t p boarded call since) o
      by_found None none = λ run is. let (is_in, here) = one run is in let before = none run is_in in omega (arith, before, here)
      by_found (Some run) found = record {
        is_in = found.is_in;
        is = inr (found.is_in, found.in_time);
        first = λ other is. let (is_in, here) = one other is in no_later_by t table p run other found.is_in is_in call within (found.first other is_in here);
      }

no_later_still : (t : TableLists) (p : ℕ) (a b c : Instance) → IsNoLater t p a b → IsNoLater t p b c → IsNoLater t p a c
no_later_still t p a b c one two = record {
  arrival = λ call lt. le_trans (one.arrival call lt) (two.arrival call lt);
  departure = λ call lt. le_trans (one.departure call lt) (two.departure call lt);
}

module _ (t : TableLists) (p : ℕ) (reached : List (Option ℕ)) where
  module _ (call : ℕ) where
    -- who can be in a run as it comes to the next call could before, or boards it here
    more : (run : Instance) → CanBeIn t p reached (call + 1) run → CanBeIn t p reached call run ⊎ IsBoardedAt t p reached call run
    more run (board, before, at) = on_test (nat_lt board call) refl
      where
        on_test : (b : Bool) → nat_lt board call ≡ b → CanBeIn t p reached call run ⊎ IsBoardedAt t p reached call run
        on_test true e = inl (board, ltb-true board call e, at)
        on_test false e =
            let same : board ≡ call = let le = ltb-false board call e in omega (arith, before, le) in
            inr (subst (λ (b : ℕ). IsBoardedAt t p reached b run) same at)

    still : (run : Instance) → CanBeIn t p reached call run → CanBeIn t p reached (call + 1) run
    still run (board, before, at) = (board, omega (arith, before), at)

    -- where one cannot board, the earliest run stays
    pub stays : ((run : Instance) → IsBoardedAt t p reached call run → ⊥) → (boarded : Option Instance) → IsFirstOf t p (CanBeIn t p reached call) boarded
        → IsFirstOf t p (CanBeIn t p reached (call + 1)) boarded
    stays here_none boarded h = by_boarded boarded h
      where
        before : (run : Instance) → CanBeIn t p reached call run ⊎ IsBoardedAt t p reached call run → CanBeIn t p reached call run
        before run (inl can) = can
        before run (inr here) = absurd (here_none run here)

        by_boarded : (o : Option Instance) → IsFirstOf t p (CanBeIn t p reached call) o → IsFirstOf t p (CanBeIn t p reached (call + 1)) o
        by_boarded None h = λ run can. h run (before run (more run can))
        by_boarded (Some run) h = record { is_in = h.is_in; is = still run h.is; first = λ other can. h.first other (before other (more other can)) }

    module _ (since : ℕ) (may_board : (slice_index_or (pattern_trip t p).calls call no_call).board ≡ true) (there : slice_index_or reached call None ≡ Some since) where
      boards_here : (run : Instance) → IsIn t p run → since ≤ departs t run call → CanBeIn t p reached (call + 1) run
      boards_here run is_in late = (call, omega arith, record { is_in = is_in; may_board = may_board; since = since; there = there; in_time = late })

      in_time : (run : Instance) → IsBoardedAt t p reached call run → since ≤ departs t run call
      in_time run here =
          let same = same_Some here.since since (sym here.there ∙ there) in
          let late = here.in_time in
          omega (arith, same, late)

      -- where one can board, it is the earliest of the one before and those that one can board
      pub boards : (boarded found : Option Instance) → IsFirstOf t p (CanBeIn t p reached call) boarded → IsFirstOf t p (IsBoardedOr t p boarded call since) found
          → IsFirstOf t p (CanBeIn t p reached (call + 1)) found
      boards boarded found h f = by_found found f
        where
          none_before : (o : Option Instance) → IsFirstOf t p (CanBeIn t p reached call) o → IsFirstOf t p (IsBoardedOr t p o call since) None
              → (run : Instance) → CanBeIn t p reached call run → ⊥
          none_before None h f run before = h run before
          none_before (Some first) h f run before = f first (inl refl)

          is_one : (o : Option Instance) → IsFirstOf t p (CanBeIn t p reached call) o → (run : Instance) → o ≡ Some run → CanBeIn t p reached call run
          is_one None h run e = absurd (none-some run e)
          is_one (Some first) h run e = subst (CanBeIn t p reached call) (same_Some first run e) h.is

          no_later : (o : Option Instance) → IsFirstOf t p (CanBeIn t p reached call) o → (run : Instance) → IsEarliestOf t p (IsBoardedOr t p o call since) run
              → (other : Instance) → CanBeIn t p reached call other → IsNoLater t p run other
          no_later None h run f other before = absurd (h other before)
          no_later (Some first) h run f other before = no_later_still t p run first other (f.first first (inl refl)) (h.first other before)

          by_found : (o : Option Instance) → IsFirstOf t p (IsBoardedOr t p boarded call since) o → IsFirstOf t p (CanBeIn t p reached (call + 1)) o
          by_found None f = λ run can. by_way run (more run can)
            where
              by_way : (run : Instance) → CanBeIn t p reached call run ⊎ IsBoardedAt t p reached call run → ⊥
              by_way run (inl before) = none_before boarded h f run before
              by_way run (inr here) = f run (inr (here.is_in, in_time run here))
          by_found (Some run) f = record { is_in = f.is_in; is = by_case f.is; first = λ other can. by_way other (more other can) }
            where
              by_case : IsBoardedOr t p boarded call since run → CanBeIn t p reached (call + 1) run
              by_case (inl e) = still run (is_one boarded h run e)
              by_case (inr (is_in, late)) = boards_here run is_in late

              by_way : (other : Instance) → CanBeIn t p reached call other ⊎ IsBoardedAt t p reached call other → IsNoLater t p run other
              by_way other (inl before) = no_later boarded h run f other before
              by_way other (inr here) = f.first other (inr (here.is_in, in_time other here))

    -- the earliest run that one can be in arrives first
    pub arrives_first : (boarded : Option Instance) → call < length (pattern_trip t p).calls → IsFirstOf t p (CanBeIn t p reached call) boarded
        → IsArrivalAt t p reached call (if (slice_index_or (pattern_trip t p).calls call no_call).alight then option_map (λ run. arrives t run call) boarded else None)
    arrives_first boarded within h = on_test (slice_index_or (pattern_trip t p).calls call no_call).alight refl boarded h
      where
        on_test : (b : Bool) → (slice_index_or (pattern_trip t p).calls call no_call).alight ≡ b → (o : Option Instance) → IsFirstOf t p (CanBeIn t p reached call) o
            → IsArrivalAt t p reached call (if b then option_map (λ run. arrives t run call) o else None)
        on_test true e None h = λ may. h
        on_test true e (Some run) h = record { may_alight = e; run = run; can_be_in = h.is; is = refl; first = λ other can. (h.first other can).arrival call within }
        on_test false e o h = λ may. absurd (let clash = sym may ∙ e in cc)

    -- with the arrival at the call there is one for each up to it
    pub arrived : (arrivals : List (Option ℕ)) (arrival : Option ℕ) → length arrivals ≡ call
        → ((k : ℕ) → k < call → IsArrivalAt t p reached k (slice_index_or arrivals k None)) → IsArrivalAt t p reached call arrival
        → (k : ℕ) → k < call + 1 → IsArrivalAt t p reached k (slice_index_or (arrivals ++ arrival ∷ []) k None)
    arrived arrivals arrival each are here =
        below_more _ _ (λ k lt. subst (IsArrivalAt t p reached k) (sym (get_or_append_left arrivals (arrival ∷ []) None k (omega (arith, each, lt)))) (are k lt))
        (subst (IsArrivalAt t p reached call) (sym (get_or_push arrivals arrival None call each)) here)
