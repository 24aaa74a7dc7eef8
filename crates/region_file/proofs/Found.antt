-- What is read is spelled so: the lines of what was put are the lines that were put.
use Rattle.plan_base.proofs.Common.{◌≡◌, ℕ, suc, List, [], ◌∷◌, ◌++◌, length, map, refl, ap, ap₂, sym, ◌∙◌, ◌<◌, ◌≤◌, ◌+◌, ◌-◌, Bool, true, false, cond, arith, append_assoc, length-append, add-zero, zero-add, ◌⊎◌, inl, inr, Some, None, fold, zip, nat_eq, nat_le, nat_lt, ◌&&◌, flat_map, cases_lt, false≢true, nat_tests, append-nil, map-append, none-some, same_Some}
use Rattle.plain_texts.specs.{run_on}
use Rattle.mode_network.specs.{Node, Road, Stop, Switch, NetworkLists.NetworkLists}
use Rattle.plan_base.specs.{DaySet}
use Rattle.timetable_arcs.specs.{Call, TripLists}
use Rattle.region_file.specs.{Line, Progress, node_line, stop_line, trip_lines, region_lines, behind, behind_days, calls_due_behind, is_due, is_end, may_follow, may_stand, progress_after, rank, section_of, start, nothing, put, with_last_call}
use Rattle.region_file.specs.declared.lines.Line.TheVariants as line
use Rattle.region_file.specs.declared.section.Section.TheVariants as section
use Rattle.region_file.proofs.{LastTrip.length-with_last_call, SectionLaws.stops}

-- the lines of trips so far, where so many calls of the last trip are due
abbrev trips_so_far : ℕ → List TripLists → List Line
trips_so_far due [] = []
trips_so_far due (trip ∷ []) = line.Trip trip.letter trip.days (length trip.calls + due) trip.name ∷ map line.Call trip.calls
trips_so_far due (trip ∷ next ∷ more) = trip_lines trip ++ trips_so_far due (next ∷ more)

-- the lines that were put so far, all sections in a row
abbrev so_far : ℕ → NetworkLists → List Line
so_far due n = line.Days n.days ∷ (map node_line n.roads ++ (map stop_line (zip n.stop_names n.stops) ++ (map node_line n.switches ++ (map line.Arc n.arcs ++ (map line.Link n.links ++ trips_so_far due n.trips)))))

-- behind this section the lists of later sections are empty, and calls are due of a trip
record IsAt (p : Progress) (n : NetworkLists) : Type 0 where
  roads : rank p.section < 2 → n.roads ≡ []
  names : rank p.section < 3 → n.stop_names ≡ []
  stops : rank p.section < 3 → n.stops ≡ []
  switches : rank p.section < 4 → n.switches ≡ []
  arcs : rank p.section < 5 → n.arcs ≡ []
  links : rank p.section < 6 → n.links ≡ []
  trips : rank p.section < 7 → n.trips ≡ []
  named : length n.stop_names ≡ length n.stops
  begun : 0 < p.calls_due → 0 < length n.trips

-- one line more at the end of a section, where the later ones are empty; and behind the earlier sections
at_end : (mine later : List Line) (l : Line) → later ≡ [] → (mine ++ l ∷ []) ++ later ≡ (mine ++ later) ++ l ∷ []
at_end mine later l e = ap (λ x. (mine ++ l ∷ []) ++ x) e ∙ append-nil (mine ++ l ∷ []) ∙ ap (λ x. x ++ l ∷ []) (sym (append-nil mine) ∙ ap (λ x. mine ++ x) (sym e))

after : (before old new : List Line) (l : Line) → new ≡ old ++ l ∷ [] → before ++ new ≡ (before ++ old) ++ l ∷ []
after before old new l e = ap (λ x. before ++ x) e ∙ sym (append_assoc before old (l ∷ []))

both_empty : (xs ys : List Line) → xs ≡ [] → ys ≡ [] → xs ++ ys ≡ []
both_empty xs ys x y = ap₂ (λ a b. a ++ b) x y

zip_push : (names : List (List ℕ)) (nodes : List Node) (name : List ℕ) (node : Node) → length names ≡ length nodes → map stop_line (zip (names ++ name ∷ []) (nodes ++ node ∷ [])) ≡ map stop_line (zip names nodes) ++ stop_line (name, node) ∷ []
zip_push [] [] name node e = refl
zip_push [] (b ∷ bs) name node e = absurd (omega (arith, e))
zip_push (a ∷ more) [] name node e = absurd (omega (arith, e))
zip_push (a ∷ more) (b ∷ bs) name node e = ap (λ x. stop_line (a, b) ∷ x) (zip_push more bs name node (omega (arith, e)))

-- no call is due
trips_whole : (trips : List TripLists) → trips_so_far 0 trips ≡ flat_map trip_lines trips
trips_whole [] = refl
trips_whole (trip ∷ []) = ap (λ calls. line.Trip trip.letter trip.days calls trip.name ∷ map line.Call trip.calls) (add-zero (length trip.calls)) ∙ sym (append-nil (trip_lines trip))
trips_whole (trip ∷ next ∷ more) = ap (λ x. trip_lines trip ++ x) (trips_whole (next ∷ more))

-- a trip begins, and a call of the last trip follows
trip_begins : (trips : List TripLists) (letter : ℕ) (days : DaySet) (calls : ℕ) (name : List ℕ) → trips_so_far calls (trips ++ record { letter = letter; days = days; name = name; calls = [] } ∷ []) ≡ trips_so_far 0 trips ++ line.Trip letter days calls name ∷ []
trip_begins [] letter days calls name = ap (λ count. line.Trip letter days count name ∷ []) (zero-add calls)
trip_begins (trip ∷ []) letter days calls name =
    ap₂ (λ mine count. (line.Trip trip.letter trip.days mine trip.name ∷ map line.Call trip.calls) ++ line.Trip letter days count name ∷ []) (sym (add-zero (length trip.calls))) (zero-add calls)
trip_begins (trip ∷ next ∷ more) letter days calls name =
    ap (λ x. trip_lines trip ++ x) (trip_begins (next ∷ more) letter days calls name)
    ∙ sym (append_assoc (trip_lines trip) (trips_so_far 0 (next ∷ more)) (line.Trip letter days calls name ∷ []))

call_follows : (trips : List TripLists) (due : ℕ) (call : Call) → 0 < length trips → trips_so_far due (with_last_call trips call) ≡ trips_so_far (suc due) trips ++ line.Call call ∷ []
call_follows [] due call some = absurd (omega (arith, some))
call_follows (trip ∷ []) due call some =
    let count : length (trip.calls ++ call ∷ []) + due ≡ length trip.calls + suc due = omega (arith, length-append trip.calls (call ∷ [])) in
    ap₂ (λ count calls. line.Trip trip.letter trip.days count trip.name ∷ calls) count (map-append line.Call trip.calls (call ∷ []))
call_follows (trip ∷ next ∷ []) due call some =
    ap (λ x. trip_lines trip ++ x) (call_follows (next ∷ []) due call (omega arith))
    ∙ sym (append_assoc (trip_lines trip) (trips_so_far (suc due) (next ∷ [])) (line.Call call ∷ []))
call_follows (trip ∷ next ∷ third ∷ more) due call some =
    ap (λ x. trip_lines trip ++ x) (call_follows (next ∷ third ∷ more) due call (omega arith))
    ∙ sym (append_assoc (trip_lines trip) (trips_so_far (suc due) (next ∷ third ∷ more)) (line.Call call ∷ []))

-- a later line does not stand in an earlier section
in_order : (a b : ℕ) → 0 < a → cond (nat_eq a 0) (nat_eq b 1) (nat_lt 1 b && nat_le a b && nat_lt a 8) ≡ true → (1 < b) × (a ≤ b)
in_order a b some e = grind (arith, nat_tests)

both_true : (a b : Bool) → (a && b) ≡ true → (a ≡ true) × (b ≡ true)
both_true true b e = (refl, e)
both_true false b e = absurd (false≢true e)

-- what is known of a line that may stand
record Comes (p : Progress) (l : Line) : Type 0 where
  later : 1 < rank (section_of l)
  order : rank p.section ≤ rank (section_of l)
  due : is_due p.calls_due l ≡ true

comes : (p : Progress) (l : Line) → may_stand p l ≡ true → 0 < rank p.section → Comes p l
comes p l may started =
    let both = both_true (may_follow p.section (section_of l)) (is_due p.calls_due l) may in
    let order = in_order (rank p.section) (rank (section_of l)) started both.0 in
    record { later = order.0; order = order.1; due = both.1 }

is_zero : (a : ℕ) → nat_eq a 0 ≡ true → a ≡ 0
is_zero a e = grind (arith, nat_tests)

is_some : (a : ℕ) → nat_lt 0 a ≡ true → suc (a - 1) ≡ a
is_some a e = grind (arith, nat_tests)

module _ (n : NetworkLists) where
  abbrev roads : List Line
  roads = map node_line n.roads

  abbrev stop_lines : List Line
  stop_lines = map stop_line (zip n.stop_names n.stops)

  abbrev switches : List Line
  switches = map node_line n.switches

  abbrev arcs : List Line
  arcs = map line.Arc n.arcs

  abbrev links : List Line
  links = map line.Link n.links

  abbrev trips : List Line
  trips = trips_so_far 0 n.trips

  -- one line more behind all sections but that of the trips
  in_trips : (old new : List Line) (l : Line) → new ≡ old ++ l ∷ [] → line.Days n.days ∷ (roads ++ (stop_lines ++ (switches ++ (arcs ++ (links ++ new))))) ≡ (line.Days n.days ∷ (roads ++ (stop_lines ++ (switches ++ (arcs ++ (links ++ old)))))) ++ l ∷ []
  in_trips old new l e = ap (λ x. line.Days n.days ∷ x) (after roads _ _ l (after stop_lines _ _ l (after switches _ _ l (after arcs _ _ l (after links old new l e)))))

no_stops : (n : NetworkLists) → n.stop_names ≡ [] → n.stops ≡ [] → stop_lines n ≡ []
no_stops n names nodes = ap₂ (λ a b. map stop_line (zip a b)) names nodes

-- the lines of the lists with one line more are the lines before, and this one
abbrev Puts : Progress → NetworkLists → Line → Type 0
Puts p n l = (so_far (calls_due_behind p.calls_due l) (put n l) ≡ so_far p.calls_due n ++ l ∷ []) × IsAt (behind p l) (put n l)

where_none_due : (p : Progress) (n : NetworkLists) (l : Line) → nat_eq p.calls_due 0 ≡ true → so_far 0 (put n l) ≡ so_far 0 n ++ l ∷ [] → so_far 0 (put n l) ≡ so_far p.calls_due n ++ l ∷ []
where_none_due p n l none e = e ∙ ap (λ due. so_far due n ++ l ∷ []) (sym (is_zero p.calls_due none))

put_line : (p : Progress) (n : NetworkLists) (l : Line) → IsAt p n → Comes p l → rank (section_of l) < 8 → Puts p n l
put_line p n (line.Days days) at h going = absurd (omega (arith, h.later))
put_line p n (line.Road mode id place) at h going =
    let t : trips n ≡ [] = ap (trips_so_far 0) (at.trips (omega (arith, h.order))) in
    let k : links n ++ trips n ≡ [] = both_empty (links n) (trips n) (ap (map line.Link) (at.links (omega (arith, h.order)))) t in
    let a : arcs n ++ (links n ++ trips n) ≡ [] = both_empty (arcs n) (links n ++ trips n) (ap (map line.Arc) (at.arcs (omega (arith, h.order)))) k in
    let w : switches n ++ (arcs n ++ (links n ++ trips n)) ≡ [] = both_empty (switches n) (arcs n ++ (links n ++ trips n)) (ap (map node_line) (at.switches (omega (arith, h.order)))) a in
    let s : stop_lines n ++ (switches n ++ (arcs n ++ (links n ++ trips n))) ≡ [] = both_empty (stop_lines n) (switches n ++ (arcs n ++ (links n ++ trips n))) (no_stops n (at.names (omega (arith, h.order))) (at.stops (omega (arith, h.order)))) w in (
      where_none_due p n (line.Road mode id place) h.due
          (ap (λ x. line.Days n.days ∷ (x ++ (stop_lines n ++ (switches n ++ (arcs n ++ (links n ++ trips n)))))) (map-append node_line n.roads (record { key = Road mode id; place = place } ∷ []))
          ∙ ap (λ x. line.Days n.days ∷ x) (at_end (roads n) (stop_lines n ++ (switches n ++ (arcs n ++ (links n ++ trips n)))) (line.Road mode id place) s)),
      record {
        roads = λ lt. absurd (omega (arith, lt));
        names = λ _. at.names (omega (arith, h.order));
        stops = λ _. at.stops (omega (arith, h.order));
        switches = λ _. at.switches (omega (arith, h.order));
        arcs = λ _. at.arcs (omega (arith, h.order));
        links = λ _. at.links (omega (arith, h.order));
        trips = λ _. at.trips (omega (arith, h.order));
        named = at.named;
        begun = λ lt. absurd (omega (arith, lt));
      },
    )
put_line p n (line.Stop name place) at h going =
    let t : trips n ≡ [] = ap (trips_so_far 0) (at.trips (omega (arith, h.order))) in
    let k : links n ++ trips n ≡ [] = both_empty (links n) (trips n) (ap (map line.Link) (at.links (omega (arith, h.order)))) t in
    let a : arcs n ++ (links n ++ trips n) ≡ [] = both_empty (arcs n) (links n ++ trips n) (ap (map line.Arc) (at.arcs (omega (arith, h.order)))) k in
    let w : switches n ++ (arcs n ++ (links n ++ trips n)) ≡ [] = both_empty (switches n) (arcs n ++ (links n ++ trips n)) (ap (map node_line) (at.switches (omega (arith, h.order)))) a in
    let node : Node = record { key = Stop (length n.stops); place = place } in (
      where_none_due p n (line.Stop name place) h.due
          (ap (λ x. line.Days n.days ∷ (roads n ++ (x ++ (switches n ++ (arcs n ++ (links n ++ trips n)))))) (zip_push n.stop_names n.stops name node at.named)
          ∙ ap (λ x. line.Days n.days ∷ x) (after (roads n) _ _ (line.Stop name place) (at_end (stop_lines n) (switches n ++ (arcs n ++ (links n ++ trips n))) (line.Stop name place) w))),
      record {
        roads = λ lt. absurd (omega (arith, lt));
        names = λ lt. absurd (omega (arith, lt));
        stops = λ lt. absurd (omega (arith, lt));
        switches = λ _. at.switches (omega (arith, h.order));
        arcs = λ _. at.arcs (omega (arith, h.order));
        links = λ _. at.links (omega (arith, h.order));
        trips = λ _. at.trips (omega (arith, h.order));
        named = omega (arith, at.named, length-append n.stop_names (name ∷ []), length-append n.stops (node ∷ []));
        begun = λ lt. absurd (omega (arith, lt));
      },
    )
put_line p n (line.Switch id place) at h going =
    let t : trips n ≡ [] = ap (trips_so_far 0) (at.trips (omega (arith, h.order))) in
    let k : links n ++ trips n ≡ [] = both_empty (links n) (trips n) (ap (map line.Link) (at.links (omega (arith, h.order)))) t in
    let a : arcs n ++ (links n ++ trips n) ≡ [] = both_empty (arcs n) (links n ++ trips n) (ap (map line.Arc) (at.arcs (omega (arith, h.order)))) k in (
      where_none_due p n (line.Switch id place) h.due
          (ap (λ x. line.Days n.days ∷ (roads n ++ (stop_lines n ++ (x ++ (arcs n ++ (links n ++ trips n)))))) (map-append node_line n.switches (record { key = Switch id; place = place } ∷ []))
          ∙ ap (λ x. line.Days n.days ∷ x) (after (roads n) _ _ (line.Switch id place) (after (stop_lines n) _ _ (line.Switch id place) (at_end (switches n) (arcs n ++ (links n ++ trips n)) (line.Switch id place) a)))),
      record {
        roads = λ lt. absurd (omega (arith, lt));
        names = λ lt. absurd (omega (arith, lt));
        stops = λ lt. absurd (omega (arith, lt));
        switches = λ lt. absurd (omega (arith, lt));
        arcs = λ _. at.arcs (omega (arith, h.order));
        links = λ _. at.links (omega (arith, h.order));
        trips = λ _. at.trips (omega (arith, h.order));
        named = at.named;
        begun = λ lt. absurd (omega (arith, lt));
      },
    )
put_line p n (line.Arc arc) at h going =
    let t : trips n ≡ [] = ap (trips_so_far 0) (at.trips (omega (arith, h.order))) in
    let k : links n ++ trips n ≡ [] = both_empty (links n) (trips n) (ap (map line.Link) (at.links (omega (arith, h.order)))) t in (
      where_none_due p n (line.Arc arc) h.due
          (ap (λ x. line.Days n.days ∷ (roads n ++ (stop_lines n ++ (switches n ++ (x ++ (links n ++ trips n)))))) (map-append line.Arc n.arcs (arc ∷ []))
          ∙ ap (λ x. line.Days n.days ∷ x) (after (roads n) _ _ (line.Arc arc) (after (stop_lines n) _ _ (line.Arc arc) (after (switches n) _ _ (line.Arc arc) (at_end (arcs n) (links n ++ trips n) (line.Arc arc) k))))),
      record {
        roads = λ lt. absurd (omega (arith, lt));
        names = λ lt. absurd (omega (arith, lt));
        stops = λ lt. absurd (omega (arith, lt));
        switches = λ lt. absurd (omega (arith, lt));
        arcs = λ lt. absurd (omega (arith, lt));
        links = λ _. at.links (omega (arith, h.order));
        trips = λ _. at.trips (omega (arith, h.order));
        named = at.named;
        begun = λ lt. absurd (omega (arith, lt));
      },
    )
put_line p n (line.Link arc) at h going =
    let t : trips n ≡ [] = ap (trips_so_far 0) (at.trips (omega (arith, h.order))) in (
      where_none_due p n (line.Link arc) h.due
          (ap (λ x. line.Days n.days ∷ (roads n ++ (stop_lines n ++ (switches n ++ (arcs n ++ (x ++ trips n)))))) (map-append line.Link n.links (arc ∷ []))
          ∙ ap (λ x. line.Days n.days ∷ x) (after (roads n) _ _ (line.Link arc) (after (stop_lines n) _ _ (line.Link arc) (after (switches n) _ _ (line.Link arc) (after (arcs n) _ _ (line.Link arc) (at_end (links n) (trips n) (line.Link arc) t)))))),
      record {
        roads = λ lt. absurd (omega (arith, lt));
        names = λ lt. absurd (omega (arith, lt));
        stops = λ lt. absurd (omega (arith, lt));
        switches = λ lt. absurd (omega (arith, lt));
        arcs = λ lt. absurd (omega (arith, lt));
        links = λ lt. absurd (omega (arith, lt));
        trips = λ _. at.trips (omega (arith, h.order));
        named = at.named;
        begun = λ lt. absurd (omega (arith, lt));
      },
    )
put_line p n (line.Trip letter days calls name) at h going =
    let new : TripLists = record { letter = letter; days = days; name = name; calls = [] } in (
      in_trips n (trips_so_far 0 n.trips) (trips_so_far calls (n.trips ++ new ∷ [])) (line.Trip letter days calls name) (trip_begins n.trips letter days calls name)
          ∙ ap (λ due. so_far due n ++ line.Trip letter days calls name ∷ []) (sym (is_zero p.calls_due h.due)),
      record {
        roads = λ lt. absurd (omega (arith, lt));
        names = λ lt. absurd (omega (arith, lt));
        stops = λ lt. absurd (omega (arith, lt));
        switches = λ lt. absurd (omega (arith, lt));
        arcs = λ lt. absurd (omega (arith, lt));
        links = λ lt. absurd (omega (arith, lt));
        trips = λ lt. absurd (omega (arith, lt));
        named = at.named;
        begun = λ _. omega (arith, length-append n.trips (new ∷ []));
      },
    )
put_line p n (line.Call call) at h going =
    let due : suc (p.calls_due - 1) ≡ p.calls_due = is_some p.calls_due h.due in
    let some : 0 < length n.trips = at.begun (omega (arith, due)) in (
      in_trips n (trips_so_far (suc (p.calls_due - 1)) n.trips) (trips_so_far (p.calls_due - 1) (with_last_call n.trips call)) (line.Call call) (call_follows n.trips (p.calls_due - 1) call some)
          ∙ ap (λ due. so_far due n ++ line.Call call ∷ []) due,
      record {
        roads = λ lt. absurd (omega (arith, lt));
        names = λ lt. absurd (omega (arith, lt));
        stops = λ lt. absurd (omega (arith, lt));
        switches = λ lt. absurd (omega (arith, lt));
        arcs = λ lt. absurd (omega (arith, lt));
        links = λ lt. absurd (omega (arith, lt));
        trips = λ lt. absurd (omega (arith, lt));
        named = at.named;
        begun = λ _. omega (arith, some, length-with_last_call n.trips call);
      },
    )
put_line p n line.End at h going = absurd (omega (arith, going))

-- the lines of all lists are those so far and the end
ended_lines : (n : NetworkLists) → region_lines n ≡ so_far 0 n ++ line.End ∷ []
unfolding region_lines
ended_lines n =
    ap (λ x. line.Days n.days ∷ (roads n ++ (stop_lines n ++ (switches n ++ (arcs n ++ (links n ++ (x ++ line.End ∷ []))))))) (sym (trips_whole n.trips))
    ∙ ap (λ x. line.Days n.days ∷ x) (sym (simp append_assoc))

run_stopped : (ls : List Line) → run_on progress_after None ls ≡ None
run_stopped [] = refl
run_stopped (l ∷ ls) = run_stopped ls

is_eight : (a : ℕ) → nat_eq a 8 ≡ true → a ≡ 8
is_eight a e = grind (arith, nat_tests)

only_end : (l : Line) → 8 ≤ rank (section_of l) → l ≡ line.End
only_end (line.Days days) h = absurd (omega (arith, h))
only_end (line.Road mode id place) h = absurd (omega (arith, h))
only_end (line.Stop name place) h = absurd (omega (arith, h))
only_end (line.Switch id place) h = absurd (omega (arith, h))
only_end (line.Arc arc) h = absurd (omega (arith, h))
only_end (line.Link arc) h = absurd (omega (arith, h))
only_end (line.Trip letter days calls name) h = absurd (omega (arith, h))
only_end (line.Call call) h = absurd (omega (arith, h))
only_end line.End h = refl

abbrev behind_end : Progress
behind_end = record { section = section.End; calls_due = 0 }

-- the last line
put_end : (n : NetworkLists) (ls : List Line) (end : Progress) → run_on progress_after (Some behind_end) ls ≡ Some end → region_lines (fold put (put n line.End) ls) ≡ so_far 0 n ++ line.End ∷ ls
put_end n [] end runs = ended_lines n
put_end n (l ∷ ls) end runs = absurd (none-some end (sym (ap (λ o. run_on progress_after o ls) (stops behind_end l refl) ∙ run_stopped ls) ∙ runs))

-- Lines that run from a section to the end are put so that the lists have these lines.
put_lines : (ls : List Line) (p end : Progress) (n : NetworkLists) → run_on progress_after (Some p) ls ≡ Some end → is_end end ≡ true → 0 < rank p.section → rank p.section < 8 → IsAt p n → region_lines (fold put n ls) ≡ so_far p.calls_due n ++ ls
put_lines [] p end n runs last started going at =
    let eight : rank p.section ≡ 8 = ap (λ (q : Progress). rank q.section) (same_Some p end runs) ∙ is_eight (rank end.section) last in
    absurd (omega (arith, going, eight))
put_lines (l ∷ ls) p end n runs last started going at = by_test (may_stand p l) refl runs (λ q m runs started going at. put_lines ls q end m runs last started going at)
  where
    by_rank : may_stand p l ≡ true → run_on progress_after (Some (behind p l)) ls ≡ Some end → (rank (section_of l) < 8) ⊎ (8 ≤ rank (section_of l)) → ((q : Progress) (m : NetworkLists) → run_on progress_after (Some q) ls ≡ Some end → 0 < rank q.section → rank q.section < 8 → IsAt q m → region_lines (fold put m ls) ≡ so_far q.calls_due m ++ ls) → region_lines (fold put n (l ∷ ls)) ≡ so_far p.calls_due n ++ l ∷ ls
    by_rank may runs (inl going) others =
        let h = comes p l may started in
        let step = put_line p n l at h going in
        others (behind p l) (put n l) runs (omega (arith, h.later)) going step.1 ∙ ap (λ x. x ++ ls) step.0 ∙ append_assoc (so_far p.calls_due n) (l ∷ []) ls
    by_rank may runs (inr ended) others =
        let is = only_end l ended in
        let runs_on : run_on progress_after (Some behind_end) ls ≡ Some end = ap (λ x. run_on progress_after (Some (behind p x)) ls) (sym is) ∙ runs in
        let none : p.calls_due ≡ 0 = is_zero p.calls_due (ap (is_due p.calls_due) (sym is) ∙ (comes p l may started).due) in
        ap (λ x. region_lines (fold put (put n x) ls)) is ∙ put_end n ls end runs_on ∙ ap₂ (λ due x. so_far due n ++ x ∷ ls) (sym none) (sym is)

    by_test : (t : Bool) → may_stand p l ≡ t → run_on progress_after (cond t (Some (behind p l)) None) ls ≡ Some end → ((q : Progress) (m : NetworkLists) → run_on progress_after (Some q) ls ≡ Some end → 0 < rank q.section → rank q.section < 8 → IsAt q m → region_lines (fold put m ls) ≡ so_far q.calls_due m ++ ls) → region_lines (fold put n (l ∷ ls)) ≡ so_far p.calls_due n ++ l ∷ ls
    by_test true may runs others = by_rank may runs (cases_lt (rank (section_of l)) 8) others
    by_test false may runs others = absurd (none-some end (sym (run_stopped ls) ∙ runs))

-- Lines that run from the start to the end are those of the lists that they make.
pub all_lines : (ls : List Line) (end : Progress) → run_on progress_after (Some start) ls ≡ Some end → is_end end ≡ true → region_lines (fold put nothing ls) ≡ ls
all_lines [] end runs last = absurd (false≢true (ap is_end (same_Some start end runs) ∙ last))
all_lines (line.Days days ∷ ls) end runs last =
    put_lines ls behind_days end (put nothing (line.Days days)) runs last (omega arith) (omega arith)
    (record { roads = λ _. refl; names = λ _. refl; stops = λ _. refl; switches = λ _. refl; arcs = λ _. refl; links = λ _. refl; trips = λ _. refl; named = refl; begun = λ lt. absurd (omega (arith, lt)) })
all_lines (line.Road mode id place ∷ ls) end runs last = absurd (none-some end (sym (run_stopped ls) ∙ runs))
all_lines (line.Stop name place ∷ ls) end runs last = absurd (none-some end (sym (run_stopped ls) ∙ runs))
all_lines (line.Switch id place ∷ ls) end runs last = absurd (none-some end (sym (run_stopped ls) ∙ runs))
all_lines (line.Arc arc ∷ ls) end runs last = absurd (none-some end (sym (run_stopped ls) ∙ runs))
all_lines (line.Link arc ∷ ls) end runs last = absurd (none-some end (sym (run_stopped ls) ∙ runs))
all_lines (line.Trip letter days calls name ∷ ls) end runs last = absurd (none-some end (sym (run_stopped ls) ∙ runs))
all_lines (line.Call call ∷ ls) end runs last = absurd (none-some end (sym (run_stopped ls) ∙ runs))
all_lines (line.End ∷ ls) end runs last = absurd (none-some end (sym (run_stopped ls) ∙ runs))
