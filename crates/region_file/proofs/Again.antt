-- What is spelled is read: the lines of a network may stand where they do, and make the network again.
use Rattle.plan_base.proofs.Common.{◌≡◌, ℕ, suc, List, [], ◌∷◌, ◌++◌, length, get_or, map, refl, ap, ap₂, sym, ◌∙◌, subst, ◌<◌, ◌≤◌, ◌+◌, ◌-◌, true, cond, arith, append_assoc, length-append, add-zero, zero-add, Option, Some, None, option_and_then, fold, zip, nat_eq, nat_le, nat_lt, ◌&&◌, All, AllByRecursion, flat_map, nat_tests, append-nil, All-head, All-tail, fold-append}
use Rattle.plain_texts.specs.{run_on}
use Rattle.plan_base.specs.{Place}
use Rattle.mode_network.specs.{Arc, Node, NodeKey, Road, Stop, Switch, AreParts, IsRoad, IsStop, IsSwitch, NetworkLists.NetworkLists}
use Rattle.timetable_arcs.specs.{Call, TripLists}
use Rattle.region_file.specs.{Line, Progress, Section, key_line, node_line, stop_line, trip_lines, region_lines, behind, calls_due_behind, is_due, may_follow, may_stand, progress_after, rank, section_of, start, nothing, put}
use Rattle.region_file.specs.declared.lines.Line.TheVariants as line
use Rattle.region_file.specs.declared.section.Section.TheVariants as section
use Rattle.region_file.proofs.LastTrip.{call_last, with_one}

-- The lines run to the end.

-- behind a line of this section, where no call is due
abbrev pub at_rest : Section → Progress
at_rest s = record { section = s; calls_due = 0 }

run_append : (xs ys : List Line) (o : Option Progress) → run_on progress_after o (xs ++ ys) ≡ run_on progress_after (run_on progress_after o xs) ys
run_append [] ys o = refl
run_append (x ∷ xs) ys o = run_append xs ys (option_and_then (λ place. progress_after place x) o)

may_come : (a b : ℕ) → 0 < a → a ≤ b → 1 < b → a < 8 → cond (nat_eq a 0) (nat_eq b 1) (nat_lt 1 b && nat_le a b && nat_lt a 8) ≡ true
may_come a b some order later going = grind (arith, nat_tests)

-- a line of this section that stands where no call is due, and has no calls
record StandsIn (s : Section) (l : Line) : Type 0 where
  is : section_of l ≡ s
  due : is_due 0 l ≡ true
  rests : calls_due_behind 0 l ≡ 0

stands_after : (p s : Section) (l : Line) → StandsIn s l → 0 < rank p → rank p ≤ rank s → 1 < rank s → rank p < 8 → progress_after (at_rest p) l ≡ Some (at_rest s)
stands_after p s l h some order later going =
    let may : may_stand (at_rest p) l ≡ true = ap₂ (λ a b. a && b) (ap (may_follow p) h.is ∙ may_come (rank p) (rank s) some order later going) h.due in
    ap (λ t. cond t (Some (behind (at_rest p) l)) None) may ∙ ap₂ (λ x due. Some (record { section = x; calls_due = due })) h.is h.rests

-- where a section's lines lead to
record Reached (p s : Section) (ls : List Line) : Type 0 where
  place : Section
  runs : run_on progress_after (Some (at_rest p)) ls ≡ Some (at_rest place)
  some : 0 < rank place
  order : rank place ≤ rank s

run_section : (s : Section) (ls : List Line) (p : Section) → AllByRecursion (StandsIn s) ls → 1 < rank s → rank s < 8 → 0 < rank p → rank p ≤ rank s → Reached p s ls
run_section s [] p all later going some order = record { place = p; runs = refl; some = some; order = order }
run_section s (l ∷ ls) p all later going some order =
    let h = run_section s ls s all.1 later going (omega (arith, later)) (omega arith) in
    record { place = h.place; runs = ap (λ o. run_on progress_after o ls) (stands_after p s l all.0 some order later (omega (arith, going, order))) ∙ h.runs; some = h.some; order = h.order }

-- a trip and its calls
call_stands : (due : ℕ) (call : Call) → progress_after (record { section = section.Trips; calls_due = suc due }) (line.Call call) ≡ Some (record { section = section.Trips; calls_due = due })
call_stands due call =
    let is : nat_lt 0 (suc due) ≡ true = grind (arith, nat_tests) in
    ap (λ t. cond t (Some (record { section = section.Trips; calls_due = suc due - 1 })) None) is ∙ ap (λ d. Some (record { section = section.Trips; calls_due = d })) (omega arith)

run_calls : (calls : List Call) → run_on progress_after (Some (record { section = section.Trips; calls_due = length calls })) (map line.Call calls) ≡ Some (at_rest section.Trips)
run_calls [] = refl
run_calls (call ∷ calls) = ap (λ o. run_on progress_after o (map line.Call calls)) (call_stands (length calls) call) ∙ run_calls calls

trip_stands : (p : Section) (trip : TripLists) → 0 < rank p → rank p ≤ 7 → progress_after (at_rest p) (line.Trip trip.letter trip.days (length trip.calls) trip.name) ≡ Some (record { section = section.Trips; calls_due = length trip.calls })
trip_stands p trip some order =
    let may : may_stand (at_rest p) (line.Trip trip.letter trip.days (length trip.calls) trip.name) ≡ true = ap (λ a. a && true) (may_come (rank p) 7 some order (omega arith) (omega (arith, order))) in
    ap (λ t. cond t (Some (record { section = section.Trips; calls_due = length trip.calls })) None) may

run_trips : (trips : List TripLists) (p : Section) → 0 < rank p → rank p ≤ 7 → Reached p section.Trips (flat_map trip_lines trips)
run_trips [] p some order = record { place = p; runs = refl; some = some; order = order }
run_trips (trip ∷ trips) p some order =
    let h = run_trips trips section.Trips (omega arith) (omega arith) in
    record {
      place = h.place;
      runs = run_append (trip_lines trip) (flat_map trip_lines trips) (Some (at_rest p))
          ∙ ap (λ o. run_on progress_after (run_on progress_after o (map line.Call trip.calls)) (flat_map trip_lines trips)) (trip_stands p trip some order)
          ∙ ap (λ o. run_on progress_after o (flat_map trip_lines trips)) (run_calls trip.calls)
          ∙ h.runs;
      some = h.some;
      order = h.order;
    }

road_stands : (key : NodeKey) (place : Place) → IsRoad key → StandsIn section.Nodes (key_line key place)
road_stands (Road mode id) place h = record { is = refl; due = refl; rests = refl }
road_stands (Stop stop) place h = absurd h
road_stands (Switch id) place h = absurd h

switch_stands : (key : NodeKey) (place : Place) → IsSwitch key → StandsIn section.Switches (key_line key place)
switch_stands (Road mode id) place h = absurd h
switch_stands (Stop stop) place h = absurd h
switch_stands (Switch id) place h = record { is = refl; due = refl; rests = refl }

roads_stand : (nodes : List Node) → All (λ (node : Node). IsRoad node.key) nodes → AllByRecursion (StandsIn section.Nodes) (map node_line nodes)
roads_stand [] h = tt
roads_stand (node ∷ nodes) h = (road_stands node.key node.place (All-head (λ (node : Node). IsRoad node.key) node nodes h), roads_stand nodes (All-tail (λ (node : Node). IsRoad node.key) node nodes h))

switches_stand : (nodes : List Node) → All (λ (node : Node). IsSwitch node.key) nodes → AllByRecursion (StandsIn section.Switches) (map node_line nodes)
switches_stand [] h = tt
switches_stand (node ∷ nodes) h = (switch_stands node.key node.place (All-head (λ (node : Node). IsSwitch node.key) node nodes h), switches_stand nodes (All-tail (λ (node : Node). IsSwitch node.key) node nodes h))

-- lines that are made alike stand in one section
alike : {X : Type 0} (f : X → Line) (s : Section) → ((x : X) → StandsIn s (f x)) → (xs : List X) → AllByRecursion (StandsIn s) (map f xs)
alike f s h [] = tt
alike f s h (x ∷ xs) = (h x, alike f s h xs)

-- the lines from a section on
module _ (n : NetworkLists) where
  abbrev trips_on : List Line
  trips_on = flat_map trip_lines n.trips ++ line.End ∷ []

  abbrev links_on : List Line
  links_on = map line.Link n.links ++ (flat_map trip_lines n.trips ++ line.End ∷ [])

  abbrev arcs_on : List Line
  arcs_on = map line.Arc n.arcs ++ (map line.Link n.links ++ (flat_map trip_lines n.trips ++ line.End ∷ []))

  abbrev switches_on : List Line
  switches_on = map node_line n.switches ++ (map line.Arc n.arcs ++ (map line.Link n.links ++ (flat_map trip_lines n.trips ++ line.End ∷ [])))

  abbrev stops_on : List Line
  stops_on = map stop_line (zip n.stop_names n.stops) ++ (map node_line n.switches ++ (map line.Arc n.arcs ++ (map line.Link n.links ++ (flat_map trip_lines n.trips ++ line.End ∷ []))))

abbrev pub behind_end : Progress
behind_end = at_rest section.End

pub runs_to_end : (n : NetworkLists) → AreParts n → run_on progress_after (Some start) (region_lines n) ≡ Some behind_end
unfolding region_lines
runs_to_end n parts =
    let r = run_section section.Nodes (map node_line n.roads) section.Days (roads_stand n.roads parts.roads_are) (omega arith) (omega arith) (omega arith) (omega arith) in
    let s = run_section section.Stops (map stop_line (zip n.stop_names n.stops)) r.place (alike stop_line section.Stops (λ x. record { is = refl; due = refl; rests = refl }) (zip n.stop_names n.stops)) (omega arith) (omega arith) r.some (omega (arith, r.order)) in
    let w = run_section section.Switches (map node_line n.switches) s.place (switches_stand n.switches parts.switches_are) (omega arith) (omega arith) s.some (omega (arith, s.order)) in
    let a = run_section section.Arcs (map line.Arc n.arcs) w.place (alike line.Arc section.Arcs (λ x. record { is = refl; due = refl; rests = refl }) n.arcs) (omega arith) (omega arith) w.some (omega (arith, w.order)) in
    let k = run_section section.Links (map line.Link n.links) a.place (alike line.Link section.Links (λ x. record { is = refl; due = refl; rests = refl }) n.links) (omega arith) (omega arith) a.some (omega (arith, a.order)) in
    let t = run_trips n.trips k.place k.some (omega (arith, k.order)) in
    run_append (map node_line n.roads) (stops_on n) (Some (at_rest section.Days))
    ∙ ap (λ o. run_on progress_after o (stops_on n)) r.runs
    ∙ run_append (map stop_line (zip n.stop_names n.stops)) (switches_on n) (Some (at_rest r.place))
    ∙ ap (λ o. run_on progress_after o (switches_on n)) s.runs
    ∙ run_append (map node_line n.switches) (arcs_on n) (Some (at_rest s.place))
    ∙ ap (λ o. run_on progress_after o (arcs_on n)) w.runs
    ∙ run_append (map line.Arc n.arcs) (links_on n) (Some (at_rest w.place))
    ∙ ap (λ o. run_on progress_after o (links_on n)) a.runs
    ∙ run_append (map line.Link n.links) (trips_on n) (Some (at_rest a.place))
    ∙ ap (λ o. run_on progress_after o (trips_on n)) k.runs
    ∙ run_append (flat_map trip_lines n.trips) (line.End ∷ []) (Some (at_rest k.place))
    ∙ ap (λ o. run_on progress_after o (line.End ∷ [])) t.runs
    ∙ stands_after t.place section.End line.End (record { is = refl; due = refl; rests = refl }) t.some (omega (arith, t.order)) (omega arith) (omega (arith, t.order))

-- The lines make the lists again.

put_road : (n : NetworkLists) (key : NodeKey) (place : Place) → IsRoad key → put n (key_line key place) ≡ record n { roads = n.roads ++ record { key = key; place = place } ∷ [] }
put_road n (Road mode id) place h = refl
put_road n (Stop stop) place h = absurd h
put_road n (Switch id) place h = absurd h

put_switch : (n : NetworkLists) (key : NodeKey) (place : Place) → IsSwitch key → put n (key_line key place) ≡ record n { switches = n.switches ++ record { key = key; place = place } ∷ [] }
put_switch n (Road mode id) place h = absurd h
put_switch n (Stop stop) place h = absurd h
put_switch n (Switch id) place h = refl

put_roads : (nodes : List Node) (n : NetworkLists) → All (λ (node : Node). IsRoad node.key) nodes → fold put n (map node_line nodes) ≡ record n { roads = n.roads ++ nodes }
put_roads [] n h = ap (λ r. record n { roads = r }) (sym (append-nil n.roads))
put_roads (node ∷ nodes) n h =
    ap (λ m. fold put m (map node_line nodes)) (put_road n node.key node.place (All-head (λ (node : Node). IsRoad node.key) node nodes h))
    ∙ put_roads nodes (record n { roads = n.roads ++ node ∷ [] }) (All-tail (λ (node : Node). IsRoad node.key) node nodes h)
    ∙ ap (λ r. record n { roads = r }) (append_assoc n.roads (node ∷ []) nodes)

put_switches : (nodes : List Node) (n : NetworkLists) → All (λ (node : Node). IsSwitch node.key) nodes → fold put n (map node_line nodes) ≡ record n { switches = n.switches ++ nodes }
put_switches [] n h = ap (λ r. record n { switches = r }) (sym (append-nil n.switches))
put_switches (node ∷ nodes) n h =
    ap (λ m. fold put m (map node_line nodes)) (put_switch n node.key node.place (All-head (λ (node : Node). IsSwitch node.key) node nodes h))
    ∙ put_switches nodes (record n { switches = n.switches ++ node ∷ [] }) (All-tail (λ (node : Node). IsSwitch node.key) node nodes h)
    ∙ ap (λ r. record n { switches = r }) (append_assoc n.switches (node ∷ []) nodes)

put_arcs : (arcs : List Arc) (n : NetworkLists) → fold put n (map line.Arc arcs) ≡ record n { arcs = n.arcs ++ arcs }
put_arcs [] n = ap (λ r. record n { arcs = r }) (sym (append-nil n.arcs))
put_arcs (arc ∷ arcs) n = put_arcs arcs (record n { arcs = n.arcs ++ arc ∷ [] }) ∙ ap (λ r. record n { arcs = r }) (append_assoc n.arcs (arc ∷ []) arcs)

put_links : (links : List Arc) (n : NetworkLists) → fold put n (map line.Link links) ≡ record n { links = n.links ++ links }
put_links [] n = ap (λ r. record n { links = r }) (sym (append-nil n.links))
put_links (link ∷ links) n = put_links links (record n { links = n.links ++ link ∷ [] }) ∙ ap (λ r. record n { links = r }) (append_assoc n.links (link ∷ []) links)

stop_key : (place : ℕ) (key : NodeKey) → IsStop place key → Stop place ≡ key
stop_key place (Road mode id) h = absurd h
stop_key place (Stop stop) h = ap Stop (sym h)
stop_key place (Switch id) h = absurd h

put_stops : (names : List (List ℕ)) (nodes : List Node) (n : NetworkLists) → length names ≡ length nodes → ((k : ℕ) (d : Node) → k < length nodes → IsStop (length n.stops + k) (get_or nodes k d).key) → fold put n (map stop_line (zip names nodes)) ≡ record n { stop_names = n.stop_names ++ names; stops = n.stops ++ nodes }
put_stops [] [] n e h = ap₂ (λ a b. record n { stop_names = a; stops = b }) (sym (append-nil n.stop_names)) (sym (append-nil n.stops))
put_stops [] (node ∷ nodes) n e h = absurd (omega (arith, e))
put_stops (name ∷ names) [] n e h = absurd (omega (arith, e))
put_stops (name ∷ names) (node ∷ nodes) n e h =
    let key : Stop (length n.stops) ≡ node.key = stop_key (length n.stops) node.key (subst (λ k. IsStop k node.key) (add-zero (length n.stops)) (h 0 node (omega arith))) in
    ap (λ key. fold put (record n { stop_names = n.stop_names ++ name ∷ []; stops = n.stops ++ record { key = key; place = node.place } ∷ [] }) (map stop_line (zip names nodes))) key
    ∙ put_stops names nodes (record n { stop_names = n.stop_names ++ name ∷ []; stops = n.stops ++ node ∷ [] }) (omega (arith, e))
    (λ k d lt.
    let place : length n.stops + suc k ≡ length (n.stops ++ node ∷ []) + k = omega (arith, length-append n.stops (node ∷ [])) in
    subst (λ i. IsStop i (get_or nodes k d).key) place (h (suc k) d (omega (arith, lt))))
    ∙ ap₂ (λ a b. record n { stop_names = a; stops = b }) (append_assoc n.stop_names (name ∷ []) names) (append_assoc n.stops (node ∷ []) nodes)

put_calls : (calls : List Call) (n : NetworkLists) (before : List TripLists) (trip : TripLists) → fold put (record n { trips = before ++ trip ∷ [] }) (map line.Call calls) ≡ record n { trips = before ++ record trip { calls = trip.calls ++ calls } ∷ [] }
put_calls [] n before trip = ap (λ calls. record n { trips = before ++ record trip { calls = calls } ∷ [] }) (sym (append-nil trip.calls))
put_calls (call ∷ calls) n before trip =
    ap (λ trips. fold put (record n { trips = trips }) (map line.Call calls)) (call_last before trip call)
    ∙ put_calls calls n before (with_one trip call)
    ∙ ap (λ calls. record n { trips = before ++ record trip { calls = calls } ∷ [] }) (append_assoc trip.calls (call ∷ []) calls)

put_trips : (trips : List TripLists) (n : NetworkLists) → fold put n (flat_map trip_lines trips) ≡ record n { trips = n.trips ++ trips }
put_trips [] n = ap (λ r. record n { trips = r }) (sym (append-nil n.trips))
put_trips (trip ∷ trips) n =
    fold-append put n (trip_lines trip) (flat_map trip_lines trips)
    ∙ ap (λ m. fold put m (flat_map trip_lines trips)) (put_calls trip.calls n n.trips (record trip { calls = [] }))
    ∙ put_trips trips (record n { trips = n.trips ++ trip ∷ [] })
    ∙ ap (λ r. record n { trips = r }) (append_assoc n.trips (trip ∷ []) trips)

pub made_again : (n : NetworkLists) → AreParts n → fold put nothing (region_lines n) ≡ n
unfolding region_lines
made_again n parts =
    let days : NetworkLists = record nothing { days = n.days } in
    let roads : NetworkLists = record days { roads = n.roads } in
    let stops : NetworkLists = record roads { stop_names = n.stop_names; stops = n.stops } in
    let switches : NetworkLists = record stops { switches = n.switches } in
    let arcs : NetworkLists = record switches { arcs = n.arcs } in
    let links : NetworkLists = record arcs { links = n.links } in
    fold-append put days (map node_line n.roads) (stops_on n)
    ∙ ap (λ m. fold put m (stops_on n)) (put_roads n.roads days parts.roads_are)
    ∙ fold-append put roads (map stop_line (zip n.stop_names n.stops)) (switches_on n)
    ∙ ap (λ m. fold put m (switches_on n)) (put_stops n.stop_names n.stops roads parts.one_name_each (λ k d lt. subst (λ i. IsStop i (get_or n.stops k d).key) (sym (zero-add k)) (parts.stops_are k d lt)))
    ∙ fold-append put stops (map node_line n.switches) (arcs_on n)
    ∙ ap (λ m. fold put m (arcs_on n)) (put_switches n.switches stops parts.switches_are)
    ∙ fold-append put switches (map line.Arc n.arcs) (links_on n)
    ∙ ap (λ m. fold put m (links_on n)) (put_arcs n.arcs switches)
    ∙ fold-append put arcs (map line.Link n.links) (trips_on n)
    ∙ ap (λ m. fold put m (trips_on n)) (put_links n.links arcs)
    ∙ fold-append put links (flat_map trip_lines n.trips) (line.End ∷ [])
    ∙ ap (λ m. fold put m (line.End ∷ [])) (put_trips n.trips links)
