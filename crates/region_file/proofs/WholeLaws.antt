-- The records of a network: what is read keeps the rules of parts and is spelled so, and what is spelled so is read.
use Rattle.plan_base.proofs.Common.{◌≡◌, ℕ, zero, suc, ◌+◌, ◌<◌, List, [], ◌∷◌, ◌++◌, length, map, get_or, Ok, Err, refl, sym, ap, ap₂, subst, ◌∙◌, append_assoc, append-nil, arith, add-zero, zero-add, zip, flat_map, AllByRecursion, flat_map-append, flat_map-cons, All-from_recursion, recursion_from_All, All-weaker, flat_map-map}
use Rattle.plan_base.specs.{Place}
use Rattle.service_days.specs.DaysMeaning.{DaysMeaning}
use Rattle.timetable_arcs.specs.{TripLists}
use Rattle.mode_network.specs.{Arc, Node, NodeKey, Road, Stop, Switch, IsStop, NetworkLists.NetworkLists}
use Rattle.region_file.specs.{Counts, Line, arc_bytes, counts_of, record_bytes, arc_front, road_front, stop_front, switch_front, FitsArc, FitsCall, FitsDays, FitsLine, IsRegion, node_line, region_lines, stop_line, trip_lines, many, network_records, stop_nodes, stops_read, trip_read, inside.trip_records}
use Rattle.region_file.specs.declared.lines.Line.TheVariants as line
use Rattle.region_file.proofs.{Fits.both_fit, Fits.road_fits, Fits.switch_fits, ManyLaws.FitsRow, ManyLaws.OneStop, ManyLaws.StopsAt, ManyLaws.TripStop, ManyLaws.many_again, ManyLaws.many_stops, ManyLaws.many_takes, ManyLaws.one_again, ManyLaws.one_stops, ManyLaws.one_takes, ManyLaws.row_again, ManyLaws.row_stops, ManyLaws.row_takes, RecordLaws.IsNamed, RecordLaws.IsRoadNode, RecordLaws.IsSwitchNode, RecordLaws.arc_again, RecordLaws.arc_takes, RecordLaws.node_bytes, RecordLaws.road_again, RecordLaws.road_takes, RecordLaws.stop_again, RecordLaws.stop_bytes, RecordLaws.stop_takes, RecordLaws.switch_again, RecordLaws.switch_takes}
use Rattle.file_records.specs.{one}
use Rattle.file_records.proofs.{Steps.bind_is, Steps.bind_ok, Steps.ok_is, NumberLaws.IsBytes, NumberLaws.Takes, NumberLaws.Takes-then}

-- ---- each section by itself

abbrev pub Taken : {X : Type 0} → (X → List ℕ) → (X → Type 0) → ℕ → List ℕ → List X × List ℕ → Type 0
Taken text Fits n bytes y = Takes bytes (flat_map text y.0) y.1 × (length y.0 ≡ n) × AllByRecursion Fits y.0

pub roads_take : (n : ℕ) (bytes : List ℕ) (y : List Node × List ℕ) → IsBytes bytes → many (one road_front) n bytes ≡ Ok y → Taken node_bytes IsRoadNode n bytes y
roads_take = many_takes (one road_front) node_bytes IsRoadNode (OneStop node_bytes IsRoadNode) (one_takes road_front node_bytes IsRoadNode road_takes road_again) (one_again road_front node_bytes IsRoadNode road_takes road_again) (one_stops road_front node_bytes IsRoadNode road_takes road_again)

pub roads_again : (xs : List Node) (rest : List ℕ) → AllByRecursion IsRoadNode xs → many (one road_front) (length xs) (flat_map node_bytes xs ++ rest) ≡ Ok (xs, rest)
roads_again = many_again (one road_front) node_bytes IsRoadNode (OneStop node_bytes IsRoadNode) (one_takes road_front node_bytes IsRoadNode road_takes road_again) (one_again road_front node_bytes IsRoadNode road_takes road_again) (one_stops road_front node_bytes IsRoadNode road_takes road_again)

pub roads_stop : (n : ℕ) (bytes : List ℕ) (left : ℕ) → IsBytes bytes → many (one road_front) n bytes ≡ Err left → StopsAt node_bytes IsRoadNode (OneStop node_bytes IsRoadNode) n bytes left
roads_stop = many_stops (one road_front) node_bytes IsRoadNode (OneStop node_bytes IsRoadNode) (one_takes road_front node_bytes IsRoadNode road_takes road_again) (one_again road_front node_bytes IsRoadNode road_takes road_again) (one_stops road_front node_bytes IsRoadNode road_takes road_again)

pub switches_take : (n : ℕ) (bytes : List ℕ) (y : List Node × List ℕ) → IsBytes bytes → many (one switch_front) n bytes ≡ Ok y → Taken node_bytes IsSwitchNode n bytes y
switches_take = many_takes (one switch_front) node_bytes IsSwitchNode (OneStop node_bytes IsSwitchNode) (one_takes switch_front node_bytes IsSwitchNode switch_takes switch_again) (one_again switch_front node_bytes IsSwitchNode switch_takes switch_again) (one_stops switch_front node_bytes IsSwitchNode switch_takes switch_again)

pub switches_again : (xs : List Node) (rest : List ℕ) → AllByRecursion IsSwitchNode xs → many (one switch_front) (length xs) (flat_map node_bytes xs ++ rest) ≡ Ok (xs, rest)
switches_again = many_again (one switch_front) node_bytes IsSwitchNode (OneStop node_bytes IsSwitchNode) (one_takes switch_front node_bytes IsSwitchNode switch_takes switch_again) (one_again switch_front node_bytes IsSwitchNode switch_takes switch_again) (one_stops switch_front node_bytes IsSwitchNode switch_takes switch_again)

pub switches_stop : (n : ℕ) (bytes : List ℕ) (left : ℕ) → IsBytes bytes → many (one switch_front) n bytes ≡ Err left → StopsAt node_bytes IsSwitchNode (OneStop node_bytes IsSwitchNode) n bytes left
switches_stop = many_stops (one switch_front) node_bytes IsSwitchNode (OneStop node_bytes IsSwitchNode) (one_takes switch_front node_bytes IsSwitchNode switch_takes switch_again) (one_again switch_front node_bytes IsSwitchNode switch_takes switch_again) (one_stops switch_front node_bytes IsSwitchNode switch_takes switch_again)

pub stops_take : (n : ℕ) (bytes : List ℕ) (y : List (List ℕ × Place) × List ℕ) → IsBytes bytes → many (one stop_front) n bytes ≡ Ok y → Taken stop_bytes IsNamed n bytes y
stops_take = many_takes (one stop_front) stop_bytes IsNamed (OneStop stop_bytes IsNamed) (one_takes stop_front stop_bytes IsNamed stop_takes stop_again) (one_again stop_front stop_bytes IsNamed stop_takes stop_again) (one_stops stop_front stop_bytes IsNamed stop_takes stop_again)

pub stops_again : (xs : List (List ℕ × Place)) (rest : List ℕ) → AllByRecursion IsNamed xs → many (one stop_front) (length xs) (flat_map stop_bytes xs ++ rest) ≡ Ok (xs, rest)
stops_again = many_again (one stop_front) stop_bytes IsNamed (OneStop stop_bytes IsNamed) (one_takes stop_front stop_bytes IsNamed stop_takes stop_again) (one_again stop_front stop_bytes IsNamed stop_takes stop_again) (one_stops stop_front stop_bytes IsNamed stop_takes stop_again)

pub stops_stop : (n : ℕ) (bytes : List ℕ) (left : ℕ) → IsBytes bytes → many (one stop_front) n bytes ≡ Err left → StopsAt stop_bytes IsNamed (OneStop stop_bytes IsNamed) n bytes left
stops_stop = many_stops (one stop_front) stop_bytes IsNamed (OneStop stop_bytes IsNamed) (one_takes stop_front stop_bytes IsNamed stop_takes stop_again) (one_again stop_front stop_bytes IsNamed stop_takes stop_again) (one_stops stop_front stop_bytes IsNamed stop_takes stop_again)

pub arcs_take : (n : ℕ) (bytes : List ℕ) (y : List Arc × List ℕ) → IsBytes bytes → many (one arc_front) n bytes ≡ Ok y → Taken arc_bytes FitsArc n bytes y
arcs_take = many_takes (one arc_front) arc_bytes FitsArc (OneStop arc_bytes FitsArc) (one_takes arc_front arc_bytes FitsArc arc_takes arc_again) (one_again arc_front arc_bytes FitsArc arc_takes arc_again) (one_stops arc_front arc_bytes FitsArc arc_takes arc_again)

pub arcs_again : (xs : List Arc) (rest : List ℕ) → AllByRecursion FitsArc xs → many (one arc_front) (length xs) (flat_map arc_bytes xs ++ rest) ≡ Ok (xs, rest)
arcs_again = many_again (one arc_front) arc_bytes FitsArc (OneStop arc_bytes FitsArc) (one_takes arc_front arc_bytes FitsArc arc_takes arc_again) (one_again arc_front arc_bytes FitsArc arc_takes arc_again) (one_stops arc_front arc_bytes FitsArc arc_takes arc_again)

pub arcs_stop : (n : ℕ) (bytes : List ℕ) (left : ℕ) → IsBytes bytes → many (one arc_front) n bytes ≡ Err left → StopsAt arc_bytes FitsArc (OneStop arc_bytes FitsArc) n bytes left
arcs_stop = many_stops (one arc_front) arc_bytes FitsArc (OneStop arc_bytes FitsArc) (one_takes arc_front arc_bytes FitsArc arc_takes arc_again) (one_again arc_front arc_bytes FitsArc arc_takes arc_again) (one_stops arc_front arc_bytes FitsArc arc_takes arc_again)

pub trips_take : (n : ℕ) (bytes : List ℕ) (y : List TripLists × List ℕ) → IsBytes bytes → many trip_read n bytes ≡ Ok y → Taken trip_records FitsRow n bytes y
trips_take = many_takes trip_read trip_records FitsRow TripStop row_takes row_again row_stops

pub trips_again : (xs : List TripLists) (rest : List ℕ) → AllByRecursion FitsRow xs → many trip_read (length xs) (flat_map trip_records xs ++ rest) ≡ Ok (xs, rest)
trips_again = many_again trip_read trip_records FitsRow TripStop row_takes row_again row_stops

pub trips_stop : (n : ℕ) (bytes : List ℕ) (left : ℕ) → IsBytes bytes → many trip_read n bytes ≡ Err left → StopsAt trip_records FitsRow TripStop n bytes left
trips_stop = many_stops trip_read trip_records FitsRow TripStop row_takes row_again row_stops

-- ---- lines of sections

pub mapped_fit : {X : Type 0} (f : X → Line) (P : X → Type 0) → ((x : X) → P x → FitsLine (f x)) → (xs : List X) → AllByRecursion P xs → AllByRecursion FitsLine (map f xs)
mapped_fit f P fits [] h = tt
mapped_fit f P fits (x ∷ xs) h = (fits x h.0, mapped_fit f P fits xs h.1)

unmapped_fit : {X : Type 0} (f : X → Line) (P : X → Type 0) → ((x : X) → FitsLine (f x) → P x) → (xs : List X) → AllByRecursion FitsLine (map f xs) → AllByRecursion P xs
unmapped_fit f P fits [] h = tt
unmapped_fit f P fits (x ∷ xs) h = (fits x h.0, unmapped_fit f P fits xs h.1)

pub left_fit : (xs ys : List Line) → AllByRecursion FitsLine (xs ++ ys) → AllByRecursion FitsLine xs × AllByRecursion FitsLine ys
left_fit [] ys h = (tt, h)
left_fit (x ∷ xs) ys h = (let more = left_fit xs ys h.1 in ((h.0, more.0), more.1))

abbrev pub stop_row_line : List ℕ × Place → Line
stop_row_line stop = line.Stop stop.0 stop.1

-- the lines of stops, by name and place or by name and node
stop_lines_are : (stops : List (List ℕ × Place)) (number : ℕ) → map stop_line (zip (map (λ stop. stop.0) stops) (stop_nodes number stops)) ≡ map stop_row_line stops
stop_lines_are [] number = refl
stop_lines_are (stop ∷ stops) number = ap (λ ls. stop_row_line stop ∷ ls) (stop_lines_are stops (number + 1))

pub rows_fit : (trips : List TripLists) → AllByRecursion FitsRow trips → AllByRecursion FitsLine (flat_map trip_lines trips)
rows_fit [] h = tt
rows_fit (trip ∷ trips) h = both_fit (trip_lines trip) (flat_map trip_lines trips) (h.0.head, mapped_fit line.Call FitsCall (λ call h. h) trip.calls h.0.calls) (rows_fit trips h.1)

fit_rows : (trips : List TripLists) → AllByRecursion FitsLine (flat_map trip_lines trips) → AllByRecursion FitsRow trips
fit_rows [] h = tt
fit_rows (trip ∷ trips) h =
    let parts = left_fit (trip_lines trip) (flat_map trip_lines trips) h in
    (record { head = parts.0.0; calls = unmapped_fit line.Call FitsCall (λ call h. h) trip.calls parts.0.1 }, fit_rows trips parts.1)

pub rows_are : (trips : List TripLists) → flat_map record_bytes (flat_map trip_lines trips) ≡ flat_map trip_records trips
rows_are [] = refl
rows_are (trip ∷ trips) =
    flat_map-append record_bytes (trip_lines trip) (flat_map trip_lines trips)
    ∙ ap₂ (λ calls more. (record_bytes (line.Trip trip.letter trip.days (length trip.calls) trip.name) ++ calls) ++ more) (flat_map-map record_bytes line.Call trip.calls) (rows_are trips)

-- the records of lines that are mapped
pub mapped_bytes : {X : Type 0} (f : X → Line) (xs : List X) → flat_map record_bytes (map f xs) ≡ flat_map (λ x. record_bytes (f x)) xs
mapped_bytes f xs = flat_map-map record_bytes f xs

-- ---- the sections in a row

-- what is read, section by section
abbrev pub made_of_sections : DaysMeaning → List Node → List (List ℕ × Place) → List Node → List Arc → List Arc → List TripLists → NetworkLists
made_of_sections days roads stops switches arcs links trips = record {
  days = days;
  roads = roads;
  stop_names = map (λ stop. stop.0) stops;
  stops = stop_nodes 0 stops;
  switches = switches;
  arcs = arcs;
  links = links;
  trips = trips;
}

-- the records of a network, one section behind the other
abbrev pub section_bytes : List Node → List (List ℕ × Place) → List Node → List Arc → List Arc → List TripLists → List ℕ
section_bytes roads stops switches arcs links trips =
    flat_map node_bytes roads ++ (flat_map stop_bytes stops ++ (flat_map node_bytes switches ++ (flat_map arc_bytes arcs ++ (flat_map arc_bytes links ++ flat_map trip_records trips))))

section_texts : (roads stops switches arcs links trips end : List Line) → flat_map record_bytes (roads ++ (stops ++ (switches ++ (arcs ++ (links ++ (trips ++ end))))))
    ≡ flat_map record_bytes roads ++ (flat_map record_bytes stops ++ (flat_map record_bytes switches ++ (flat_map record_bytes arcs ++ (flat_map record_bytes links ++ (flat_map record_bytes trips ++ flat_map record_bytes end)))))
section_texts roads stops switches arcs links trips end = simp flat_map-append

end_text : flat_map record_bytes (line.End ∷ []) ≡ []
end_text = flat_map-cons record_bytes line.End []

pub lines_bytes : (n : NetworkLists) (stops : List (List ℕ × Place)) → map stop_line (zip n.stop_names n.stops) ≡ map stop_row_line stops
    → flat_map record_bytes (region_lines n) ≡ section_bytes n.roads stops n.switches n.arcs n.links n.trips
unfolding region_lines
lines_bytes n stops same =
    flat_map-cons record_bytes (line.Days n.days) (map node_line n.roads ++ (map stop_line (zip n.stop_names n.stops) ++ (map node_line n.switches ++ (map line.Arc n.arcs ++ (map line.Link n.links ++ (flat_map trip_lines n.trips ++ line.End ∷ []))))))
    ∙ section_texts (map node_line n.roads) (map stop_line (zip n.stop_names n.stops)) (map node_line n.switches) (map line.Arc n.arcs) (map line.Link n.links) (flat_map trip_lines n.trips) (line.End ∷ [])
    ∙ ap₂ (λ a b. a ++ b) (mapped_bytes node_line n.roads)
    (ap₂ (λ a b. a ++ b) (ap (flat_map record_bytes) same ∙ mapped_bytes stop_row_line stops)
    (ap₂ (λ a b. a ++ b) (mapped_bytes node_line n.switches)
    (ap₂ (λ a b. a ++ b) (mapped_bytes line.Arc n.arcs)
    (ap₂ (λ a b. a ++ b) (mapped_bytes line.Link n.links)
    (ap₂ (λ a b. a ++ b) (rows_are n.trips) end_text ∙ append-nil (flat_map trip_records n.trips))))))

-- the nodes of stops have the numbers of their places
nodes_numbered : (stops : List (List ℕ × Place)) (number k : ℕ) (d : Node) → k < length (stop_nodes number stops) → IsStop (number + k) (get_or (stop_nodes number stops) k d).key
nodes_numbered [] number k d lt = absurd (omega (arith, lt))
nodes_numbered (stop ∷ stops) number zero d lt = sym (add-zero number)
nodes_numbered (stop ∷ stops) number (suc k) d lt =
    let place : number + 1 + k ≡ number + suc k = omega arith in
    subst (λ i. IsStop i (get_or (stop_nodes (number + 1) stops) k d).key) place (nodes_numbered stops (number + 1) k d (omega (arith, lt)))

names_and_nodes : (stops : List (List ℕ × Place)) (number : ℕ) → (length (map (λ (stop : List ℕ × Place). stop.0) stops) ≡ length stops) × (length (stop_nodes number stops) ≡ length stops)
names_and_nodes [] number = (refl, refl)
names_and_nodes (stop ∷ stops) number = (let more = names_and_nodes stops (number + 1) in (ap suc more.0, ap suc more.1))

-- what was read of the records of these days and counts
pub record AreRead (days : DaysMeaning) (c : Counts) (bytes : List ℕ) (y : NetworkLists × List ℕ) : Type 0 where
  pub taken : Takes bytes (flat_map record_bytes (region_lines y.0)) y.1
  pub days_are : y.0.days ≡ days
  pub counted : counts_of y.0 ≡ c
  pub region : IsRegion y.0

module _ (days : DaysMeaning) (dated : FitsDays days) (roads : List Node) (stops : List (List ℕ × Place)) (switches : List Node) (arcs links : List Arc) (trips : List TripLists)
    (fit_roads : AllByRecursion IsRoadNode roads) (fit_stops : AllByRecursion IsNamed stops) (fit_switches : AllByRecursion IsSwitchNode switches) (fit_arcs : AllByRecursion FitsArc arcs) (fit_links : AllByRecursion FitsArc links) (fit_trips : AllByRecursion FitsRow trips) where
  pub sections_are_region : IsRegion (made_of_sections days roads stops switches arcs links trips)
  unfolding region_lines
  sections_are_region = record {
    parts = record {
      roads_are = All-from_recursion IsRoadNode roads fit_roads;
      stops_are = λ k d lt. subst (λ i. IsStop i (get_or (stop_nodes 0 stops) k d).key) (zero-add k) (nodes_numbered stops 0 k d lt);
      switches_are = All-from_recursion IsSwitchNode switches fit_switches;
      one_name_each = (let both = names_and_nodes stops 0 in both.0 ∙ sym both.1);
      arcs_last = All-weaker FitsArc (λ (arc : Arc). 0 < arc.ms) (λ arc h. h.some) arcs (All-from_recursion FitsArc arcs fit_arcs);
      links_last = All-weaker FitsArc (λ (arc : Arc). 0 < arc.ms) (λ arc h. h.some) links (All-from_recursion FitsArc links fit_links);
    };
    fits = (
      dated,
      both_fit (map node_line roads) _ (mapped_fit node_line IsRoadNode (λ node h. road_fits node.key node.place h) roads fit_roads)
          (both_fit (map stop_line (zip (map (λ stop. stop.0) stops) (stop_nodes 0 stops))) _ (subst (AllByRecursion FitsLine) (sym (stop_lines_are stops 0)) (mapped_fit stop_row_line IsNamed (λ stop h. h) stops fit_stops))
          (both_fit (map node_line switches) _ (mapped_fit node_line IsSwitchNode (λ node h. switch_fits node.key node.place h) switches fit_switches)
          (both_fit (map line.Arc arcs) _ (mapped_fit line.Arc FitsArc (λ arc h. h) arcs fit_arcs)
          (both_fit (map line.Link links) _ (mapped_fit line.Link FitsArc (λ arc h. h) links fit_links)
          (both_fit (flat_map trip_lines trips) _ (rows_fit trips fit_trips) (tt, tt)))))),
    );
  }

same_counts : (a b : Counts) → a.roads ≡ b.roads → a.stops ≡ b.stops → a.switches ≡ b.switches → a.arcs ≡ b.arcs → a.links ≡ b.links → a.trips ≡ b.trips → a ≡ b
same_counts a b roads stops switches arcs links trips = λ i. record { roads = roads i; stops = stops i; switches = switches i; arcs = arcs i; links = links i; trips = trips i }

-- What is read is spelled so.
pub records_take : (days : DaysMeaning) (c : Counts) (bytes : List ℕ) (y : NetworkLists × List ℕ) → FitsDays days → IsBytes bytes → network_records days c bytes ≡ Ok y → AreRead days c bytes y
unfolding network_records stops_read
records_take days c bytes y dated fits e =
    let roads = bind_ok (many (one road_front) c.roads bytes) _ y e in
    let stops = bind_ok (stops_read c.stops roads.0.1) _ y roads.2 in
    let rows = bind_ok (many (one stop_front) c.stops roads.0.1) _ stops.0 stops.1 in
    let switches = bind_ok (many (one switch_front) c.switches stops.0.1) _ y stops.2 in
    let arcs = bind_ok (many (one arc_front) c.arcs switches.0.1) _ y switches.2 in
    let links = bind_ok (many (one arc_front) c.links arcs.0.1) _ y arcs.2 in
    let trips = bind_ok (many trip_read c.trips links.0.1) _ y links.2 in
    let rows_is : ◌≡◌ {A = (List (List ℕ) × List Node) × List ℕ} ((map (λ stop. stop.0) rows.0.0, stop_nodes 0 rows.0.0), rows.0.1) stops.0 = ok_is _ stops.0 rows.2 in
    let behind_stops : rows.0.1 ≡ stops.0.1 = ap (λ (x : (List (List ℕ) × List Node) × List ℕ). x.1) rows_is in
    let t0 = roads_take c.roads bytes roads.0 fits roads.1 in
    let t1 = stops_take c.stops roads.0.1 rows.0 t0.0.rest_fits rows.1 in
    let fits2 : IsBytes stops.0.1 = subst IsBytes behind_stops t1.0.rest_fits in
    let t2 = switches_take c.switches stops.0.1 switches.0 fits2 switches.1 in
    let t3 = arcs_take c.arcs switches.0.1 arcs.0 t2.0.rest_fits arcs.1 in
    let t4 = arcs_take c.links arcs.0.1 links.0 t3.0.rest_fits links.1 in
    let t5 = trips_take c.trips links.0.1 trips.0 t4.0.rest_fits trips.1 in
    let first : Takes roads.0.1 (flat_map stop_bytes rows.0.0) stops.0.1 = subst (λ (t : List ℕ). Takes roads.0.1 (flat_map stop_bytes rows.0.0) t) behind_stops t1.0 in
    let all = Takes-then bytes (flat_map node_bytes roads.0.0) roads.0.1 _ trips.0.1 t0.0
    (Takes-then roads.0.1 (flat_map stop_bytes rows.0.0) stops.0.1 _ trips.0.1 first
    (Takes-then stops.0.1 (flat_map node_bytes switches.0.0) switches.0.1 _ trips.0.1 t2.0
    (Takes-then switches.0.1 (flat_map arc_bytes arcs.0.0) arcs.0.1 _ trips.0.1 t3.0
    (Takes-then arcs.0.1 (flat_map arc_bytes links.0.0) links.0.1 (flat_map trip_records trips.0.0) trips.0.1 t4.0 t5.0)))) in
    let made = made_of_sections days roads.0.0 rows.0.0 switches.0.0 arcs.0.0 links.0.0 trips.0.0 in
    let is : ◌≡◌ {A = NetworkLists × List ℕ} (made, trips.0.1) y =
    ap (λ (x : (List (List ℕ) × List Node) × List ℕ). (record made { stop_names = x.0.0; stops = x.0.1 }, trips.0.1)) rows_is ∙ ok_is _ y trips.2 in
    let region = sections_are_region days dated roads.0.0 rows.0.0 switches.0.0 arcs.0.0 links.0.0 trips.0.0 t0.2 t1.2 t2.2 t3.2 t4.2 t5.2 in
    let counted : counts_of made ≡ c = same_counts (counts_of made) c t0.1 ((names_and_nodes rows.0.0 0).1 ∙ t1.1) t2.1 t3.1 t4.1 t5.1 in
    let text : flat_map record_bytes (region_lines made) ≡ section_bytes roads.0.0 rows.0.0 switches.0.0 arcs.0.0 links.0.0 trips.0.0 = lines_bytes made rows.0.0 (stop_lines_are rows.0.0 0) in
    let taken : Takes bytes (flat_map record_bytes (region_lines made)) trips.0.1 = subst (λ (t : List ℕ). Takes bytes t trips.0.1) (sym text) all in
    subst (λ z. AreRead days c bytes z) is (record { taken = taken; days_are = refl; counted = counted; region = region })

-- ---- What is spelled so is read.

-- stops as rows of names and places
abbrev stop_rows : List (List ℕ) → List Node → List (List ℕ × Place)
stop_rows names nodes = map (λ (stop : List ℕ × Node). (stop.0, stop.1.place)) (zip names nodes)

record AreRows (names : List (List ℕ)) (nodes : List Node) (number : ℕ) : Type 0 where
  names_are : map (λ (stop : List ℕ × Place). stop.0) (stop_rows names nodes) ≡ names
  nodes_are : stop_nodes number (stop_rows names nodes) ≡ nodes
  lines_are : map stop_line (zip names nodes) ≡ map stop_row_line (stop_rows names nodes)
  long : length (stop_rows names nodes) ≡ length nodes

stop_key : (number : ℕ) (key : NodeKey) → IsStop number key → Stop number ≡ key
stop_key number (Road mode id) h = absurd h
stop_key number (Stop stop) h = ap Stop (sym h)
stop_key number (Switch id) h = absurd h

rows_back : (names : List (List ℕ)) (nodes : List Node) (number : ℕ) → length names ≡ length nodes → ((k : ℕ) (d : Node) → k < length nodes → IsStop (number + k) (get_or nodes k d).key) → AreRows names nodes number
rows_back [] [] number e h = record { names_are = refl; nodes_are = refl; lines_are = refl; long = refl }
rows_back [] (node ∷ nodes) number e h = absurd (omega (arith, e))
rows_back (name ∷ names) [] number e h = absurd (omega (arith, e))
rows_back (name ∷ names) (node ∷ nodes) number e h =
    let key : Stop number ≡ node.key = stop_key number node.key (subst (λ k. IsStop k node.key) (add-zero number) (h 0 node (omega arith))) in
    let more = rows_back names nodes (number + 1) (omega (arith, e)) (λ k d lt.
    let place : number + suc k ≡ number + 1 + k = omega arith in
    subst (λ i. IsStop i (get_or nodes k d).key) place (h (suc k) d (omega (arith, lt)))) in
    record {
      names_are = ap (λ x. name ∷ x) more.names_are;
      nodes_are = ap₂ (λ (k : NodeKey) x. record { key = k; place = node.place } ∷ x) key more.nodes_are;
      lines_are = ap (λ x. line.Stop name node.place ∷ x) more.lines_are;
      long = ap suc more.long;
    }

names_fit : (names : List (List ℕ)) (nodes : List Node) → AllByRecursion FitsLine (map stop_line (zip names nodes)) → AllByRecursion IsNamed (stop_rows names nodes)
names_fit [] [] h = tt
names_fit [] (node ∷ nodes) h = tt
names_fit (name ∷ names) [] h = tt
names_fit (name ∷ names) (node ∷ nodes) h = (h.0, names_fit names nodes h.1)

assoc6 : (a b c d e f rest : List ℕ) → (a ++ (b ++ (c ++ (d ++ (e ++ f))))) ++ rest ≡ a ++ (b ++ (c ++ (d ++ (e ++ (f ++ rest)))))
assoc6 a b c d e f rest = simp append_assoc

pub records_again : (n : NetworkLists) (rest : List ℕ) → IsRegion n → network_records n.days (counts_of n) (flat_map record_bytes (region_lines n) ++ rest) ≡ Ok (n, rest)
unfolding network_records stops_read region_lines
records_again n rest region =
    let parts = region.parts in
    let rows = rows_back n.stop_names n.stops 0 parts.one_name_each (λ k d lt. subst (λ i. IsStop i (get_or n.stops k d).key) (sym (zero-add k)) (parts.stops_are k d lt)) in
    let stops = stop_rows n.stop_names n.stops in
    let f1 = left_fit (map node_line n.roads) _ region.fits.1 in
    let f2 = left_fit (map stop_line (zip n.stop_names n.stops)) _ f1.1 in
    let f3 = left_fit (map node_line n.switches) _ f2.1 in
    let f4 = left_fit (map line.Arc n.arcs) _ f3.1 in
    let f5 = left_fit (map line.Link n.links) _ f4.1 in
    let f6 = left_fit (flat_map trip_lines n.trips) _ f5.1 in
    let after6 = rest in
    let after5 = flat_map trip_records n.trips ++ after6 in
    let after4 = flat_map arc_bytes n.links ++ after5 in
    let after3 = flat_map arc_bytes n.arcs ++ after4 in
    let after2 = flat_map node_bytes n.switches ++ after3 in
    let after1 = flat_map stop_bytes stops ++ after2 in
    let text : flat_map record_bytes (region_lines n) ++ rest ≡ flat_map node_bytes n.roads ++ after1 =
    ap (λ t. t ++ rest) (lines_bytes n stops rows.lines_are)
    ∙ assoc6 (flat_map node_bytes n.roads) (flat_map stop_bytes stops) (flat_map node_bytes n.switches) (flat_map arc_bytes n.arcs) (flat_map arc_bytes n.links) (flat_map trip_records n.trips) rest in
    let stops_is : stops_read (length n.stops) after1 ≡ Ok ((n.stop_names, n.stops), after2) =
    ap (λ k. stops_read k after1) (sym rows.long)
    ∙ bind_is (many (one stop_front) (length stops) after1) _ (stops, after2) (Ok ((n.stop_names, n.stops), after2)) (stops_again stops after2 (names_fit n.stop_names n.stops f2.0))
    (ap₂ (λ a b. Ok ((a, b), after2)) rows.names_are rows.nodes_are) in
    ap (network_records n.days (counts_of n)) text
    ∙ bind_is (many (one road_front) (length n.roads) (flat_map node_bytes n.roads ++ after1)) _ (n.roads, after1) (Ok (n, rest)) (roads_again n.roads after1 (recursion_from_All IsRoadNode n.roads parts.roads_are))
    (bind_is (stops_read (length n.stops) after1) _ ((n.stop_names, n.stops), after2) (Ok (n, rest)) stops_is
    (bind_is (many (one switch_front) (length n.switches) after2) _ (n.switches, after3) (Ok (n, rest)) (switches_again n.switches after3 (recursion_from_All IsSwitchNode n.switches parts.switches_are))
    (bind_is (many (one arc_front) (length n.arcs) after3) _ (n.arcs, after4) (Ok (n, rest)) (arcs_again n.arcs after4 (unmapped_fit line.Arc FitsArc (λ arc h. h) n.arcs f4.0))
    (bind_is (many (one arc_front) (length n.links) after4) _ (n.links, after5) (Ok (n, rest)) (arcs_again n.links after5 (unmapped_fit line.Link FitsArc (λ arc h. h) n.links f5.0))
    (bind_is (many trip_read (length n.trips) after5) _ (n.trips, after6) (Ok (n, rest)) (trips_again n.trips after6 (fit_rows n.trips f6.0)) refl)))))
