-- Why the bytes of records are refused, and that records are read again.
use Rattle.plan_base.proofs.Common.{◌≡◌, ℕ, List, [], ◌++◌, length, map, Some, Result, Ok, Err, sym, ap, subst, ◌∙◌, ◌⊎◌, inl, inr, AllByRecursion}
use Rattle.plain_texts.specs.{run_on}
use Rattle.plan_base.specs.{Place}
use Rattle.service_days.specs.DaysMeaning.{DaysMeaning}
use Rattle.timetable_arcs.specs.{TripLists}
use Rattle.mode_network.specs.{Arc, Node, NetworkLists.NetworkLists}
use Rattle.region_file.specs.{Counts, Line, Section, record_bytes, announce, due_of, record_after, arc_front, road_front, stop_front, switch_front, FitsArc, FitsLine, node_line, many, network_records, stop_nodes, stops_read, trip_read}
use Rattle.region_file.specs.declared.lines.Line.TheVariants as line
use Rattle.region_file.specs.declared.section.Section.TheVariants as section
use Rattle.region_file.proofs.{Fits.road_fits, Fits.switch_fits, RecordLaws.IsNamed, RecordLaws.IsRoadNode, RecordLaws.IsSwitchNode, StopLaws.IsBadBehind, StopLaws.bad_arcs, StopLaws.bad_later, StopLaws.bad_links, StopLaws.bad_roads, StopLaws.bad_stops, StopLaws.bad_switches, StopLaws.bad_trips, StopLaws.resting, StopLaws.run_arcs, StopLaws.run_links, StopLaws.run_roads, StopLaws.run_stops, StopLaws.run_switches, WholeLaws.Taken, WholeLaws.arcs_stop, WholeLaws.arcs_take, WholeLaws.mapped_bytes, WholeLaws.mapped_fit, WholeLaws.roads_stop, WholeLaws.roads_take, WholeLaws.stop_row_line, WholeLaws.stops_stop, WholeLaws.stops_take, WholeLaws.switches_stop, WholeLaws.switches_take, WholeLaws.trips_stop}
use Rattle.file_records.specs.{one}
use Rattle.file_records.proofs.{NumberLaws.IsBytes, Steps.bind_err, Steps.bind_ok, Steps.ok_is}

-- stops, as names and nodes
abbrev as_stops : List (List ℕ × Place) × List ℕ → Result ((List (List ℕ) × List Node) × List ℕ) ℕ
as_stops x = Ok ((map (λ stop. stop.0) x.0, stop_nodes 0 x.0), x.1)

-- a whole section, and what is bad behind it
behind_section : {X : Type 0} (s : Section) (f : X → Line) (Fits : X → Type 0) (fits : (x : X) → Fits x → FitsLine (f x))
    (run : (xs : List X) (others : List Section) → AllByRecursion Fits xs → run_on record_after (Some (resting (announce (length xs) s others))) (map f xs) ≡ Some (resting others))
    (count : ℕ) (others : List Section) (bytes : List ℕ) (y : List X × List ℕ) (left : ℕ) → Taken (λ x. record_bytes (f x)) Fits count bytes y → IsBadBehind (resting others) y.1 left → IsBadBehind (resting (announce count s others)) bytes left
behind_section s f Fits fits run count others bytes y left taken h =
    bad_later (resting (announce count s others)) (resting others) (map f y.0) bytes y.1 left (mapped_fit f Fits fits y.0 taken.2)
    (ap (λ n. run_on record_after (Some (resting (announce n s others))) (map f y.0)) (sym taken.1) ∙ run y.0 others taken.2)
    (taken.0.parts ∙ ap (λ t. t ++ y.1) (sym (mapped_bytes f y.0))) h

module _ (days : DaysMeaning) (c : Counts) (left : ℕ) where
  abbrev from_trips : List Section
  from_trips = announce c.trips section.Trips []

  abbrev from_links : List Section
  from_links = announce c.links section.Links from_trips

  abbrev from_arcs : List Section
  from_arcs = announce c.arcs section.Arcs from_links

  abbrev from_switches : List Section
  from_switches = announce c.switches section.Switches from_arcs

  abbrev from_stops : List Section
  from_stops = announce c.stops section.Stops from_switches

  pub records_bad : (bytes : List ℕ) → IsBytes bytes → network_records days c bytes ≡ Err left → IsBadBehind (due_of c) bytes left
  unfolding network_records stops_read
  records_bad bytes fits e =
      by_roads _ (λ roads e fits.
      by_stops roads.1 _ (λ stops e fits.
      by_switches stops.1 _ (λ switches e fits.
      by_arcs switches _ (λ arcs e fits.
      by_links arcs _ (λ links e fits.
      by_trips links _ (λ trips e. absurd cc) fits (bind_err (many trip_read c.trips links.1) _ left e))
      fits (bind_err (many (one arc_front) c.links arcs.1) _ left e))
      fits (bind_err (many (one arc_front) c.arcs switches.1) _ left e))
      fits (bind_err (many (one switch_front) c.switches stops.1) _ left e))
      fits (bind_err (stops_read c.stops roads.1) _ left e))
      (bind_err (many (one road_front) c.roads bytes) _ left e)
    where
      by_trips : (links : List Arc × List ℕ) (next : List TripLists × List ℕ → Result (NetworkLists × List ℕ) ℕ) → ((x : List TripLists × List ℕ) → next x ≡ Err left → ⊥) → IsBytes links.1
          → (many trip_read c.trips links.1 ≡ Err left) ⊎ ((x : List TripLists × List ℕ) × (many trip_read c.trips links.1 ≡ Ok x) × (next x ≡ Err left)) → IsBadBehind (resting from_trips) links.1 left
      by_trips links next done fits (inl e) = bad_trips c.trips [] links.1 left (trips_stop c.trips links.1 left fits e)
      by_trips links next done fits (inr (x, is, e)) = absurd (done x e)

      by_links : (arcs : List Arc × List ℕ) (next : List Arc × List ℕ → Result (NetworkLists × List ℕ) ℕ) → ((x : List Arc × List ℕ) → next x ≡ Err left → IsBytes x.1 → IsBadBehind (resting from_trips) x.1 left) → IsBytes arcs.1
          → (many (one arc_front) c.links arcs.1 ≡ Err left) ⊎ ((x : List Arc × List ℕ) × (many (one arc_front) c.links arcs.1 ≡ Ok x) × (next x ≡ Err left)) → IsBadBehind (resting from_links) arcs.1 left
      by_links arcs next later fits (inl e) = bad_links c.links from_trips arcs.1 left (arcs_stop c.links arcs.1 left fits e)
      by_links arcs next later fits (inr (x, is, e)) =
          let t = arcs_take c.links arcs.1 x fits is in
          behind_section section.Links line.Link FitsArc (λ arc h. h) run_links c.links from_trips arcs.1 x left t (later x e t.0.rest_fits)

      by_arcs : (switches : List Node × List ℕ) (next : List Arc × List ℕ → Result (NetworkLists × List ℕ) ℕ) → ((x : List Arc × List ℕ) → next x ≡ Err left → IsBytes x.1 → IsBadBehind (resting from_links) x.1 left) → IsBytes switches.1
          → (many (one arc_front) c.arcs switches.1 ≡ Err left) ⊎ ((x : List Arc × List ℕ) × (many (one arc_front) c.arcs switches.1 ≡ Ok x) × (next x ≡ Err left)) → IsBadBehind (resting from_arcs) switches.1 left
      by_arcs switches next later fits (inl e) = bad_arcs c.arcs from_links switches.1 left (arcs_stop c.arcs switches.1 left fits e)
      by_arcs switches next later fits (inr (x, is, e)) =
          let t = arcs_take c.arcs switches.1 x fits is in
          behind_section section.Arcs line.Arc FitsArc (λ arc h. h) run_arcs c.arcs from_links switches.1 x left t (later x e t.0.rest_fits)

      by_switches : (rest : List ℕ) (next : List Node × List ℕ → Result (NetworkLists × List ℕ) ℕ) → ((x : List Node × List ℕ) → next x ≡ Err left → IsBytes x.1 → IsBadBehind (resting from_arcs) x.1 left) → IsBytes rest
          → (many (one switch_front) c.switches rest ≡ Err left) ⊎ ((x : List Node × List ℕ) × (many (one switch_front) c.switches rest ≡ Ok x) × (next x ≡ Err left)) → IsBadBehind (resting from_switches) rest left
      by_switches rest next later fits (inl e) = bad_switches c.switches from_arcs rest left (switches_stop c.switches rest left fits e)
      by_switches rest next later fits (inr (x, is, e)) =
          let t = switches_take c.switches rest x fits is in
          behind_section section.Switches node_line IsSwitchNode (λ node h. switch_fits node.key node.place h) run_switches c.switches from_arcs rest x left t (later x e t.0.rest_fits)

      by_stops : (rest : List ℕ) (next : (List (List ℕ) × List Node) × List ℕ → Result (NetworkLists × List ℕ) ℕ) → ((x : (List (List ℕ) × List Node) × List ℕ) → next x ≡ Err left → IsBytes x.1 → IsBadBehind (resting from_switches) x.1 left) → IsBytes rest
          → (stops_read c.stops rest ≡ Err left) ⊎ ((x : (List (List ℕ) × List Node) × List ℕ) × (stops_read c.stops rest ≡ Ok x) × (next x ≡ Err left)) → IsBadBehind (resting from_stops) rest left
      by_stops rest next later fits (inl e) = by_rows (bind_err (many (one stop_front) c.stops rest) as_stops left e)
        where
          by_rows : (many (one stop_front) c.stops rest ≡ Err left) ⊎ ((x : List (List ℕ × Place) × List ℕ) × (many (one stop_front) c.stops rest ≡ Ok x) × (as_stops x ≡ Err left)) → IsBadBehind (resting from_stops) rest left
          by_rows (inl e) = bad_stops c.stops from_switches rest left (stops_stop c.stops rest left fits e)
          by_rows (inr (x, is, e)) = absurd cc
      by_stops rest next later fits (inr (x, is, e)) =
          let rows = bind_ok (many (one stop_front) c.stops rest) as_stops x is in
          let t = stops_take c.stops rest rows.0 fits rows.1 in
          let same : rows.0.1 ≡ x.1 = ap (λ (z : (List (List ℕ) × List Node) × List ℕ). z.1) (ok_is _ x rows.2) in
          behind_section section.Stops stop_row_line IsNamed (λ stop h. h) run_stops c.stops from_switches rest rows.0 left t
          (subst (λ (r : List ℕ). IsBadBehind (resting from_switches) r left) (sym same) (later x e (subst IsBytes same t.0.rest_fits)))

      by_roads : (next : List Node × List ℕ → Result (NetworkLists × List ℕ) ℕ) → ((x : List Node × List ℕ) → next x ≡ Err left → IsBytes x.1 → IsBadBehind (resting from_stops) x.1 left)
          → (many (one road_front) c.roads bytes ≡ Err left) ⊎ ((x : List Node × List ℕ) × (many (one road_front) c.roads bytes ≡ Ok x) × (next x ≡ Err left)) → IsBadBehind (due_of c) bytes left
      by_roads next later (inl e) = bad_roads c.roads from_stops bytes left (roads_stop c.roads bytes left fits e)
      by_roads next later (inr (x, is, e)) =
          let t = roads_take c.roads bytes x fits is in
          behind_section section.Nodes node_line IsRoadNode (λ node h. road_fits node.key node.place h) run_roads c.roads from_stops bytes x left t (later x e t.0.rest_fits)
