-- Where the reading of records stops, no record that may come next is spelled.
use Rattle.plan_base.proofs.Common.{◌≡◌, ℕ, zero, suc, ◌+◌, ◌-◌, ◌<◌, true, false, cond, List, [], ◌∷◌, ◌++◌, length, map, Some, None, refl, sym, ap, ◌∙◌, append_assoc, arith, inl, inr, ◌≢◌, Option, option_and_then, nat_eq, nat_lt, flat_map, AllByRecursion, nat_tests, flat_map-append, append-nil, flat_map-cons}
use Rattle.plan_base.specs.{Place}
use Rattle.plain_texts.specs.{run_on}
use Rattle.timetable_arcs.specs.{Call, TripLists}
use Rattle.mode_network.specs.{Arc, Node, NodeKey, Road, Stop, Switch, IsRoad, IsSwitch}
use Rattle.region_file.specs.{Line, Section, arc_bytes, call_bytes, record_bytes, announce, next_behind, record_after, FitsArc, FitsCall, FitsLine, key_line, node_line, trip_lines, Due.Due, inside.trip_records}
use Rattle.region_file.specs.declared.lines.Line.TheVariants as line
use Rattle.region_file.specs.declared.section.Section.TheVariants as section
use Rattle.region_file.proofs.{Fits.both_fit, Fits.road_fits, Fits.switch_fits, ManyLaws.CallsStop, ManyLaws.FitsRow, ManyLaws.OneStop, ManyLaws.StopsAt, ManyLaws.TripStop, RecordLaws.FitsHead, RecordLaws.IsNamed, RecordLaws.IsRoadNode, RecordLaws.IsSwitchNode, RecordLaws.head_bytes_of, RecordLaws.node_bytes, RecordLaws.stop_bytes, WholeLaws.mapped_bytes, WholeLaws.mapped_fit, WholeLaws.rows_are, WholeLaws.rows_fit, WholeLaws.stop_row_line}

-- nothing but these sections is due
abbrev pub resting : List Section → Due
resting sections = record { calls = 0; sections = sections }

-- behind some records that may stand where they do, more are due, and no record that may come next is spelled
pub record IsBadBehind (from : Due) (bytes : List ℕ) (left : ℕ) : Type 0 where
  pub records : List Line
  pub due : Due
  pub rest : List ℕ
  pub fit : AllByRecursion FitsLine records
  pub run : run_on record_after (Some from) records ≡ Some due
  pub some : 0 < due.calls + length due.sections
  pub are : bytes ≡ flat_map record_bytes records ++ rest
  pub left_is : left ≡ length rest
  pub none : (l : Line) (more : List ℕ) → FitsLine l → record_after due l ≢ None → rest ≡ record_bytes l ++ more → ⊥

run_append : (xs ys : List Line) (o : Option Due) → run_on record_after o (xs ++ ys) ≡ run_on record_after (run_on record_after o xs) ys
run_append [] ys o = refl
run_append (x ∷ xs) ys o = run_append xs ys (option_and_then (λ place. record_after place x) o)

-- the same behind earlier records
pub bad_later : (from to : Due) (before : List Line) (bytes rest : List ℕ) (left : ℕ) → AllByRecursion FitsLine before → run_on record_after (Some from) before ≡ Some to → bytes ≡ flat_map record_bytes before ++ rest
    → IsBadBehind to rest left → IsBadBehind from bytes left
bad_later from to before bytes rest left fit run are h = record {
  records = before ++ h.records;
  due = h.due;
  rest = h.rest;
  fit = both_fit before h.records fit h.fit;
  run = run_append before h.records (Some from) ∙ ap (λ o. run_on record_after o h.records) run ∙ h.run;
  some = h.some;
  are = are ∙ ap (λ t. flat_map record_bytes before ++ t) h.are ∙ sym (append_assoc (flat_map record_bytes before) (flat_map record_bytes h.records) h.rest) ∙ ap (λ t. t ++ h.rest) (sym (flat_map-append record_bytes before h.records));
  left_is = h.left_is;
  none = h.none;
}

-- fewer records of a section than are announced leave one
announce_more : (s : Section) (others : List Section) (few count : ℕ) → few < count → (k : ℕ) × (announce count s others ≡ announce few s (s ∷ announce k s others))
announce_more s others zero zero lt = absurd (omega (arith, lt))
announce_more s others zero (suc count) lt = (count, refl)
announce_more s others (suc few) zero lt = absurd (omega (arith, lt))
announce_more s others (suc few) (suc count) lt = (let more = announce_more s others few count (omega (arith, lt)) in (more.0, ap (λ x. s ∷ x) more.1))

-- a section whose rows are one record each
module _ {X : Type 0} (s : Section) (f : X → Line) (Fits : X → Type 0)
    (fits : (x : X) → Fits x → FitsLine (f x))
    (stands : (x : X) (others : List Section) → Fits x → record_after (resting (s ∷ others)) (f x) ≡ Some (resting others))
    (only : (l : Line) (others : List Section) → FitsLine l → record_after (resting (s ∷ others)) l ≢ None → (x : X) × Fits x × (record_bytes l ≡ record_bytes (f x))) where
  pub run_rows : (xs : List X) (others : List Section) → AllByRecursion Fits xs → run_on record_after (Some (resting (announce (length xs) s others))) (map f xs) ≡ Some (resting others)
  run_rows [] others fit = refl
  run_rows (x ∷ xs) others fit = ap (λ o. run_on record_after o (map f xs)) (stands x (announce (length xs) s others) fit.0) ∙ run_rows xs others fit.1

  pub bad_row : (count : ℕ) (others : List Section) (bytes : List ℕ) (left : ℕ) → StopsAt (λ x. record_bytes (f x)) Fits (OneStop (λ x. record_bytes (f x)) Fits) count bytes left → IsBadBehind (resting (announce count s others)) bytes left
  bad_row count others bytes left h =
      let more = announce_more s others (length h.rows) count h.fewer in
      record {
        records = map f h.rows;
        due = resting (s ∷ announce more.0 s others);
        rest = h.rest;
        fit = mapped_fit f Fits fits h.rows h.fit;
        run = ap (λ x. run_on record_after (Some (resting x)) (map f h.rows)) more.1 ∙ run_rows h.rows (s ∷ announce more.0 s others) h.fit;
        some = omega arith;
        are = h.are ∙ ap (λ t. t ++ h.rest) (sym (mapped_bytes f h.rows));
        left_is = h.stop.0;
        none = λ l after fit may are. (let x = only l (announce more.0 s others) fit may in h.stop.1 x.0 after x.1 (are ∙ ap (λ t. t ++ after) x.2));
      }

-- the kinds of records, by what is due
road_stands : (key : NodeKey) (place : Place) (others : List Section) → IsRoad key → record_after (resting (section.Nodes ∷ others)) (key_line key place) ≡ Some (resting others)
road_stands (Road mode id) place others h = refl
road_stands (Stop stop) place others h = absurd h
road_stands (Switch id) place others h = absurd h

switch_stands : (key : NodeKey) (place : Place) (others : List Section) → IsSwitch key → record_after (resting (section.Switches ∷ others)) (key_line key place) ≡ Some (resting others)
switch_stands (Road mode id) place others h = absurd h
switch_stands (Stop stop) place others h = absurd h
switch_stands (Switch id) place others h = refl

only_road : (l : Line) (others : List Section) → FitsLine l → record_after (resting (section.Nodes ∷ others)) l ≢ None → (x : Node) × IsRoadNode x × (record_bytes l ≡ record_bytes (node_line x))
only_road (line.Days days) others h may = absurd (may refl)
only_road (line.Road mode id place) others h may = (record { key = Road mode id; place = place }, h, refl)
only_road (line.Stop name place) others h may = absurd (may refl)
only_road (line.Switch id place) others h may = absurd (may refl)
only_road (line.Arc arc) others h may = absurd (may refl)
only_road (line.Link arc) others h may = absurd (may refl)
only_road (line.Trip letter days calls name) others h may = absurd (may refl)
only_road (line.Call call) others h may = absurd (may refl)
only_road line.End others h may = absurd (may refl)

only_switch : (l : Line) (others : List Section) → FitsLine l → record_after (resting (section.Switches ∷ others)) l ≢ None → (x : Node) × IsSwitchNode x × (record_bytes l ≡ record_bytes (node_line x))
only_switch (line.Days days) others h may = absurd (may refl)
only_switch (line.Road mode id place) others h may = absurd (may refl)
only_switch (line.Stop name place) others h may = absurd (may refl)
only_switch (line.Switch id place) others h may = (record { key = Switch id; place = place }, h, refl)
only_switch (line.Arc arc) others h may = absurd (may refl)
only_switch (line.Link arc) others h may = absurd (may refl)
only_switch (line.Trip letter days calls name) others h may = absurd (may refl)
only_switch (line.Call call) others h may = absurd (may refl)
only_switch line.End others h may = absurd (may refl)

only_stop : (l : Line) (others : List Section) → FitsLine l → record_after (resting (section.Stops ∷ others)) l ≢ None → (x : List ℕ × Place) × IsNamed x × (record_bytes l ≡ record_bytes (stop_row_line x))
only_stop (line.Days days) others h may = absurd (may refl)
only_stop (line.Road mode id place) others h may = absurd (may refl)
only_stop (line.Stop name place) others h may = ((name, place), h, refl)
only_stop (line.Switch id place) others h may = absurd (may refl)
only_stop (line.Arc arc) others h may = absurd (may refl)
only_stop (line.Link arc) others h may = absurd (may refl)
only_stop (line.Trip letter days calls name) others h may = absurd (may refl)
only_stop (line.Call call) others h may = absurd (may refl)
only_stop line.End others h may = absurd (may refl)

only_arc : (l : Line) (others : List Section) → FitsLine l → record_after (resting (section.Arcs ∷ others)) l ≢ None → (x : Arc) × FitsArc x × (record_bytes l ≡ record_bytes (line.Arc x))
only_arc (line.Days days) others h may = absurd (may refl)
only_arc (line.Road mode id place) others h may = absurd (may refl)
only_arc (line.Stop name place) others h may = absurd (may refl)
only_arc (line.Switch id place) others h may = absurd (may refl)
only_arc (line.Arc arc) others h may = (arc, h, refl)
only_arc (line.Link arc) others h may = absurd (may refl)
only_arc (line.Trip letter days calls name) others h may = absurd (may refl)
only_arc (line.Call call) others h may = absurd (may refl)
only_arc line.End others h may = absurd (may refl)

only_link : (l : Line) (others : List Section) → FitsLine l → record_after (resting (section.Links ∷ others)) l ≢ None → (x : Arc) × FitsArc x × (record_bytes l ≡ record_bytes (line.Link x))
only_link (line.Days days) others h may = absurd (may refl)
only_link (line.Road mode id place) others h may = absurd (may refl)
only_link (line.Stop name place) others h may = absurd (may refl)
only_link (line.Switch id place) others h may = absurd (may refl)
only_link (line.Arc arc) others h may = absurd (may refl)
only_link (line.Link arc) others h may = (arc, h, refl)
only_link (line.Trip letter days calls name) others h may = absurd (may refl)
only_link (line.Call call) others h may = absurd (may refl)
only_link line.End others h may = absurd (may refl)

-- ---- trips and their calls

calls_more : (few count : ℕ) → few < count → (k : ℕ) × (count ≡ few + suc k)
calls_more few count lt = (count - few - 1, omega (arith, lt))

abbrev due_calls : ℕ → List Section → Due
due_calls calls others = record { calls = calls; sections = others }

call_stands : (calls : ℕ) (others : List Section) (call : Call) → record_after (due_calls (suc calls) others) (line.Call call) ≡ Some (due_calls calls others)
call_stands calls others call =
    let is : nat_lt 0 (suc calls) ≡ true = grind (arith, nat_tests) in
    ap (λ t. cond t (Some (due_calls (suc calls - 1) others)) None) is ∙ ap (λ k. Some (due_calls k others)) (omega arith)

run_calls : (calls : List Call) (others : List Section) (k count : ℕ) → count ≡ length calls + k → run_on record_after (Some (due_calls count others)) (map line.Call calls) ≡ Some (due_calls k others)
run_calls [] others k count e = ap (λ n. Some (due_calls n others)) (e ∙ omega arith)
run_calls (call ∷ calls) others k count e =
    let one : count ≡ suc (length calls + k) = omega (arith, e) in
    ap (λ n. run_on record_after (record_after (due_calls n others) (line.Call call)) (map line.Call calls)) one
    ∙ ap (λ o. run_on record_after o (map line.Call calls)) (call_stands (length calls + k) others call)
    ∙ run_calls calls others k (length calls + k) refl

pub run_trips : (trips : List TripLists) (others : List Section) → run_on record_after (Some (resting (announce (length trips) section.Trips others))) (flat_map trip_lines trips) ≡ Some (resting others)
run_trips [] others = refl
run_trips (trip ∷ trips) others =
    let rest = announce (length trips) section.Trips others in
    run_append (trip_lines trip) (flat_map trip_lines trips) (Some (resting (section.Trips ∷ rest)))
    ∙ ap (λ o. run_on record_after o (flat_map trip_lines trips)) (run_calls trip.calls rest 0 (length trip.calls) (omega arith))
    ∙ run_trips trips others

only_trip : (l : Line) (others : List Section) → FitsLine l → record_after (resting (section.Trips ∷ others)) l ≢ None → (x : TripLists × ℕ) × FitsHead x × (record_bytes l ≡ head_bytes_of x)
only_trip (line.Days days) others h may = absurd (may refl)
only_trip (line.Road mode id place) others h may = absurd (may refl)
only_trip (line.Stop name place) others h may = absurd (may refl)
only_trip (line.Switch id place) others h may = absurd (may refl)
only_trip (line.Arc arc) others h may = absurd (may refl)
only_trip (line.Link arc) others h may = absurd (may refl)
only_trip (line.Trip letter days calls name) others h may = ((record { letter = letter; days = days; name = name; calls = [] }, calls), record { fits = h; none = refl }, refl)
only_trip (line.Call call) others h may = absurd (may refl)
only_trip line.End others h may = absurd (may refl)

-- the records of one line
one_text : (l : Line) → flat_map record_bytes (l ∷ []) ≡ record_bytes l
one_text l = flat_map-cons record_bytes l [] ∙ append-nil (record_bytes l)

-- where calls are due nothing else may come
no_other : (calls : ℕ) (others : List Section) (l : Line) → cond (nat_eq (suc calls) 0) (next_behind others l) None ≡ None
no_other calls others l =
    let is : nat_eq (suc calls) 0 ≡ false = grind (arith, nat_tests) in
    ap (λ t. cond t (next_behind others l) None) is

only_call : (l : Line) (calls : ℕ) (others : List Section) → FitsLine l → record_after (due_calls (suc calls) others) l ≢ None → (x : Call) × FitsCall x × (record_bytes l ≡ call_bytes x)
only_call (line.Days days) calls others h may = absurd (may (no_other calls others (line.Days days)))
only_call (line.Road mode id place) calls others h may = absurd (may (no_other calls others (line.Road mode id place)))
only_call (line.Stop name place) calls others h may = absurd (may (no_other calls others (line.Stop name place)))
only_call (line.Switch id place) calls others h may = absurd (may (no_other calls others (line.Switch id place)))
only_call (line.Arc arc) calls others h may = absurd (may (no_other calls others (line.Arc arc)))
only_call (line.Link arc) calls others h may = absurd (may (no_other calls others (line.Link arc)))
only_call (line.Trip letter days count name) calls others h may = absurd (may (no_other calls others (line.Trip letter days count name)))
only_call (line.Call call) calls others h may = (call, h, refl)
only_call line.End calls others h may = absurd (may (no_other calls others line.End))

bad_call : (count : ℕ) (others : List Section) (bytes : List ℕ) (left : ℕ) → CallsStop count bytes left → IsBadBehind (due_calls count others) bytes left
bad_call count others bytes left h =
    let more = calls_more (length h.rows) count h.fewer in
    record {
      records = map line.Call h.rows;
      due = due_calls (suc more.0) others;
      rest = h.rest;
      fit = mapped_fit line.Call FitsCall (λ call h. h) h.rows h.fit;
      run = run_calls h.rows others (suc more.0) count more.1;
      some = omega arith;
      are = h.are ∙ ap (λ t. t ++ h.rest) (sym (mapped_bytes line.Call h.rows));
      left_is = h.stop.0;
      none = λ l after fit may are. (let x = only_call l more.0 others fit may in h.stop.1 x.0 after x.1 (are ∙ ap (λ t. t ++ after) x.2));
    }

bad_trip : (others : List Section) (bytes : List ℕ) (left : ℕ) → TripStop bytes left → IsBadBehind (resting (section.Trips ∷ others)) bytes left
bad_trip others bytes left (inl h) = record {
  records = [];
  due = resting (section.Trips ∷ others);
  rest = bytes;
  fit = tt;
  run = refl;
  some = omega arith;
  are = refl;
  left_is = h.0;
  none = λ l after fit may are. (let x = only_trip l others fit may in h.1 x.0 after x.1 (are ∙ ap (λ t. t ++ after) x.2));
}
bad_trip others bytes left (inr h) =
    let trip = h.trip.0 in
    bad_later (resting (section.Trips ∷ others)) (due_calls h.trip.1 others) (line.Trip trip.letter trip.days h.trip.1 trip.name ∷ []) bytes h.rest left (h.fits.fits, tt) refl
    (h.are ∙ ap (λ t. t ++ h.rest) (sym (one_text (line.Trip trip.letter trip.days h.trip.1 trip.name))))
    (bad_call h.trip.1 others h.rest left h.calls)

pub bad_trips : (count : ℕ) (others : List Section) (bytes : List ℕ) (left : ℕ) → StopsAt trip_records FitsRow TripStop count bytes left → IsBadBehind (resting (announce count section.Trips others)) bytes left
bad_trips count others bytes left h =
    let more = announce_more section.Trips others (length h.rows) count h.fewer in
    bad_later (resting (announce count section.Trips others)) (resting (section.Trips ∷ announce more.0 section.Trips others)) (flat_map trip_lines h.rows) bytes h.rest left (rows_fit h.rows h.fit)
    (ap (λ x. run_on record_after (Some (resting x)) (flat_map trip_lines h.rows)) more.1 ∙ run_trips h.rows (section.Trips ∷ announce more.0 section.Trips others))
    (h.are ∙ ap (λ t. t ++ h.rest) (sym (rows_are h.rows)))
    (bad_trip (announce more.0 section.Trips others) h.rest left h.stop)

-- ---- each section by itself

pub run_roads : (xs : List Node) (others : List Section) → AllByRecursion IsRoadNode xs → run_on record_after (Some (resting (announce (length xs) section.Nodes others))) (map node_line xs) ≡ Some (resting others)
run_roads = run_rows section.Nodes node_line IsRoadNode (λ node h. road_fits node.key node.place h) (λ node others h. road_stands node.key node.place others h) only_road

pub bad_roads : (count : ℕ) (others : List Section) (bytes : List ℕ) (left : ℕ) → StopsAt node_bytes IsRoadNode (OneStop node_bytes IsRoadNode) count bytes left → IsBadBehind (resting (announce count section.Nodes others)) bytes left
bad_roads = bad_row section.Nodes node_line IsRoadNode (λ node h. road_fits node.key node.place h) (λ node others h. road_stands node.key node.place others h) only_road

pub run_switches : (xs : List Node) (others : List Section) → AllByRecursion IsSwitchNode xs → run_on record_after (Some (resting (announce (length xs) section.Switches others))) (map node_line xs) ≡ Some (resting others)
run_switches = run_rows section.Switches node_line IsSwitchNode (λ node h. switch_fits node.key node.place h) (λ node others h. switch_stands node.key node.place others h) only_switch

pub bad_switches : (count : ℕ) (others : List Section) (bytes : List ℕ) (left : ℕ) → StopsAt node_bytes IsSwitchNode (OneStop node_bytes IsSwitchNode) count bytes left → IsBadBehind (resting (announce count section.Switches others)) bytes left
bad_switches = bad_row section.Switches node_line IsSwitchNode (λ node h. switch_fits node.key node.place h) (λ node others h. switch_stands node.key node.place others h) only_switch

pub run_stops : (xs : List (List ℕ × Place)) (others : List Section) → AllByRecursion IsNamed xs → run_on record_after (Some (resting (announce (length xs) section.Stops others))) (map stop_row_line xs) ≡ Some (resting others)
run_stops = run_rows section.Stops stop_row_line IsNamed (λ stop h. h) (λ stop others h. refl) only_stop

pub bad_stops : (count : ℕ) (others : List Section) (bytes : List ℕ) (left : ℕ) → StopsAt stop_bytes IsNamed (OneStop stop_bytes IsNamed) count bytes left → IsBadBehind (resting (announce count section.Stops others)) bytes left
bad_stops = bad_row section.Stops stop_row_line IsNamed (λ stop h. h) (λ stop others h. refl) only_stop

pub run_arcs : (xs : List Arc) (others : List Section) → AllByRecursion FitsArc xs → run_on record_after (Some (resting (announce (length xs) section.Arcs others))) (map line.Arc xs) ≡ Some (resting others)
run_arcs = run_rows section.Arcs line.Arc FitsArc (λ arc h. h) (λ arc others h. refl) only_arc

pub bad_arcs : (count : ℕ) (others : List Section) (bytes : List ℕ) (left : ℕ) → StopsAt arc_bytes FitsArc (OneStop arc_bytes FitsArc) count bytes left → IsBadBehind (resting (announce count section.Arcs others)) bytes left
bad_arcs = bad_row section.Arcs line.Arc FitsArc (λ arc h. h) (λ arc others h. refl) only_arc

pub run_links : (xs : List Arc) (others : List Section) → AllByRecursion FitsArc xs → run_on record_after (Some (resting (announce (length xs) section.Links others))) (map line.Link xs) ≡ Some (resting others)
run_links = run_rows section.Links line.Link FitsArc (λ arc h. h) (λ arc others h. refl) only_link

pub bad_links : (count : ℕ) (others : List Section) (bytes : List ℕ) (left : ℕ) → StopsAt arc_bytes FitsArc (OneStop arc_bytes FitsArc) count bytes left → IsBadBehind (resting (announce count section.Links others)) bytes left
bad_links = bad_row section.Links line.Link FitsArc (λ arc h. h) (λ arc others h. refl) only_link
