-- The two laws of each record: what is read is spelled so, and what is spelled so is read.
use Rattle.plan_base.proofs.Common.{◌≡◌, ℕ, ◌%◌, ◌≤◌, true, cond, List, [], ◌∷◌, ◌++◌, Some, None, refl, sym, ap, ap₂, subst, ◌∙◌, append_assoc, ◌==◌, nat_le, nat_lt, w32, w64, lt-ltb, ltb-true, leb-true, le-leb, same_Some, cond_some, option_and_then_some}
use Rattle.plain_texts.specs.{is_name}
use Rattle.plan_base.specs.{number_of_mode, Place}
use Rattle.timetable_arcs.specs.{Call, TripLists}
use Rattle.search_laws.specs.{IsLetter, letter_count}
use Rattle.mode_network.specs.{Arc, Node, NodeKey, Road, Stop, Switch, IsRoad, IsSwitch}
use Rattle.region_file.specs.declared.lines.Line.TheVariants as line
use Rattle.region_file.specs.{arc_bytes, call_bytes, counted_bytes, place_bytes, record_bytes, set_bytes, trip_bytes, word_bytes, arc_front, byte_front, call_front, id_front, letter_front, mode_front, name_front, place_front, road_front, set_front, stop_front, switch_front, trip_front, FitsArc, FitsCall, FitsTrip, flags_of, key_line, node_line}
use Rattle.file_records.specs.{number_front, signed_bytes}
use Rattle.file_records.proofs.{Steps.and_then, NumberLaws.IsBytes, NumberLaws.Takes, NumberLaws.Takes-then}
use Rattle.region_file.proofs.{FrontLaws.byte_again, FrontLaws.byte_takes, FrontLaws.id_again, FrontLaws.id_takes, FrontLaws.mode_again, FrontLaws.mode_takes, FrontLaws.name_again, FrontLaws.name_takes, FrontLaws.place_is_read, FrontLaws.place_takes, FrontLaws.set_again, FrontLaws.set_takes, FrontLaws.word_again, FrontLaws.word_takes, KindLaws.flags_again, KindLaws.flags_read}

-- ---- nodes

abbrev pub node_bytes : Node → List ℕ
node_bytes node = record_bytes (node_line node)

abbrev pub IsRoadNode : Node → Type 0
IsRoadNode node = IsRoad node.key

abbrev pub IsSwitchNode : Node → Type 0
IsSwitchNode node = IsSwitch node.key

pub road_takes : (bytes : List ℕ) (x : Node × List ℕ) → IsBytes bytes → road_front bytes ≡ Some x → Takes bytes (node_bytes x.0) x.1 × IsRoadNode x.0
unfolding road_front
road_takes bytes x fits e =
    option_and_then_some _ (mode_front bytes) x e (λ mode is_mode e.
    option_and_then_some _ (id_front mode.1) x e (λ id is_id e.
    option_and_then_some _ (place_front id.1) x e (λ place is_place e.
    let t0 = mode_takes bytes mode fits is_mode in
    let t1 = id_takes mode.1 id t0.rest_fits is_id in
    let t2 = place_takes id.1 place t1.0.rest_fits is_place in
    let later = Takes-then mode.1 (signed_bytes w64 id.0) id.1 (place_bytes place.0) place.1 t1.0 t2 in
    let all = Takes-then bytes (number_of_mode mode.0 ∷ []) mode.1 (signed_bytes w64 id.0 ++ place_bytes place.0) place.1 t0 later in
    let made : Node = record { key = Road mode.0 id.0; place = place.0 } in
    subst (λ (y : Node × List ℕ). Takes bytes (node_bytes y.0) y.1 × IsRoadNode y.0) (same_Some (made, place.1) x e) (all, t1.1))))

road_key : (key : NodeKey) (place : Place) (rest : List ℕ) → IsRoad key → road_front (record_bytes (key_line key place) ++ rest) ≡ Some (record { key = key; place = place }, rest)
unfolding road_front
road_key (Road mode id) place rest h =
    let made : Node = record { key = Road mode id; place = place } in
    let ids = signed_bytes w64 id in
    and_then (mode_front (number_of_mode mode ∷ ((ids ++ place_bytes place) ++ rest))) _ (mode, (ids ++ place_bytes place) ++ rest) (Some (made, rest)) (mode_again mode ((ids ++ place_bytes place) ++ rest))
    (and_then (id_front ((ids ++ place_bytes place) ++ rest)) _ (id, place_bytes place ++ rest) (Some (made, rest)) (ap id_front (append_assoc ids (place_bytes place) rest) ∙ id_again id (place_bytes place ++ rest) h)
    (and_then (place_front (place_bytes place ++ rest)) _ (place, rest) (Some (made, rest)) (place_is_read place rest) refl))
road_key (Stop stop) place rest h = absurd h
road_key (Switch id) place rest h = absurd h

pub road_again : (node : Node) (rest : List ℕ) → IsRoadNode node → road_front (node_bytes node ++ rest) ≡ Some (node, rest)
road_again node rest h = road_key node.key node.place rest h

pub switch_takes : (bytes : List ℕ) (x : Node × List ℕ) → IsBytes bytes → switch_front bytes ≡ Some x → Takes bytes (node_bytes x.0) x.1 × IsSwitchNode x.0
unfolding switch_front
switch_takes bytes x fits e =
    option_and_then_some _ (id_front bytes) x e (λ id is_id e.
    option_and_then_some _ (place_front id.1) x e (λ place is_place e.
    let t1 = id_takes bytes id fits is_id in
    let t2 = place_takes id.1 place t1.0.rest_fits is_place in
    let all = Takes-then bytes (signed_bytes w64 id.0) id.1 (place_bytes place.0) place.1 t1.0 t2 in
    let made : Node = record { key = Switch id.0; place = place.0 } in
    subst (λ (y : Node × List ℕ). Takes bytes (node_bytes y.0) y.1 × IsSwitchNode y.0) (same_Some (made, place.1) x e) (all, t1.1)))

switch_key : (key : NodeKey) (place : Place) (rest : List ℕ) → IsSwitch key → switch_front (record_bytes (key_line key place) ++ rest) ≡ Some (record { key = key; place = place }, rest)
unfolding switch_front
switch_key (Road mode id) place rest h = absurd h
switch_key (Stop stop) place rest h = absurd h
switch_key (Switch id) place rest h =
    let made : Node = record { key = Switch id; place = place } in
    let ids = signed_bytes w64 id in
    and_then (id_front ((ids ++ place_bytes place) ++ rest)) _ (id, place_bytes place ++ rest) (Some (made, rest)) (ap id_front (append_assoc ids (place_bytes place) rest) ∙ id_again id (place_bytes place ++ rest) h)
    (and_then (place_front (place_bytes place ++ rest)) _ (place, rest) (Some (made, rest)) (place_is_read place rest) refl)

pub switch_again : (node : Node) (rest : List ℕ) → IsSwitchNode node → switch_front (node_bytes node ++ rest) ≡ Some (node, rest)
switch_again node rest h = switch_key node.key node.place rest h

-- ---- stops

abbrev pub stop_bytes : List ℕ × Place → List ℕ
stop_bytes stop = record_bytes (line.Stop stop.0 stop.1)

abbrev pub IsNamed : List ℕ × Place → Type 0
IsNamed stop = is_name stop.0 ≡ true

pub stop_takes : (bytes : List ℕ) (x : (List ℕ × Place) × List ℕ) → IsBytes bytes → stop_front bytes ≡ Some x → Takes bytes (stop_bytes x.0) x.1 × IsNamed x.0
unfolding stop_front
stop_takes bytes x fits e =
    option_and_then_some _ (name_front bytes) x e (λ name is_name e.
    option_and_then_some _ (place_front name.1) x e (λ place is_place e.
    let t1 = name_takes bytes name fits is_name in
    let t2 = place_takes name.1 place t1.0.rest_fits is_place in
    let all = Takes-then bytes (counted_bytes name.0) name.1 (place_bytes place.0) place.1 t1.0 t2 in
    subst (λ (y : (List ℕ × Place) × List ℕ). Takes bytes (stop_bytes y.0) y.1 × IsNamed y.0) (same_Some ((name.0, place.0), place.1) x e) (all, t1.1)))

pub stop_again : (stop : List ℕ × Place) (rest : List ℕ) → IsNamed stop → stop_front (stop_bytes stop ++ rest) ≡ Some (stop, rest)
unfolding stop_front
stop_again stop rest h =
    let name = counted_bytes stop.0 in
    let place = place_bytes stop.1 in
    ap stop_front (append_assoc name place rest)
    ∙ and_then (name_front (name ++ (place ++ rest))) _ (stop.0, place ++ rest) (Some (stop, rest)) (name_again stop.0 (place ++ rest) h)
    (and_then (place_front (place ++ rest)) _ (stop.1, rest) (Some (stop, rest)) (place_is_read stop.1 rest) refl)

-- ---- arcs and links

pub arc_takes : (bytes : List ℕ) (x : Arc × List ℕ) → IsBytes bytes → arc_front bytes ≡ Some x → Takes bytes (arc_bytes x.0) x.1 × FitsArc x.0
unfolding arc_front
arc_takes bytes x fits e =
    option_and_then_some _ (number_front w32 bytes) x e (λ from is_from e.
    option_and_then_some _ (number_front w32 from.1) x e (λ to is_to e.
    option_and_then_some _ (number_front w32 to.1) x e (λ ms is_ms e.
    let t0 = word_takes bytes from fits is_from in
    let t1 = word_takes from.1 to t0.0.rest_fits is_to in
    let t2 = word_takes to.1 ms t1.0.rest_fits is_ms in
    let later = Takes-then from.1 (word_bytes to.0) to.1 (word_bytes ms.0) ms.1 t1.0 t2.0 in
    let all = Takes-then bytes (word_bytes from.0) from.1 (word_bytes to.0 ++ word_bytes ms.0) ms.1 t0.0 later in
    let made : Arc = record { from = from.0; to = to.0; ms = ms.0 } in
    let g = cond_some (nat_lt 0 ms.0) (made, ms.1) x e in
    subst (λ (y : Arc × List ℕ). Takes bytes (arc_bytes y.0) y.1 × FitsArc y.0) g.1 (all, record { from = t0.1; to = t1.1; some = ltb-true _ _ g.0; ms = t2.1 }))))

regroup3 : (a b c rest : List ℕ) → (a ++ (b ++ c)) ++ rest ≡ a ++ (b ++ (c ++ rest))
regroup3 a b c rest = simp append_assoc

pub arc_again : (arc : Arc) (rest : List ℕ) → FitsArc arc → arc_front (arc_bytes arc ++ rest) ≡ Some (arc, rest)
unfolding arc_front
arc_again arc rest h =
    let from = word_bytes arc.from in
    let to = word_bytes arc.to in
    let ms = word_bytes arc.ms in
    ap arc_front (regroup3 from to ms rest)
    ∙ and_then (number_front w32 (from ++ (to ++ (ms ++ rest)))) _ (arc.from, to ++ (ms ++ rest)) (Some (arc, rest)) (word_again arc.from (to ++ (ms ++ rest)) h.from)
    (and_then (number_front w32 (to ++ (ms ++ rest))) _ (arc.to, ms ++ rest) (Some (arc, rest)) (word_again arc.to (ms ++ rest) h.to)
    (and_then (number_front w32 (ms ++ rest)) _ (arc.ms, rest) (Some (arc, rest)) (word_again arc.ms rest h.ms)
    (ap (λ t. cond t (Some (arc, rest)) None) (lt-ltb 0 arc.ms h.some))))

-- ---- calls

pub call_takes : (bytes : List ℕ) (x : Call × List ℕ) → IsBytes bytes → call_front bytes ≡ Some x → Takes bytes (call_bytes x.0) x.1 × FitsCall x.0
unfolding call_front
call_takes bytes x fits e =
    option_and_then_some _ (number_front w32 bytes) x e (λ stop is_stop e.
    option_and_then_some _ (number_front w32 stop.1) x e (λ arr is_arr e.
    option_and_then_some _ (number_front w32 arr.1) x e (λ dep is_dep e.
    option_and_then_some _ (byte_front 4 dep.1) x e (λ flags is_flags e.
    let t0 = word_takes bytes stop fits is_stop in
    let t1 = word_takes stop.1 arr t0.0.rest_fits is_arr in
    let t2 = word_takes arr.1 dep t1.0.rest_fits is_dep in
    let t3 = byte_takes 4 dep.1 flags t2.0.rest_fits is_flags in
    let made : Call = record { stop = stop.0; arr = arr.0; dep = dep.0; board = flags.0 % 2 == 1; alight = nat_le 2 flags.0 } in
    let marked : Takes dep.1 (flags_of made ∷ []) flags.1 = subst (λ (n : ℕ). Takes dep.1 (n ∷ []) flags.1) (sym (flags_read flags.0 t3.1)) t3.0 in
    let two = Takes-then arr.1 (word_bytes dep.0) dep.1 (flags_of made ∷ []) flags.1 t2.0 marked in
    let three = Takes-then stop.1 (word_bytes arr.0) arr.1 (word_bytes dep.0 ++ (flags_of made ∷ [])) flags.1 t1.0 two in
    let all = Takes-then bytes (word_bytes stop.0) stop.1 (word_bytes arr.0 ++ (word_bytes dep.0 ++ (flags_of made ∷ []))) flags.1 t0.0 three in
    subst (λ (y : Call × List ℕ). Takes bytes (call_bytes y.0) y.1 × FitsCall y.0) (same_Some (made, flags.1) x e) (all, record { stop = t0.1; arr = t1.1; dep = t2.1 })))))

regroup4 : (a b c d rest : List ℕ) → (a ++ (b ++ (c ++ d))) ++ rest ≡ a ++ (b ++ (c ++ (d ++ rest)))
regroup4 a b c d rest = simp append_assoc

pub call_again : (call : Call) (rest : List ℕ) → FitsCall call → call_front (call_bytes call ++ rest) ≡ Some (call, rest)
unfolding call_front
call_again call rest h =
    let stop = word_bytes call.stop in
    let arr = word_bytes call.arr in
    let dep = word_bytes call.dep in
    let marks = flags_again call.board call.alight in
    ap call_front (regroup4 stop arr dep (flags_of call ∷ []) rest)
    ∙ and_then (number_front w32 (stop ++ (arr ++ (dep ++ (flags_of call ∷ rest))))) _ (call.stop, arr ++ (dep ++ (flags_of call ∷ rest))) (Some (call, rest)) (word_again call.stop (arr ++ (dep ++ (flags_of call ∷ rest))) h.stop)
    (and_then (number_front w32 (arr ++ (dep ++ (flags_of call ∷ rest)))) _ (call.arr, dep ++ (flags_of call ∷ rest)) (Some (call, rest)) (word_again call.arr (dep ++ (flags_of call ∷ rest)) h.arr)
    (and_then (number_front w32 (dep ++ (flags_of call ∷ rest))) _ (call.dep, flags_of call ∷ rest) (Some (call, rest)) (word_again call.dep (flags_of call ∷ rest) h.dep)
    (and_then (byte_front 4 (flags_of call ∷ rest)) _ (flags_of call, rest) (Some (call, rest)) (byte_again 4 (flags_of call) rest marks.few)
    (ap₂ (λ b a. Some (record call { board = b; alight = a }, rest)) marks.boards marks.alights))))

-- ---- trips, without their calls

-- a trip and how many calls its record counts
abbrev pub head_bytes_of : TripLists × ℕ → List ℕ
head_bytes_of trip = trip_bytes trip.0.letter trip.0.days trip.1 trip.0.name

pub record FitsHead (trip : TripLists × ℕ) : Type 0 where
  pub fits : FitsTrip trip.0.letter trip.0.days trip.1 trip.0.name
  pub none : trip.0.calls ≡ []

letter_takes : (bytes : List ℕ) (x : ℕ × List ℕ) → IsBytes bytes → letter_front bytes ≡ Some x → Takes bytes (x.0 ∷ []) x.1 × (3 ≤ x.0) × IsLetter x.0
unfolding letter_front
letter_takes bytes x fits e =
    option_and_then_some _ (byte_front letter_count bytes) x e (λ letter is e.
    let t = byte_takes letter_count bytes letter fits is in
    let g = cond_some (nat_le 3 letter.0) (letter.0, letter.1) x e in
    subst (λ (y : ℕ × List ℕ). Takes bytes (y.0 ∷ []) y.1 × (3 ≤ y.0) × IsLetter y.0) g.1 (t.0, leb-true _ _ g.0, t.1))

letter_again : (letter : ℕ) (rest : List ℕ) → 3 ≤ letter → IsLetter letter → letter_front (letter ∷ rest) ≡ Some (letter, rest)
unfolding letter_front
letter_again letter rest low high =
    and_then (byte_front letter_count (letter ∷ rest)) _ (letter, rest) (Some (letter, rest)) (byte_again letter_count letter rest high) (ap (λ t. cond t (Some (letter, rest)) None) (le-leb 3 letter low))

pub trip_takes : (bytes : List ℕ) (x : (TripLists × ℕ) × List ℕ) → IsBytes bytes → trip_front bytes ≡ Some x → Takes bytes (head_bytes_of x.0) x.1 × FitsHead x.0
unfolding trip_front
trip_takes bytes x fits e =
    option_and_then_some _ (letter_front bytes) x e (λ letter is_letter e.
    option_and_then_some _ (set_front letter.1) x e (λ days is_days e.
    option_and_then_some _ (number_front w32 days.1) x e (λ calls is_calls e.
    option_and_then_some _ (name_front calls.1) x e (λ name is_name e.
    let t0 = letter_takes bytes letter fits is_letter in
    let t1 = set_takes letter.1 days t0.0.rest_fits is_days in
    let t2 = word_takes days.1 calls t1.0.rest_fits is_calls in
    let t3 = name_takes calls.1 name t2.0.rest_fits is_name in
    let two = Takes-then days.1 (word_bytes calls.0) calls.1 (counted_bytes name.0) name.1 t2.0 t3.0 in
    let three = Takes-then letter.1 (set_bytes days.0) days.1 (word_bytes calls.0 ++ counted_bytes name.0) name.1 t1.0 two in
    let all = Takes-then bytes (letter.0 ∷ []) letter.1 (set_bytes days.0 ++ (word_bytes calls.0 ++ counted_bytes name.0)) name.1 t0.0 three in
    let made : TripLists = record { letter = letter.0; days = record { 0 = days.0 }; name = name.0; calls = [] } in
    subst (λ (y : (TripLists × ℕ) × List ℕ). Takes bytes (head_bytes_of y.0) y.1 × FitsHead y.0) (same_Some ((made, calls.0), name.1) x e)
    (all, record { fits = record { from_tram = t0.1; to_other = t0.2; some_day = record { some = t1.1; within = t1.2 }; few = t2.1; named = t3.1 }; none = refl })))))

pub trip_again : (trip : TripLists × ℕ) (rest : List ℕ) → FitsHead trip → trip_front (head_bytes_of trip ++ rest) ≡ Some (trip, rest)
unfolding trip_front
trip_again trip rest h =
    let set = set_bytes trip.0.days.0 in
    let count = word_bytes trip.1 in
    let name = counted_bytes trip.0.name in
    ap (λ t. trip_front (trip.0.letter ∷ t)) (regroup3 set count name rest)
    ∙ and_then (letter_front (trip.0.letter ∷ (set ++ (count ++ (name ++ rest))))) _ (trip.0.letter, set ++ (count ++ (name ++ rest))) (Some (trip, rest)) (letter_again trip.0.letter (set ++ (count ++ (name ++ rest))) h.fits.from_tram h.fits.to_other)
    (and_then (set_front (set ++ (count ++ (name ++ rest)))) _ (trip.0.days.0, count ++ (name ++ rest)) (Some (trip, rest)) (set_again trip.0.days.0 (count ++ (name ++ rest)) h.fits.some_day.some h.fits.some_day.within)
    (and_then (number_front w32 (count ++ (name ++ rest))) _ (trip.1, name ++ rest) (Some (trip, rest)) (word_again trip.1 (name ++ rest) h.fits.few)
    (and_then (name_front (name ++ rest)) _ (trip.0.name, rest) (Some (trip, rest)) (name_again trip.0.name rest h.fits.named)
    (ap (λ calls. Some ((record trip.0 { calls = calls }, trip.1), rest)) (sym h.none)))))
