-- The laws of records in a row, for every kind of record that has them by itself.
use Rattle.plan_base.proofs.Common.{◌≡◌, ℕ, zero, suc, ◌<◌, List, [], ◌∷◌, ◌++◌, length, Some, None, Result, Ok, Err, refl, sym, ap, subst, ◌∙◌, append_assoc, arith, ◌⊎◌, inl, inr, Option, flat_map, AllByRecursion, flat_map-cons, none-some}
use Rattle.timetable_arcs.specs.{Call, TripLists}
use Rattle.region_file.specs.{call_bytes, trip_bytes, call_front, trip_front, FitsCall, FitsTrip, many, trip_read, inside.trip_records}
use Rattle.file_records.specs.{◌>>=◌, one, or_left, with_first}
use Rattle.file_records.proofs.{Steps.ok_is, Steps.err_is, Steps.bind_ok, Steps.bind_err, Steps.bind_is, NumberLaws.IsBytes, NumberLaws.Takes, NumberLaws.Takes-then, RowLaws.first_ok, RowLaws.first_err}
use Rattle.region_file.proofs.{LoopLemmas.many_ok, RecordLaws.FitsHead, RecordLaws.head_bytes_of, RecordLaws.call_again, RecordLaws.call_takes, RecordLaws.trip_again, RecordLaws.trip_takes}

-- fewer records are spelled in turn, and the reading stops in the one where the rest begins
pub record StopsAt {X : Type 0} (text : X → List ℕ) (Fits : X → Type 0) (Stop : List ℕ → ℕ → Type 0) (count : ℕ) (bytes : List ℕ) (left : ℕ) : Type 0 where
  pub rows : List X
  pub rest : List ℕ
  pub fewer : length rows < count
  pub fit : AllByRecursion Fits rows
  pub are : bytes ≡ flat_map text rows ++ rest
  pub stop : Stop rest left

module _ {X : Type 0} (read : List ℕ → Result (X × List ℕ) ℕ) (text : X → List ℕ) (Fits : X → Type 0) (Stop : List ℕ → ℕ → Type 0)
    (takes : (bytes : List ℕ) (x : X × List ℕ) → IsBytes bytes → read bytes ≡ Ok x → Takes bytes (text x.0) x.1 × Fits x.0)
    (again : (x : X) (rest : List ℕ) → Fits x → read (text x ++ rest) ≡ Ok (x, rest))
    (stops : (bytes : List ℕ) (left : ℕ) → IsBytes bytes → read bytes ≡ Err left → Stop bytes left) where
  pub many_takes : (n : ℕ) (bytes : List ℕ) (y : List X × List ℕ) → IsBytes bytes → many read n bytes ≡ Ok y → Takes bytes (flat_map text y.0) y.1 × (length y.0 ≡ n) × AllByRecursion Fits y.0
  unfolding many
  many_takes zero bytes y fits e =
      let same : ◌≡◌ {A = List X × List ℕ} ([], bytes) y = ok_is ([], bytes) y e in
      subst (λ (z : List X × List ℕ). Takes bytes (flat_map text z.0) z.1 × (length z.0 ≡ 0) × AllByRecursion Fits z.0) same (record { parts = refl; rest_fits = fits }, refl, tt)
  many_takes (suc n) bytes y fits e =
      let first = bind_ok (read bytes) (λ x. with_first x.0 (many read n x.1)) y e in
      let others = first_ok first.0.0 (many read n first.0.1) y first.2 in
      let one = takes bytes first.0 fits first.1 in
      let more = many_takes n first.0.1 others.0 one.0.rest_fits others.1 in
      let both = Takes-then bytes (text first.0.0) first.0.1 (flat_map text others.0.0) others.0.1 one.0 more.0 in
      let all : Takes bytes (flat_map text (first.0.0 ∷ others.0.0)) others.0.1 = subst (λ (t : List ℕ). Takes bytes t others.0.1) (sym (flat_map-cons text first.0.0 others.0.0)) both in
      subst (λ (z : List X × List ℕ). Takes bytes (flat_map text z.0) z.1 × (length z.0 ≡ suc n) × AllByRecursion Fits z.0) others.2
      (all, ap suc more.1, (one.1, more.2))

  pub many_again : (xs : List X) (rest : List ℕ) → AllByRecursion Fits xs → many read (length xs) (flat_map text xs ++ rest) ≡ Ok (xs, rest)
  unfolding many
  many_again [] rest fits = refl
  many_again (x ∷ xs) rest fits =
      let regrouped : flat_map text (x ∷ xs) ++ rest ≡ text x ++ (flat_map text xs ++ rest) =
      ap (λ t. t ++ rest) (flat_map-cons text x xs) ∙ append_assoc (text x) (flat_map text xs) rest in
      ap (many read (suc (length xs))) regrouped
      ∙ many_ok read (length xs) (text x ++ (flat_map text xs ++ rest)) (x, flat_map text xs ++ rest) (again x (flat_map text xs ++ rest) fits.0)
      ∙ ap (with_first x) (many_again xs rest fits.1)

  pub many_stops : (n : ℕ) (bytes : List ℕ) (left : ℕ) → IsBytes bytes → many read n bytes ≡ Err left → StopsAt text Fits Stop n bytes left
  unfolding many
  many_stops zero bytes left fits e = absurd cc
  many_stops (suc n) bytes left fits e = by_first (bind_err (read bytes) (λ x. with_first x.0 (many read n x.1)) left e) (λ rest fit stopped. many_stops n rest left fit stopped)
    where
      by_first : (read bytes ≡ Err left) ⊎ ((x : X × List ℕ) × (read bytes ≡ Ok x) × (with_first x.0 (many read n x.1) ≡ Err left))
          → ((rest : List ℕ) → IsBytes rest → many read n rest ≡ Err left → StopsAt text Fits Stop n rest left) → StopsAt text Fits Stop (suc n) bytes left
      by_first (inl stopped) later = record { rows = []; rest = bytes; fewer = omega arith; fit = tt; are = refl; stop = stops bytes left fits stopped }
      by_first (inr (x, is, stopped)) later =
          let taken = takes bytes x fits is in
          let more = later x.1 taken.0.rest_fits (first_err x.0 (many read n x.1) left stopped) in
          record {
            rows = x.0 ∷ more.rows;
            rest = more.rest;
            fewer = omega (arith, more.fewer);
            fit = (taken.1, more.fit);
            are = taken.0.parts ∙ ap (λ t. text x.0 ++ t) more.are ∙ sym (append_assoc (text x.0) (flat_map text more.rows) more.rest) ∙ ap (λ t. t ++ more.rest) (sym (flat_map-cons text x.0 more.rows));
            stop = more.stop;
          }

-- ---- one record, which has a front

-- all bytes are left, and no record is spelled by their front
abbrev pub OneStop : {X : Type 0} → (X → List ℕ) → (X → Type 0) → List ℕ → ℕ → Type 0
OneStop {X} text Fits bytes left = (left ≡ length bytes) × ((x : X) (more : List ℕ) → Fits x → bytes ≡ text x ++ more → ⊥)

module _ {X : Type 0} (front : List ℕ → Option (X × List ℕ)) (text : X → List ℕ) (Fits : X → Type 0)
    (takes : (bytes : List ℕ) (x : X × List ℕ) → IsBytes bytes → front bytes ≡ Some x → Takes bytes (text x.0) x.1 × Fits x.0)
    (again : (x : X) (rest : List ℕ) → Fits x → front (text x ++ rest) ≡ Some (x, rest)) where
  pub one_takes : (bytes : List ℕ) (x : X × List ℕ) → IsBytes bytes → one front bytes ≡ Ok x → Takes bytes (text x.0) x.1 × Fits x.0
  one_takes bytes x fits e = by_front (front bytes) refl e
    where
      by_front : (o : Option (X × List ℕ)) → front bytes ≡ o → or_left (length bytes) o ≡ Ok x → Takes bytes (text x.0) x.1 × Fits x.0
      by_front None is e = absurd cc
      by_front (Some y) is e = takes bytes x fits (is ∙ ap Some (ok_is y x e))

  pub one_again : (x : X) (rest : List ℕ) → Fits x → one front (text x ++ rest) ≡ Ok (x, rest)
  one_again x rest fits = ap (or_left (length (text x ++ rest))) (again x rest fits)

  pub one_stops : (bytes : List ℕ) (left : ℕ) → IsBytes bytes → one front bytes ≡ Err left → OneStop text Fits bytes left
  one_stops bytes left fits e = by_front (front bytes) refl e
    where
      by_front : (o : Option (X × List ℕ)) → front bytes ≡ o → or_left (length bytes) o ≡ Err left → OneStop text Fits bytes left
      by_front None is e = (sym (err_is {A = X × List ℕ} (length bytes) left e), λ x more fit are. none-some (x, more) (sym is ∙ ap front are ∙ again x more fit))
      by_front (Some y) is e = absurd cc

-- ---- a trip and its calls

pub record FitsRow (trip : TripLists) : Type 0 where
  pub head : FitsTrip trip.letter trip.days (length trip.calls) trip.name
  pub calls : AllByRecursion FitsCall trip.calls

-- the reading stops in the record of the trip, or in that of a call behind it
abbrev pub CallsStop : ℕ → List ℕ → ℕ → Type 0
CallsStop count bytes left = StopsAt call_bytes FitsCall (OneStop call_bytes FitsCall) count bytes left

pub record StopsInCalls (bytes : List ℕ) (left : ℕ) : Type 0 where
  pub trip : TripLists × ℕ
  pub rest : List ℕ
  pub fits : FitsHead trip
  pub are : bytes ≡ head_bytes_of trip ++ rest
  pub calls : CallsStop trip.1 rest left

abbrev pub TripStop : List ℕ → ℕ → Type 0
TripStop bytes left = OneStop head_bytes_of FitsHead bytes left ⊎ StopsInCalls bytes left

calls_take : (n : ℕ) (bytes : List ℕ) (y : List Call × List ℕ) → IsBytes bytes → many (one call_front) n bytes ≡ Ok y → Takes bytes (flat_map call_bytes y.0) y.1 × (length y.0 ≡ n) × AllByRecursion FitsCall y.0
calls_take = many_takes (one call_front) call_bytes FitsCall (OneStop call_bytes FitsCall) (one_takes call_front call_bytes FitsCall call_takes call_again) (one_again call_front call_bytes FitsCall call_takes call_again) (one_stops call_front call_bytes FitsCall call_takes call_again)

calls_again : (calls : List Call) (rest : List ℕ) → AllByRecursion FitsCall calls → many (one call_front) (length calls) (flat_map call_bytes calls ++ rest) ≡ Ok (calls, rest)
calls_again = many_again (one call_front) call_bytes FitsCall (OneStop call_bytes FitsCall) (one_takes call_front call_bytes FitsCall call_takes call_again) (one_again call_front call_bytes FitsCall call_takes call_again) (one_stops call_front call_bytes FitsCall call_takes call_again)

calls_stop : (n : ℕ) (bytes : List ℕ) (left : ℕ) → IsBytes bytes → many (one call_front) n bytes ≡ Err left → CallsStop n bytes left
calls_stop = many_stops (one call_front) call_bytes FitsCall (OneStop call_bytes FitsCall) (one_takes call_front call_bytes FitsCall call_takes call_again) (one_again call_front call_bytes FitsCall call_takes call_again) (one_stops call_front call_bytes FitsCall call_takes call_again)

abbrev with_calls : TripLists × ℕ → List Call × List ℕ → Result (TripLists × List ℕ) ℕ
with_calls trip calls = Ok (record trip.0 { calls = calls.0 }, calls.1)

pub row_takes : (bytes : List ℕ) (x : TripLists × List ℕ) → IsBytes bytes → trip_read bytes ≡ Ok x → Takes bytes (trip_records x.0) x.1 × FitsRow x.0
unfolding trip_read
row_takes bytes x fits e =
    let head = bind_ok (one trip_front bytes) (λ trip. many (one call_front) trip.0.1 trip.1 >>= with_calls trip.0) x e in
    let calls = bind_ok (many (one call_front) head.0.0.1 head.0.1) (with_calls head.0.0) x head.2 in
    let t0 = one_takes trip_front head_bytes_of FitsHead trip_takes trip_again bytes head.0 fits head.1 in
    let t1 = calls_take head.0.0.1 head.0.1 calls.0 t0.0.rest_fits calls.1 in
    let made : TripLists = record head.0.0.0 { calls = calls.0.0 } in
    let counted : Takes bytes (trip_bytes made.letter made.days (length made.calls) made.name) head.0.1 = subst (λ n. Takes bytes (trip_bytes made.letter made.days n made.name) head.0.1) (sym t1.1) t0.0 in
    let all = Takes-then bytes (trip_bytes made.letter made.days (length made.calls) made.name) head.0.1 (flat_map call_bytes calls.0.0) calls.0.1 counted t1.0 in
    let fit : FitsTrip made.letter made.days (length made.calls) made.name = subst (λ n. FitsTrip made.letter made.days n made.name) (sym t1.1) t0.1.fits in
    subst (λ (y : TripLists × List ℕ). Takes bytes (trip_records y.0) y.1 × FitsRow y.0) (ok_is (made, calls.0.1) x calls.2) (all, record { head = fit; calls = t1.2 })

pub row_again : (trip : TripLists) (rest : List ℕ) → FitsRow trip → trip_read (trip_records trip ++ rest) ≡ Ok (trip, rest)
unfolding trip_read
row_again trip rest h =
    let head : TripLists × ℕ = (record trip { calls = [] }, length trip.calls) in
    let behind = flat_map call_bytes trip.calls ++ rest in
    ap trip_read (append_assoc (head_bytes_of head) (flat_map call_bytes trip.calls) rest)
    ∙ bind_is (one trip_front (head_bytes_of head ++ behind)) (λ t. many (one call_front) t.0.1 t.1 >>= with_calls t.0) (head, behind) (Ok (trip, rest))
    (one_again trip_front head_bytes_of FitsHead trip_takes trip_again head behind (record { fits = h.head; none = refl }))
    (bind_is (many (one call_front) (length trip.calls) behind) (with_calls head) (trip.calls, rest) (Ok (trip, rest)) (calls_again trip.calls rest h.calls) refl)

pub row_stops : (bytes : List ℕ) (left : ℕ) → IsBytes bytes → trip_read bytes ≡ Err left → TripStop bytes left
unfolding trip_read
row_stops bytes left fits e = by_head (bind_err (one trip_front bytes) (λ trip. many (one call_front) trip.0.1 trip.1 >>= with_calls trip.0) left e)
  where
    by_calls : (head : (TripLists × ℕ) × List ℕ) → one trip_front bytes ≡ Ok head → (many (one call_front) head.0.1 head.1 ≡ Err left) ⊎ ((z : List Call × List ℕ) × (many (one call_front) head.0.1 head.1 ≡ Ok z) × (with_calls head.0 z ≡ Err left)) → TripStop bytes left
    by_calls head is (inl stopped) =
        let t0 = one_takes trip_front head_bytes_of FitsHead trip_takes trip_again bytes head fits is in
        inr (record { trip = head.0; rest = head.1; fits = t0.1; are = t0.0.parts; calls = calls_stop head.0.1 head.1 left t0.0.rest_fits stopped })
    by_calls head is (inr (z, read, e)) = absurd cc

    by_head : (one trip_front bytes ≡ Err left) ⊎ ((head : (TripLists × ℕ) × List ℕ) × (one trip_front bytes ≡ Ok head) × ((many (one call_front) head.0.1 head.1 >>= with_calls head.0) ≡ Err left)) → TripStop bytes left
    by_head (inl stopped) = inl (one_stops trip_front head_bytes_of FitsHead trip_takes trip_again bytes left fits stopped)
    by_head (inr (head, is, e)) = by_calls head is (bind_err (many (one call_front) head.0.1 head.1) (with_calls head.0) left e)
