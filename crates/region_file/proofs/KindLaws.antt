-- The two laws of a line by itself: what is read is spelled so, and what is spelled so is read.
use Rattle.plan_base.proofs.Common.{◌≡◌, ℕ, zero, suc, ℤ, List, [], ◌∷◌, length, get_or, refl, ap, ap₂, sym, ◌∙◌, subst, ◌<◌, ◌≤◌, ◌+◌, ◌-◌, ◌*◌, ◌%◌, ◌^◌, Bool, true, false, cond, arith, Option, Some, None, option_map, Result, Ok, Err, codes, decimal, unsigned_abs, nat_eq, nat_le, nat_lt, not, ◌==◌, ◌&&◌, position, int_le, pos, neg_ℤ, ◌≤ℤ◌, signed_decimal, bytes_eq, AllByRecursion, list_all, false≢true, nat_tests, ints, All-weaker, position-Some, AllPass-from_list_all, none-some, same_Some, cond_some, option_and_then_some}
use Rattle.file_records.proofs.Steps.{mapped, same_bytes}
use Rattle.plain_texts.specs.{IsWord, words_of, spaced, hexadecimal, hexadecimal_at, is_name, name_of, IsId, id_at, number_at, signed_at}
use Rattle.plain_texts.proofs.{Decimal.number_takes, Decimal.number_again, Hexadecimal.hexadecimal_takes, Hexadecimal.hexadecimal_again, Signed.signed_takes, Signed.signed_again, Spaced.spaced-words_of, Spaced.words_of-spaced, Spaced.word_by_test, Spaced.decimal_is_word, Spaced.signed_is_word, Spaced.hexadecimal_is_word, Spaced.name_is_word}
use Rattle.plan_base.specs.{mode_named, mode_numbered, Mode, Foot, Bike, Car, Place, place_of, shown, road_names, transit_names}
use Rattle.plan_base.proofs.PlaceAgain.{place_again}
use Rattle.service_days.specs.{DaysMeaning.DaysMeaning, is_day_count, is_first_date, new_days, plain_days, Zone, dates_and_next, days_in_read, days_made, days_with_bases, have_day_lengths, is_rule_text, read_zone, zone_days, RangeFault, BadCount, BadDate, BadZone}
use Rattle.timetable_arcs.specs.{Call}
use Rattle.search_laws.specs.{IsLetter}
use Rattle.mode_network.specs.{Arc}
use Rattle.region_file.specs.{Line, letter_at, letter_name, FitsArc, FitsCall, FitsDays, FitsLine, FitsTrip, arc_words, call_words, flags_of, mode_name, place_words, rule_words, spelled, words, arc_of_words, call_of_words, days_of_words, end_of_words, line_of_kind, line_of, line_of_words, days_if_made, place_of_words, road_of_words, rule_of_words, stop_of_words, switch_of_words, trip_of_words, number_of_word}
use Rattle.region_file.specs.declared.lines.Line.TheVariants as line

-- numbers and ids
word_takes : (text : List ℕ) (n : ℕ) → number_of_word text ≡ Some n → (n < 2 ^ 32) × (text ≡ decimal n)
word_takes text n e = number_takes text (2 ^ 32) n (omega arith) e

word_again : (n : ℕ) → n < 2 ^ 32 → number_of_word (decimal n) ≡ Some n
word_again n h = number_again (2 ^ 32) n (omega arith) h

id_takes : (text : List ℕ) (z : ℤ) → id_at text ≡ Some z → IsId z × (text ≡ signed_decimal z)
id_takes text z e = signed_takes text (10 ^ 18) z (omega arith) e

id_again : (z : ℤ) → IsId z → id_at (signed_decimal z) ≡ Some z
id_again z h = signed_again (10 ^ 18) z (omega arith) h

-- names of modes
mode_takes : (text : List ℕ) (mode : Mode) → mode_named text ≡ Some mode → text ≡ mode_name mode
mode_takes text mode e =
    option_and_then_some mode_numbered (position (λ known. bytes_eq known text) road_names) mode e (λ k at is. by_number k (position-Some (λ known. bytes_eq known text) road_names k [] at).1 is)
  where
    by_number : (k : ℕ) → bytes_eq (get_or road_names k []) text ≡ true → mode_numbered k ≡ Some mode → text ≡ mode_name mode
    by_number zero same is = sym (same_bytes (codes "foot") text same) ∙ ap mode_name (same_Some Foot mode is)
    by_number (suc zero) same is = sym (same_bytes (codes "bike") text same) ∙ ap mode_name (same_Some Bike mode is)
    by_number (suc (suc zero)) same is = sym (same_bytes (codes "car") text same) ∙ ap mode_name (same_Some Car mode is)
    by_number (suc (suc (suc k))) same is = absurd (none-some mode is)

mode_again : (mode : Mode) → mode_named (mode_name mode) ≡ Some mode
mode_again Foot = refl
mode_again Bike = refl
mode_again Car = refl

-- names of letters
place_laws : (k : ℕ) → k < 11 → (position (λ known. bytes_eq known (get_or transit_names k [])) transit_names ≡ Some k) × IsWord (get_or transit_names k [])
place_laws zero h = (refl, word_by_test (codes "tram") refl)
place_laws (suc zero) h = (refl, word_by_test (codes "metro") refl)
place_laws (suc (suc zero)) h = (refl, word_by_test (codes "rail") refl)
place_laws (suc (suc (suc zero))) h = (refl, word_by_test (codes "bus") refl)
place_laws (suc (suc (suc (suc zero)))) h = (refl, word_by_test (codes "ferry") refl)
place_laws (suc (suc (suc (suc (suc zero))))) h = (refl, word_by_test (codes "cable") refl)
place_laws (suc (suc (suc (suc (suc (suc zero)))))) h = (refl, word_by_test (codes "lift") refl)
place_laws (suc (suc (suc (suc (suc (suc (suc zero))))))) h = (refl, word_by_test (codes "funicular") refl)
place_laws (suc (suc (suc (suc (suc (suc (suc (suc zero)))))))) h = (refl, word_by_test (codes "trolley") refl)
place_laws (suc (suc (suc (suc (suc (suc (suc (suc (suc zero))))))))) h = (refl, word_by_test (codes "monorail") refl)
place_laws (suc (suc (suc (suc (suc (suc (suc (suc (suc (suc zero)))))))))) h = (refl, word_by_test (codes "other") refl)
place_laws (suc (suc (suc (suc (suc (suc (suc (suc (suc (suc (suc k))))))))))) h = absurd (omega (arith, h))

letter_takes : (name : List ℕ) (letter : ℕ) → letter_at name ≡ Some letter → (letter_name letter ≡ name) × (3 ≤ letter) × IsLetter letter
unfolding letter_at
letter_takes name letter e =
    let found = mapped (λ place. 3 + place) (position (λ known. bytes_eq known name) transit_names) letter e in
    let at = position-Some (λ known. bytes_eq known name) transit_names found.0 [] found.1 in
    let few : found.0 < 11 = at.0 in
    let place : letter - 3 ≡ found.0 = omega (arith, found.2) in
    (ap (λ k. get_or transit_names k []) place ∙ same_bytes (get_or transit_names found.0 []) name at.1, omega (arith, found.2), omega (arith, found.2, few))

letter_again : (letter : ℕ) → 3 ≤ letter → IsLetter letter → letter_at (letter_name letter) ≡ Some letter
unfolding letter_at
letter_again letter low high =
    let again : 3 + (letter - 3) ≡ letter = omega (arith, low) in
    ap (option_map (λ place. 3 + place)) (place_laws (letter - 3) (omega (arith, low, high))).0 ∙ ap Some again

letter_is_word : (letter : ℕ) → 3 ≤ letter → IsLetter letter → IsWord (letter_name letter)
letter_is_word letter low high = (place_laws (letter - 3) (omega (arith, low, high))).1

-- places
pub place_of_takes : (lat lon : ℤ) (place : Place) → place_of lat lon ≡ Some place → (lat ≡ place.lat) × (lon ≡ place.lon)
place_of_takes lat lon place e =
    option_and_then_some _ (shown (int_le (neg_ℤ (pos 900000000)) lat)) place e (λ south _ e.
    option_and_then_some _ (shown (int_le lat (pos 900000000))) place e (λ north _ e.
    option_and_then_some _ (shown (int_le (neg_ℤ (pos 1800000000)) lon)) place e (λ west _ e.
    let found = mapped _ (shown (int_le lon (pos 1800000000))) place e in
    (ap (λ (p : Place). p.lat) found.2, ap (λ (p : Place). p.lon) found.2))))

place_takes : (lat lon : List ℕ) (place : Place) → place_of_words lat lon ≡ Some place → lat ∷ lon ∷ [] ≡ place_words place
unfolding place_of_words
place_takes lat lon place e =
    option_and_then_some _ (signed_at (2 * 10 ^ 9) lat) place e (λ north is_lat e.
    option_and_then_some _ (signed_at (2 * 10 ^ 9) lon) place e (λ east is_lon e.
    let same = place_of_takes north east place e in
    let lat_is = (signed_takes lat (2 * 10 ^ 9) north (omega arith) is_lat).1 in
    let lon_is = (signed_takes lon (2 * 10 ^ 9) east (omega arith) is_lon).1 in
    ap₂ (λ x y. x ∷ y ∷ []) (lat_is ∙ ap signed_decimal same.0) (lon_is ∙ ap signed_decimal same.1)))

pub size_below : (z : ℤ) (n : ℕ) → neg_ℤ (pos n) ≤ℤ z → z ≤ℤ pos n → n < 2 * 10 ^ 9 → unsigned_abs z < 2 * 10 ^ 9
size_below z n low high small = omega (arith, ints)

place_is_read : (place : Place) → place_of_words (signed_decimal place.lat) (signed_decimal place.lon) ≡ Some place
unfolding place_of_words
place_is_read place =
    let range = place.in_range in
    rw (signed_again (2 * 10 ^ 9) place.lat (omega arith) (size_below place.lat 900000000 range.south range.north (omega arith)), signed_again (2 * 10 ^ 9) place.lon (omega arith) (size_below place.lon 1800000000 range.west range.east (omega arith))) (place_again place)

-- arcs and links
arc_takes : (fields : List (List ℕ)) (arc : Arc) → arc_of_words fields ≡ Some arc → (arc_words arc ≡ fields) × FitsArc arc
unfolding arc_of_words
arc_takes [] arc e = absurd (none-some arc e)
arc_takes (a ∷ []) arc e = absurd (none-some arc e)
arc_takes (a ∷ b ∷ []) arc e = absurd (none-some arc e)
arc_takes (a ∷ b ∷ c ∷ d ∷ more) arc e = absurd (none-some arc e)
arc_takes (a ∷ b ∷ c ∷ []) arc e =
    option_and_then_some _ (number_of_word a) arc e (λ from is_from e.
    option_and_then_some _ (number_of_word b) arc e (λ to is_to e.
    option_and_then_some _ (number_of_word c) arc e (λ ms is_ms e.
    let fits = cond_some (nat_lt 0 ms) (record { from = from; to = to; ms = ms }) arc e in
    let some : 0 < ms = grind (arith, nat_tests, fits.0) in
    let tail = word_takes a from is_from in
    let head = word_takes b to is_to in
    let time = word_takes c ms is_ms in
    let same : decimal from ∷ decimal to ∷ decimal ms ∷ [] ≡ a ∷ b ∷ c ∷ [] = cc (tail.1, head.1, time.1) in
    subst (λ x. (arc_words x ≡ a ∷ b ∷ c ∷ []) × FitsArc x) fits.1 (same, record { from = tail.0; to = head.0; some = some; ms = time.0 }))))

arc_again : (arc : Arc) → FitsArc arc → arc_of_words (arc_words arc) ≡ Some arc
unfolding arc_of_words
arc_again arc h = rw (word_again arc.from h.from, word_again arc.to h.to, word_again arc.ms h.ms) (grind (arith, nat_tests, h.some))

-- calls
pub flags_read : (marks : ℕ) → marks < 4 → cond (marks % 2 == 1) 1 0 + cond (nat_le 2 marks) 2 0 ≡ marks
flags_read zero h = refl
flags_read (suc zero) h = refl
flags_read (suc (suc zero)) h = refl
flags_read (suc (suc (suc zero))) h = refl
flags_read (suc (suc (suc (suc n)))) h = absurd (omega (arith, h))

pub record AreFlags (board alight : Bool) (marks : ℕ) : Type 0 where
  pub few : marks < 4
  pub boards : (marks % 2 == 1) ≡ board
  pub alights : nat_le 2 marks ≡ alight

pub flags_again : (board alight : Bool) → AreFlags board alight (cond board 1 0 + cond alight 2 0)
flags_again true true = record { few = omega arith; boards = refl; alights = refl }
flags_again true false = record { few = omega arith; boards = refl; alights = refl }
flags_again false true = record { few = omega arith; boards = refl; alights = refl }
flags_again false false = record { few = omega arith; boards = refl; alights = refl }

call_takes : (fields : List (List ℕ)) (call : Call) → call_of_words fields ≡ Some call → (call_words call ≡ fields) × FitsCall call
unfolding call_of_words
call_takes [] call e = absurd (none-some call e)
call_takes (a ∷ []) call e = absurd (none-some call e)
call_takes (a ∷ b ∷ []) call e = absurd (none-some call e)
call_takes (a ∷ b ∷ c ∷ []) call e = absurd (none-some call e)
call_takes (a ∷ b ∷ c ∷ d ∷ f ∷ more) call e = absurd (none-some call e)
call_takes (a ∷ b ∷ c ∷ d ∷ []) call e =
    option_and_then_some _ (number_of_word a) call e (λ stop is_stop e.
    option_and_then_some _ (number_of_word b) call e (λ arr is_arr e.
    option_and_then_some _ (number_of_word c) call e (λ dep is_dep e.
    option_and_then_some _ (number_at 4 d) call e (λ marks is_marks e.
    let place = word_takes a stop is_stop in
    let arrival = word_takes b arr is_arr in
    let departure = word_takes c dep is_dep in
    let flags = number_takes d 4 marks (omega arith) is_marks in
    let read : Call = record { stop = stop; arr = arr; dep = dep; board = marks % 2 == 1; alight = nat_le 2 marks } in
    let same : call_words read ≡ a ∷ b ∷ c ∷ d ∷ [] = cc (place.1, arrival.1, departure.1, flags.1, flags_read marks flags.0) in
    subst (λ x. (call_words x ≡ a ∷ b ∷ c ∷ d ∷ []) × FitsCall x) (same_Some read call e) (same, record { stop = place.0; arr = arrival.0; dep = departure.0 })))))

call_again : (call : Call) → FitsCall call → call_of_words (call_words call) ≡ Some call
unfolding call_of_words
call_again call h =
    let flags = flags_again call.board call.alight in
    rw (word_again call.stop h.stop, word_again call.arr h.arr, word_again call.dep h.dep, number_again 4 (flags_of call) (omega arith) flags.few)
    (ap₂ (λ board alight. Some (record { stop = call.stop; arr = call.arr; dep = call.dep; board = board; alight = alight })) flags.boards flags.alights)

-- the lines of trips
trip_takes : (fields : List (List ℕ)) (l : Line) → trip_of_words fields ≡ Some l → (words l ≡ codes "trip" ∷ fields) × FitsLine l
unfolding trip_of_words
trip_takes [] l e = absurd (none-some l e)
trip_takes (a ∷ []) l e = absurd (none-some l e)
trip_takes (a ∷ b ∷ []) l e = absurd (none-some l e)
trip_takes (a ∷ b ∷ c ∷ []) l e = absurd (none-some l e)
trip_takes (a ∷ b ∷ c ∷ d ∷ f ∷ more) l e = absurd (none-some l e)
trip_takes (a ∷ b ∷ c ∷ d ∷ []) l e =
    option_and_then_some _ (letter_at a) l e (λ letter is_letter e.
    option_and_then_some _ (hexadecimal_at b) l e (λ set is_set e.
    option_and_then_some _ (number_of_word c) l e (λ calls is_calls e.
    option_and_then_some _ (name_of d) l e (λ name is_name_of e.
    let means = letter_takes a letter is_letter in
    let days = hexadecimal_takes b set is_set in
    let count = word_takes c calls is_calls in
    let named = cond_some (is_name d) d name is_name_of in
    let same : codes "trip" ∷ letter_name letter ∷ hexadecimal set ∷ decimal calls ∷ name ∷ [] ≡ codes "trip" ∷ a ∷ b ∷ c ∷ d ∷ [] = cc (means.0, days.1, count.1, named.1) in
    let fits : FitsTrip letter (record { 0 = set }) calls name = record { from_tram = means.1; to_other = means.2; some_day = days.0; few = count.0; named = subst (λ x. is_name x ≡ true) named.1 named.0 } in
    subst (λ x. (words x ≡ codes "trip" ∷ a ∷ b ∷ c ∷ d ∷ []) × FitsLine x) (same_Some (line.Trip letter (record { 0 = set }) calls name) l e) (same, fits)))))

-- the lines of nodes
road_takes : (fields : List (List ℕ)) (l : Line) → road_of_words fields ≡ Some l → (words l ≡ codes "node" ∷ fields) × FitsLine l
unfolding road_of_words
road_takes [] l e = absurd (none-some l e)
road_takes (a ∷ []) l e = absurd (none-some l e)
road_takes (a ∷ b ∷ []) l e = absurd (none-some l e)
road_takes (a ∷ b ∷ c ∷ []) l e = absurd (none-some l e)
road_takes (a ∷ b ∷ c ∷ d ∷ f ∷ more) l e = absurd (none-some l e)
road_takes (a ∷ b ∷ c ∷ d ∷ []) l e =
    option_and_then_some _ (mode_named a) l e (λ mode is_mode e.
    option_and_then_some _ (id_at b) l e (λ id is_id e.
    option_and_then_some _ (place_of_words c d) l e (λ place is_place e.
    let name = mode_takes a mode is_mode in
    let key = id_takes b id is_id in
    let same : codes "node" ∷ mode_name mode ∷ signed_decimal id ∷ place_words place ≡ codes "node" ∷ a ∷ b ∷ c ∷ d ∷ [] = cc (name, key.1, place_takes c d place is_place) in
    subst (λ x. (words x ≡ codes "node" ∷ a ∷ b ∷ c ∷ d ∷ []) × FitsLine x) (same_Some (line.Road mode id place) l e) (same, key.0))))

stop_takes : (fields : List (List ℕ)) (l : Line) → stop_of_words fields ≡ Some l → (words l ≡ codes "stop" ∷ fields) × FitsLine l
unfolding stop_of_words
stop_takes [] l e = absurd (none-some l e)
stop_takes (a ∷ []) l e = absurd (none-some l e)
stop_takes (a ∷ b ∷ []) l e = absurd (none-some l e)
stop_takes (a ∷ b ∷ c ∷ d ∷ more) l e = absurd (none-some l e)
stop_takes (a ∷ b ∷ c ∷ []) l e =
    option_and_then_some _ (name_of a) l e (λ name is_name_of e.
    option_and_then_some _ (place_of_words b c) l e (λ place is_place e.
    let named = cond_some (is_name a) a name is_name_of in
    let same : codes "stop" ∷ name ∷ place_words place ≡ codes "stop" ∷ a ∷ b ∷ c ∷ [] = cc (named.1, place_takes b c place is_place) in
    subst (λ x. (words x ≡ codes "stop" ∷ a ∷ b ∷ c ∷ []) × FitsLine x) (same_Some (line.Stop name place) l e) (same, subst (λ x. is_name x ≡ true) named.1 named.0)))

switch_takes : (fields : List (List ℕ)) (l : Line) → switch_of_words fields ≡ Some l → (words l ≡ codes "switch" ∷ fields) × FitsLine l
unfolding switch_of_words
switch_takes [] l e = absurd (none-some l e)
switch_takes (a ∷ []) l e = absurd (none-some l e)
switch_takes (a ∷ b ∷ []) l e = absurd (none-some l e)
switch_takes (a ∷ b ∷ c ∷ d ∷ more) l e = absurd (none-some l e)
switch_takes (a ∷ b ∷ c ∷ []) l e =
    option_and_then_some _ (id_at a) l e (λ id is_id e.
    option_and_then_some _ (place_of_words b c) l e (λ place is_place e.
    let key = id_takes a id is_id in
    let same : codes "switch" ∷ signed_decimal id ∷ place_words place ≡ codes "switch" ∷ a ∷ b ∷ c ∷ [] = cc (key.1, place_takes b c place is_place) in
    subst (λ x. (words x ≡ codes "switch" ∷ a ∷ b ∷ c ∷ []) × FitsLine x) (same_Some (line.Switch id place) l e) (same, key.0)))

-- the line of days
pub made_takes : (r : Result DaysMeaning RangeFault) (days : DaysMeaning) → days_if_made r ≡ Some days → r ≡ Ok days
made_takes (Ok d) days e = ap Ok (same_Some d days e)
made_takes (Err fault) days e = absurd (none-some days e)

if_made : (dated counted : Bool) (made days : DaysMeaning) (f g : RangeFault) → cond dated (cond counted (Ok made) (Err f)) (Err g) ≡ Ok days → made ≡ days
if_made true true made days f g e = cc
if_made true false made days f g e = absurd (cc)
if_made false counted made days f g e = absurd (cc)

-- days are of the first date, the count and the rule that they are made of
pub record AreMade (first count : ℕ) (zone : Option (List ℕ)) (days : DaysMeaning) : Type 0 where
  pub first_is : first ≡ days.first
  pub count_is : count ≡ days.count
  pub zone_is : zone ≡ days.zone

pub fits_days : (first count : ℕ) (rule : Option (List ℕ)) (days : DaysMeaning) → first < 2 ^ 32 → count < 2 ^ 32 → AreMade first count rule days → days_made first count rule ≡ Ok days → FitsDays days
fits_days first count rule days date number of is = record {
  first = subst (λ n. n < 2 ^ 32) of.first_is date;
  count = subst (λ n. n < 2 ^ 32) of.count_is number;
  made = ap (λ n. days_made n days.count days.zone) (sym of.first_is) ∙ ap₂ (λ n z. days_made first n z) (sym of.count_is) (sym of.zone_is) ∙ is;
}

made_of : (first count : ℕ) (days : DaysMeaning) → new_days first count ≡ Ok days → AreMade first count None days
made_of first count days e =
    let is = if_made (is_first_date first) (is_day_count count) (plain_days first count) days BadCount BadDate e in
    record { first_is = ap (λ (d : DaysMeaning). d.first) is; count_is = ap (λ (d : DaysMeaning). d.count) is; zone_is = ap (λ (d : DaysMeaning). d.zone) is }

if_ok : (t : Bool) (r : Result DaysMeaning RangeFault) (f : RangeFault) (days : DaysMeaning) → cond t r (Err f) ≡ Ok days → (t ≡ true) × (r ≡ Ok days)
if_ok true r f days e = (refl, e)
if_ok false r f days e = absurd (cc)

pub made_in : (first count : ℕ) (rule : List ℕ) (days : DaysMeaning) → zone_days first count rule ≡ Ok days → (is_rule_text rule ≡ true) × AreMade first count (Some rule) days
made_in first count rule days e =
    let dated = if_ok (is_first_date first) _ BadDate days e in
    let counted = if_ok (is_day_count count) _ BadCount days dated.1 in
    let ruled = if_ok (is_rule_text rule) _ BadZone days counted.1 in
    (ruled.0, by_zone (read_zone rule) ruled.1)
  where
    by_zone : (o : Option Zone) → days_in_read o rule first count ≡ Ok days → AreMade first count (Some rule) days
    by_zone None e = absurd (cc)
    by_zone (Some zone) e =
        let dates = dates_and_next first count in
        let same = (if_ok (have_day_lengths zone dates (count + 7)) (Ok (days_with_bases zone rule first count dates)) BadZone days e).1 in
        let is : days_with_bases zone rule first count dates ≡ days = cc same in
        record { first_is = ap (λ (d : DaysMeaning). d.first) is; count_is = ap (λ (d : DaysMeaning). d.count) is; zone_is = ap (λ (d : DaysMeaning). d.zone) is }

pub made_by : (first count : ℕ) (zone : Option (List ℕ)) (days : DaysMeaning) → days_made first count zone ≡ Ok days → AreMade first count zone days
made_by first count None days e = made_of first count days e
made_by first count (Some rule) days e = (made_in first count rule days e).1

rule_takes : (fields : List (List ℕ)) (read : Option (List ℕ)) → rule_of_words fields ≡ Some read → rule_words read ≡ fields
rule_takes [] read e = ap rule_words (sym (same_Some None read e))
rule_takes (rule ∷ []) read e = ap rule_words (sym (same_Some (Some rule) read e))
rule_takes (rule ∷ next ∷ more) read e = absurd (none-some read e)

rule_again : (zone : Option (List ℕ)) → rule_of_words (rule_words zone) ≡ Some zone
rule_again None = refl
rule_again (Some rule) = refl

days_takes : (fields : List (List ℕ)) (l : Line) → days_of_words fields ≡ Some l → (words l ≡ codes "days" ∷ fields) × FitsLine l
unfolding days_of_words
days_takes [] l e = absurd (none-some l e)
days_takes (a ∷ []) l e = absurd (none-some l e)
days_takes (a ∷ b ∷ rule) l e =
    option_and_then_some _ (number_of_word a) l e (λ first is_first e.
    option_and_then_some _ (number_of_word b) l e (λ count is_count e.
    option_and_then_some _ (rule_of_words rule) l e (λ zone is_zone e.
    let found = mapped line.Days (days_if_made (days_made first count zone)) l e in
    let days = found.0 in
    let new = made_takes (days_made first count zone) days found.1 in
    let of = made_by first count zone days new in
    let date = word_takes a first is_first in
    let number = word_takes b count is_count in
    let named : rule_words days.zone ≡ rule = ap rule_words (sym of.zone_is) ∙ rule_takes rule zone is_zone in
    let same : codes "days" ∷ decimal days.first ∷ decimal days.count ∷ rule_words days.zone ≡ codes "days" ∷ a ∷ b ∷ rule = cc (of.first_is, of.count_is, date.1, number.1, named) in
    subst (λ x. (words x ≡ codes "days" ∷ a ∷ b ∷ rule) × FitsLine x) found.2 (same, fits_days first count zone days date.0 number.0 of new))))

days_again : (days : DaysMeaning) → FitsDays days → days_of_words (decimal days.first ∷ decimal days.count ∷ rule_words days.zone) ≡ Some (line.Days days)
unfolding days_of_words
days_again days h = rw (word_again days.first h.first, word_again days.count h.count, rule_again days.zone, h.made) refl

-- a rule is a word
and_last : (a b : Bool) → (a && b) ≡ true → b ≡ true
and_last true b e = e
and_last false b e = absurd (false≢true e)

rule_is_word : (rule : List ℕ) → is_rule_text rule ≡ true → IsWord rule
rule_is_word rule e =
    let bytes = and_last (not (nat_eq (length rule) 0) && nat_le (length rule) 64) (list_all (λ b. nat_le 33 b && nat_le b 126) rule) e in
    All-weaker (λ b. (nat_le 33 b && nat_le b 126) ≡ true) (λ b. 32 < b) (λ b h. grind (arith, nat_tests)) rule (AllPass-from_list_all (λ b. nat_le 33 b && nat_le b 126) rule bytes)

zone_is_words : (zone : Option (List ℕ)) (days : DaysMeaning) → days_made days.first days.count zone ≡ Ok days → AllByRecursion IsWord (rule_words zone)
zone_is_words None days made = tt
zone_is_words (Some rule) days made = (rule_is_word rule (made_in days.first days.count rule days made).0, tt)

end_takes : (fields : List (List ℕ)) (l : Line) → end_of_words fields ≡ Some l → (words l ≡ codes "end" ∷ fields) × FitsLine l
unfolding end_of_words
end_takes [] l e = subst (λ x. (words x ≡ codes "end" ∷ []) × FitsLine x) (same_Some line.End l e) (refl, tt)
end_takes (a ∷ more) l e = absurd (none-some l e)

-- lines of any kind
by_kind : {P : Type 0} (kind literal : List ℕ) (x y : Option Line) (l : Line) → cond (bytes_eq kind literal) x y ≡ Some l → (literal ≡ kind → x ≡ Some l → P) → (y ≡ Some l → P) → P
by_kind {P} kind literal x y l e here later = by_test (bytes_eq kind literal) refl e
  where
    by_test : (t : Bool) → bytes_eq kind literal ≡ t → cond t x y ≡ Some l → P
    by_test true is e = here (sym (same_bytes kind literal is)) e
    by_test false is e = later e

kind_takes : (kind : List ℕ) (fields : List (List ℕ)) (l : Line) → line_of_kind kind fields ≡ Some l → (words l ≡ kind ∷ fields) × FitsLine l
unfolding line_of_kind
kind_takes kind fields l e =
    by_kind kind (codes "call") _ _ l e (λ is e. call_said is (mapped line.Call (call_of_words fields) l e)) (λ e.
    by_kind kind (codes "trip") _ _ l e (λ is e. said (codes "trip") is (trip_takes fields l e)) (λ e.
    by_kind kind (codes "arc") _ _ l e (λ is e. arc_said is (mapped line.Arc (arc_of_words fields) l e)) (λ e.
    by_kind kind (codes "link") _ _ l e (λ is e. link_said is (mapped line.Link (arc_of_words fields) l e)) (λ e.
    by_kind kind (codes "node") _ _ l e (λ is e. said (codes "node") is (road_takes fields l e)) (λ e.
    by_kind kind (codes "stop") _ _ l e (λ is e. said (codes "stop") is (stop_takes fields l e)) (λ e.
    by_kind kind (codes "switch") _ _ l e (λ is e. said (codes "switch") is (switch_takes fields l e)) (λ e.
    by_kind kind (codes "days") _ _ l e (λ is e. said (codes "days") is (days_takes fields l e)) (λ e.
    by_kind kind (codes "end") _ _ l e (λ is e. said (codes "end") is (end_takes fields l e)) (λ e. absurd (none-some l e))))))))))
  where
    said : (literal : List ℕ) → literal ≡ kind → (words l ≡ literal ∷ fields) × FitsLine l → (words l ≡ kind ∷ fields) × FitsLine l
    said literal is h = (h.0 ∙ ap (λ x. x ∷ fields) is, h.1)

    call_said : codes "call" ≡ kind → (call : Call) × (call_of_words fields ≡ Some call) × (line.Call call ≡ l) → (words l ≡ kind ∷ fields) × FitsLine l
    call_said is found =
        let read = call_takes fields found.0 found.1 in
        subst (λ x. (words x ≡ kind ∷ fields) × FitsLine x) found.2 (ap₂ (λ x y. x ∷ y) is read.0, read.1)

    arc_said : codes "arc" ≡ kind → (arc : Arc) × (arc_of_words fields ≡ Some arc) × (line.Arc arc ≡ l) → (words l ≡ kind ∷ fields) × FitsLine l
    arc_said is found =
        let read = arc_takes fields found.0 found.1 in
        subst (λ x. (words x ≡ kind ∷ fields) × FitsLine x) found.2 (ap₂ (λ x y. x ∷ y) is read.0, read.1)

    link_said : codes "link" ≡ kind → (arc : Arc) × (arc_of_words fields ≡ Some arc) × (line.Link arc ≡ l) → (words l ≡ kind ∷ fields) × FitsLine l
    link_said is found =
        let read = arc_takes fields found.0 found.1 in
        subst (λ x. (words x ≡ kind ∷ fields) × FitsLine x) found.2 (ap₂ (λ x y. x ∷ y) is read.0, read.1)

-- What is read is spelled so.
pub line_takes : (text : List ℕ) (l : Line) → line_of text ≡ Some l → (text ≡ spelled l) × FitsLine l
unfolding line_of
line_takes text l e = by_words (words_of text) refl e
  where
    by_words : (ws : List (List ℕ)) → words_of text ≡ ws → line_of_words ws ≡ Some l → (text ≡ spelled l) × FitsLine l
    by_words [] is e = absurd (none-some l e)
    by_words (kind ∷ fields) is e =
        let said = kind_takes kind fields l e in
        (sym (spaced-words_of text) ∙ ap spaced (is ∙ sym said.0), said.1)

-- Each word of a line is one.
mode_is_word : (mode : Mode) → IsWord (mode_name mode)
mode_is_word Foot = word_by_test (codes "foot") refl
mode_is_word Bike = word_by_test (codes "bike") refl
mode_is_word Car = word_by_test (codes "car") refl

id_is_word : (z : ℤ) → IsId z → IsWord (signed_decimal z)
id_is_word z h = signed_is_word z (omega (arith, h))

place_is_words : (place : Place) → AllByRecursion IsWord (place_words place)
place_is_words place =
    let range = place.in_range in
    let lat = size_below place.lat 900000000 range.south range.north (omega arith) in
    let lon = size_below place.lon 1800000000 range.west range.east (omega arith) in
    (signed_is_word place.lat (omega (arith, lat)), (signed_is_word place.lon (omega (arith, lon)), tt))

arc_is_words : (arc : Arc) → FitsArc arc → AllByRecursion IsWord (arc_words arc)
arc_is_words arc h = (decimal_is_word arc.from (omega (arith, h.from)), (decimal_is_word arc.to (omega (arith, h.to)), (decimal_is_word arc.ms (omega (arith, h.ms)), tt)))

call_is_words : (call : Call) → FitsCall call → AllByRecursion IsWord (call_words call)
call_is_words call h =
    let few = (flags_again call.board call.alight).few in
    (decimal_is_word call.stop (omega (arith, h.stop)), (decimal_is_word call.arr (omega (arith, h.arr)), (decimal_is_word call.dep (omega (arith, h.dep)), (decimal_is_word (flags_of call) (omega (arith, few)), tt))))

pub words_are_words : (l : Line) → FitsLine l → AllByRecursion IsWord (words l)
words_are_words (line.Days days) h = (word_by_test (codes "days") refl, (decimal_is_word days.first (omega (arith, h.first)), (decimal_is_word days.count (omega (arith, h.count)), zone_is_words days.zone days h.made)))
words_are_words (line.Road mode id place) h = (word_by_test (codes "node") refl, (mode_is_word mode, (id_is_word id h, place_is_words place)))
words_are_words (line.Stop name place) h = (word_by_test (codes "stop") refl, (name_is_word name h, place_is_words place))
words_are_words (line.Switch id place) h = (word_by_test (codes "switch") refl, (id_is_word id h, place_is_words place))
words_are_words (line.Arc arc) h = (word_by_test (codes "arc") refl, arc_is_words arc h)
words_are_words (line.Link arc) h = (word_by_test (codes "link") refl, arc_is_words arc h)
words_are_words (line.Trip letter days calls name) h =
    (word_by_test (codes "trip") refl, (letter_is_word letter h.from_tram h.to_other, (hexadecimal_is_word days.0 h.some_day, (decimal_is_word calls (omega (arith, h.few)), (name_is_word name h.named, tt)))))
words_are_words (line.Call call) h = (word_by_test (codes "call") refl, call_is_words call h)
words_are_words line.End h = (word_by_test (codes "end") refl, tt)

said_again : (l : Line) → FitsLine l → line_of_words (words l) ≡ Some l
unfolding line_of_kind road_of_words stop_of_words switch_of_words trip_of_words end_of_words
said_again (line.Days days) h = days_again days h
said_again (line.Road mode id place) h = rw (mode_again mode, id_again id h, place_is_read place) refl
said_again (line.Stop name place) h = rw (h, place_is_read place) refl
said_again (line.Switch id place) h = rw (id_again id h, place_is_read place) refl
said_again (line.Arc arc) h = ap (option_map line.Arc) (arc_again arc h)
said_again (line.Link arc) h = ap (option_map line.Link) (arc_again arc h)
said_again (line.Trip letter days calls name) h = rw (letter_again letter h.from_tram h.to_other, hexadecimal_again days.0 h.some_day, word_again calls h.few, h.named) refl
said_again (line.Call call) h = ap (option_map line.Call) (call_again call h)
said_again line.End h = refl

words_cons : (l : Line) → (kind : List ℕ) × (fields : List (List ℕ)) × (words l ≡ kind ∷ fields)
words_cons (line.Days days) = (_, _, refl)
words_cons (line.Road mode id place) = (_, _, refl)
words_cons (line.Stop name place) = (_, _, refl)
words_cons (line.Switch id place) = (_, _, refl)
words_cons (line.Arc arc) = (_, _, refl)
words_cons (line.Link arc) = (_, _, refl)
words_cons (line.Trip letter days calls name) = (_, _, refl)
words_cons (line.Call call) = (_, _, refl)
words_cons line.End = (_, _, refl)

words_again : (l : Line) → FitsLine l → words_of (spaced (words l)) ≡ words l
words_again l h =
    let parts = words_cons l in
    let all : AllByRecursion IsWord (parts.0 ∷ parts.1) = subst (λ ws. AllByRecursion IsWord ws) parts.2 (words_are_words l h) in
    subst (λ ws. words_of (spaced ws) ≡ ws) (sym parts.2) (words_of-spaced parts.0 parts.1 all)

-- What is spelled so is read.
pub line_again : (l : Line) → FitsLine l → line_of (spelled l) ≡ Some l
unfolding line_of
line_again l h = ap line_of_words (words_again l h) ∙ said_again l h
