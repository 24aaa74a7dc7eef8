-- The head of a region in bytes: what is read is spelled so, and what is spelled so is read.
use Rattle.plan_base.proofs.Common.{◌≡◌, ℕ, ◌^◌, ◌<◌, ◌≤◌, Bool, true, false, cond, List, ◌++◌, length, take, drop, Some, None, Ok, refl, ap, ap₂, subst, ◌∙◌, append_assoc, arith, Option, option_map, w32, bytes_eq, and_parts, leb-true, none-some, same_Some, option_and_then_some}
use Rattle.file_records.specs.{number_front}
use Rattle.file_records.proofs.{Steps.and_then, Steps.mapped, NumberLaws.IsBytes, NumberLaws.Takes, NumberLaws.Takes-then, NumberLaws.begins_with}
use Rattle.service_days.specs.{DaysMeaning.DaysMeaning, days_made, is_rule_text}
use Rattle.region_file.specs.{Counts, FitCounts, counts_bytes, head_bytes, magic_of, plain_magic, rule_bytes, word_bytes, zoned_magic, counted_front, counts_front, head_front, magic_front, rule_front, days_if_made, FitsDays}
use Rattle.region_file.proofs.{FrontLaws.counted_again, FrontLaws.counted_takes, FrontLaws.word_again, FrontLaws.word_takes, KindLaws.fits_days, KindLaws.made_by, KindLaws.made_in, KindLaws.made_takes}

-- ---- the magic

abbrev magic_by : Bool → List ℕ
magic_by true = zoned_magic
magic_by false = plain_magic

magic_takes : (bytes : List ℕ) (x : Bool × List ℕ) → IsBytes bytes → magic_front bytes ≡ Some x → Takes bytes (magic_by x.0) x.1
unfolding magic_front
magic_takes bytes x fits e = by_plain (bytes_eq (take (length plain_magic) bytes) plain_magic) refl (bytes_eq (take (length zoned_magic) bytes) zoned_magic) refl e
  where
    by_plain : (a : Bool) → bytes_eq (take (length plain_magic) bytes) plain_magic ≡ a → (b : Bool) → bytes_eq (take (length zoned_magic) bytes) zoned_magic ≡ b
        → cond a (Some (false, drop (length plain_magic) bytes)) (cond b (Some (true, drop (length zoned_magic) bytes)) None) ≡ Some x → Takes bytes (magic_by x.0) x.1
    by_plain true is b other e = subst (λ (y : Bool × List ℕ). Takes bytes (magic_by y.0) y.1) (same_Some (false, drop (length plain_magic) bytes) x e) (begins_with plain_magic bytes fits is)
    by_plain false is true other e = subst (λ (y : Bool × List ℕ). Takes bytes (magic_by y.0) y.1) (same_Some (true, drop (length zoned_magic) bytes) x e) (begins_with zoned_magic bytes fits other)
    by_plain false is false other e = absurd (none-some x e)

magic_again : (zoned : Bool) (rest : List ℕ) → magic_front (magic_by zoned ++ rest) ≡ Some (zoned, rest)
unfolding magic_front
magic_again true rest = refl
magic_again false rest = refl

-- ---- the counts

counts_take : (bytes : List ℕ) (x : Counts × List ℕ) → IsBytes bytes → counts_front bytes ≡ Some x → Takes bytes (counts_bytes x.0) x.1 × FitCounts x.0
unfolding counts_front
counts_take bytes x fits e =
    option_and_then_some _ (number_front w32 bytes) x e (λ roads is0 e.
    option_and_then_some _ (number_front w32 roads.1) x e (λ stops is1 e.
    option_and_then_some _ (number_front w32 stops.1) x e (λ switches is2 e.
    option_and_then_some _ (number_front w32 switches.1) x e (λ arcs is3 e.
    option_and_then_some _ (number_front w32 arcs.1) x e (λ links is4 e.
    option_and_then_some _ (number_front w32 links.1) x e (λ trips is5 e.
    let t0 = word_takes bytes roads fits is0 in
    let t1 = word_takes roads.1 stops t0.0.rest_fits is1 in
    let t2 = word_takes stops.1 switches t1.0.rest_fits is2 in
    let t3 = word_takes switches.1 arcs t2.0.rest_fits is3 in
    let t4 = word_takes arcs.1 links t3.0.rest_fits is4 in
    let t5 = word_takes links.1 trips t4.0.rest_fits is5 in
    let all = Takes-then bytes (word_bytes roads.0) roads.1 _ trips.1 t0.0
    (Takes-then roads.1 (word_bytes stops.0) stops.1 _ trips.1 t1.0
    (Takes-then stops.1 (word_bytes switches.0) switches.1 _ trips.1 t2.0
    (Takes-then switches.1 (word_bytes arcs.0) arcs.1 _ trips.1 t3.0
    (Takes-then arcs.1 (word_bytes links.0) links.1 (word_bytes trips.0) trips.1 t4.0 t5.0)))) in
    let made : Counts = record { roads = roads.0; stops = stops.0; switches = switches.0; arcs = arcs.0; links = links.0; trips = trips.0 } in
    subst (λ (y : Counts × List ℕ). Takes bytes (counts_bytes y.0) y.1 × FitCounts y.0) (same_Some (made, trips.1) x e)
    (all, record { roads = t0.1; stops = t1.1; switches = t2.1; arcs = t3.1; links = t4.1; trips = t5.1 })))))))

assoc6 : (a b c d e f rest : List ℕ) → (a ++ (b ++ (c ++ (d ++ (e ++ f))))) ++ rest ≡ a ++ (b ++ (c ++ (d ++ (e ++ (f ++ rest)))))
assoc6 a b c d e f rest = simp append_assoc

counts_again : (c : Counts) (rest : List ℕ) → FitCounts c → counts_front (counts_bytes c ++ rest) ≡ Some (c, rest)
unfolding counts_front
counts_again c rest h =
    let after5 = word_bytes c.trips ++ rest in
    let after4 = word_bytes c.links ++ after5 in
    let after3 = word_bytes c.arcs ++ after4 in
    let after2 = word_bytes c.switches ++ after3 in
    let after1 = word_bytes c.stops ++ after2 in
    ap counts_front (assoc6 (word_bytes c.roads) (word_bytes c.stops) (word_bytes c.switches) (word_bytes c.arcs) (word_bytes c.links) (word_bytes c.trips) rest)
    ∙ and_then (number_front w32 (word_bytes c.roads ++ after1)) _ (c.roads, after1) (Some (c, rest)) (word_again c.roads after1 h.roads)
    (and_then (number_front w32 after1) _ (c.stops, after2) (Some (c, rest)) (word_again c.stops after2 h.stops)
    (and_then (number_front w32 after2) _ (c.switches, after3) (Some (c, rest)) (word_again c.switches after3 h.switches)
    (and_then (number_front w32 after3) _ (c.arcs, after4) (Some (c, rest)) (word_again c.arcs after4 h.arcs)
    (and_then (number_front w32 after4) _ (c.links, after5) (Some (c, rest)) (word_again c.links after5 h.links)
    (and_then (number_front w32 after5) _ (c.trips, rest) (Some (c, rest)) (word_again c.trips rest h.trips) refl)))))

-- ---- the zone rule

rule_takes : (zoned : Bool) (bytes : List ℕ) (x : Option (List ℕ) × List ℕ) → IsBytes bytes → rule_front zoned bytes ≡ Some x → Takes bytes (rule_bytes x.0) x.1 × (magic_by zoned ≡ magic_of x.0)
rule_takes true bytes x fits e =
    let found = mapped (λ (rule : List ℕ × List ℕ). (Some rule.0, rule.1)) (counted_front bytes) x e in
    let t = counted_takes bytes found.0 fits found.1 in
    subst (λ (y : Option (List ℕ) × List ℕ). Takes bytes (rule_bytes y.0) y.1 × (zoned_magic ≡ magic_of y.0)) found.2 (t.0, refl)
rule_takes false bytes x fits e =
    subst (λ (y : Option (List ℕ) × List ℕ). Takes bytes (rule_bytes y.0) y.1 × (plain_magic ≡ magic_of y.0)) (same_Some (None, bytes) x e) (record { parts = refl; rest_fits = fits }, refl)

short_rule : (rule : List ℕ) → is_rule_text rule ≡ true → length rule < 2 ^ 32
short_rule rule h =
    let both = and_parts _ _ h in
    let inner = and_parts _ _ both.0 in
    let few : length rule ≤ 64 = leb-true (length rule) 64 inner.1 in
    omega (arith, few)

rule_again : (first count : ℕ) (zone : Option (List ℕ)) (days : DaysMeaning) (rest : List ℕ) → days_made first count zone ≡ Ok days → (zoned : Bool) × (magic_of zone ≡ magic_by zoned) × (rule_front zoned (rule_bytes zone ++ rest) ≡ Some (zone, rest))
rule_again first count None days rest e = (false, refl, refl)
rule_again first count (Some rule) days rest e =
    (true, refl, ap (option_map (λ (x : List ℕ × List ℕ). (Some x.0, x.1))) (counted_again rule rest (short_rule rule (made_in first count rule days e).0)))

-- ---- the head

pub head_takes : (bytes : List ℕ) (x : (DaysMeaning × Counts) × List ℕ) → IsBytes bytes → head_front bytes ≡ Some x → Takes bytes (head_bytes x.0.0 x.0.1) x.1 × FitsDays x.0.0 × FitCounts x.0.1
unfolding head_front
head_takes bytes x fits e =
    option_and_then_some _ (magic_front bytes) x e (λ zoned is0 e.
    option_and_then_some _ (number_front w32 zoned.1) x e (λ first is1 e.
    option_and_then_some _ (number_front w32 first.1) x e (λ count is2 e.
    option_and_then_some _ (counts_front count.1) x e (λ counts is3 e.
    option_and_then_some _ (rule_front zoned.0 counts.1) x e (λ rule is4 e.
    option_and_then_some _ (days_if_made (days_made first.0 count.0 rule.0)) x e (λ days is5 e.
    let t0 = magic_takes bytes zoned fits is0 in
    let t1 = word_takes zoned.1 first t0.rest_fits is1 in
    let t2 = word_takes first.1 count t1.0.rest_fits is2 in
    let t3 = counts_take count.1 counts t2.0.rest_fits is3 in
    let t4 = rule_takes zoned.0 counts.1 rule t3.0.rest_fits is4 in
    let are_made = made_takes (days_made first.0 count.0 rule.0) days is5 in
    let by = made_by first.0 count.0 rule.0 days are_made in
    let all = Takes-then bytes (magic_by zoned.0) zoned.1 _ rule.1 t0
    (Takes-then zoned.1 (word_bytes first.0) first.1 _ rule.1 t1.0
    (Takes-then first.1 (word_bytes count.0) count.1 _ rule.1 t2.0
    (Takes-then count.1 (counts_bytes counts.0) counts.1 (rule_bytes rule.0) rule.1 t3.0 t4.0))) in
    let text : magic_by zoned.0 ++ (word_bytes first.0 ++ (word_bytes count.0 ++ (counts_bytes counts.0 ++ rule_bytes rule.0))) ≡ head_bytes days counts.0 =
    ap (λ m. m ++ (word_bytes first.0 ++ (word_bytes count.0 ++ (counts_bytes counts.0 ++ rule_bytes rule.0)))) t4.1
    ∙ ap (λ r. magic_of r ++ (word_bytes first.0 ++ (word_bytes count.0 ++ (counts_bytes counts.0 ++ rule_bytes r)))) by.zone_is
    ∙ ap₂ (λ f k. magic_of days.zone ++ (word_bytes f ++ (word_bytes k ++ (counts_bytes counts.0 ++ rule_bytes days.zone)))) by.first_is by.count_is in
    subst (λ (y : (DaysMeaning × Counts) × List ℕ). Takes bytes (head_bytes y.0.0 y.0.1) y.1 × FitsDays y.0.0 × FitCounts y.0.1) (same_Some ((days, counts.0), rule.1) x e)
    (subst (λ (t : List ℕ). Takes bytes t rule.1) text all, fits_days first.0 count.0 rule.0 days t1.1 t2.1 by are_made, t3.1)))))))

assoc5 : (a b c d e rest : List ℕ) → (a ++ (b ++ (c ++ (d ++ e)))) ++ rest ≡ a ++ (b ++ (c ++ (d ++ (e ++ rest))))
assoc5 a b c d e rest = simp append_assoc

pub head_again : (days : DaysMeaning) (c : Counts) (rest : List ℕ) → FitsDays days → FitCounts c → head_front (head_bytes days c ++ rest) ≡ Some ((days, c), rest)
unfolding head_front
head_again days c rest dated counted =
    let rule = rule_again days.first days.count days.zone days rest dated.made in
    let after4 = rule_bytes days.zone ++ rest in
    let after3 = counts_bytes c ++ after4 in
    let after2 = word_bytes days.count ++ after3 in
    let after1 = word_bytes days.first ++ after2 in
    ap head_front (assoc5 (magic_of days.zone) (word_bytes days.first) (word_bytes days.count) (counts_bytes c) (rule_bytes days.zone) rest ∙ ap (λ m. m ++ after1) rule.1)
    ∙ and_then (magic_front (magic_by rule.0 ++ after1)) _ (rule.0, after1) (Some ((days, c), rest)) (magic_again rule.0 after1)
    (and_then (number_front w32 after1) _ (days.first, after2) (Some ((days, c), rest)) (word_again days.first after2 dated.first)
    (and_then (number_front w32 after2) _ (days.count, after3) (Some ((days, c), rest)) (word_again days.count after3 dated.count)
    (and_then (counts_front after3) _ (c, after4) (Some ((days, c), rest)) (counts_again c after4 counted)
    (and_then (rule_front rule.0 after4) _ (days.zone, rest) (Some ((days, c), rest)) rule.2
    (ap (λ m. option_map (λ (d : DaysMeaning). ((d, c), rest)) (days_if_made m)) dated.made)))))
