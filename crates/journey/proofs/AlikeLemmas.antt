-- A block tells the nodes, times and letters of its journey.
use Rattle.plan_base.proofs.Common.{◌≡◌, ℕ, suc, ◌+◌, ◌*◌, ◌^◌, ◌<◌, ◌≤◌, ◌∙◌, ◌==◌, ◌≢◌, false, List, [], ◌∷◌, ◌++◌, length, Option, Some, refl, ap, sym, subst, arith, codes, append_assoc, ◌&&◌, nat_le, nat_lt, true, All, option_to_list, slice_get, slice_index_or, list_all, leb-true, nat_tests, append_cancel_left, All-cons, All-append, get_or_from_slice_get, slice_get_within}
use Rattle.std.proofs.lemmas.List.{append_cancel_right}
use Rattle.plain_texts.specs.{IsWord, with_feed, is_name, fixed_decimal}
use Rattle.plain_texts.proofs.Spaced.{name_is_word}
use Rattle.service_days.specs.{clock_text_of, date_of}
use Rattle.search_laws.specs.{time_bound, IsLetter, collapse}
use Rattle.timetable_arcs.specs.{TripLists, no_trip, is_early}
use Rattle.timetable_arcs.proofs.TripLemmas.{both_true}
use Rattle.mode_network.specs.{Step, Wait, Link, Stand, Ride, nodes_of, IsCopy, Route, IsStep, AreSteps, IsJourney, declared.steps.Step.TheVariants.Road, NetworkLists.NetworkLists}
use Rattle.journey.specs.{KeepsRules, HasTime, AreTold, IsJourneyText, step_text, ride_text, place_text, node_text, word_text, letter_text, block_text, EndOfStep, AreStepEnds, AreAlikeJourneys, FitsInCertificate, BlockFixesItsJourney, EachPrintedIsBest}
use Rattle.journey.proofs.{RideLemmas.kept_trip, StepLemmas.step_once, StepLemmas.step_in_range, StepLemmas.step_in_time, StepLemmas.on_time, TextParts.Lacks, TextParts.cut_once, TextParts.word_lacks, TextParts.lacks_by_test, TextParts.letter_is_word, TextParts.letter_once, TextParts.word_on_line, TextParts.fixed_is_word, TextParts.clock_on_line, TextParts.clock_once, TextParts.clock_before, NodeTexts.node_is_word, NodeTexts.node_once}

-- two texts that begin otherwise
differ : (a b : ℕ) (x y : List ℕ) → (a == b) ≡ false → a ∷ x ≡ b ∷ y → ⊥
differ a b x y apart e = let same : a ≡ b = cc in absurd (different a b apart same)
  where
    different : (a b : ℕ) → (a == b) ≡ false → a ≡ b → ⊥
    different a b apart same = grind (arith, nat_tests)

differ_second : (a b c : ℕ) (x y : List ℕ) → (b == c) ≡ false → a ∷ b ∷ x ≡ a ∷ c ∷ y → ⊥
differ_second a b c x y apart e = let rest : b ∷ x ≡ c ∷ y = cc in differ b c x y apart rest

-- a line and its line feed, before others
line_once : (a b x y : List ℕ) → Lacks 10 a → Lacks 10 b → with_feed a ++ x ≡ with_feed b ++ y → (a ≡ b) × (x ≡ y)
line_once a b x y ha hb e = cut_once 10 a b x y ha hb (sym (append_assoc a (10 ∷ []) x) ∙ e ∙ append_assoc b (10 ∷ []) y)

feed_there : (a x : List ℕ) → with_feed a ++ x ≡ [] → ⊥
feed_there [] x e = cc
feed_there (b ∷ a) x e = cc

module _ (n : NetworkLists) (rules : KeepsRules n) where
  -- the letter of a trip is that of a means that runs by a timetable
  trip_letter : (place : ℕ) (trip : TripLists) → slice_get n.trips place ≡ Some trip → IsLetter trip.letter
  trip_letter place trip is =
      let kept = kept_trip n rules.network place trip is in
      let letter = nat_le 3 trip.letter && nat_le trip.letter 13 in
      let calls = letter && nat_le 2 (length trip.calls) in
      let with_days = calls && (nat_lt 0 trip.days.0 && nat_lt trip.days.0 (2 ^ length n.days.bases)) in
      let held = (both_true calls _ (both_true with_days (list_all is_early trip.calls) kept.is).0).0 in
      let most = (both_true (nat_le 3 trip.letter) (nat_le trip.letter 13) (both_true letter (nat_le 2 (length trip.calls)) held).0).1 in
      omega (arith, leb-true trip.letter 13 most)

  trip_held : (place : ℕ) (trip : TripLists) → slice_get n.trips place ≡ Some trip → slice_index_or n.trips place no_trip ≡ trip
  trip_held place trip is = get_or_from_slice_get n.trips place trip no_trip is

  -- ---- the text of a place

  place_tells : (v w t u : ℕ) → v < length (nodes_of n) → w < length (nodes_of n) → t < 2 ^ 128 → u < 2 ^ 128 → place_text n v t ≡ place_text n w u → (v ≡ w) × (t ≡ u)
  place_tells v w t u hv hw ht hu e =
      let parts = cut_once 32 (node_text n v) (node_text n w) (clock_text_of n.days t) (clock_text_of n.days u)
      (word_lacks 32 (node_text n v) (omega arith) (node_is_word n rules.network v hv)) (word_lacks 32 (node_text n w) (omega arith) (node_is_word n rules.network w hw)) e in
      (node_once n rules.network v w hv hw parts.0, clock_once n.days rules.days t u ht hu parts.1)

  place_on_line : (v t : ℕ) → v < length (nodes_of n) → t < 2 ^ 128 → Lacks 10 (place_text n v t)
  place_on_line v t hv ht =
      All-append (λ b. b ≢ 10) (node_text n v) (32 ∷ clock_text_of n.days t) (word_lacks 10 (node_text n v) (omega arith) (node_is_word n rules.network v hv))
      (All-cons (λ b. b ≢ 10) 32 (clock_text_of n.days t) (λ e. omega (arith, e)) (clock_on_line n.days t ht))

  -- ---- the text of a ride

  ride_parts : (trip : TripLists) (day v t : ℕ)
      → ride_text n trip day v t ≡ letter_text trip.letter ++ 32 ∷ (fixed_decimal 8 (date_of n.days day) ++ 32 ∷ (node_text n v ++ 32 ∷ (clock_text_of n.days t ++ 32 ∷ trip.name)))
  ride_parts trip day v t = simp append_assoc

  ride_once : (trip other : TripLists) (day day2 v w t u : ℕ) → IsLetter trip.letter → IsLetter other.letter → v < length (nodes_of n) → w < length (nodes_of n) → t < 2 ^ 128 → u < 2 ^ 128
      → ride_text n trip day v t ≡ ride_text n other day2 w u → (v ≡ w) × (t ≡ u) × (trip.letter ≡ other.letter)
  ride_once trip other day day2 v w t u hl ho hv hw ht hu e =
      let lacks = λ (word : List ℕ) (h : IsWord word). word_lacks 32 word (omega arith) h in
      let date = λ (d : ℕ). fixed_decimal 8 (date_of n.days d) in
      let letter = cut_once 32 (letter_text trip.letter) (letter_text other.letter) _ _ (lacks _ (letter_is_word trip.letter)) (lacks _ (letter_is_word other.letter))
      (sym (ride_parts trip day v t) ∙ e ∙ ride_parts other day2 w u) in
      let behind = cut_once 32 (date day) (date day2) _ _ (lacks _ (fixed_is_word 8 (date_of n.days day))) (lacks _ (fixed_is_word 8 (date_of n.days day2))) letter.1 in
      let node = cut_once 32 (node_text n v) (node_text n w) _ _ (lacks _ (node_is_word n rules.network v hv)) (lacks _ (node_is_word n rules.network w hw)) behind.1 in
      (node_once n rules.network v w hv hw node.0, clock_before n.days rules.days t u trip.name other.name ht hu node.1, letter_once trip.letter other.letter hl ho letter.0)

  ride_on_line : (trip : TripLists) (day v t : ℕ) → v < length (nodes_of n) → t < 2 ^ 128 → Lacks 10 trip.name → Lacks 10 (ride_text n trip day v t)
  ride_on_line trip day v t hv ht named =
      let lacks = λ (word : List ℕ) (h : IsWord word). word_lacks 10 word (omega arith) h in
      let then = λ (a b : List ℕ) (h : Lacks 10 a) (g : Lacks 10 b). All-append (λ b. b ≢ 10) a (32 ∷ b) h (All-cons (λ b. b ≢ 10) 32 b (λ e. omega (arith, e)) g) in
      subst (Lacks 10) (sym (ride_parts trip day v t))
      (then _ _ (lacks _ (letter_is_word trip.letter)) (then _ _ (lacks _ (fixed_is_word 8 (date_of n.days day)))
      (then _ _ (lacks _ (node_is_word n rules.network v hv)) (then _ _ (clock_on_line n.days t ht) named))))

  -- ---- the line of a step

  marked : (mark rest : List ℕ) → Lacks 10 mark → Lacks 10 rest → Lacks 10 (mark ++ rest)
  marked mark rest h g = All-append (λ b. b ≢ 10) mark rest h g

  step_on_line : (v t : ℕ) (step : Step) (w u : ℕ) (c : Option ℕ) → w < length (nodes_of n) → u < 2 ^ 128 → IsStep n v t step w u c → Lacks 10 (step_text n step w u)
  step_on_line v t (Wait until) w u c hw hu is = marked (codes "wait ") _ (lacks_by_test 10 (codes "wait ") refl) (clock_on_line n.days u hu)
  step_on_line v t (Road to) w u c hw hu is = marked (codes "road ") _ (lacks_by_test 10 (codes "road ") refl) (place_on_line w u hw hu)
  step_on_line v t (Link to) w u c hw hu is = marked (codes "link ") _ (lacks_by_test 10 (codes "link ") refl) (place_on_line w u hw hu)
  step_on_line v t Stand w u c hw hu is = lacks_by_test 10 (codes "stand") refl
  step_on_line v t (Ride trip day board alight) w u c hw hu (run, on, off, ride, _, _, _, _, _) =
      let held = trip_held trip run ride.run.is in
      let named = subst (λ (x : TripLists). is_name x.name ≡ true) (get_or_from_slice_get n.trips trip run run ride.run.is) (rules.network.trips_named trip run (slice_get_within n.trips trip run ride.run.is)) in
      marked (codes "ride ") _ (lacks_by_test 10 (codes "ride ") refl) (ride_on_line (slice_index_or n.trips trip no_trip) day w u hw hu
      (subst (λ (x : TripLists). Lacks 10 x.name) (sym held) (word_lacks 10 run.name (omega arith) (name_is_word run.name named))))

  -- where, when and with which letter a step ends
  abbrev SameEnd : ℕ → ℕ → Option ℕ → ℕ → ℕ → Option ℕ → Type 0
  SameEnd w u c w2 u2 c2 = (w ≡ w2) × (u ≡ u2) × (c ≡ c2)

  step_ends : (v t : ℕ) (step other : Step) (w u w2 u2 : ℕ) (c c2 : Option ℕ) → w < length (nodes_of n) → w2 < length (nodes_of n) → u < 2 ^ 128 → u2 < 2 ^ 128
      → IsStep n v t step w u c → IsStep n v t other w2 u2 c2 → step_text n step w u ≡ step_text n other w2 u2 → SameEnd w u c w2 u2 c2
  step_ends v t (Wait until) (Wait other) w u w2 u2 c c2 hw hw2 hu hu2 (_, at, _, none) (_, at2, _, none2) e =
      (at ∙ sym at2, clock_once n.days rules.days u u2 hu hu2 (append_cancel_left (codes "wait ") _ _ e), none ∙ sym none2)
  step_ends v t (Road to) (Road other) w u w2 u2 c c2 hw hw2 hu hu2 (_, _, _, _, mode) (_, _, _, _, mode2) e =
      let same = place_tells w w2 u u2 hw hw2 hu hu2 (append_cancel_left (codes "road ") _ _ e) in
      (same.0, same.1, mode ∙ sym mode2)
  step_ends v t (Link to) (Link other) w u w2 u2 c c2 hw hw2 hu hu2 (_, _, _, _, none) (_, _, _, _, none2) e =
      let same = place_tells w w2 u u2 hw hw2 hu hu2 (append_cancel_left (codes "link ") _ _ e) in
      (same.0, same.1, none ∙ sym none2)
  step_ends v t Stand Stand w u w2 u2 c c2 hw hw2 hu hu2 (mode, has, at, now, letter) (mode2, has2, at2, now2, letter2) e =
      (at ∙ sym at2, now ∙ sym now2, letter ∙ (sym has ∙ has2) ∙ sym letter2)
  step_ends v t (Ride trip day board alight) (Ride trip2 day2 board2 alight2) w u w2 u2 c c2 hw hw2 hu hu2 (run, on, off, ride, _, _, _, _, letter) (run2, on2, off2, ride2, _, _, _, _, letter2) e =
      let one = trip_held trip run ride.run.is in
      let other = trip_held trip2 run2 ride2.run.is in
      let same = ride_once (slice_index_or n.trips trip no_trip) (slice_index_or n.trips trip2 no_trip) day day2 w w2 u u2
      (subst (λ (x : TripLists). IsLetter x.letter) (sym one) (trip_letter trip run ride.run.is)) (subst (λ (x : TripLists). IsLetter x.letter) (sym other) (trip_letter trip2 run2 ride2.run.is))
      hw hw2 hu hu2 (append_cancel_left (codes "ride ") _ _ e) in
      let letters : run.letter ≡ run2.letter = sym (ap (λ (x : TripLists). x.letter) one) ∙ same.2 ∙ ap (λ (x : TripLists). x.letter) other in
      (same.0, same.1, letter ∙ ap Some letters ∙ sym letter2)
  step_ends v t (Wait until) (Road _) w u w2 u2 c c2 hw hw2 hu hu2 is is2 e = absurd (differ 119 114 _ _ refl e)
  step_ends v t (Wait until) (Link _) w u w2 u2 c c2 hw hw2 hu hu2 is is2 e = absurd (differ 119 108 _ _ refl e)
  step_ends v t (Wait until) Stand w u w2 u2 c c2 hw hw2 hu hu2 is is2 e = absurd (differ 119 115 _ _ refl e)
  step_ends v t (Wait until) (Ride _ _ _ _) w u w2 u2 c c2 hw hw2 hu hu2 is is2 e = absurd (differ 119 114 _ _ refl e)
  step_ends v t (Road to) (Wait _) w u w2 u2 c c2 hw hw2 hu hu2 is is2 e = absurd (differ 114 119 _ _ refl e)
  step_ends v t (Road to) (Link _) w u w2 u2 c c2 hw hw2 hu hu2 is is2 e = absurd (differ 114 108 _ _ refl e)
  step_ends v t (Road to) Stand w u w2 u2 c c2 hw hw2 hu hu2 is is2 e = absurd (differ 114 115 _ _ refl e)
  step_ends v t (Road to) (Ride _ _ _ _) w u w2 u2 c c2 hw hw2 hu hu2 is is2 e = absurd (differ_second 114 111 105 _ _ refl e)
  step_ends v t (Link to) (Wait _) w u w2 u2 c c2 hw hw2 hu hu2 is is2 e = absurd (differ 108 119 _ _ refl e)
  step_ends v t (Link to) (Road _) w u w2 u2 c c2 hw hw2 hu hu2 is is2 e = absurd (differ 108 114 _ _ refl e)
  step_ends v t (Link to) Stand w u w2 u2 c c2 hw hw2 hu hu2 is is2 e = absurd (differ 108 115 _ _ refl e)
  step_ends v t (Link to) (Ride _ _ _ _) w u w2 u2 c c2 hw hw2 hu hu2 is is2 e = absurd (differ 108 114 _ _ refl e)
  step_ends v t Stand (Wait _) w u w2 u2 c c2 hw hw2 hu hu2 is is2 e = absurd (differ 115 119 _ _ refl e)
  step_ends v t Stand (Road _) w u w2 u2 c c2 hw hw2 hu hu2 is is2 e = absurd (differ 115 114 _ _ refl e)
  step_ends v t Stand (Link _) w u w2 u2 c c2 hw hw2 hu hu2 is is2 e = absurd (differ 115 108 _ _ refl e)
  step_ends v t Stand (Ride _ _ _ _) w u w2 u2 c c2 hw hw2 hu hu2 is is2 e = absurd (differ 115 114 _ _ refl e)
  step_ends v t (Ride _ _ _ _) (Wait _) w u w2 u2 c c2 hw hw2 hu hu2 is is2 e = absurd (differ 114 119 _ _ refl e)
  step_ends v t (Ride _ _ _ _) (Road _) w u w2 u2 c c2 hw hw2 hu hu2 is is2 e = absurd (differ_second 114 105 111 _ _ refl e)
  step_ends v t (Ride _ _ _ _) (Link _) w u w2 u2 c c2 hw hw2 hu hu2 is is2 e = absurd (differ 114 108 _ _ refl e)
  step_ends v t (Ride _ _ _ _) Stand w u w2 u2 c c2 hw hw2 hu hu2 is is2 e = absurd (differ 114 115 _ _ refl e)

  -- ---- the lines of steps, one below the other

  record EndAlike (v t : ℕ) (steps other : List Step) : Type 0 where
    ends : List EndOfStep
    of_one : AreStepEnds n v t steps ends
    of_other : AreStepEnds n v t other ends

  -- after k steps not much time has passed
  abbrev InTime : ℕ → ℕ → List Step → Type 0
  InTime k t steps = (t < time_bound + k * 2 ^ 32) × (k + length steps < 2 ^ 64) × All HasTime steps

  next_in_time : (k v t : ℕ) (step : Step) (steps : List Step) (w u : ℕ) (c : Option ℕ) → InTime k t (step ∷ steps) → IsStep n v t step w u c → InTime (k + 1) u steps × (u < 2 ^ 128)
  next_in_time k v t step steps w u c (soon, few, times) is =
      let later = on_time k t u soon (step_in_time n rules v t step w u c (times 0 step (omega arith)) is) in
      ((later, omega (arith, few), λ i d lt. times (suc i) d (omega (arith, lt))), omega (arith, later, few))

  -- a step more at the front
  more_alike : (v t : ℕ) (step other : Step) (steps others : List Step) (v1 t1 v2 t2 : ℕ) (c c2 : Option ℕ) → IsStep n v t step v1 t1 c → IsStep n v t other v2 t2 c2
      → SameEnd v1 t1 c v2 t2 c2 → EndAlike v1 t1 steps others → EndAlike v t (step ∷ steps) (other ∷ others)
  more_alike v t step other steps others v1 t1 v2 t2 c c2 here there (nodes, times, marks) alike =
      let end : EndOfStep = record { node = v1; at = t1; letter = c } in
      let there_too = subst (λ x. IsStep n v t other x t1 c) (sym nodes) (subst (λ y. IsStep n v t other v2 y c) (sym times) (subst (λ z. IsStep n v t other v2 t2 z) (sym marks) there)) in
      record {
        ends = end ∷ alike.ends;
        of_one = (end, alike.ends, here, alike.of_one, refl);
        of_other = (end, alike.ends, there_too, alike.of_other, refl);
      }

  lines_tell : (k v t : ℕ) (steps other : List Step) (w u w2 u2 : ℕ) (letters letters2 text text2 : List ℕ) → v < length (nodes_of n) → InTime k t steps → InTime k t other
      → AreTold n v t steps w u letters text → AreTold n v t other w2 u2 letters2 text2 → text ≡ text2 → EndAlike v t steps other
  lines_tell k v t [] [] w u w2 u2 letters letters2 text text2 hv one two told told2 e = record { ends = []; of_one = refl; of_other = refl }
  lines_tell k v t [] (step ∷ steps) w u w2 u2 letters letters2 text text2 hv one two (_, _, _, none) (v1, t1, c, rest, lines, here, more, _, is) e =
      absurd (feed_there (step_text n step v1 t1) lines (sym is ∙ (sym e ∙ none)))
  lines_tell k v t (step ∷ steps) [] w u w2 u2 letters letters2 text text2 hv one two (v1, t1, c, rest, lines, here, more, _, is) (_, _, _, none) e =
      absurd (feed_there (step_text n step v1 t1) lines (sym is ∙ (e ∙ none)))
  lines_tell k v t (step ∷ steps) (other ∷ others) w u w2 u2 letters letters2 text text2 hv one two (v1, t1, c, rest, lines, here, more, _, is) (v2, t2, c2, rest2, lines2, here2, more2, _, is2) e =
      let next = next_in_time k v t step steps v1 t1 c one here in
      let next2 = next_in_time k v t other others v2 t2 c2 two here2 in
      let in_range = step_in_range n rules v t step v1 t1 c hv here in
      let in_range2 = step_in_range n rules v t other v2 t2 c2 hv here2 in
      let line = line_once (step_text n step v1 t1) (step_text n other v2 t2) lines lines2
      (step_on_line v t step v1 t1 c in_range next.1 here) (step_on_line v t other v2 t2 c2 in_range2 next2.1 here2) (sym is ∙ (e ∙ is2)) in
      let same = step_ends v t step other v1 t1 v2 t2 c c2 in_range in_range2 next.1 next2.1 here here2 line.0 in
      let there = subst (λ x. AreTold n v1 x others w2 u2 rest2 lines2) (sym same.1) (subst (λ x. AreTold n x t2 others w2 u2 rest2 lines2) (sym same.0) more2) in
      let alike = lines_tell (k + 1) v1 t1 steps others w u w2 u2 rest rest2 lines lines2 in_range next.0 (subst (λ x. InTime (k + 1) x others) (sym same.1) next2.0) more there line.1 in
      more_alike v t step other steps others v1 t1 v2 t2 c c2 here here2 same alike

  ends_in_time : (k v t : ℕ) (steps : List Step) (w u : ℕ) (letters text : List ℕ) → InTime k t steps → AreTold n v t steps w u letters text → u < 2 ^ 128
  ends_in_time k v t [] w u letters text (soon, few, _) (_, now, _, _) = omega (arith, soon, few, now)
  ends_in_time k v t (step ∷ steps) w u letters text in_time (v1, t1, c, rest, lines, here, more, _, _) =
      ends_in_time (k + 1) v1 t1 steps w u rest lines (next_in_time k v t step steps v1 t1 c in_time here).0 more

  -- ---- the text of a journey

  -- its three first lines, and the lines of its steps
  text_parts : (arrival : ℕ) (word : List ℕ) (v t : ℕ) (steps : List ℕ)
      → with_feed (codes "arrive " ++ clock_text_of n.days arrival) ++ with_feed (word_text word) ++ with_feed (codes "from " ++ place_text n v t) ++ steps
      ≡ with_feed (codes "arrive " ++ clock_text_of n.days arrival) ++ (with_feed (word_text word) ++ (with_feed (codes "from " ++ place_text n v t) ++ steps))
  text_parts arrival word v t steps =
      let a = with_feed (codes "arrive " ++ clock_text_of n.days arrival) in
      let b = with_feed (word_text word) in
      let c = with_feed (codes "from " ++ place_text n v t) in
      append_assoc (a ++ b) c steps ∙ append_assoc a b (c ++ steps)

  held_in_time : (j : Route) → FitsInCertificate n j → InTime 0 j.at j.steps
  held_in_time j held = let times = held.printable.times in (omega (arith, times.at), omega (arith, held.few), times.waits)

  text_tells : (j k : Route) → FitsInCertificate n j → FitsInCertificate n k → (text : List ℕ) → IsJourneyText n j text → IsJourneyText n k text → AreAlikeJourneys n j k
  text_tells j k one two text a b =
      let in_time = held_in_time j one in
      let in_time2 = held_in_time k two in
      let soon = ends_in_time 0 j.start j.at j.steps a.end a.arrival a.letters a.steps in_time a.told in
      let soon2 = ends_in_time 0 k.start k.at k.steps b.end b.arrival b.letters b.steps in_time2 b.told in
      let at : j.at < 2 ^ 128 = let h = one.printable.times.at in omega (arith, h) in
      let at2 : k.at < 2 ^ 128 = let h = two.printable.times.at in omega (arith, h) in
      let arrive = λ (u : ℕ) (h : u < 2 ^ 128). marked (codes "arrive ") _ (lacks_by_test 10 (codes "arrive ") refl) (clock_on_line n.days u h) in
      let word = λ (letters : List ℕ). marked (codes "word") _ (lacks_by_test 10 (codes "word") refl) (word_on_line (collapse letters)) in
      let from = λ (v t : ℕ) (h : v < length (nodes_of n)) (g : t < 2 ^ 128). marked (codes "from ") _ (lacks_by_test 10 (codes "from ") refl) (place_on_line v t h g) in
      let parts = sym (text_parts a.arrival (collapse a.letters) j.start j.at a.steps) ∙ sym a.text_is ∙ b.text_is ∙ text_parts b.arrival (collapse b.letters) k.start k.at b.steps in
      let first = line_once (codes "arrive " ++ clock_text_of n.days a.arrival) (codes "arrive " ++ clock_text_of n.days b.arrival) _ _ (arrive a.arrival soon) (arrive b.arrival soon2) parts in
      let second = line_once (word_text (collapse a.letters)) (word_text (collapse b.letters)) _ _ (word a.letters) (word b.letters) first.1 in
      let third = line_once (codes "from " ++ place_text n j.start j.at) (codes "from " ++ place_text n k.start k.at) _ _ (from j.start j.at one.printable.node at) (from k.start k.at two.printable.node at2) second.1 in
      let place = place_tells j.start k.start j.at k.at one.printable.node two.printable.node at at2 (append_cancel_left (codes "from ") _ _ third.0) in
      let there = subst (λ x. AreTold n x j.at k.steps b.end b.arrival b.letters b.steps) (sym place.0) (subst (λ x. AreTold n k.start x k.steps b.end b.arrival b.letters b.steps) (sym place.1) b.told) in
      let alike = lines_tell 0 j.start j.at j.steps k.steps a.end a.arrival b.end b.arrival a.letters b.letters a.steps b.steps one.printable.node in_time
      (subst (λ x. InTime 0 x k.steps) (sym place.1) in_time2) a.told there third.1 in
      record {
        start = place.0;
        at = place.1;
        ends = alike.ends;
        of_one = alike.of_one;
        of_other = subst (λ x. AreStepEnds n x k.at k.steps alike.ends) place.0 (subst (λ x. AreStepEnds n j.start x k.steps alike.ends) place.1 alike.of_other);
      }

  -- steps that end alike lead to one node at one time, with the same letters
  steps_alike : (v t : ℕ) (steps others : List Step) (ends : List EndOfStep) (w u : ℕ) (letters : List ℕ) → AreStepEnds n v t steps ends → AreStepEnds n v t others ends → AreSteps n v t steps w u letters → AreSteps n v t others w u letters
  steps_alike v t [] [] ends w u letters one other are = are
  steps_alike v t [] (step ∷ steps) ends w u letters none (end, rest, here, more, is) are = absurd (let both : [] ≡ end ∷ rest = sym none ∙ is in cc)
  steps_alike v t (step ∷ steps) [] ends w u letters (end, rest, here, more, is) none are = absurd (let both : [] ≡ end ∷ rest = sym none ∙ is in cc)
  steps_alike v t (step ∷ steps) (other ∷ others) ends w u letters (end, rest, here, more, is) (end2, rest2, here2, more2, is2) (v1, t1, c, left, step_is, steps_are, e) =
      let same = step_once n rules.network v t step v1 t1 c end.node end.at end.letter step_is here in
      let both : end ∷ rest ≡ end2 ∷ rest2 = sym is ∙ is2 in
      let first : end ≡ end2 = cc in
      let later : rest ≡ rest2 = cc in
      let behind = subst (λ (x : EndOfStep). AreStepEnds n x.node x.at others rest) (sym first) (subst (λ (r : List EndOfStep). AreStepEnds n end2.node end2.at others r) (sym later) more2) in
      let on = subst (λ x. AreSteps n end.node x steps w u left) same.1 (subst (λ x. AreSteps n x t1 steps w u left) same.0 steps_are) in (
        end.node,
        end.at,
        end.letter,
        left,
        subst (λ (x : EndOfStep). IsStep n v t other x.node x.at x.letter) (sym first) here2,
        steps_alike end.node end.at steps others rest w u left more behind on,
        e ∙ ap (λ (x : Option ℕ). option_to_list x ++ left) same.2,
      )

  -- a journey that is alike ends there and then too, with the same word
  journey_alike : (j k : Route) → AreAlikeJourneys n j k → (w u : ℕ) (word : List ℕ) → IsJourney n j w u word → IsJourney n k w u word
  journey_alike j k alike w u word real =
      let other = subst (λ x. AreStepEnds n x j.at k.steps alike.ends) (sym alike.start) (subst (λ x. AreStepEnds n k.start x k.steps alike.ends) (sym alike.at) alike.of_other) in
      let steps = steps_alike j.start j.at j.steps k.steps alike.ends w u real.letters alike.of_one other real.steps in
      record {
        letters = real.letters;
        steps = subst (λ x. AreSteps n x k.at k.steps w u real.letters) alike.start (subst (λ x. AreSteps n j.start x k.steps w u real.letters) alike.at steps);
        word_is = real.word_is;
      }

same_body : (line a b : List ℕ) → block_text line a ≡ block_text line b → a ≡ b
same_body line a b e = append_cancel_left (with_feed (codes "query " ++ line)) a b (append_cancel_right _ _ (with_feed (codes "end")) e)

pub block_fixes_its_journey : BlockFixesItsJourney
block_fixes_its_journey n rules line block j k one two a b =
    let same = same_body line a.text b.text (sym a.block_is ∙ b.block_is) in
    text_tells n rules j k one two b.text (subst (IsJourneyText n j) same a.is_body) b.is_body

pub each_printed_is_best : EachPrintedIsBest
each_printed_is_best n rules line block j k one two (asked, asks, best) a b =
    let alike = block_fixes_its_journey n rules line block j k one two a b in
    let answers = best.answers in (
      asked,
      asks,
      record {
        arrival = best.arrival;
        answers = record {
          end = answers.end;
          word = answers.word;
          starts_at_copy = subst (IsCopy n asked.from) alike.start answers.starts_at_copy;
          not_before = subst (λ t. asked.depart ≤ t) alike.at answers.not_before;
          real = journey_alike n rules j k alike answers.end best.arrival answers.word answers.real;
          ends_at_copy = answers.ends_at_copy;
          denoted = answers.denoted;
        };
        least = best.least;
      },
    )
