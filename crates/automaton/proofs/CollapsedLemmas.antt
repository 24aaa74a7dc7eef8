-- The collapsed automaton reads a word as the inner one reads its collapse.
use Rattle.plan_base.proofs.Common.{◌≡◌, ◌≢◌, ℕ, ◌+◌, ◌-◌, ◌*◌, ◌/◌, ◌%◌, ◌<◌, ◌≤◌, Bool, true, false, ◌&&◌, ◌==◌, nat_lt, ◌⊎◌, List, [], ◌∷◌, IsTrue, if◌then◌else◌, refl, sym, ap, ◌∙◌, subst, inl, inr, arith, nat_tests}
use Rattle.search_laws.specs.{LabelsMeaning, IsLawfulLabels, HasMove, Reads, Accepts, collapse}
use Rattle.automaton.specs.{collapsed, AcceptsCollapsed, code, code_road, code_transit, code_small, Stays, Goes, step_out, step_in}
use Rattle.automaton.proofs.LanguageLemmas.{and_in, and_out}

-- the road letter that was read last is k - 1, and c is read once more
abbrev reads_on : ℕ → ℕ → Bool
reads_on k c = nat_lt c 3 && k == c + 1

-- the rest of a collapsed word, after a letter of code k
abbrev shrink : ℕ → List ℕ → List ℕ
shrink k [] = []
shrink k (c ∷ word) = if reads_on k c then shrink k word else c ∷ shrink (code c) word

same_test : (c d : ℕ) → (c == d && nat_lt c 3) ≡ reads_on (code c) d
same_test c d = by_tests (nat_lt c 3) (c == d) refl refl
  where
    by_tests : (r s : Bool) → nat_lt c 3 ≡ r → (c == d) ≡ s → (c == d && nat_lt c 3) ≡ reads_on (code c) d
    by_tests true true road same =
        let is : c ≡ d = grind (arith, nat_tests) in
        let left : (c == d && nat_lt c 3) ≡ true = and_in (c == d) (nat_lt c 3) same road in
        let lt : c < 3 = grind (arith, nat_tests) in
        let next : (code c == d + 1) ≡ true = let e = code_road c lt in grind (arith, nat_tests) in
        left ∙ sym (and_in (nat_lt d 3) (code c == d + 1) (ap (λ k. nat_lt k 3) (sym is) ∙ road) next)
    by_tests true false road other =
        let apart : c ≢ d = grind (arith, nat_tests) in
        let lt : c < 3 = grind (arith, nat_tests) in
        let next : (code c == d + 1) ≡ false = let e = code_road c lt in grind (arith, nat_tests) in
        ap (λ b. b && nat_lt c 3) other ∙ sym (ap (λ b. nat_lt d 3 && b) next ∙ none (nat_lt d 3))
      where
        none : (b : Bool) → (b && false) ≡ false
        none true = refl
        none false = refl
    by_tests false s transit same =
        let le : 3 ≤ c = grind (arith, nat_tests) in
        let next : (code c == d + 1) ≡ false = let e = code_transit c le in grind (arith, nat_tests) in
        ap (λ b. c == d && b) transit ∙ none (c == d) ∙ sym (ap (λ b. nat_lt d 3 && b) next ∙ none (nat_lt d 3))
      where
        none : (b : Bool) → (b && false) ≡ false
        none true = refl
        none false = refl

joined : (c d : ℕ) (word : List ℕ) → (c == d && nat_lt c 3) ≡ true → collapse (d ∷ word) ≡ d ∷ shrink (code d) word
    → collapse (c ∷ d ∷ word) ≡ c ∷ shrink (code c) (d ∷ word)
joined c d word both after =
    let parts = and_out (c == d) (nat_lt c 3) both in
    let is : c ≡ d = let h = parts.0 in grind (arith, nat_tests) in
    let on : reads_on (code c) d ≡ true = sym (same_test c d) ∙ both in
    ap (λ b. if b then collapse (d ∷ word) else c ∷ collapse (d ∷ word)) both ∙ after ∙ ap (λ k. k ∷ shrink (code k) word) (sym is)
    ∙ ap (λ w. c ∷ w) (sym (ap (λ b. if b then shrink (code c) word else d ∷ shrink (code d) word) on))

apart : (c d : ℕ) (word : List ℕ) → (c == d && nat_lt c 3) ≡ false → collapse (d ∷ word) ≡ d ∷ shrink (code d) word
    → collapse (c ∷ d ∷ word) ≡ c ∷ shrink (code c) (d ∷ word)
apart c d word not_both after =
    let off : reads_on (code c) d ≡ false = sym (same_test c d) ∙ not_both in
    ap (λ b. if b then collapse (d ∷ word) else c ∷ collapse (d ∷ word)) not_both ∙ ap (λ w. c ∷ w) after
    ∙ ap (λ w. c ∷ w) (sym (ap (λ b. if b then shrink (code c) word else d ∷ shrink (code d) word) off))

collapse_after : (word : List ℕ) (c : ℕ) → collapse (c ∷ word) ≡ c ∷ shrink (code c) word
collapse_after [] c = refl
collapse_after (d ∷ word) c = by_test (c == d && nat_lt c 3) refl (collapse_after word d)
  where
    by_test : (b : Bool) → (c == d && nat_lt c 3) ≡ b → collapse (d ∷ word) ≡ d ∷ shrink (code d) word → collapse (c ∷ d ∷ word) ≡ c ∷ shrink (code c) (d ∷ word)
    by_test true both after = joined c d word both after
    by_test false not_both after = apart c d word not_both after

collapse_is : (word : List ℕ) → collapse word ≡ shrink 0 word
collapse_is [] = refl
collapse_is (c ∷ word) =
    let off : reads_on 0 c ≡ false = none (nat_lt c 3) in
    collapse_after word c ∙ sym (ap (λ b. if b then shrink 0 word else c ∷ shrink (code c) word) off)
  where
    none : (b : Bool) → (b && (0 == c + 1)) ≡ false
    none true = grind (arith, nat_tests)
    none false = refl

-- a step that stays reads the road letter once more
on_where_it_stays : (k c : ℕ) → k ≢ 0 → k < 4 → c ≡ k - 1 → reads_on k c ≡ true
on_where_it_stays k c some small is =
    and_in (nat_lt c 3) (k == c + 1) (grind (arith, nat_tests)) (grind (arith, nat_tests))

off_where_it_goes : (k c : ℕ) → (code c ≡ k → code c ≡ 0) → reads_on k c ≡ false
off_where_it_goes k c other = by_test (nat_lt c 3) (k == c + 1) refl refl
  where
    by_test : (r s : Bool) → nat_lt c 3 ≡ r → (k == c + 1) ≡ s → (r && s) ≡ false
    by_test true true road same =
        let lt : c < 3 = grind (arith, nat_tests) in
        let is : k ≡ c + 1 = grind (arith, nat_tests) in
        absurd (omega (arith, code_road c lt, other (code_road c lt ∙ sym is)))
    by_test true false road same = refl
    by_test false s road same = refl

goes_where_off : (k c : ℕ) → reads_on k c ≡ false → code c ≡ k → code c ≡ 0
goes_where_off k c off is = by_test (nat_lt c 3) refl
  where
    by_test : (r : Bool) → nat_lt c 3 ≡ r → code c ≡ 0
    by_test true road =
        let lt : c < 3 = grind (arith, nat_tests) in
        let same : k ≡ c + 1 = sym is ∙ code_road c lt in
        let test : (k == c + 1) ≡ true = grind (arith, nat_tests) in
        let on = and_in (nat_lt c 3) (k == c + 1) road test in
        absurd (cc)
    by_test false transit = code_transit c (grind (arith, nat_tests))

stays_where_on : (k c : ℕ) → reads_on k c ≡ true → (k ≢ 0) × (c ≡ k - 1)
stays_where_on k c on =
    let same = (and_out (nat_lt c 3) (k == c + 1) on).1 in
    let is : k ≡ c + 1 = grind (arith, nat_tests) in
    (λ zero_code. omega arith, omega arith)

module _ (l : LabelsMeaning) (lawful : IsLawfulLabels l) where
  abbrev EndsCollapsed : ℕ → List ℕ → Type 0
  EndsCollapsed s word = (r : ℕ) × Reads (collapsed l) s word r × IsTrue (l.accepts (r / 4))

  abbrev Ends : ℕ → List ℕ → Type 0
  Ends q word = (r : ℕ) × Reads l q word r × IsTrue (l.accepts r)

  to_of : (q c to : ℕ) → q < l.states → HasMove l q c to → to < l.states
  to_of q c to lt (i, move) = subst (λ k. k < l.states) move.to (lawful.to_in_range q i lt move.place)

  ends_out : (word : List ℕ) (s : ℕ) → s < 4 * l.states → EndsCollapsed s word → Ends (s / 4) (shrink (s % 4) word)
  ends_out [] s lt (r, same, acc) = (s / 4, refl, subst (λ k. IsTrue (l.accepts (k / 4))) same acc)
  ends_out (c ∷ word) s lt (r, (p, move, reads), acc) = by_step (step_out l lawful s c p lt move) (λ lt_p. ends_out word p lt_p (r, reads, acc))
    where
      by_step : Stays l lawful s c p ⊎ Goes l lawful s c p → (p < 4 * l.states → Ends (p / 4) (shrink (p % 4) word)) → Ends (s / 4) (shrink (s % 4) (c ∷ word))
      by_step (inl stays) later =
          let on = on_where_it_stays (s % 4) c stays.read (omega arith) stays.letter in
          let here = later (subst (λ k. k < 4 * l.states) (sym stays.same) lt) in
          subst (λ b. Ends (s / 4) (if b then shrink (s % 4) word else c ∷ shrink (code c) word)) (sym on)
          (subst (λ k. Ends (k / 4) (shrink (k % 4) word)) stays.same here)
      by_step (inr goes) later =
          let off = off_where_it_goes (s % 4) c goes.other in
          let small = code_small c in
          let range = to_of (s / 4) c goes.to (omega arith) goes.inner in
          let here = later (omega (arith, goes.leads)) in
          let inner : p / 4 ≡ goes.to = omega (arith, goes.leads) in
          let kind : p % 4 ≡ code c = omega (arith, goes.leads) in
          let there = subst (λ k. Ends goes.to (shrink k word)) kind (subst (λ k. Ends k (shrink (p % 4) word)) inner here) in
          subst (λ b. Ends (s / 4) (if b then shrink (s % 4) word else c ∷ shrink (code c) word)) (sym off)
          (there.0, (goes.to, goes.inner, there.1), there.2)

  ends_in : (word : List ℕ) (s : ℕ) → s < 4 * l.states → Ends (s / 4) (shrink (s % 4) word) → EndsCollapsed s word
  ends_in [] s lt (r, same, acc) = (s, refl, subst (λ k. IsTrue (l.accepts k)) same acc)
  ends_in (c ∷ word) s lt ends = by_test (reads_on (s % 4) c) refl ends (ends_in word s lt) (λ to range. ends_in word (4 * to + code c) range)
    where
      by_test : (b : Bool) → reads_on (s % 4) c ≡ b → Ends (s / 4) (if b then shrink (s % 4) word else c ∷ shrink (code c) word)
          → (Ends (s / 4) (shrink (s % 4) word) → EndsCollapsed s word)
          → ((to : ℕ) → 4 * to + code c < 4 * l.states → Ends ((4 * to + code c) / 4) (shrink ((4 * to + code c) % 4) word) → EndsCollapsed (4 * to + code c) word)
          → EndsCollapsed s (c ∷ word)
      by_test true on ends here there =
          let stays = stays_where_on (s % 4) c on in
          let move = step_in l lawful s c s lt (inl (record { read = stays.0; letter = stays.1; same = refl })) in
          let later = here ends in
          (later.0, (s, move, later.1), later.2)
      by_test false off (r, (to, inner, reads), acc) here there =
          let small = code_small c in
          let range = to_of (s / 4) c to (omega arith) inner in
          let move = step_in l lawful s c (4 * to + code c) lt (inr (record { to = to; inner = inner; other = goes_where_off (s % 4) c off; leads = refl })) in
          let state : (4 * to + code c) / 4 ≡ to = omega arith in
          let kind : (4 * to + code c) % 4 ≡ code c = omega arith in
          let ends : Ends ((4 * to + code c) / 4) (shrink ((4 * to + code c) % 4) word) =
          subst (λ k. Ends ((4 * to + code c) / 4) (shrink k word)) (sym kind) (subst (λ k. Ends k (shrink (code c) word)) (sym state) (r, reads, acc)) in
          let later = there to (omega arith) ends in
          (later.0, (4 * to + code c, move, later.1), later.2)

  pub accepts_collapsed : AcceptsCollapsed l
  accepts_collapsed word = (out, into)
    where
      out : Accepts (collapsed l) word → Accepts l (collapse word)
      out (s, r, lt, start, reads, acc) =
          let both = and_out (s % 4 == 0) (l.is_start (s / 4)) start in
          let kind : s % 4 ≡ 0 = let h = both.0 in grind (arith, nat_tests) in
          let ends = ends_out word s lt (r, reads, acc) in
          let here = subst (λ w. Ends (s / 4) w) (ap (λ k. shrink k word) kind ∙ sym (collapse_is word)) ends in
          (s / 4, here.0, omega arith, both.1, here.1, here.2)

      into : Accepts l (collapse word) → Accepts (collapsed l) word
      into (q, r, lt, start, reads, acc) =
          let state : 4 * q / 4 ≡ q = omega arith in
          let kind : 4 * q % 4 ≡ 0 = omega arith in
          let there : Ends (4 * q / 4) (shrink (4 * q % 4) word) =
          subst (λ k. Ends (4 * q / 4) (shrink k word)) (sym kind) (subst (λ k. Ends k (shrink 0 word)) (sym state)
          (subst (λ w. Ends q w) (collapse_is word) (r, reads, acc))) in
          let ends = ends_in word (4 * q) (omega arith) there in
          let zero_test : (4 * q % 4 == 0) ≡ true = let h = kind in grind (arith, nat_tests) in
          let started = and_in (4 * q % 4 == 0) (l.is_start (4 * q / 4)) zero_test (subst (λ k. IsTrue (l.is_start k)) (sym state) start) in
          (4 * q, ends.0, omega arith, started, ends.1, ends.2)
