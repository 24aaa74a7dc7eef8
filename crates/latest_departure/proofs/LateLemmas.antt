-- A least mirrored moment is that of a latest departure.
use Rattle.plan_base.proofs.Common.{◌≡◌, ℕ, ◌-◌, ◌^◌, ◌≤◌, ◌∙◌, ◌==◌, ◌&&◌, nat_lt, cond, Bool, true, false, List, [], ◌∷◌, ◌++◌, Option, Some, None, refl, sym, ap, subst, arith, ◌↔◌, reverse, range_with_len, nat_tests, reverse-reverse, reverse-append, sum_by-le, length-range_with_len}
use Rattle.search_laws.specs.{collapse, GraphMeaning, LabelsMeaning, Accepts, wait, ArrivesAt, word_from}
use Rattle.product_search.specs.{IsArrival}
use Rattle.automaton.specs.{collapsed, AcceptsCollapsed}
use Rattle.mode_expression.specs.{Form.Form, IsWordOf}
use Rattle.mode_network.specs.{NetworkLists.NetworkLists, Step, Route, AreSteps}
use Rattle.mode_network.proofs.RuleLemmas.{both}
use Rattle.journey.specs.{Asked, Answers, AreTheCopies}
use Rattle.latest_departure.specs.{inside.IsFirst, inside.IsFirstIfAny, inside.leaving, deadline, first_moment, IsInTime, IsBestLate, HasNoneInTime, IsLate, span, MirrorsAreJourneys, JourneysAreMirrors, AcceptsReversed, all_moves}

pub few_moves : (l : LabelsMeaning) → l.states ≤ 201 → ((q : ℕ) → l.moves q ≤ 200) → all_moves l ≤ 2 ^ 16
few_moves l states moves =
    let most = sum_by-le l.moves 200 (range_with_len 0 l.states) (λ k d within. moves _) in
    let size = length-range_with_len 0 l.states in
    omega arith

-- ---- the other way round, adjacent equal road letters are made one as before
abbrev same : ℕ → ℕ → Bool
same c d = (c == d) && nat_lt c 3

same_test : (c d : ℕ) → same c d ≡ true → c ≡ d
same_test c d e = let is = (both (c == d) (nat_lt c 3) e).0 in grind (arith, nat_tests)

turned_test : (c d : ℕ) → same c d ≡ same d c
turned_test c d = on_tests (same c d) (same d c) refl refl
  where
    on_tests : (a b : Bool) → same c d ≡ a → same d c ≡ b → same c d ≡ same d c
    on_tests true b e f = let is = same_test c d e in ap (λ x. same x d) is ∙ ap (λ x. same d x) (sym is)
    on_tests false true e f = let is = same_test d c f in ap (λ x. same c x) is ∙ ap (λ x. same x c) (sym is)
    on_tests false false e f = e ∙ sym f

-- one letter more at the end
abbrev ends_with : Bool → ℕ → List ℕ → List ℕ
ends_with again d word = cond again word (word ++ d ∷ [])

behind : (again : Bool) (x d : ℕ) (word : List ℕ) → x ∷ ends_with again d word ≡ ends_with again d (x ∷ word)
behind true x d word = refl
behind false x d word = refl

either : (front again : Bool) (x d : ℕ) (one two : List ℕ) → one ≡ ends_with again d two → cond front one (x ∷ one) ≡ ends_with again d (cond front two (x ∷ two))
either true again x d one two e = e
either false again x d one two e = ap (λ (w : List ℕ). x ∷ w) e ∙ behind again x d two

one_more : (word : List ℕ) (c d : ℕ) → collapse (word ++ c ∷ d ∷ []) ≡ ends_with (same c d) d (collapse (word ++ c ∷ []))
one_more [] c d = on_test (same c d) refl
  where
    on_test : (b : Bool) → same c d ≡ b → cond (same c d) (d ∷ []) (c ∷ d ∷ []) ≡ ends_with (same c d) d (c ∷ [])
    on_test true e = ap (λ (t : Bool). cond t (d ∷ []) (c ∷ d ∷ [])) e ∙ ap (λ x. x ∷ []) (sym (same_test c d e)) ∙ ap (λ (t : Bool). ends_with t d (c ∷ [])) (sym e)
    on_test false e = ap (λ (t : Bool). cond t (d ∷ []) (c ∷ d ∷ [])) e ∙ ap (λ (t : Bool). ends_with t d (c ∷ [])) (sym e)
one_more (x ∷ []) c d = either (same x c) (same c d) x d (collapse (c ∷ d ∷ [])) (collapse (c ∷ [])) (one_more [] c d)
one_more (x ∷ y ∷ word) c d = either (same x y) (same c d) x d (collapse (y ∷ (word ++ c ∷ d ∷ []))) (collapse (y ∷ (word ++ c ∷ []))) (one_more (y ∷ word) c d)

collapse_reversed : (word : List ℕ) → collapse (reverse word) ≡ reverse (collapse word)
collapse_reversed [] = refl
collapse_reversed (c ∷ []) = refl
collapse_reversed (c ∷ d ∷ word) =
    let front : reverse (c ∷ d ∷ word) ≡ reverse word ++ d ∷ c ∷ [] = reverse-append (c ∷ d ∷ []) word in
    let short : reverse (d ∷ word) ≡ reverse word ++ d ∷ [] = reverse-append (d ∷ []) word in
    ap collapse front ∙ one_more (reverse word) d c ∙ ap (λ (w : List ℕ). ends_with (same d c) c (collapse w)) (sym short)
    ∙ ap (ends_with (same d c) c) (collapse_reversed (d ∷ word)) ∙ ap (λ (t : Bool). ends_with t c (reverse (collapse (d ∷ word)))) (turned_test d c)
    ∙ on_test (same c d)
  where
    on_test : (b : Bool) → ends_with b c (reverse (collapse (d ∷ word))) ≡ reverse (cond b (collapse (d ∷ word)) (c ∷ collapse (d ∷ word)))
    on_test true = refl
    on_test false = sym (reverse-append (c ∷ []) (collapse (d ∷ word)))

-- the automaton reads, from its end, each word whose collapse the form denotes
abbrev pub IsMirrorOf : Form → LabelsMeaning → Type 0
IsMirrorOf form l = (word : List ℕ) → Accepts l (reverse word) ↔ IsWordOf form (collapse word)

pub mirror_of : (form : Form) (inner reversed : LabelsMeaning) → ((word : List ℕ) → Accepts inner word ↔ IsWordOf form word) → AcceptsReversed inner reversed
    → AcceptsCollapsed reversed → IsMirrorOf form (collapsed reversed)
mirror_of form inner reversed denotes turns collapses word = (out, into)
  where
    twice : reverse (collapse (reverse word)) ≡ collapse word
    twice = ap reverse (collapse_reversed word) ∙ reverse-reverse (collapse word)

    out : Accepts (collapsed reversed) (reverse word) → IsWordOf form (collapse word)
    out accepts = (denotes (collapse word)).0 (subst (Accepts inner) twice ((turns (collapse (reverse word))).0 ((collapses (reverse word)).0 accepts)))

    into : IsWordOf form (collapse word) → Accepts (collapsed reversed) (reverse word)
    into denoted = (collapses (reverse word)).1 ((turns (collapse (reverse word))).1 (subst (Accepts inner) (sym twice) ((denotes (collapse word)).1 denoted)))

module _ (n : NetworkLists) (q : Asked) (g : GraphMeaning) (l : LabelsMeaning) (starts targets : List ℕ) (reads : IsMirrorOf q.form l)
    (journeys : JourneysAreMirrors n g (deadline q)) (to : AreTheCopies n q.to starts) (from : AreTheCopies n q.from targets)
    (rises : (v t : ℕ) (steps : List Step) (w u : ℕ) (letters : List ℕ) → AreSteps n v t steps w u letters → t ≤ u) where
  -- a journey that is in time is an accepted walk of mirrored time
  pub arrives : (k : Route) → IsInTime n q k → ArrivesAt g l starts targets 0 (deadline q - k.at) × (k.at ≤ deadline q)
  arrives k in_time =
      let letters = in_time.real.letters in
      let walk = journeys k.start k.at k.steps in_time.end in_time.arrival letters in_time.real.steps in_time.by_deadline in
      let word = subst (IsWordOf q.form) in_time.real.word_is in_time.denoted in
      let later = rises k.start k.at k.steps in_time.end in_time.arrival letters in_time.real.steps in
      let by = in_time.by_deadline in (
        record {
          start = in_time.end;
          end = k.start;
          steps = wait (deadline q - in_time.arrival) ∷ walk.walk;
          starts_there = (to.are in_time.end).1 in_time.ends_at_copy;
          ends_there = (from.are k.start).1 in_time.starts_at_copy;
          walk = (omega arith, walk.leads);
          word = subst (Accepts l) (sym walk.word) ((reads letters).1 word);
        },
        omega arith,
      )

module _ (n : NetworkLists) (q : Asked) (g : GraphMeaning) (l : LabelsMeaning) (starts targets : List ℕ) (reads : IsMirrorOf q.form l)
    (walks : MirrorsAreJourneys n g (deadline q)) (journeys : JourneysAreMirrors n g (deadline q)) (to : AreTheCopies n q.to starts) (from : AreTheCopies n q.from targets)
    (late : first_moment n ≤ deadline q)
    (rises : (v t : ℕ) (steps : List Step) (w u : ℕ) (letters : List ℕ) → AreSteps n v t steps w u letters → t ≤ u) where
  -- and an accepted walk within the span is a journey that is in time
  pub in_time_of : (moment : ℕ) → ArrivesAt g l starts targets 0 moment → moment ≤ span n q → (k : Route) × IsInTime n q k × (k.at ≡ deadline q - moment)
  in_time_of moment a within =
      let word = word_from g a.start a.steps in
      let there = walks a.start 0 a.steps a.end moment a.walk (omega arith) in
      let soon = there.soon in (
        record { start = a.end; at = deadline q - moment; steps = there.steps },
        record {
          end = a.start;
          arrival = there.arrival;
          word = collapse (reverse word);
          starts_at_copy = (from.are a.end).0 a.ends_there;
          not_before = omega arith;
          real = record { letters = reverse word; steps = there.are; word_is = refl };
          ends_at_copy = (to.are a.start).0 a.starts_there;
          by_deadline = omega arith;
          denoted = (reads (reverse word)).0 (subst (Accepts l) (sym (reverse-reverse word)) a.word);
        },
        refl,
      )

module _ (n : NetworkLists) (q : Asked) (g : GraphMeaning) (l : LabelsMeaning) (starts targets : List ℕ) (reads : IsMirrorOf q.form l)
    (walks : MirrorsAreJourneys n g (deadline q)) (journeys : JourneysAreMirrors n g (deadline q)) (to : AreTheCopies n q.to starts) (from : AreTheCopies n q.from targets)
    (late : first_moment n ≤ deadline q)
    (rises : (v t : ℕ) (steps : List Step) (w u : ℕ) (letters : List ℕ) → AreSteps n v t steps w u letters → t ≤ u) where
  -- a journey that is in time answers what is asked from its start on
  answers_from : (t : ℕ) (k : Route) (is : IsInTime n q k) → t ≤ k.at → Answers n (leaving q t) k is.arrival
  answers_from t k is le = record {
    end = is.end;
    word = is.word;
    starts_at_copy = is.starts_at_copy;
    not_before = le;
    real = is.real;
    ends_at_copy = is.ends_at_copy;
    denoted = is.denoted;
  }

  -- where no walk is within the span, no journey is in time
  pub none_in_time : IsArrival g l starts targets 0 (Some (span n q)) None → HasNoneInTime n q
  none_in_time none k in_time =
      let there = arrives n q g l starts targets reads journeys to from rises k in_time in
      let early = in_time.not_before in
      none (deadline q - k.at) (omega arith) there.0

  -- the journey that leaves at the least moment and arrives first is in time, and the best one
  first_is_best : (a : ℕ) → IsArrival g l starts targets 0 (Some (span n q)) (Some a) → (k : Route) → IsInTime n q k → k.at ≡ deadline q - a
      → (j : Route) → IsFirst n (leaving q (deadline q - a)) j → IsBestLate n q j
  first_is_best a least k other then j is =
      let leaves = is.leaves in
      let answers = is.best.answers in
      let soon = is.best.least k other.arrival (answers_from (deadline q - a) k other (omega arith)) in
      let by = other.by_deadline in
      let early = other.not_before in
      record {
        latest = record {
          in_time = record {
            end = answers.end;
            arrival = is.best.arrival;
            word = answers.word;
            starts_at_copy = answers.starts_at_copy;
            not_before = omega arith;
            real = answers.real;
            ends_at_copy = answers.ends_at_copy;
            by_deadline = omega arith;
            denoted = answers.denoted;
          };
          latest = λ k in_time.
              let there = arrives n q g l starts targets reads journeys to from rises k in_time in
              let before = there.1 in
              let first = least.0.least (deadline q - k.at) there.0 in
              omega arith;
        };
        first = λ k in_time same. is.best.least k in_time.arrival (answers_from (deadline q - a) k in_time (omega arith));
      }

  pub late_found : (a : ℕ) → IsArrival g l starts targets 0 (Some (span n q)) (Some a) → (found : Option Route) → IsFirstIfAny n (leaving q (deadline q - a)) found → IsLate n q found
  late_found a least None none =
      let there = in_time_of n q g l starts targets reads walks journeys to from late rises a least.0.reached least.1 in
      let then = there.2 in
      absurd (none there.0 there.1.arrival (answers_from (deadline q - a) there.0 there.1 (omega arith)))
  late_found a least (Some j) is =
      let there = in_time_of n q g l starts targets reads walks journeys to from late rises a least.0.reached least.1 in
      (record { best = first_is_best a least there.0 there.1 there.2 j is; boarded = is.boarded }, is.printable)
