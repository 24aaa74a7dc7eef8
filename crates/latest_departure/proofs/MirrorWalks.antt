-- The walks of a network in mirrored time are its journeys, told from their ends.
use Rattle.plan_base.proofs.Common.{◌≡◌, ℕ, ◌-◌, ◌≤◌, List, [], ◌∷◌, ◌++◌, Option, Some, None, refl, sym, ap, ◌∙◌, subst, arith, option_to_list, reverse, append_assoc, append-nil, reverse-append}
use Rattle.search_laws.specs.{WalkStep, wait, arc, IsWalk, word_from, GraphMeaning, IsLawfulGraph}
use Rattle.search_laws.proofs.WalkLemmas.{walk_rises}
use Rattle.timetable_arcs.specs.{TableLists, IsTable}
use Rattle.mode_network.specs.{Step, Wait, Link as TakeLink, Stand as StandStill, Ride as TakeRide, IsNetwork, IsTimetableOf, IsStep, AreSteps, declared.steps.Step.TheVariants.Road as TakeRoad, NetworkLists.NetworkLists}
use Rattle.plain_graph.specs.{Stand, plain_meaning, plain_lawful, IsNoWait}
use Rattle.plain_graph.proofs.Same.{journeys_are_walks}
use Rattle.latest_departure.specs.{Source, arc_into, mirror_arc, begins, mirror_meaning, AreSources, HasSteps, MirrorsAreJourneys, HasMirror, JourneysAreMirrors}
use Rattle.latest_departure.proofs.{ArcLemmas.all_into, ArcLemmas.HasStep, ArcLemmas.arc_steps, ArcLemmas.HasBack, ArcLemmas.step_back, ArcLemmas.place_into, MirrorLaws.node_into}

-- one letter at most is the same from either end
one_letter : (letter : Option ℕ) → reverse (option_to_list letter) ≡ option_to_list letter
one_letter None = refl
one_letter (Some c) = refl

pub turned : (letter : Option ℕ) (word : List ℕ) → reverse (option_to_list letter ++ word) ≡ reverse word ++ option_to_list letter
turned letter word = reverse-append (option_to_list letter) word ∙ ap (λ (x : List ℕ). reverse word ++ x) (one_letter letter)

-- steps with one step more at their end
steps_more : (n : NetworkLists) (steps : List Step) (v t w u x y : ℕ) (letters : List ℕ) (step : Step) (letter : Option ℕ) → AreSteps n v t steps w u letters → IsStep n w u step x y letter
    → AreSteps n v t (steps ++ step ∷ []) x y (letters ++ option_to_list letter)
steps_more n [] v t w u x y letters step letter (there, now, none) is = (
  x,
  y,
  letter,
  [],
  subst (λ p. IsStep n p t step x y letter) there (subst (λ p. IsStep n w p step x y letter) now is),
  (refl, refl, refl),
  ap (λ (l : List ℕ). l ++ option_to_list letter) none ∙ sym (append-nil (option_to_list letter)),
)
steps_more n (first ∷ steps) v t w u x y letters step letter (v1, t1, c, rest, is_first, more, e) is = (
  v1,
  t1,
  c,
  rest ++ option_to_list letter,
  is_first,
  steps_more n steps v1 t1 w u x y rest step letter more is,
  ap (λ (l : List ℕ). l ++ option_to_list letter) e ∙ append_assoc (option_to_list c) rest (option_to_list letter),
)

-- one walk, and then another
walk_then : (g : GraphMeaning) (walk more : List WalkStep) (v t w u x y : ℕ) → IsWalk g v t walk w u → IsWalk g w u more x y → IsWalk g v t (walk ++ more) x y
walk_then g [] more v t w u x y (there, now) rest = subst (λ p. IsWalk g p t more x y) there (subst (λ p. IsWalk g w p more x y) now rest)
walk_then g (wait at ∷ walk) more v t w u x y (later, leads) rest = (later, walk_then g walk more v at w u x y leads rest)
walk_then g (arc i ∷ walk) more v t w u x y (at, has, arrives, leads) rest = (at, has, arrives, walk_then g walk more (g.arc_at v i).to at w u x y leads rest)

word_then : (g : GraphMeaning) (walk more : List WalkStep) (v t w u : ℕ) → IsWalk g v t walk w u → word_from g v (walk ++ more) ≡ word_from g v walk ++ word_from g w more
word_then g [] more v t w u (there, now) = ap (λ p. word_from g p more) (sym there)
word_then g (wait at ∷ walk) more v t w u (later, leads) = word_then g walk more v at w u leads
word_then g (arc i ∷ walk) more v t w u (at, has, arrives, leads) =
    ap (λ (l : List ℕ). option_to_list (g.arc_at v i).letter ++ l) (word_then g walk more (g.arc_at v i).to at w u leads)
    ∙ sym (append_assoc (option_to_list (g.arc_at v i).letter) (word_from g (g.arc_at v i).to walk) (word_from g w more))

module _ (n : NetworkLists) (network : IsNetwork n) (t : TableLists) (table : IsTable t) (of : IsTimetableOf n t) where
  -- steps end no earlier than they begin
  pub steps_rise : (v t0 : ℕ) (steps : List Step) (w u : ℕ) (letters : List ℕ) → AreSteps n v t0 steps w u letters → t0 ≤ u
  steps_rise v t0 steps w u letters are =
      let walk = journeys_are_walks n network t table of v t0 steps w u letters are in
      walk_rises (plain_meaning n t) (plain_lawful n network t table of) walk.walk v t0 w u walk.leads

module _ (n : NetworkLists) (network : IsNetwork n) (t : TableLists) (table : IsTable t) (of : IsTimetableOf n t) (rows : ℕ → List Source) (sources : AreSources n t rows)
    (deadline : ℕ) (lawful : IsLawfulGraph (mirror_meaning n t rows deadline)) where
  abbrev g : GraphMeaning
  g = mirror_meaning n t rows deadline

  -- a journey that waits until a step begins, and takes it
  joined : (v t0 x at w u : ℕ) (letters : List ℕ) (letter : Option ℕ) → HasSteps n v t0 x at letters → HasStep n network t table of x at w u letter
      → HasSteps n v t0 w u (letters ++ option_to_list letter)
  joined v t0 x at w u letters letter before last =
      let waited = steps_more n before.steps v t0 x before.arrival x at letters (Wait at) None before.are (before.soon, refl, refl, refl) in
      let word : letters ++ [] ≡ letters = append-nil letters in
      record {
        steps = (before.steps ++ Wait at ∷ []) ++ last.step ∷ [];
        arrival = last.at;
        are = steps_more n (before.steps ++ Wait at ∷ []) v t0 x at w last.at letters last.step letter (subst (λ (l : List ℕ). AreSteps n v t0 (before.steps ++ Wait at ∷ []) x at l) word waited) last.is;
        soon = last.soon;
      }

  pub mirrors_are_journeys : MirrorsAreJourneys n g deadline
  mirrors_are_journeys w s [] v s2 (there, now) early =
      record { steps = []; arrival = deadline - s2; are = (sym there, refl, refl); soon = omega arith }
  mirrors_are_journeys w s (wait at ∷ walk) v s2 (later, leads) early =
      let rest = mirrors_are_journeys w at walk v s2 leads early in
      let soon = rest.soon in
      record { steps = rest.steps; arrival = rest.arrival; are = rest.are; soon = omega arith }
  mirrors_are_journeys w s (arc i ∷ walk) v s2 (at, has, arrives, leads) early =
      let a = arc_into rows w i in
      let rest = mirrors_are_journeys (mirror_arc n t w a).to at walk v s2 leads early in
      let within = walk_rises g lawful walk (mirror_arc n t w a).to at v s2 leads in
      let step = arc_steps n network t table of deadline w s at a (all_into n t rows sources w has.node i Stand has.arc) arrives (omega arith) in
      let word = word_from g (mirror_arc n t w a).to walk in
      let both = joined v (deadline - s2) (mirror_arc n t w a).to (deadline - at) w (deadline - s) (reverse word) (mirror_arc n t w a).letter rest step in
      subst (HasSteps n v (deadline - s2) w (deadline - s)) (sym (turned (mirror_arc n t w a).letter word)) both

  -- a walk with an arc and a wait at its end
  then_back : (w s v1 t1 v t0 : ℕ) (letters : List ℕ) (letter : Option ℕ) → HasMirror g w s v1 (deadline - t1) letters → HasBack n network t table of deadline v t0 v1 t1 letter
      → HasMirror g w s v (deadline - t0) (letters ++ option_to_list letter)
  then_back w s v1 t1 v t0 letters letter before back =
      let place = place_into n t rows sources v1 back.arc (node_into n network t table of v1 back.arc back.into) back.into in
      let last : List WalkStep = arc place.i ∷ wait (deadline - t0) ∷ [] in
      let goes : IsWalk g v1 (deadline - t1) last v (deadline - t0) = (
        back.moment,
        record { node = node_into n network t table of v1 back.arc back.into; arc = place.within },
        ap (begins t deadline (deadline - t1)) place.is ∙ back.begins_then,
        (back.soon, (sym back.to ∙ ap (λ x. (mirror_arc n t v1 x).to) (sym place.is), refl)),
      ) in
      let read : word_from g v1 last ≡ option_to_list letter =
      ap (λ x. option_to_list (mirror_arc n t v1 x).letter ++ []) place.is ∙ append-nil (option_to_list (mirror_arc n t v1 back.arc).letter) ∙ ap option_to_list back.same in
      record {
        walk = before.walk ++ last;
        leads = walk_then g before.walk last w s v1 (deadline - t1) v (deadline - t0) before.leads goes;
        word = word_then g before.walk last w s v1 (deadline - t1) before.leads ∙ ap (λ (l : List ℕ). l ++ word_from g v1 last) before.word ∙ ap (λ (l : List ℕ). letters ++ l) read;
      }

  then_wait : (w s v1 t1 v t0 : ℕ) (letters : List ℕ) → HasMirror g w s v1 (deadline - t1) letters → v1 ≡ v → t0 ≤ t1 → HasMirror g w s v (deadline - t0) letters
  then_wait w s v1 t1 v t0 letters before same later = record {
    walk = before.walk ++ wait (deadline - t0) ∷ [];
    leads = walk_then g before.walk (wait (deadline - t0) ∷ []) w s v1 (deadline - t1) v (deadline - t0) before.leads (omega arith, (sym same, refl));
    word = word_then g before.walk (wait (deadline - t0) ∷ []) w s v1 (deadline - t1) before.leads ∙ append-nil (word_from g w before.walk) ∙ before.word;
  }

  taken : (v t0 v1 t1 : ℕ) (step : Step) (letter : Option ℕ) (steps : List Step) (w u : ℕ) (rest letters : List ℕ) → IsNoWait step → IsStep n v t0 step v1 t1 letter → AreSteps n v1 t1 steps w u rest
      → letters ≡ option_to_list letter ++ rest → u ≤ deadline → HasMirror g w (deadline - u) v1 (deadline - t1) (reverse rest) → HasMirror g w (deadline - u) v (deadline - t0) (reverse letters)
  taken v t0 v1 t1 step letter steps w u rest letters moves is more e early before =
      let rises = steps_rise n network t table of v1 t1 steps w u rest more in
      subst (HasMirror g w (deadline - u) v (deadline - t0)) (sym (ap reverse e ∙ turned letter rest))
      (then_back w (deadline - u) v1 t1 v t0 (reverse rest) letter before (step_back n network t table of deadline v t0 v1 t1 step letter moves is (omega arith)))

  pub journeys_are_mirrors : JourneysAreMirrors n g deadline
  journeys_are_mirrors v t0 [] w u letters (there, now, none) early =
      record { walk = []; leads = (sym there, ap (λ x. deadline - x) (sym now)); word = sym (ap reverse none) }
  journeys_are_mirrors v t0 (Wait until ∷ steps) w u letters (v1, t1, letter, rest, (later, same, now, none), more, e) early =
      let before = journeys_are_mirrors v1 t1 steps w u rest more early in
      let word : letters ≡ rest = e ∙ ap (λ (c : Option ℕ). option_to_list c ++ rest) none in
      subst (λ (l : List ℕ). HasMirror g w (deadline - u) v (deadline - t0) (reverse l)) (sym word)
      (then_wait w (deadline - u) v1 t1 v t0 (reverse rest) before same (omega arith))
  journeys_are_mirrors v t0 (TakeRoad to ∷ steps) w u letters (v1, t1, letter, rest, is, more, e) early =
      taken v t0 v1 t1 (TakeRoad to) letter steps w u rest letters tt is more e early (journeys_are_mirrors v1 t1 steps w u rest more early)
  journeys_are_mirrors v t0 (TakeLink to ∷ steps) w u letters (v1, t1, letter, rest, is, more, e) early =
      taken v t0 v1 t1 (TakeLink to) letter steps w u rest letters tt is more e early (journeys_are_mirrors v1 t1 steps w u rest more early)
  journeys_are_mirrors v t0 (StandStill ∷ steps) w u letters (v1, t1, letter, rest, is, more, e) early =
      taken v t0 v1 t1 StandStill letter steps w u rest letters tt is more e early (journeys_are_mirrors v1 t1 steps w u rest more early)
  journeys_are_mirrors v t0 (TakeRide trip day board alight ∷ steps) w u letters (v1, t1, letter, rest, is, more, e) early =
      taken v t0 v1 t1 (TakeRide trip day board alight) letter steps w u rest letters tt is more e early (journeys_are_mirrors v1 t1 steps w u rest more early)
