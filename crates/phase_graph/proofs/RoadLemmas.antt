-- The road arcs under an entry, and each phase walk as a journey.
use Rattle.plan_base.proofs.Common.{◌≡◌, ℕ, ◌+◌, ◌<◌, Bool, List, [], ◌∷◌, ◌++◌, Some, refl, sym, ap, subst, ◌∙◌, append_assoc, arith, Option, option_to_list, All-contains}
use Rattle.search_laws.specs.{collapse}
use Rattle.mode_network.specs.{Step, Wait, Stand, letter_at, IsNetwork, Leads, IsStep, AreSteps, declared.steps.Step.TheVariants.Road, NetworkLists.NetworkLists}
use Rattle.plan_base.specs.{number_of_mode}
use Rattle.mode_network.proofs.RuleLemmas.{letter_of, letter_is_road}
use Rattle.hierarchy.specs.{Hop, AreHops, total, HierarchyLists, HasEntry, IsSound, IsCovered}
use Rattle.hierarchy.proofs.{RoadLemmas.Roads, RoadLemmas.roads_under, SoundLemmas.fits}
use Rattle.phase_graph.specs.{PhaseMove, rest, rise, fall, cross, stand, AreMoves, HasJourney, PhaseWalksHaveJourneys}
use Rattle.phase_graph.proofs.WordLemmas.{same_letter, same_letters, again}

-- steps, and then more
steps_then : (n : NetworkLists) (first second : List Step) (v t m s w u : ℕ) (a b : List ℕ) → AreSteps n v t first m s a → AreSteps n m s second w u b → AreSteps n v t (first ++ second) w u (a ++ b)
steps_then n [] second v t m s w u a b (em, es, ea) next =
    subst (λ ls. AreSteps n v t second w u (ls ++ b)) (sym ea) (subst (λ x. AreSteps n x t second w u b) em (subst (λ x. AreSteps n m x second w u b) es next))
steps_then n (step ∷ first) second v t m s w u a b (v1, t1, letter, more, is, walk, ea) next =
    (v1, t1, letter, more ++ b, is, steps_then n first second v1 t1 m s w u more b walk next, ap (λ ls. ls ++ b) ea ∙ append_assoc (option_to_list letter) more b)

module _ (n : NetworkLists) (h : HierarchyLists) (network : IsNetwork n) (sound : IsSound n h) where
  -- a road arc stays in its layer
  arc_mode : (v to ms m : ℕ) → Leads n.arcs v to ms → letter_at n.roads v ≡ Some m → letter_at n.roads to ≡ Some m
  arc_mode v to ms m leads is =
      let covered = All-contains (IsCovered h) n.arcs (record { from = v; to = to; ms = ms }) sound.arcs_covered leads in
      let f = fits n h sound v to covered.0 covered.1 in
      (letter_of n.roads to _ f.to_mode) ∙ sym (letter_of n.roads v _ f.from_mode) ∙ is

  -- road arcs in a row: their letters, after the mode's, are told already
  record Driven (m v t w at : ℕ) : Type 0 where
    steps : List Step
    letters : List ℕ
    real : AreSteps n v t steps w at letters
    told : (word : List ℕ) → collapse (m ∷ (letters ++ word)) ≡ collapse (m ∷ word)

  drive : (m : ℕ) → m < 3 → (hops : List Hop) (v t w : ℕ) → AreHops (Leads n.arcs) v hops w → letter_at n.roads v ≡ Some m → Driven m v t w (t + total hops)
  drive m road [] v t w walk mode = record { steps = []; letters = []; real = (walk, (omega arith), refl); told = λ word. refl }
  drive m road (hop ∷ hops) v t w (leads, walk) mode =
      let more = drive m road hops hop.to (t + hop.weight) w walk (arc_mode v hop.to hop.weight m leads mode) in
      let sum : (t + hop.weight) + total hops ≡ t + (hop.weight + total hops) = omega arith in
      record {
        steps = Road hop.to ∷ more.steps;
        letters = m ∷ more.letters;
        real = (
          hop.to,
          t + hop.weight,
          Some m,
          more.letters,
          (hop.weight, leads, refl, refl, sym mode),
          subst (λ s. AreSteps n hop.to (t + hop.weight) more.steps w s more.letters) sum more.real,
          refl,
        );
        told = λ word. again m (more.letters ++ word) road ∙ more.told word;
      }

  -- the steps under an entry, which tell its mode
  record Unpacked (m v t w at : ℕ) : Type 0 where
    steps : List Step
    letters : List ℕ
    real : AreSteps n v t steps w at letters
    once : (word : List ℕ) → collapse (letters ++ word) ≡ collapse (m ∷ word)

  unpacked : (m v w a t : ℕ) (e : HasEntry h.entries v w a) → letter_at n.roads v ≡ Some m → Unpacked m v t w (t + a)
  unpacked m v w a t e mode = by_hops (roads_under n h sound v w a e)
    where
      by_list : (hops : List Hop) → AreHops (Leads n.arcs) v hops w → total hops ≡ a → Unpacked m v t w (t + a)
      by_list [] walk weighs = absurd ((fits n h sound v w a e).differ (sym walk))
      by_list (hop ∷ hops) (leads, walk) weighs =
          let road = (letter_is_road n network v m mode).1 in
          let more = drive m road hops hop.to (t + hop.weight) w walk (arc_mode v hop.to hop.weight m leads mode) in
          let sum : (t + hop.weight) + total hops ≡ t + a = omega arith in
          record {
            steps = Road hop.to ∷ more.steps;
            letters = m ∷ more.letters;
            real = (
              hop.to,
              t + hop.weight,
              Some m,
              more.letters,
              (hop.weight, leads, refl, refl, sym mode),
              subst (λ s. AreSteps n hop.to (t + hop.weight) more.steps w s more.letters) sum more.real,
              refl,
            );
            once = more.told;
          }

      by_hops : Roads n v w a → Unpacked m v t w (t + a)
      by_hops r = by_list r.hops r.walk r.weighs

  -- an entry, and then a journey
  by_entry : (v w a t : ℕ) (e : HasEntry h.entries v w a) (letter : Option ℕ) (t1 w2 u : ℕ) (more : List ℕ) → letter ≡ letter_at n.roads v → t1 ≡ t + a → HasJourney n w t1 w2 u more
      → HasJourney n v t w2 u (option_to_list letter ++ more)
  by_entry v w a t e letter t1 w2 u more is at j =
      let f = fits n h sound v w a e in
      let x = unpacked (number_of_mode f.mode) v w a t e (letter_of n.roads v _ f.from_mode) in
      let one : letter ≡ Some (number_of_mode f.mode) = is ∙ (letter_of n.roads v _ f.from_mode) in
      record {
        steps = x.steps ++ j.steps;
        told = x.letters ++ j.told;
        real = steps_then n x.steps j.steps v t w t1 w2 u x.letters j.told (subst (λ s. AreSteps n v t x.steps w s x.letters) (sym at) x.real) j.real;
        same_word = x.once j.told ∙ same_letter (number_of_mode f.mode) j.told more j.same_word ∙ ap (λ o. collapse (option_to_list o ++ more)) (sym one);
      }

  -- one step, and then a journey
  by_step : (step : Step) (v t v1 t1 w u : ℕ) (letter : Option ℕ) (more : List ℕ) → IsStep n v t step v1 t1 letter → HasJourney n v1 t1 w u more → HasJourney n v t w u (option_to_list letter ++ more)
  by_step step v t v1 t1 w u letter more is j = record {
    steps = step ∷ j.steps;
    told = option_to_list letter ++ j.told;
    real = (v1, t1, letter, j.told, is, j.real, refl);
    same_word = same_letters letter j.told more j.same_word;
  }

  pub has_journey : (targets : List ℕ) (moves : List PhaseMove) (v : ℕ) (down : Bool) (t w : ℕ) (end : Bool) (u : ℕ) (letters : List ℕ) → AreMoves n h targets v down t moves w end u letters → HasJourney n v t w u letters
  has_journey targets [] v down t w end u letters (ew, ed, eu, el) = record { steps = []; told = []; real = (ew, eu, refl); same_word = ap collapse (sym el) }
  has_journey targets (rest until ∷ moves) v down t w end u letters (v1, d1, t1, letter, more, (le, ev, ed, et, el), walk, word) =
      subst (HasJourney n v t w u) (sym word) (by_step (Wait until) v t v1 t1 w u letter more (le, ev, et, el) (has_journey targets moves v1 d1 t1 w end u more walk))
  has_journey targets (rise hop ∷ moves) v down t w end u letters (v1, d1, t1, letter, more, (before, entry, up, ev, ed, et, el), walk, word) =
      let after = has_journey targets moves v1 d1 t1 w end u more walk in
      subst (HasJourney n v t w u) (sym word) (by_entry v hop.to hop.weight t entry letter t1 w u more el et (subst (λ x. HasJourney n x t1 w u more) ev after))
  has_journey targets (fall hop ∷ moves) v down t w end u letters (v1, d1, t1, letter, more, (entry, low, marked, ev, ed, et, el), walk, word) =
      let after = has_journey targets moves v1 d1 t1 w end u more walk in
      subst (HasJourney n v t w u) (sym word) (by_entry v hop.to hop.weight t entry letter t1 w u more el et (subst (λ x. HasJourney n x t1 w u more) ev after))
  has_journey targets (cross step ∷ moves) v down t w end u letters (v1, d1, t1, letter, more, (before, core, crossing, is, ed), walk, word) =
      subst (HasJourney n v t w u) (sym word) (by_step step v t v1 t1 w u letter more is (has_journey targets moves v1 d1 t1 w end u more walk))
  has_journey targets (stand ∷ moves) v down t w end u letters (v1, d1, t1, letter, more, (mode, is, ev, ed, et, el), walk, word) =
      subst (HasJourney n v t w u) (sym word) (by_step Stand v t v1 t1 w u letter more (mode, is, ev, et, el) (has_journey targets moves v1 d1 t1 w end u more walk))

pub phase_walks_have_journeys : PhaseWalksHaveJourneys
phase_walks_have_journeys n h targets network sound = has_journey n h network sound targets
