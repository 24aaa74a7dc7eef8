-- Each journey to a target has a phase walk. What a journey begins with is a road part, over entries; a link or a ride closes what
-- follows it.
use Rattle.plan_base.proofs.Common.{◌≡◌, ℕ, ◌+◌, ◌<◌, ◌≤◌, ◌⊎◌, inl, inr, false, List, [], ◌∷◌, ◌++◌, Some, None, length, refl, sym, ap, subst, ◌∙◌, append-nil, arith, Option, Contains, option_to_list, option_and_then, option_map, cases_lt, same_Some, none-some, slice_get_past, All-contains}
use Rattle.search_laws.specs.{collapse}
use Rattle.mode_network.specs.{Arc, Node, Step, Wait, Link, Stand, Ride, letter_at, mode_of, stop_node, IsNetwork, Leads, IsStep, AreSteps, declared.steps.Step.TheVariants.Road, NetworkLists.NetworkLists}
use Rattle.plan_base.specs.{number_of_mode}
use Rattle.mode_network.proofs.RuleLemmas.{letter_of, letter_is_road}
use Rattle.hierarchy.specs.{Hop, AreHops, total, HierarchyLists, height_in, IsContracted, IsCore, HasEntry, IsSound, IsCovered, IsFree}
use Rattle.hierarchy.proofs.{HeightLemmas.height_most, SoundLemmas.fits, SoundLemmas.contracted_free, SoundLemmas.shaped}
use Rattle.phase_graph.specs.{PhaseMove, rest, cross, IsCrossing, AreMoves, HasPhaseWalk, JourneysHavePhaseWalks}
use Rattle.phase_graph.proofs.{WordLemmas.same_letter, WordLemmas.same_letters, WordLemmas.again, MoveLemmas.moves_then, MoveLemmas.last_part, MoveLemmas.core_part}

module _ (n : NetworkLists) (h : HierarchyLists) (targets : List ℕ) (network : IsNetwork n) (sound : IsSound n h) where
  road_letter : (v m : ℕ) → letter_at n.roads v ≡ Some m → m < 3
  road_letter v m mode = (letter_is_road n network v m mode).1

  -- ---- what a journey begins with

  -- a road part without a letter has no hop; else the letter is the mode of its first node
  abbrev IsPart : Option ℕ → List Hop → ℕ → Type 0
  IsPart None hops v = hops ≡ []
  IsPart (Some m) hops v = letter_at n.roads v ≡ Some m

  -- a link or a ride from a core node, taken no earlier than at, and what follows it
  record Crossing (end at w u : ℕ) (word : List ℕ) : Type 0 where
    step : Step
    leave : ℕ
    node : ℕ
    after : ℕ
    letter : Option ℕ
    told : List ℕ
    later : at ≤ leave
    core : IsCore h.order end
    crossing : IsCrossing step
    is : IsStep n end leave step node after letter
    walk : HasPhaseWalk n h targets node after w u told
    word_is : word ≡ option_to_list letter ++ told

  abbrev Finish : ℕ → ℕ → ℕ → ℕ → List ℕ → Type 0
  Finish end at w u word = ((w ≡ end) × (at ≤ u) × (word ≡ [])) ⊎ Crossing end at w u word

  record Begun (v t w u : ℕ) (letters : List ℕ) : Type 0 where
    hops : List Hop
    end : ℕ
    walk : AreHops (HasEntry h.entries) v hops end
    part : Option ℕ
    is_part : IsPart part hops v
    word : List ℕ
    same_word : collapse (option_to_list part ++ word) ≡ collapse letters
    finish : Finish end (t + total hops) w u word

  earlier : (end at before w u : ℕ) (word : List ℕ) → before ≤ at → Finish end at w u word → Finish end before w u word
  earlier end at before w u word le (inl (there, time, none)) = inl (there, omega arith, none)
  earlier end at before w u word le (inr c) = inr (record {
    step = c.step;
    leave = c.leave;
    node = c.node;
    after = c.after;
    letter = c.letter;
    told = c.told;
    later = (let after = c.later in omega arith);
    core = c.core;
    crossing = c.crossing;
    is = c.is;
    walk = c.walk;
    word_is = c.word_is;
  })

  -- ---- its moves

  -- moves to the end of the part, and what they tell before a word
  record Opened (v t end at : ℕ) (part : Option ℕ) : Type 0 where
    moves : List PhaseMove
    letters : List ℕ
    reached : ℕ
    walk : AreMoves n h targets v false t moves end false reached letters
    in_time : reached ≤ at
    once : (word : List ℕ) → collapse (letters ++ word) ≡ collapse (option_to_list part ++ word)

  opened : (v t end : ℕ) (hops : List Hop) (part : Option ℕ) → AreHops (HasEntry h.entries) v hops end → IsPart part hops v → IsCore h.order end → Opened v t end (t + total hops) part
  opened v t end hops None walk is core =
      let none : end ≡ v = subst (λ p. AreHops (HasEntry h.entries) v p end) is walk in
      record { moves = []; letters = []; reached = t; walk = (none, refl, refl, refl); in_time = omega arith; once = λ word. refl }
  opened v t end hops (Some m) walk is core =
      let s = shaped n h sound hops v end walk in
      let p = core_part n h sound targets m (road_letter v m is) s.hops v t end s.walk s.shaped is core in
      record { moves = p.moves; letters = p.letters; reached = t + total s.hops; walk = p.walk; in_time = (let le = s.no_heavier in omega arith); once = p.once }

  -- what a journey that begins so has
  close : (v t w u : ℕ) (letters : List ℕ) → Begun v t w u letters → Contains targets w → HasPhaseWalk n h targets v t w u letters
  close v t w u letters b at_end = by_finish b.finish
    where
      last : (part : Option ℕ) → IsPart part b.hops v → w ≡ b.end → t + total b.hops ≤ u → collapse (option_to_list part ++ []) ≡ collapse letters → HasPhaseWalk n h targets v t w u letters
      last None is there time same =
          let none : b.end ≡ v = subst (λ p. AreHops (HasEntry h.entries) v p b.end) is b.walk in
          record { moves = []; down = false; at = t; letters = []; walk = (there ∙ none, refl, refl, refl); at_target = λ e. absurd cc; no_later = omega arith; same_word = same }
      last (Some m) is there time same =
          let s = shaped n h sound b.hops v b.end b.walk in
          let le = s.no_heavier in
          let p = last_part n h sound targets m (road_letter v m is) s.hops v t b.end s.walk s.shaped is (subst (Contains targets) there at_end) in
          record {
            moves = p.moves;
            down = p.down;
            at = t + total s.hops;
            letters = p.letters;
            walk = subst (λ x. AreMoves n h targets v false t p.moves x p.down (t + total s.hops) p.letters) (sym there) p.walk;
            at_target = λ e. subst (IsContracted h.order) (sym there) (p.at_target e);
            no_later = omega arith;
            same_word = ap collapse (sym (append-nil p.letters)) ∙ p.once [] ∙ same;
          }

      by_finish : Finish b.end (t + total b.hops) w u b.word → HasPhaseWalk n h targets v t w u letters
      by_finish (inl (there, time, none)) = last b.part b.is_part there time (ap (λ x. collapse (option_to_list b.part ++ x)) (sym none) ∙ b.same_word)
      by_finish (inr c) =
          let o = opened v t b.end b.hops b.part b.walk b.is_part c.core in
          let next = c.walk in
          let later = c.later in
          let in_time = o.in_time in
          let crossed : AreMoves n h targets b.end false o.reached (rest c.leave ∷ cross c.step ∷ next.moves) w next.down next.at (option_to_list c.letter ++ next.letters) = (
            b.end,
            false,
            c.leave,
            None,
            option_to_list c.letter ++ next.letters,
            (omega arith, refl, refl, refl, refl),
            (c.node, false, c.after, c.letter, next.letters, (refl, c.core, c.crossing, c.is, refl), next.walk, refl),
            refl,
          ) in
          record {
            moves = o.moves ++ (rest c.leave ∷ cross c.step ∷ next.moves);
            down = next.down;
            at = next.at;
            letters = o.letters ++ (option_to_list c.letter ++ next.letters);
            walk = moves_then n h targets o.moves (rest c.leave ∷ cross c.step ∷ next.moves) v false t b.end false o.reached w next.down next.at o.letters (option_to_list c.letter ++ next.letters) o.walk crossed;
            at_target = next.at_target;
            no_later = next.no_later;
            same_word = o.once (option_to_list c.letter ++ next.letters)
                ∙ same_letters b.part (option_to_list c.letter ++ next.letters) b.word (same_letters c.letter next.letters c.told next.same_word ∙ ap collapse (sym c.word_is)) ∙ b.same_word;
          }

  -- ---- step by step

  -- a road letter before what begins with it, or with none
  told_once : (v m : ℕ) (part : Option ℕ) (hops : List Hop) (word letters : List ℕ) → letter_at n.roads v ≡ Some m → IsPart part hops v → collapse (option_to_list part ++ word) ≡ collapse letters
      → collapse (m ∷ word) ≡ collapse (m ∷ letters)
  told_once v m None hops word letters mode is same = same_letter m word letters same
  told_once v m (Some k) hops word letters mode is same =
      let one : k ≡ m = same_Some k m (sym is ∙ mode) in
      sym (again m word (road_letter v m mode)) ∙ same_letter m (m ∷ word) letters (ap (λ x. collapse (x ∷ word)) (sym one) ∙ same)

  -- a link or a ride leaves a core node
  core_if_bound : (v : ℕ) → (IsFree n v → ⊥) → IsCore h.order v
  core_if_bound v bound = elim (cases_lt (height_in h.order v) (length h.order)) [
    | inl lt ↦ absurd (bound (contracted_free n h sound v lt))
    | inr le ↦ (let most = height_most h.order v in omega arith)
  ]

  pub link_leaves_core : (v to ms : ℕ) → Leads n.links v to ms → IsCore h.order v
  link_leaves_core v to ms leads = core_if_bound v (λ free. All-contains (λ (link : Arc). link.from ≡ v → ⊥) n.links (record { from = v; to = to; ms = ms }) free.none_from leads refl)

  pub stop_is_core : (v stop : ℕ) → v ≡ stop_node n stop → IsCore h.order v
  stop_is_core v stop is = core_if_bound v (λ free. none-some (number_of_mode free.mode) (sym (past v (omega arith)) ∙ (letter_of n.roads v _ free.road)))
    where
      past : (v : ℕ) → length n.roads ≤ v → letter_at n.roads v ≡ None
      past v le = ap (λ (node : Option Node). option_map number_of_mode (option_and_then (λ (node : Node). mode_of node.key) node)) (slice_get_past n.roads v le)

  -- a link or a ride, and what follows it
  crossed : (step : Step) (v t v1 t1 w u : ℕ) (letter : Option ℕ) (told letters : List ℕ) → IsCore h.order v → IsCrossing step → IsStep n v t step v1 t1 letter
      → HasPhaseWalk n h targets v1 t1 w u told → letters ≡ option_to_list letter ++ told → Begun v t w u letters
  crossed step v t v1 t1 w u letter told letters core crossing is walk word_is = record {
    hops = [];
    end = v;
    walk = refl;
    part = None;
    is_part = refl;
    word = letters;
    same_word = refl;
    finish = inr (record { step = step; leave = t; node = v1; after = t1; letter = letter; told = told; later = omega arith; core = core; crossing = crossing; is = is; walk = walk; word_is = word_is });
  }

  -- an entry in place of a road arc
  driven : (v to ms t w u : ℕ) (told : List ℕ) → Leads n.arcs v to ms → Begun to (t + ms) w u told → (m : ℕ) × (letter_at n.roads v ≡ Some m) × Begun v t w u (m ∷ told)
  driven v to ms t w u told leads b =
      let covered = All-contains (IsCovered h) n.arcs (record { from = v; to = to; ms = ms }) sound.arcs_covered leads in
      let f = fits n h sound v to covered.0 covered.1 in
      let lighter = covered.2 in (
        (number_of_mode f.mode),
        (letter_of n.roads v _ f.from_mode),
        record {
          hops = record { to = to; weight = covered.0 } ∷ b.hops;
          end = b.end;
          walk = (covered.1, b.walk);
          part = Some (number_of_mode f.mode);
          is_part = (letter_of n.roads v _ f.from_mode);
          word = b.word;
          same_word = told_once to (number_of_mode f.mode) b.part b.hops b.word told (letter_of n.roads to _ f.to_mode) b.is_part b.same_word;
          finish = earlier b.end ((t + ms) + total b.hops) (t + (covered.0 + total b.hops)) w u b.word (omega arith) b.finish;
        },
      )

  begin : (steps : List Step) (v t w u : ℕ) (letters : List ℕ) → AreSteps n v t steps w u letters → Contains targets w → Begun v t w u letters
  begin [] v t w u letters (there, time, none) at_end = record {
    hops = [];
    end = v;
    walk = refl;
    part = None;
    is_part = refl;
    word = [];
    same_word = ap collapse (sym none);
    finish = inl (there, (omega arith), refl);
  }
  begin (Wait until ∷ steps) v t w u letters (v1, t1, letter, more, (le, ev, et, el), steps_on, word) at_end =
      waited (begin steps v1 t1 w u more steps_on at_end)
    where
      waited : Begun v1 t1 w u more → Begun v t w u letters
      waited b = record {
        hops = b.hops;
        end = b.end;
        walk = subst (λ x. AreHops (HasEntry h.entries) x b.hops b.end) ev b.walk;
        part = b.part;
        is_part = subst (IsPart b.part b.hops) ev b.is_part;
        word = b.word;
        same_word = b.same_word ∙ ap collapse (sym (word ∙ ap (λ o. option_to_list o ++ more) el));
        finish = earlier b.end (t1 + total b.hops) (t + total b.hops) w u b.word (omega arith) b.finish;
      }
  begin (Road to ∷ steps) v t w u letters (v1, t1, letter, more, (ms, leads, ev, et, el), steps_on, word) at_end =
      let after = begin steps v1 t1 w u more steps_on at_end in
      let d = driven v to ms t w u more leads (subst (λ x. Begun to x w u more) et (subst (λ x. Begun x t1 w u more) ev after)) in
      subst (Begun v t w u) (sym (word ∙ ap (λ o. option_to_list o ++ more) (el ∙ d.1))) d.2
  begin (Link to ∷ steps) v t w u letters (v1, t1, letter, more, (ms, leads, ev, et, el), steps_on, word) at_end =
      let after = begin steps v1 t1 w u more steps_on at_end in
      crossed (Link to) v t v1 t1 w u letter more letters (link_leaves_core v to ms leads) tt (ms, leads, ev, et, el) (close v1 t1 w u more after at_end) word
  begin (Stand ∷ steps) v t w u letters (v1, t1, letter, more, (mode, is, ev, et, el), steps_on, word) at_end =
      stood (begin steps v1 t1 w u more steps_on at_end)
    where
      stood : Begun v1 t1 w u more → Begun v t w u letters
      stood b = record {
        hops = b.hops;
        end = b.end;
        walk = subst (λ x. AreHops (HasEntry h.entries) x b.hops b.end) ev b.walk;
        part = Some mode;
        is_part = is;
        word = b.word;
        same_word = told_once v mode b.part b.hops b.word more is (subst (IsPart b.part b.hops) ev b.is_part) b.same_word ∙ ap collapse (sym (word ∙ ap (λ o. option_to_list o ++ more) el));
        finish = earlier b.end (t1 + total b.hops) (t + total b.hops) w u b.word (omega arith) b.finish;
      }
  begin (Ride trip day board alight ∷ steps) v t w u letters (v1, t1, letter, more, (run, on, off, ride, ev, le, ew, et, el), steps_on, word) at_end =
      let after = begin steps v1 t1 w u more steps_on at_end in
      crossed (Ride trip day board alight) v t v1 t1 w u letter more letters (stop_is_core v on.stop ev) tt (run, on, off, ride, ev, le, ew, et, el) (close v1 t1 w u more after at_end) word

  pub has_phase_walk : (steps : List Step) (v t w u : ℕ) (letters : List ℕ) → AreSteps n v t steps w u letters → Contains targets w → HasPhaseWalk n h targets v t w u letters
  has_phase_walk steps v t w u letters walk at_end = close v t w u letters (begin steps v t w u letters walk at_end) at_end

pub journeys_have_phase_walks : JourneysHavePhaseWalks
journeys_have_phase_walks n h targets network sound = has_phase_walk n h targets network sound
