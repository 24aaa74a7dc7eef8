-- Walks of moves, as walks over numbered arcs, and conversely.
use Rattle.plan_base.proofs.Common.{◌≡◌, ℕ, Bool, List, [], ◌∷◌, ◌++◌, None, refl, sym, ap, subst, ◌∙◌, arith, Option, option_to_list}
use Rattle.search_laws.specs.{GraphMeaning, WalkStep, wait, arc, IsWalk, word_from}
use Rattle.mode_network.specs.NetworkLists.{NetworkLists}
use Rattle.hierarchy.specs.{HierarchyLists}
use Rattle.phase_graph.specs.{PhaseMove, rest, rise, fall, cross, stand, IsPhaseMove, AreMoves, phase_node, IsResting, IsPhaseGraph, HasWalk, HasMoves, PhaseGraphsHaveMoves, PhaseGraphsHaveNoOthers}

module _ (n : NetworkLists) (h : HierarchyLists) (targets : List ℕ) (g : GraphMeaning) (is : IsPhaseGraph n h targets g) where
  -- a move but a rest is an arc, and then a wait
  by_arc : (move : PhaseMove) (v : ℕ) (down : Bool) (t v1 : ℕ) (d1 : Bool) (t1 q u : ℕ) (letter : Option ℕ) (more : List ℕ) → IsPhaseMove n h targets v down t move v1 d1 t1 letter → (IsResting move → ⊥)
      → HasWalk g (phase_node v1 d1) t1 q u more → HasWalk g (phase_node v down) t q u (option_to_list letter ++ more)
  by_arc move v down t v1 d1 t1 q u letter more done moving next =
      let found = is.arc_of v down t move v1 d1 t1 letter done moving in
      let i = found.0 in
      let a = found.1 in
      let way = found.2 in
      record {
        steps = arc i ∷ wait t1 ∷ next.steps;
        walk = (a, way.has, way.arrives, (way.in_time, subst (λ p. IsWalk g p t1 next.steps q u) (sym way.to) next.walk));
        word_is = ap (λ o. option_to_list o ++ word_from g (g.arc_at (phase_node v down) i).to next.steps) way.tells
            ∙ ap (λ p. option_to_list letter ++ word_from g p next.steps) way.to ∙ ap (λ w. option_to_list letter ++ w) next.word_is;
      }

  pub walk_of : (moves : List PhaseMove) (v : ℕ) (down : Bool) (t w : ℕ) (end : Bool) (u : ℕ) (word : List ℕ) → AreMoves n h targets v down t moves w end u word
      → HasWalk g (phase_node v down) t (phase_node w end) u word
  walk_of [] v down t w end u word (ew, ed, eu, el) = record { steps = []; walk = (ap (λ x. phase_node x end) ew ∙ ap (phase_node v) ed, eu); word_is = sym el }
  walk_of (rest until ∷ moves) v down t w end u word (v1, d1, t1, letter, more, (le, ev, ed, et, el), walk, ew) =
      let next = walk_of moves v1 d1 t1 w end u more walk in
      let same : phase_node v1 d1 ≡ phase_node v down = ap (λ x. phase_node x d1) ev ∙ ap (phase_node v) ed in
      record {
        steps = wait t1 ∷ next.steps;
        walk = ((omega arith), subst (λ p. IsWalk g p t1 next.steps (phase_node w end) u) same next.walk);
        word_is = ap (λ p. word_from g p next.steps) (sym same) ∙ next.word_is ∙ sym (ew ∙ ap (λ o. option_to_list o ++ more) el);
      }
  walk_of (rise hop ∷ moves) v down t w end u word (v1, d1, t1, letter, more, done, walk, ew) =
      subst (HasWalk g (phase_node v down) t (phase_node w end) u) (sym ew) (by_arc (rise hop) v down t v1 d1 t1 (phase_node w end) u letter more done (λ x. x) (walk_of moves v1 d1 t1 w end u more walk))
  walk_of (fall hop ∷ moves) v down t w end u word (v1, d1, t1, letter, more, done, walk, ew) =
      subst (HasWalk g (phase_node v down) t (phase_node w end) u) (sym ew) (by_arc (fall hop) v down t v1 d1 t1 (phase_node w end) u letter more done (λ x. x) (walk_of moves v1 d1 t1 w end u more walk))
  walk_of (cross step ∷ moves) v down t w end u word (v1, d1, t1, letter, more, done, walk, ew) =
      subst (HasWalk g (phase_node v down) t (phase_node w end) u) (sym ew) (by_arc (cross step) v down t v1 d1 t1 (phase_node w end) u letter more done (λ x. x) (walk_of moves v1 d1 t1 w end u more walk))
  walk_of (stand ∷ moves) v down t w end u word (v1, d1, t1, letter, more, done, walk, ew) =
      subst (HasWalk g (phase_node v down) t (phase_node w end) u) (sym ew) (by_arc stand v down t v1 d1 t1 (phase_node w end) u letter more done (λ x. x) (walk_of moves v1 d1 t1 w end u more walk))

  pub moves_of : (steps : List WalkStep) (v : ℕ) (down : Bool) (t q u : ℕ) → IsWalk g (phase_node v down) t steps q u → HasMoves n h targets v down t q u (word_from g (phase_node v down) steps)
  moves_of [] v down t q u (eq, eu) = record { moves = []; to = v; end = down; walk = (refl, refl, eu, refl); is = eq }
  moves_of (wait until ∷ steps) v down t q u (le, walk) =
      let next = moves_of steps v down until q u walk in
      record {
        moves = rest until ∷ next.moves;
        to = next.to;
        end = next.end;
        walk = (v, down, until, None, word_from g (phase_node v down) steps, (le, refl, refl, refl, refl), next.walk, refl);
        is = next.is;
      }
  moves_of (arc i ∷ steps) v down t q u (s, has, arrives, walk) =
      let m = is.move_of v down t i s has arrives in
      let next = moves_of steps m.to m.down2 s q u (subst (λ p. IsWalk g p s steps q u) m.leads walk) in
      record {
        moves = m.move ∷ next.moves;
        to = next.to;
        end = next.end;
        walk = (
          m.to,
          m.down2,
          s,
          (g.arc_at (phase_node v down) i).letter,
          word_from g (phase_node m.to m.down2) steps,
          m.is,
          next.walk,
          ap (λ p. option_to_list (g.arc_at (phase_node v down) i).letter ++ word_from g p steps) m.leads,
        );
        is = next.is;
      }

pub phase_graphs_have_moves : PhaseGraphsHaveMoves
phase_graphs_have_moves n h targets g is = walk_of n h targets g is

pub phase_graphs_have_no_others : PhaseGraphsHaveNoOthers
phase_graphs_have_no_others n h targets g is = moves_of n h targets g is
