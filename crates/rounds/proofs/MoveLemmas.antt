-- Walks over the phase graph that go on by moves.
use Rattle.plan_base.proofs.Common.{◌≡◌, ◌<◌, ℕ, Bool, List, [], ◌∷◌, ◌++◌, Option, refl, sym, ◌∙◌, ap, subst, subst₂, append_assoc, append-nil, option_to_list}
use Rattle.search_laws.specs.{GraphMeaning, LabelsMeaning, IsLawfulLabels, Reads, Follows, WalkStep, wait, arc, IsWalk, word_from}
use Rattle.search_laws.proofs.WalkLemmas.{reads_more, reads_one}
use Rattle.product_search.specs.{IsReachedAt}
use Rattle.mode_network.specs.{NetworkLists.NetworkLists}
use Rattle.hierarchy.specs.{HierarchyLists}
use Rattle.phase_graph.specs.{PhaseMove, IsPhaseMove, phase_node, IsPhaseGraph}
use Rattle.phase_graph.proofs.{ArcLemmas.walk_of}

-- one walk, and then another
pub walk_then : (g : GraphMeaning) (walk more : List WalkStep) (v t w u x y : ℕ) → IsWalk g v t walk w u → IsWalk g w u more x y → IsWalk g v t (walk ++ more) x y
walk_then g [] more v t w u x y (there, now) next = subst₂ (λ p s. IsWalk g p s more x y) there now next
walk_then g (wait at ∷ walk) more v t w u x y (later, leads) next = (later, walk_then g walk more v at w u x y leads next)
walk_then g (arc i ∷ walk) more v t w u x y (at, has, arrives, leads) next = (at, has, arrives, walk_then g walk more (g.arc_at v i).to at w u x y leads next)

-- its word is that of both
pub word_then : (g : GraphMeaning) (walk more : List WalkStep) (v t w u : ℕ) → IsWalk g v t walk w u → word_from g v (walk ++ more) ≡ word_from g v walk ++ word_from g w more
word_then g [] more v t w u (there, now) = ap (λ p. word_from g p more) (sym there)
word_then g (wait at ∷ walk) more v t w u (later, leads) = word_then g walk more v at w u leads
word_then g (arc i ∷ walk) more v t w u (at, has, arrives, leads) =
    let first : List ℕ = option_to_list (g.arc_at v i).letter in
    ap (λ x. first ++ x) (word_then g walk more (g.arc_at v i).to at w u leads) ∙ sym (append_assoc first (word_from g (g.arc_at v i).to walk) (word_from g w more))

module _ (n : NetworkLists) (h : HierarchyLists) (targets : List ℕ) (g : GraphMeaning) (is : IsPhaseGraph n h targets g) (l : LabelsMeaning) (starts : List ℕ) (dep : ℕ) where
  -- where a move leads from what is reached is reached
  pub reached_on : (move : PhaseMove) (v : ℕ) (down : Bool) (t q w : ℕ) (end : Bool) (u r : ℕ) (letter : Option ℕ) → IsReachedAt g l starts dep (phase_node v down) q t
      → IsPhaseMove n h targets v down t move w end u letter → Follows l q letter r → IsReachedAt g l starts dep (phase_node w end) r u
  reached_on move v down t q w end u r letter reached done follows =
      let told : List ℕ = option_to_list letter in
      let before : List ℕ = word_from g reached.start reached.steps in
      let walk = walk_of n h targets g is (move ∷ []) v down t w end u told (w, end, u, letter, [], done, (refl, refl, refl, refl), sym (append-nil told)) in
      record {
        start = reached.start;
        first = reached.first;
        steps = reached.steps ++ walk.steps;
        starts_there = reached.starts_there;
        is_state = reached.is_state;
        is_start = reached.is_start;
        walk = walk_then g reached.steps walk.steps reached.start dep (phase_node v down) t (phase_node w end) u reached.walk walk.walk;
        reads = subst (λ x. Reads l reached.first x r) (sym (word_then g reached.steps walk.steps reached.start dep (phase_node v down) t reached.walk ∙ ap (λ x. before ++ x) walk.word_is))
            (reads_more l before told reached.first q r reached.reads (reads_one l letter q r follows));
      }

-- a state from which a word leads to one is one
pub word_in_range : (l : LabelsMeaning) → IsLawfulLabels l → (word : List ℕ) (q r : ℕ) → q < l.states → Reads l q word r → r < l.states
word_in_range l lawful [] q r within same = subst (λ s. s < l.states) (sym same) within
word_in_range l lawful (c ∷ word) q r within (p, (i, move), reads) = word_in_range l lawful word p r (subst (λ s. s < l.states) move.to (lawful.to_in_range q i within move.place)) reads

-- what is reached is reached in a state
pub reached_state : (g : GraphMeaning) (l : LabelsMeaning) → IsLawfulLabels l → (starts : List ℕ) (dep p q t : ℕ) → IsReachedAt g l starts dep p q t → q < l.states
reached_state g l lawful starts dep p q t reached = word_in_range l lawful (word_from g reached.start reached.steps) reached.first q reached.is_state reached.reads
