-- The hops of an answer as a walk of the graph.
use Rattle.plan_base.proofs.Common.{ℕ, List, [], ◌∷◌, subst}
use Rattle.search_laws.specs.{GraphMeaning, LabelsMeaning, Reads, WalkStep, arc, IsWalk, word_from}
use Rattle.search_laws.proofs.WalkLemmas.{join_read}
use Rattle.product_search.specs.{Hop, AreWalkHops}

abbrev pub arcs_of : List Hop → List WalkStep
arcs_of [] = []
arcs_of (h ∷ hops) = arc h.arc ∷ arcs_of hops

-- they are a walk without waits
pub walk_of_hops : (g : GraphMeaning) (l : LabelsMeaning) (hops : List Hop) (v q t v2 q2 t2 : ℕ) → AreWalkHops g l v q t hops v2 q2 t2 → IsWalk g v t (arcs_of hops) v2 t2
walk_of_hops g l [] v q t v2 q2 t2 (ev, eq, et) = (ev, et)
walk_of_hops g l (h ∷ hops) v q t v2 q2 t2 (hop, rest) =
    (h.at, hop.has, hop.arrives, subst (λ w. IsWalk g w h.at (arcs_of hops) v2 t2) hop.to (walk_of_hops g l hops h.to h.state h.at v2 q2 t2 rest))

-- and the automaton reads its word
pub reads_of_hops : (g : GraphMeaning) (l : LabelsMeaning) (hops : List Hop) (v q t v2 q2 t2 : ℕ) → AreWalkHops g l v q t hops v2 q2 t2 → Reads l q (word_from g v (arcs_of hops)) q2
reads_of_hops g l [] v q t v2 q2 t2 (ev, eq, et) = eq
reads_of_hops g l (h ∷ hops) v q t v2 q2 t2 (hop, rest) =
    join_read l (g.arc_at v h.arc).letter q h.state q2 (word_from g (g.arc_at v h.arc).to (arcs_of hops)) hop.state
    (subst (λ w. Reads l h.state (word_from g w (arcs_of hops)) q2) hop.to (reads_of_hops g l hops h.to h.state h.at v2 q2 t2 rest))
