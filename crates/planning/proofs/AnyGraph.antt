-- What walks reach over the graph in use does not depend on how a timetable sorts the runs into patterns.
use Rattle.plan_base.proofs.Common.{◌≡◌, ℕ, List, [], ◌∷◌, ◌++◌, Option, Some, None, refl, sym, subst, ap₂, option_to_list}
use Rattle.search_laws.specs.{GraphMeaning, LabelsMeaning, Accepts, Reads, WalkStep, wait, arc, IsWalk, word_from, ArrivesAt}
use Rattle.product_search.specs.{Label, IsArrival, HasMoreLabels, IsReachedAt, IsLeastAt}
use Rattle.automaton.specs.{collapsed}
use Rattle.phase_graph.specs.{HasWalk, Covers, CoverEachOther}
use Rattle.planning.specs.{AreLabelsOver}

-- an arc that arrives sooner is waited after, so that a walk of one graph is one of the other with its ends, times and word
module _ (g h : GraphMeaning) (covers : Covers g h) where
  walk_over : (steps : List WalkStep) (v t w u : ℕ) → IsWalk g v t steps w u → HasWalk h v t w u (word_from g v steps)
  walk_over [] v t w u is = record { steps = []; walk = is; word_is = refl }
  walk_over (wait d ∷ steps) v t w u (le, rest) =
      let more = walk_over steps v d w u rest in
      record { steps = wait d ∷ more.steps; walk = (le, more.walk); word_is = more.word_is }
  walk_over (arc i ∷ steps) v t w u (at, has, arrives, rest) =
      let way = covers v t i at has arrives in
      let by = way.2 in
      let to = (g.arc_at v i).to in
      let more = walk_over steps to at w u rest in
      record {
        steps = arc way.0 ∷ wait at ∷ more.steps;
        walk = (way.1, by.has, by.arrives, (by.in_time, subst (λ x. IsWalk h x at more.steps w u) (sym by.to) more.walk));
        word_is = ap₂ (λ (letter : Option ℕ) (word : List ℕ). option_to_list letter ++ word) by.tells
            (subst (λ x. word_from h x more.steps ≡ word_from g to steps) (sym by.to) more.word_is);
      }

  reached : (l : LabelsMeaning) (starts : List ℕ) (dep v q t : ℕ) → IsReachedAt g l starts dep v q t → IsReachedAt h l starts dep v q t
  reached l starts dep v q t r =
      let over = walk_over r.steps r.start dep v t r.walk in
      record {
        start = r.start;
        first = r.first;
        steps = over.steps;
        starts_there = r.starts_there;
        is_state = r.is_state;
        is_start = r.is_start;
        walk = over.walk;
        reads = subst (λ word. Reads l r.first word q) (sym over.word_is) r.reads;
      }

  arrives_at : (l : LabelsMeaning) (starts ends : List ℕ) (dep t : ℕ) → ArrivesAt g l starts ends dep t → ArrivesAt h l starts ends dep t
  arrives_at l starts ends dep t a =
      let over = walk_over a.steps a.start dep a.end t a.walk in
      record {
        start = a.start;
        end = a.end;
        steps = over.steps;
        starts_there = a.starts_there;
        ends_there = a.ends_there;
        walk = over.walk;
        word = subst (Accepts l) (sym over.word_is) a.word;
      }

least_over : (g h : GraphMeaning) → CoverEachOther g h → (l : LabelsMeaning) (starts : List ℕ) (dep v q t : ℕ) → IsLeastAt g l starts dep v q t → IsLeastAt h l starts dep v q t
least_over g h same l starts dep v q t is = record {
  reached = reached g h same.forth l starts dep v q t is.reached;
  least = λ u r. is.least u (reached h g same.back l starts dep v q u r);
}

alike_back : (g h : GraphMeaning) → CoverEachOther g h → CoverEachOther h g
alike_back g h same = record { nodes = sym same.nodes; forth = same.back; back = same.forth }

module _ (g h : GraphMeaning) (same : CoverEachOther g h) (automaton : LabelsMeaning) (starts ends : List ℕ) (dep : ℕ) where
  arrival_over : (arrival : Option ℕ) → IsArrival g (collapsed automaton) starts ends dep None arrival → IsArrival h (collapsed automaton) starts ends dep None arrival
  arrival_over None none = λ t within a. none t within (arrives_at h g same.back (collapsed automaton) starts ends dep t a)
  arrival_over (Some t) is = (
    record {
      reached = arrives_at g h same.forth (collapsed automaton) starts ends dep t is.0.reached;
      least = λ u a. is.0.least u (arrives_at h g same.back (collapsed automaton) starts ends dep u a);
    },
    is.1,
  )

  pub labels_over : (arrival : Option ℕ) (labels : List Label) → AreLabelsOver g automaton starts ends dep arrival labels → AreLabelsOver h automaton starts ends dep arrival labels
  labels_over arrival labels are = record {
    first = arrival_over arrival are.first;
    least = record {
      ascending = are.least.ascending;
      least = λ k d lt. (least_over g h same (collapsed automaton) starts dep _ _ _ (are.least.least k d lt).0, (are.least.least k d lt).1);
      complete = λ v q t is listed. are.least.complete v q t (least_over h g (alike_back g h same) (collapsed automaton) starts dep v q t is) listed;
    };
  }

  pub more_over : (most : ℕ) → HasMoreLabels g (collapsed automaton) starts ends dep None most → HasMoreLabels h (collapsed automaton) starts ends dep None most
  more_over most is = record {
    some = is.some;
    ascending = is.ascending;
    are = λ k d lt. (let label = is.are k d lt in record {
      least = least_over g h same (collapsed automaton) starts dep _ _ _ label.least;
      within = label.within;
      before = λ a arrives. label.before a (arrives_at h g same.back (collapsed automaton) starts ends dep a arrives);
    });
    more = is.more;
  }
