-- The journey of an accepted walk answers what is asked, and a journey that answers is an accepted walk, whatever automaton accepts.
use Rattle.plan_base.proofs.Common.{◌≡◌, ℕ, ◌^◌, ◌<◌, ◌∙◌, List, ◌∷◌, Option, Some, None, refl, sym, subst, arith, slice_index_or}
use Rattle.search_laws.specs.{LabelsMeaning, Accepts, wait, ArrivesAt, collapse}
use Rattle.product_search.specs.{Walk, IsWalkTo, IsWalkFor}
use Rattle.product_search.proofs.HopLemmas.{reads_of_hops}
use Rattle.plain_graph.specs.{plain_meaning, JourneysAreWalks}
use Rattle.mode_expression.specs.{IsWordOf}
use Rattle.timetable_arcs.specs.{TableLists}
use Rattle.mode_network.specs.{Step, Wait, Link, Stand, Ride, IsNetwork, Route, AreSteps, IsCopy, declared.steps.Step.TheVariants.Road, NetworkLists.NetworkLists}
use Rattle.journey.specs.{Asked, Answers, IsPrintable, BoardsOnTime, HasTime, AreTheCopies}
use Rattle.journey.proofs.CopyLemmas.{copy_in_range}
use Rattle.unpack.specs.{IsSoon, letters_of, node_after, IsPlainWalk, TakesHops}
use Rattle.unpack.proofs.UnpackLemmas.{hops_end, hops_letters, plain_hops}

-- a step that is soon has a time
pub has_time : (step : Step) → IsSoon step → HasTime step
has_time (Wait until) soon = omega arith
has_time (Road to) soon = tt
has_time (Link to) soon = tt
has_time Stand soon = tt
has_time (Ride trip day board alight) soon = tt

module _ (n : NetworkLists) (table : TableLists) (q : Asked) (l : LabelsMeaning) (origins destinations : List ℕ) (from : AreTheCopies n q.from origins)
    (to : AreTheCopies n q.to destinations) where
  -- a journey that answers, with letters that are accepted, is an accepted walk
  pub arrives : JourneysAreWalks n table → (k : Route) (t : ℕ) (a : Answers n q k t) → Accepts l a.real.letters → ArrivesAt (plain_meaning n table) l origins destinations q.depart t
  arrives journeys k t a accepted =
      let walk = journeys k.start k.at k.steps a.end t a.real.letters a.real.steps in
      record {
        start = k.start;
        end = a.end;
        steps = wait k.at ∷ walk.walk;
        starts_there = (from.are k.start).1 a.starts_at_copy;
        ends_there = (to.are a.end).1 a.ends_at_copy;
        walk = (a.not_before, walk.leads);
        word = subst (Accepts l) (sym walk.word) accepted;
      }

  -- a walk that was found is one of the network's graph
  pub walk_is_plain : (arrival : Option ℕ) (walk : Option Walk) → IsWalkFor (plain_meaning n table) l origins destinations q.depart arrival walk → IsPlainWalk n table walk
  walk_is_plain None None is = tt
  walk_is_plain None (Some w) is = absurd is
  walk_is_plain (Some a) None is = absurd is
  walk_is_plain (Some a) (Some w) is = plain_hops n table l w.hops.items w.node w.state w.at is.end is.final a is.hops

  module _ (a : ℕ) (w : Walk) (j : Route) (is : IsWalkTo (plain_meaning n table) l origins destinations q.depart a w) (takes : TakesHops n table w j) where
    pub leaves : j.at ≡ q.depart
    leaves = takes.at ∙ is.leaves

    -- its letters are accepted
    pub accepted : Accepts l (letters_of n table w.node w.hops.items)
    accepted =
        let same = hops_letters n table l w.hops.items w.node w.state w.at is.end is.final a is.hops in
        let read = reads_of_hops (plain_meaning n table) l w.hops.items w.node w.state w.at is.end is.final a is.hops in
        subst (Accepts l) (sym same) (w.state, is.final, is.is_state, is.is_start, read, is.accepts)

    -- where they are denoted, its journey answers
    pub walk_answers : IsWordOf q.form (collapse (letters_of n table w.node w.hops.items)) → Answers n q j a
    walk_answers denoted =
        let letters = letters_of n table w.node w.hops.items in
        let ends = hops_end n table l w.hops.items w.node w.state w.at is.end is.final a is.hops in
        let at = leaves in
        record {
          end = is.end;
          word = collapse letters;
          starts_at_copy = subst (IsCopy n q.from) (sym takes.start) ((from.are w.node).0 is.starts_there);
          not_before = omega arith;
          real = record {
            letters = letters;
            steps = subst (λ x. AreSteps n j.start j.at j.steps x a letters) ends.0
                (subst (λ y. AreSteps n j.start j.at j.steps (node_after w.node w.hops.items) y letters) ends.1 takes.real);
            word_is = refl;
          };
          ends_at_copy = (to.are is.end).0 is.ends_there;
          denoted = denoted;
        }

    pub walk_boards : BoardsOnTime n j
    walk_boards = record { end = _; arrival = _; letters = _; are = takes.boarded }

    -- and it can be printed
    pub walk_printable : IsNetwork n → q.depart < 2 ^ 64 → IsCopy n q.from j.start → IsPrintable n j
    walk_printable network soon copy =
        let at = leaves in
        record {
          node = copy_in_range n network q.from j.start copy;
          times = record { at = omega arith; waits = λ k d h. has_time (slice_index_or j.steps k d) (takes.soon k d h) };
          taken = record { end = _; arrival = _; letters = _; are = takes.real };
        }
