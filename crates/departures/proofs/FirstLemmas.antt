-- What a search finds from a moment on is a journey with a ride that arrives first.
use Rattle.plan_base.proofs.Common.{◌≡◌, ℕ, ◌+◌, ◌^◌, ◌<◌, ◌≤◌, ◌∙◌, List, [], ◌∷◌, Option, Some, None, sym, ap, subst, arith, All, IfSome, count_by}
use Rattle.search_laws.specs.{GraphMeaning, LabelsMeaning, Accepts, ArrivesAt, IsLeast}
use Rattle.product_search.specs.{Walk, IsArrival, IsWalkTo, IsWalkFor, last_time}
use Rattle.plain_graph.specs.{plain_meaning, JourneysAreWalks}
use Rattle.mode_expression.specs.{IsWordOf}
use Rattle.timetable_arcs.specs.{TableLists}
use Rattle.mode_network.specs.{Step, IsNetwork, Route, AreSteps, IsCopy, NetworkLists.NetworkLists}
use Rattle.journey.specs.{Asked, Answers, IsPrintable, AreOnTime, BoardsOnTime, AreTheCopies, HasTime}
use Rattle.journey.proofs.{CopyLemmas.copy_in_range, StepLemmas.steps_once}
use Rattle.unpack.specs.{IsSoon, node_after, arrival_after, letters_of}
use Rattle.unpack.proofs.TakenLemmas as taken
use Rattle.latest_departure.specs.inside.{leaving}
use Rattle.few_boardings.specs.{transits, is_ride, rides}
use Rattle.few_boardings.proofs.RideLemmas.{letters_count}
use Rattle.departures.specs.{Pair, Row, SetsOff, IsPair, IsRidden, inside.IsSetOff, inside.ReadsRides, inside.IsRowFor, inside.IsRowUnpacked, inside.IsFirstRow, inside.IsFirstRowFrom}
use Rattle.departures.proofs.{ReaderLemmas.pair_rises, SettingOffLemmas.sets_off, SettingOffLemmas.same_rides, SettingOffLemmas.have_times}

-- what answers from one moment on answers from each moment on before it departs
asked_from : (n : NetworkLists) (q : Asked) (s t : ℕ) (k : Route) (u : ℕ) → Answers n (leaving q s) k u → t ≤ k.at → Answers n (leaving q t) k u
asked_from n q s t k u answers late = record {
  end = answers.end;
  word = answers.word;
  starts_at_copy = answers.starts_at_copy;
  not_before = late;
  real = answers.real;
  ends_at_copy = answers.ends_at_copy;
  denoted = answers.denoted;
}

-- steps that are on time are steps
are_steps : (n : NetworkLists) (v t : ℕ) (steps : List Step) (w u : ℕ) (letters : List ℕ) → AreOnTime n v t steps w u letters → AreSteps n v t steps w u letters
are_steps n v t [] w u letters are = are
are_steps n v t (step ∷ steps) w u letters (v1, t1, letter, rest, is, departs, more, e) = (v1, t1, letter, rest, is, are_steps n v1 t1 steps w u rest more, e)

-- ---- the journey that sets off as late as it may

module _ (n : NetworkLists) (network : IsNetwork n) (q : Asked) (j k : Route) (a : ℕ) (answers : Answers n q j a) (boards : BoardsOnTime n j) (off : IsSetOff n j k) where
  off_on_time : AreOnTime n k.start k.at k.steps answers.end a answers.real.letters
  off_on_time =
      let same = steps_once n network j.start j.at j.steps boards.end boards.arrival boards.letters answers.end a answers.real.letters
      (are_steps n j.start j.at j.steps boards.end boards.arrival boards.letters boards.are) answers.real.steps in
      let on : AreOnTime n j.start j.at j.steps answers.end a answers.real.letters =
      subst (λ w. AreOnTime n j.start j.at j.steps w a answers.real.letters) same.0
      (subst (λ u. AreOnTime n j.start j.at j.steps boards.end u answers.real.letters) same.1
      (subst (λ (ls : List ℕ). AreOnTime n j.start j.at j.steps boards.end boards.arrival ls) same.2 boards.are)) in
      subst (λ v. AreOnTime n v k.at k.steps answers.end a answers.real.letters) (sym off.start)
      (subst (λ t. AreOnTime n j.start t k.steps answers.end a answers.real.letters) (sym off.at)
      (subst (λ (s : List Step). AreOnTime n j.start (j.at + off.later) s answers.end a answers.real.letters) (sym off.steps)
      (off.leaves answers.end a answers.real.letters on)))

  off_steps : AreSteps n k.start k.at k.steps answers.end a answers.real.letters
  off_steps = are_steps n k.start k.at k.steps answers.end a answers.real.letters off_on_time

  pub off_answers : Answers n q k a
  off_answers = record {
    end = answers.end;
    word = answers.word;
    starts_at_copy = subst (IsCopy n q.from) (sym off.start) answers.starts_at_copy;
    not_before = (let at = off.at in let late = answers.not_before in omega arith);
    real = record { letters = answers.real.letters; steps = off_steps; word_is = answers.real.word_is };
    ends_at_copy = answers.ends_at_copy;
    denoted = answers.denoted;
  }

  pub off_boards : BoardsOnTime n k
  off_boards = record { end = answers.end; arrival = a; letters = answers.real.letters; are = off_on_time }

  pub off_rides : rides k ≡ rides j
  off_rides = ap (λ (s : List Step). count_by is_ride s) off.steps ∙ same_rides j.steps

  pub off_at_once : SetsOff k.steps
  off_at_once = subst SetsOff (sym off.steps) (sets_off j.steps)

  pub off_printable : All IsSoon j.steps → IsPrintable n k
  off_printable soon = record {
    node = copy_in_range n network q.from k.start off_answers.starts_at_copy;
    times = record {
      at = off.soon;
      waits = subst (All HasTime) (sym off.steps) (have_times j.steps (λ i d within. taken.has_time _ (soon i d within)));
    };
    taken = record { end = answers.end; arrival = a; letters = answers.real.letters; are = off_steps };
  }

-- ---- what a search finds

-- a walk that was found leaves when the search began
pub walk_soon : (g : GraphMeaning) (l : LabelsMeaning) (origins destinations : List ℕ) (t : ℕ) (arrival : Option ℕ) (walk : Option Walk)
    → IsWalkFor g l origins destinations t arrival walk → t < 2 ^ 64 → IfSome walk (λ w. w.at < 2 ^ 64)
walk_soon g l origins destinations t None None is soon = tt
walk_soon g l origins destinations t None (Some w) is soon = absurd is
walk_soon g l origins destinations t (Some a) None is soon = absurd is
walk_soon g l origins destinations t (Some a) (Some w) is soon = let leaves = is.leaves in omega arith

module _ (n : NetworkLists) (network : IsNetwork n) (table : TableLists) (q : Asked) (l : LabelsMeaning) (origins destinations : List ℕ) (reads : ReadsRides q.form l)
    (journeys : JourneysAreWalks n table) (from : AreTheCopies n q.from origins) (to : AreTheCopies n q.to destinations) (t : ℕ) (late : q.depart ≤ t) where
  -- the letters of a journey that answers and has a ride are accepted
  accepts : (s : ℕ) (k : Route) (u : ℕ) (answers : Answers n (leaving q s) k u) → 0 < rides k → Accepts l answers.real.letters
  accepts s k u answers ridden =
      let word = subst (IsWordOf q.form) answers.real.word_is answers.denoted in
      let count : 1 ≤ transits answers.real.letters = omega (arith, letters_count n network k.start k.at k.steps answers.end u answers.real.letters answers.real.steps) in
      (reads answers.real.letters).1 (word, count)

  -- where no word is accepted, there is none
  pub none_accepted : ((word : List ℕ) → Accepts l word → ⊥) → IsFirstRowFrom n q t None
  none_accepted none p (k, is) at = none is.answers.real.letters (accepts q.depart k p.arrive is.answers is.rides)

  -- each pair that departs from then on is an accepted walk
  pub arrives : (p : Pair) → IsPair n q p → t ≤ p.depart → ArrivesAt (plain_meaning n table) l origins destinations t p.arrive
  arrives p (k, is) at =
      let answers = asked_from n q q.depart t k p.arrive is.answers (let departs = is.departs in omega arith) in
      taken.arrives n table (leaving q t) l origins destinations from to journeys k p.arrive answers (accepts t k p.arrive answers is.rides)

  first_found : (a : ℕ) (w : Walk) (row : Row) → IsLeast (plain_meaning n table) l origins destinations t a → IsWalkTo (plain_meaning n table) l origins destinations t a w
      → t < 2 ^ 64 → a ≤ last_time t → IsRowFor n table a w row → IsFirstRow n q t row
  first_found a w row least is soon within found =
      let j = found.journey in
      let k = row.journey in
      let takes = found.takes in
      let letters = letters_of n table w.node w.hops.items in
      let both = (reads letters).0 (taken.accepted n table (leaving q t) l origins destinations from to a w j is takes) in
      let leaves = taken.leaves n table (leaving q t) l origins destinations from to a w j is takes in
      let own = asked_from n q t q.depart j a (taken.walk_answers n table (leaving q t) l origins destinations from to a w j is takes both.0) (omega arith) in
      let boards = taken.walk_boards n table (leaving q t) l origins destinations from to a w j is takes in
      let count = letters_count n network j.start j.at j.steps (node_after w.node w.hops.items) (arrival_after w.at w.hops.items) letters takes.real in
      let ridden : IsRidden n q row.pair k = record {
        answers = subst (Answers n q k) (sym found.arrives) (off_answers n network q j k a own boards found.set_off);
        departs = found.departs;
        rides = (let some = both.1 in let same = off_rides n network q j k a own boards found.set_off in omega arith);
      } in
      record {
        is_row = record {
          ridden = ridden;
          boarded = off_boards n network q j k a own boards found.set_off;
          sets_off = off_at_once n network q j k a own boards found.set_off;
        };
        late = (let at = found.set_off.at in let departs = found.departs in omega arith);
        least = λ p pair at. subst (λ x. x ≤ p.arrive) (sym found.arrives) (least.least p.arrive (arrives p pair at));
        rises = pair_rises n network q row.pair (k, ridden);
        soon = (let arrives = found.arrives in omega arith);
        printable = off_printable n network q j k a own boards found.set_off takes.soon;
      }

  -- what was found, unpacked
  pub first_row : (arrival : Option ℕ) (walk : Option Walk) (row : Option Row) → IsArrival (plain_meaning n table) l origins destinations t None arrival
      → IsWalkFor (plain_meaning n table) l origins destinations t arrival walk → t < 2 ^ 64 → IfSome arrival (λ a. a ≤ last_time t) → IsRowUnpacked n table arrival walk row → IsFirstRowFrom n q t row
  first_row None walk row none is soon within unpacked = subst (IsFirstRowFrom n q t) (sym unpacked) (λ p pair at. none p.arrive tt (arrives p pair at))
  first_row (Some a) None row least is soon within unpacked = absurd is
  first_row (Some a) (Some w) None least is soon within unpacked = absurd unpacked
  first_row (Some a) (Some w) (Some row) least is soon within unpacked = first_found a w row least.0 is soon within unpacked
