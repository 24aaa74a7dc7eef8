-- A journey without a ride takes the same time whenever it leaves.
use Rattle.plan_base.proofs.Common.{◌≡◌, ℕ, ◌+◌, ◌-◌, ◌≤◌, cond, List, [], ◌∷◌, Option, Some, None, refl, subst, arith, count_by}
use Rattle.mode_network.specs.{Step, Wait, Link, Stand, Ride, Route, AreSteps, declared.steps.Step.TheVariants.Road, NetworkLists.NetworkLists}
use Rattle.journey.specs.{Asked, Answers}
use Rattle.few_boardings.specs.{Found, is_ride, rides, IsLeastBelow}
use Rattle.few_boardings.proofs.RideLemmas.{rides_more}
use Rattle.latest_departure.specs.inside.{leaving}
use Rattle.departures.specs.{IsWithout, IsAsLong, WithoutIsTheSame}

-- a step that is no ride leaves the count
rest_none : (step : Step) (steps : List Step) → count_by is_ride (step ∷ steps) ≡ 0 → count_by is_ride steps ≡ 0
rest_none step steps none = let count = rides_more step steps in omega arith

more_none : (step : Step) (steps : List Step) → cond {A = ℕ} (is_ride step) 1 0 ≡ 0 → count_by is_ride steps ≡ 0 → count_by is_ride (step ∷ steps) ≡ 0
more_none step steps no_ride none = let count = rides_more step steps in omega arith

module _ (n : NetworkLists) where
  -- steps without a ride from v at s to w, which take as long as from t to u
  record AreMoved (v t w u : ℕ) (letters : List ℕ) (s : ℕ) : Type 0 where
    steps : List Step
    at : ℕ
    are : AreSteps n v s steps w at letters
    without : count_by is_ride steps ≡ 0
    takes : at + t ≡ u + s

  moved : (v t : ℕ) (steps : List Step) (w u : ℕ) (letters : List ℕ) (s : ℕ) → count_by is_ride steps ≡ 0 → AreSteps n v t steps w u letters → AreMoved v t w u letters s
  moved v t [] w u letters s none (there, now, empty) = record { steps = []; at = s; are = (there, refl, empty); without = refl; takes = omega arith }
  moved v t (Wait until ∷ steps) w u letters s none (v1, t1, c, rest, (later, same, now, letter), more, e) =
      let after = moved v1 t1 steps w u rest (s + (until - t)) (rest_none (Wait until) steps none) more in
      let takes = after.takes in
      record {
        steps = Wait (s + (until - t)) ∷ after.steps;
        at = after.at;
        are = (v1, s + (until - t), c, rest, (omega arith, same, refl, letter), after.are, e);
        without = more_none (Wait (s + (until - t))) after.steps refl after.without;
        takes = omega arith;
      }
  moved v t (Road to ∷ steps) w u letters s none (v1, t1, c, rest, (ms, leads, there, then, letter), more, e) =
      let after = moved v1 t1 steps w u rest (s + ms) (rest_none (Road to) steps none) more in
      let takes = after.takes in
      record {
        steps = Road to ∷ after.steps;
        at = after.at;
        are = (v1, s + ms, c, rest, (ms, leads, there, refl, letter), after.are, e);
        without = more_none (Road to) after.steps refl after.without;
        takes = omega arith;
      }
  moved v t (Link to ∷ steps) w u letters s none (v1, t1, c, rest, (ms, leads, there, then, letter), more, e) =
      let after = moved v1 t1 steps w u rest (s + ms) (rest_none (Link to) steps none) more in
      let takes = after.takes in
      record {
        steps = Link to ∷ after.steps;
        at = after.at;
        are = (v1, s + ms, c, rest, (ms, leads, there, refl, letter), after.are, e);
        without = more_none (Link to) after.steps refl after.without;
        takes = omega arith;
      }
  moved v t (Stand ∷ steps) w u letters s none (v1, t1, c, rest, (mode, is, there, then, letter), more, e) =
      let after = moved v1 t1 steps w u rest s (rest_none Stand steps none) more in
      let takes = after.takes in
      record {
        steps = Stand ∷ after.steps;
        at = after.at;
        are = (v1, s, c, rest, (mode, is, there, refl, letter), after.are, e);
        without = more_none Stand after.steps refl after.without;
        takes = omega arith;
      }
  moved v t (Ride trip day board alight ∷ steps) w u letters s none are =
      let count = rides_more (Ride trip day board alight) steps in absurd (omega arith)

  module _ (q : Asked) where
    -- a journey without a ride that leaves at s, and takes as long as another
    pub record LeavesAt (k : Route) (u s : ℕ) : Type 0 where
      pub journey : Route
      pub arrival : ℕ
      pub answers : Answers n (leaving q s) journey arrival
      pub departs : journey.at ≡ s
      pub without : rides journey ≡ 0
      pub takes : arrival + k.at ≡ u + s

    pub leaves_at : (k : Route) (u : ℕ) → rides k ≡ 0 → Answers n q k u → (s : ℕ) → LeavesAt k u s
    leaves_at k u none answers s =
        let after = moved k.start k.at k.steps answers.end u answers.real.letters s none answers.real.steps in
        record {
          journey = record { start = k.start; at = s; steps = after.steps };
          arrival = after.at;
          answers = record {
            end = answers.end;
            word = answers.word;
            starts_at_copy = answers.starts_at_copy;
            not_before = omega arith;
            real = record { letters = answers.real.letters; steps = after.are; word_is = answers.real.word_is };
            ends_at_copy = answers.ends_at_copy;
            denoted = answers.denoted;
          };
          departs = refl;
          without = after.without;
          takes = after.takes;
        }

pub without_is_the_same : WithoutIsTheSame
without_is_the_same n q None t none = λ k u no_ride answers.
    let there = leaves_at n (leaving q t) k u no_ride answers q.depart in
    none there.journey there.arrival there.without there.answers
without_is_the_same n q (Some c) t shortest =
    let own = leaves_at n q shortest.journey (shortest.journey.at + c) shortest.without shortest.answers t in
    let takes = own.takes in
    let departs = own.departs in
    let same : own.arrival ≡ own.journey.at + c = omega arith in
    record {
      journey = own.journey;
      answers = subst (Answers n (leaving q t) own.journey) same own.answers;
      without = own.without;
      least = λ k u no_ride answers.
          let there = leaves_at n (leaving q t) k u no_ride answers q.depart in
          let least = shortest.least there.journey there.arrival there.without there.answers in
          let at = there.departs in let long = there.takes in omega arith;
    }

-- a journey without a ride takes no less time than any does
pub without_long : (n : NetworkLists) (q : Asked) (c : Option ℕ) → IsWithout n q c → (k : Route) (u : ℕ) → rides k ≡ 0 → Answers n q k u → IsAsLong c k.at u
without_long n q None none k u no_ride answers = none k u no_ride answers
without_long n q (Some c) shortest k u no_ride answers = shortest.least k u no_ride answers

-- the least arrival without a ride, from the departure on, tells how long it takes
pub without_found : (n : NetworkLists) (q : Asked) (f : Found) → IsLeastBelow n q 1 (Some f) → IsWithout n q (Some (f.arrival - q.depart)) × (q.depart ≤ f.arrival)
without_found n q f found =
    let j = f.row.journey in
    let below = found.below in
    let boards = found.boards in
    let none : rides j ≡ 0 = omega arith in
    let late = found.answers.not_before in
    let first = leaves_at n q j f.arrival none found.answers 0 in
    let rises = first.takes in
    let at_once = leaves_at n q j f.arrival none found.answers q.depart in
    let takes = at_once.takes in
    let own = found.least at_once.journey at_once.arrival (let no = at_once.without in omega arith) at_once.answers in
    let same : f.arrival ≡ j.at + (f.arrival - q.depart) = omega arith in (
      record {
        journey = j;
        answers = subst (Answers n q j) same found.answers;
        without = none;
        least = λ k u no_ride answers.
            let there = leaves_at n q k u no_ride answers q.depart in
            let least = found.least there.journey there.arrival (let no = there.without in omega arith) there.answers in
            let long = there.takes in omega arith;
      },
      omega arith,
    )

pub without_none : (n : NetworkLists) (q : Asked) → IsLeastBelow n q 1 None → IsWithout n q None
without_none n q none = λ k u no_ride answers. none k u (omega arith) answers
