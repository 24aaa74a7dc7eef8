-- A fastest run takes no longer from call to call than its stretches.
use Rattle.plan_base.proofs.Common.{◌≡◌, ℕ, zero, suc, ◌+◌, ◌-◌, ◌^◌, ◌≤◌, List, [], ◌∷◌, refl, subst, arith, min}
use Rattle.departures.specs.{FastestCall, fastest_call, declared.fastest.Stretch.Stretch, inside.stretch_at, inside.calls_from}

-- it passes and rides to the call behind k no later than by the stretch there
pub record IsNext (calls : List FastestCall) (stretch : Stretch) (k next : ℕ) : Type 0 where
  pub pass : (fastest_call calls next).arrive ≤ (fastest_call calls k).arrive + stretch.pass
  pub ride : (fastest_call calls next).arrive ≤ (fastest_call calls k).depart + stretch.ride

first_arrives : (a : ℕ) (stretches : List Stretch) → (fastest_call (calls_from a stretches) 0).arrive ≡ a
first_arrives a [] = refl
first_arrives a (stretch ∷ stretches) = refl

next_by : (a : ℕ) (stretches : List Stretch) (k : ℕ) → IsNext (calls_from a stretches) (stretch_at stretches k) k (suc k)
next_by a [] k = record { pass = omega arith; ride = omega arith }
next_by a (stretch ∷ stretches) zero =
    let first = first_arrives (min (stretch.pass + a) (2 ^ 32 - 1)) stretches in
    record { pass = omega (arith, first); ride = omega (arith, first) }
next_by a (stretch ∷ stretches) (suc k) =
    let rest = next_by (min (stretch.pass + a) (2 ^ 32 - 1)) stretches k in
    record { pass = rest.pass; ride = rest.ride }

pub next_is : (a : ℕ) (stretches : List Stretch) (k : ℕ) → IsNext (calls_from a stretches) (stretch_at stretches k) k (k + 1)
next_is a stretches k =
    let same : suc k ≡ k + 1 = omega arith in
    subst (IsNext (calls_from a stretches) (stretch_at stretches k) k) same (next_by a stretches k)
