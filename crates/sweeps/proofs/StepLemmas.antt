-- One leg more of a row that is taken.
use Rattle.plan_base.proofs.Common.{◌≡◌, ℕ, ◌+◌, ◌-◌, ◌<◌, ◌≤◌, ◌^◌, ◌⊎◌, inl, inr, List, [], ◌∷◌, ◌++◌, ◌∙◌, sym, arith, All-push, All-weaker, Contains-append_left, Contains-push, cases_lt}
use Rattle.search_laws.specs.{Leg}
use Rattle.sweeps.specs.Sweeps.{time_at, ArrivesBy}
use Rattle.sweeps.specs.inside.Steps.{IsLowered, AreSpread, IsGathered, IsGatheredBy}

-- u is the sum of a and b, or the greatest number if that is more
pub record IsSum (a b u : ℕ) : Type 0 where
  pub small : a + b < 2 ^ 32 → u ≡ a + b
  pub great : 2 ^ 32 ≤ a + b → u ≡ 2 ^ 32 - 1

pub is_sum : (a b u : ℕ) → IsSum a b u → u + 1 < 2 ^ 32 → u ≡ a + b
is_sum a b u sum less = elim (cases_lt (a + b) (2 ^ 32)) [
  | inl small ↦ sum.small small
  | inr great ↦ (let most = sum.great great in absurd (omega arith))
]

pub spread_more : (t : ℕ) (legs : List Leg) (leg : Leg) (before now next : List ℕ) (u : ℕ) → AreSpread t legs before now → IsSum t leg.ms u → IsLowered leg.to u now next → AreSpread t (legs ++ leg ∷ []) before next
spread_more t legs leg before now next u spread sum lowered = record {
  as_many = lowered.as_many ∙ spread.as_many;
  no_later = λ j. omega (arith, sooner j, spread.no_later j);
  reached = All-push (λ (x : Leg). ArrivesBy (2 ^ 32) t x.ms (time_at next x.to)) legs leg
      (All-weaker (λ (x : Leg). ArrivesBy (2 ^ 32) t x.ms (time_at now x.to)) (λ (x : Leg). ArrivesBy (2 ^ 32) t x.ms (time_at next x.to)) (λ x is below. omega (arith, is below, sooner x.to)) legs spread.reached)
      (λ below. omega (arith, lowered.there, sum.small below));
  changed = λ j. elim (lowered.each j) [
    | inl stays ↦ elim (spread.changed j) [
      | inl before ↦ inl (stays ∙ before)
      | inr by ↦ inr (record { leg = by.leg; of = Contains-append_left legs (leg ∷ []) by.leg by.of; to = by.to; at = stays ∙ by.at })
    ]
    | inr (place, at, less, small) ↦ inr (record { leg = leg; of = Contains-push legs leg; to = sym place; at = at ∙ is_sum t leg.ms u sum small })
  ];
} where
  sooner : (j : ℕ) → time_at next j ≤ time_at now j
  sooner j = elim (lowered.each j) [
    | inl stays ↦ omega arith
    | inr (place, at, less, small) ↦ omega arith
  ]

pub gathered_more : (times : List ℕ) (t : ℕ) (legs : List Leg) (leg : Leg) (u v r : ℕ) → t < 2 ^ 32 → IsGathered times t legs u → IsSum (time_at times leg.to) leg.ms v → r ≤ u → r ≤ v → (r ≡ u) ⊎ (r ≡ v) → IsGathered times t (legs ++ leg ∷ []) r
gathered_more times t legs leg u v r small gathered sum first second is = record {
  no_later = omega (arith, gathered.no_later);
  reached = All-push (λ (x : Leg). ArrivesBy (2 ^ 32) (time_at times x.to) x.ms r) legs leg
      (All-weaker (λ (x : Leg). ArrivesBy (2 ^ 32) (time_at times x.to) x.ms u) (λ (x : Leg). ArrivesBy (2 ^ 32) (time_at times x.to) x.ms r) (λ x is below. omega (arith, is below)) legs gathered.reached)
      (λ below. omega (arith, sum.small below));
  changed = elim is [
    | inl same ↦ kept same
    | inr other ↦ elim (cases_lt (v + 1) (2 ^ 32)) [
      | inl less ↦ inr (record { leg = leg; of = Contains-push legs leg; at = other ∙ is_sum (time_at times leg.to) leg.ms v sum less })
      | inr most ↦ kept (omega (arith, gathered.no_later))
    ]
  ];
} where
  kept : r ≡ u → (r ≡ t) ⊎ IsGatheredBy times (legs ++ leg ∷ []) r
  kept same = elim (gathered.changed) [
    | inl stays ↦ inl (same ∙ stays)
    | inr by ↦ inr (record { leg = by.leg; of = Contains-append_left legs (leg ∷ []) by.leg by.of; at = same ∙ by.at })
  ]
