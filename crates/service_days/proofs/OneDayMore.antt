-- A set of days that is made day by day.
use Rattle.plan_base.proofs.Common.{◌≡◌, refl, ap, ◌∙◌, ℕ, ◌+◌, Bool, true, false, ◌&&◌, ◌||◌, ◌==◌, ltb, eqb, arith, lt-ltb, eqb-true}

-- below the next number: below this one, or this one
ltb-next : (other day : ℕ) → ltb other (day + 1) ≡ ((other == day) || ltb other day)
ltb-next other day = grind arith

pub one_day_more : (R : ℕ → Bool) (day other : ℕ) (had has : Bool) → had ≡ (ltb other day && R other) → has ≡ ((other == day) || had) → R day ≡ true → has ≡ (ltb other (day + 1) && R other)
one_day_more R day other had has before now runs =
    elim (eqb other day) as (λ v. eqb other day ≡ v → has ≡ (ltb other (day + 1) && R other)) [
      | true ↦ λ e. let same : other ≡ day = eqb-true other day e in
          now ∙ rw (e, ap R same ∙ runs, lt-ltb other (day + 1) (omega (arith, same))) refl
      | false ↦ λ e. now ∙ rw (e, before, ltb-next other day, e) refl
    ] refl

pub no_day_more : (R : ℕ → Bool) (day other : ℕ) (had : Bool) → had ≡ (ltb other day && R other) → R day ≡ false → had ≡ (ltb other (day + 1) && R other)
no_day_more R day other had before rests =
    elim (eqb other day) as (λ v. eqb other day ≡ v → had ≡ (ltb other (day + 1) && R other)) [
      | true ↦ λ e. let same : other ≡ day = eqb-true other day e in
          before ∙ rw (ap R same ∙ rests) (grind arith)
      | false ↦ λ e. before ∙ rw (ltb-next other day, e) refl
    ] refl
