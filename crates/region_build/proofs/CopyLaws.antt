-- The departures of a headway, one after the other.
use Rattle.plan_base.proofs.Common.{◌≡◌, ℕ, zero, suc, ◌+◌, ◌-◌, ◌<◌, List, [], ◌∷◌, ◌++◌, true, nat_lt, refl, sym, ap, ◌∙◌, arith, append_assoc, nat_tests}
use Rattle.region_build.specs.{departing}

-- one time more
departing-more : (most t end headway : ℕ) → 0 < most → t < end → departing most t end headway ≡ t ∷ departing (most - 1) (t + headway) end headway
departing-more zero t end headway some before = absurd (omega arith)
departing-more (suc most) t end headway some before =
    let same : suc most - 1 ≡ most = omega arith in
    let test : nat_lt t end ≡ true = grind (arith, nat_tests, before) in
    rw (test, same) refl

pub departs : (old new all : List ℕ) (most t end headway : ℕ) → 0 < most → t < end → new ≡ old ++ t ∷ [] → old ++ departing most t end headway ≡ all → new ++ departing (most - 1) (t + headway) end headway ≡ all
departs old new all most t end headway some before pushed so_far =
    ap (λ front. front ++ departing (most - 1) (t + headway) end headway) pushed ∙ append_assoc old (t ∷ []) (departing (most - 1) (t + headway) end headway)
    ∙ ap (λ times. old ++ times) (sym (departing-more most t end headway some before)) ∙ so_far
