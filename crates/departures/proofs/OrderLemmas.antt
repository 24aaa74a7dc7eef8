-- Pairs by their departures and arrivals, and what is as long as without a ride.
use Rattle.plan_base.proofs.Common.{◌≡◌, ℕ, ◌+◌, ◌-◌, ◌<◌, ◌≤◌, ◌⊎◌, Option, Some, None, inl, inr, ap₂, arith}
use Rattle.latest_departure.proofs.OrderLemmas.{le_or_above}
use Rattle.departures.specs.{Pair, IsPair, IsShorter, IsAsLong}
use Rattle.mode_network.specs.NetworkLists.{NetworkLists}
use Rattle.journey.specs.{Asked}

pub same_pair : (o p : Pair) → o.depart ≡ p.depart → o.arrive ≡ p.arrive → o ≡ p
same_pair o p departs arrives = ap₂ (λ (d a : ℕ). let pair : Pair = record { depart = d; arrive = a } in pair) departs arrives

-- a pair is as long as without a ride, or shorter
pub shorter_or_long : (c : Option ℕ) (p : Pair) → IsShorter c p ⊎ IsAsLong c p.depart p.arrive
shorter_or_long None p = inl tt
shorter_or_long (Some c) p = on_order (le_or_above (p.depart + c) p.arrive)
  where
    on_order : (p.depart + c ≤ p.arrive) ⊎ (p.arrive < p.depart + c) → IsShorter (Some c) p ⊎ IsAsLong (Some c) p.depart p.arrive
    on_order (inl long) = inr long
    on_order (inr less) = inl less

pub long_or_not : (c : Option ℕ) (t u : ℕ) → IsAsLong c t u ⊎ (IsAsLong c t u → ⊥)
long_or_not None t u = inr (λ none. none)
long_or_not (Some c) t u = on_order (le_or_above (t + c) u)
  where
    on_order : (t + c ≤ u) ⊎ (u < t + c) → IsAsLong (Some c) t u ⊎ (IsAsLong (Some c) t u → ⊥)
    on_order (inl long) = inl long
    on_order (inr less) = inr (λ long. absurd (omega arith))

-- who leaves earlier and arrives later takes as long
pub long_around : (c : Option ℕ) (s t u w : ℕ) → s ≤ t → u ≤ w → IsAsLong c t u → IsAsLong c s w
long_around None s t u w le later long = long
long_around (Some c) s t u w le later long = omega arith

-- of two pairs the one that departs no earlier and arrives no later is the other, or has less before it up to u
pub same_or_less : (u : ℕ) (p o : Pair) → p.depart ≤ o.depart → o.arrive ≤ p.arrive → o.depart ≤ o.arrive → p.arrive ≤ u
    → (o ≡ p) ⊎ (o.arrive + (u - o.depart) < p.arrive + (u - p.depart))
same_or_less u p o late early rises soon = on_order (le_or_above o.depart p.depart) (le_or_above p.arrive o.arrive)
  where
    on_order : (o.depart ≤ p.depart) ⊎ (p.depart < o.depart) → (p.arrive ≤ o.arrive) ⊎ (o.arrive < p.arrive)
        → (o ≡ p) ⊎ (o.arrive + (u - o.depart) < p.arrive + (u - p.depart))
    on_order (inl same) (inl as_late) = inl (same_pair o p (omega arith) (omega arith))
    on_order (inr later) arrives = inr (omega arith)
    on_order departs (inr earlier) = inr (omega arith)

-- a pair departs when it is asked for, or later
pub not_before : (n : NetworkLists) (q : Asked) (p : Pair) → IsPair n q p → q.depart ≤ p.depart
not_before n q p (j, is) = let late = is.answers.not_before in let at = is.departs in omega arith
