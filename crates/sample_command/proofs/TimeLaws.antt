-- What is found for a line is its time, times of one line more, and that there is one time at most for each line.
use Rattle.plan_base.proofs.Common.{◌≡◌, ℕ, ◌+◌, ◌-◌, ◌<◌, ◌≤◌, ◌^◌, List, [], ◌∷◌, ◌++◌, length, Option, None, Some, Ok, Err, refl, sym, ap, ap₂, subst, inl, inr, arith, unwrap_or, IfSome, map-range_with_len_more, sum_by-append}
use Rattle.product_search.specs.{Label}
use Rattle.mode_expression.specs.{form_of}
use Rattle.hierarchy.specs.{HierarchyLists}
use Rattle.mode_network.specs.{NetworkLists.NetworkLists, IsNetwork, Route}
use Rattle.journey.specs.{Query, Asked, Asks, HasNone, IsBest, asked_by, IsQuery}
use Rattle.journey.proofs.ReadingLemmas.{reading_is_unique}
use Rattle.certificate.specs.{IsBestResult}
use Rattle.planning.specs.{AreTheLabels, IsCertifiable, IsPlan, route_of, IsLabelCount, IsSettledCount, Settled.Settled}
use Rattle.planning.proofs.PlanLemmas.{plan_proves}
use Rattle.sample_command.specs.{lines_before, query_line, AreTimes, IsTravelTime, Takes, labels_counted, time_from, total_time}

-- ---- one line more

pub no_lines : (n : ℕ) → lines_before n 0 ≡ []
unfolding lines_before
no_lines n = refl

pub lines_more : (n k : ℕ) → lines_before n (k + 1) ≡ lines_before n k ++ query_line n k ∷ []
unfolding lines_before
lines_more n k = map-range_with_len_more (query_line n) 0 k k (omega arith)

pub times_more : (n : NetworkLists) (lines : List (List ℕ)) (times : List (Option ℕ)) (line : List ℕ) (time : Option ℕ)
    → AreTimes n lines times → IsTravelTime n line time → AreTimes n (lines ++ line ∷ []) (times ++ time ∷ [])
times_more n [] [] line time are is = (is, tt)
times_more n [] (other ∷ times) line time are is = absurd are
times_more n (first ∷ lines) [] line time are is = absurd are
times_more n (first ∷ lines) (other ∷ times) line time are is = (are.0, times_more n lines times line time are.1 is)

pub settled_more : (n : NetworkLists) (h : Option HierarchyLists) (lines : List (List ℕ)) (sum : ℕ) (line : List ℕ) (count : ℕ)
    → Settled n h lines sum → IsSettledCount n h line count → Settled n h (lines ++ line ∷ []) (sum + count)
settled_more n h [] sum line count are is = (count, 0, is, refl, omega arith)
settled_more n h (first ∷ lines) sum line count are is =
    (are.0, are.1 + count, are.2, settled_more n h lines are.1 line count are.3 is, omega (arith, are.4))

pub time_below : (time : Option ℕ) → IfSome time (λ ms. ms < 10 ^ 30) → unwrap_or time 0 ≤ 10 ^ 30
time_below None below = omega arith
time_below (Some ms) below = omega arith

pub total_more : (times : List (Option ℕ)) (time : Option ℕ) → total_time (times ++ time ∷ []) ≡ total_time times + unwrap_or time 0
total_more times time =
    let split : total_time (times ++ time ∷ []) ≡ total_time times + total_time (time ∷ []) = sum_by-append (λ (time : Option ℕ). unwrap_or time 0) times (time ∷ []) in
    omega (arith, split)

-- ---- one time at most

same_best : (n : NetworkLists) (asked : Asked) (j k : Route) (a : IsBest n asked j) (b : IsBest n asked k) → a.arrival ≡ b.arrival
same_best n asked j k a b =
    let here : a.arrival ≤ b.arrival = a.least k b.arrival b.answers in
    let there : b.arrival ≤ a.arrival = b.least j a.arrival a.answers in
    omega (arith, here, there)

best_of_same : (n : NetworkLists) (one other : Asked) (j k : Route) → one ≡ other → (a : IsBest n one j) (b : IsBest n other k) → a.arrival ≡ b.arrival
best_of_same n one other j k same a b = subst (λ (asked : Asked). (b : IsBest n asked k) → a.arrival ≡ b.arrival) same (λ b. same_best n one j k a b) b

module _ (n : NetworkLists) (line : List ℕ) where
  asks_same : (one other : Asked) → Asks n line one → Asks n line other → one ≡ other
  asks_same one other p q = let same = reading_is_unique n line (Ok one) (Ok other) p q in cc

  same_takes : (a b : ℕ) → Takes n line a → Takes n line b → a ≡ b
  same_takes a b p q =
      let same = asks_same p.asked q.asked p.asks q.asks in
      let arrive = best_of_same n p.asked q.asked p.journey q.journey same p.best q.best in
      let leave : p.asked.depart ≡ q.asked.depart = ap (λ (asked : Asked). asked.depart) same in
      omega (arith, p.ms_is, q.ms_is, arrive, leave)

  takes_not : (a : ℕ) → Takes n line a → IsTravelTime n line None → ⊥
  takes_not a p (inl (asked, asks, none)) = subst (HasNone n) (asks_same asked p.asked asks p.asks) none p.journey p.best.arrival p.best.answers
  takes_not a p (inr (fault, refused)) = let same = reading_is_unique n line (Ok p.asked) (Err fault) p.asks refused in absurd cc

  same_time : (a b : Option ℕ) → IsTravelTime n line a → IsTravelTime n line b → a ≡ b
  same_time (Some a) (Some b) p q = ap Some (same_takes a b p q)
  same_time (Some a) None p q = absurd (takes_not a p q)
  same_time None (Some b) p q = absurd (takes_not b q p)
  same_time None None p q = refl

pub same_times : (n : NetworkLists) (lines : List (List ℕ)) (times others : List (Option ℕ)) → AreTimes n lines times → AreTimes n lines others → times ≡ others
same_times n [] [] [] p q = refl
same_times n [] [] (other ∷ others) p q = absurd q
same_times n [] (time ∷ times) others p q = absurd p
same_times n (line ∷ lines) [] others p q = absurd p
same_times n (line ∷ lines) (time ∷ times) [] p q = absurd q
same_times n (line ∷ lines) (time ∷ times) (other ∷ others) p q =
    ap₂ (λ (first : Option ℕ) (rest : List (Option ℕ)). first ∷ rest) (same_time n line time other p.0 q.0) (same_times n lines times others p.1 q.1)

-- ---- what is found

module _ (n : NetworkLists) (network : IsNetwork n) (h : Option HierarchyLists) (q : Query) (asks : IsQuery n q.line q.from q.to q.depart (form_of q.expr)) where
  takes : (found : Option (ℕ × Route)) → IsBestResult n (asked_by q) found → IsTravelTime n q.line (time_from q.depart found)
  takes None none = inl (asked_by q, asks, none)
  takes (Some claimed) (best, arrives) = record {
    asked = asked_by q;
    asks = asks;
    journey = claimed.1;
    best = best;
    ms_is = ap (λ arrival. arrival - q.depart) (sym arrives);
  }

  -- a best journey that was found with its arrival takes so long
  pub time_found : (found : Option (ℕ × Route)) (labels : List Label) → IsPlan n (asked_by q) (route_of found) → IsCertifiable n h q found labels
      → IsTravelTime n q.line (time_from q.depart found)
  time_found found labels plan fits =
      let proves = plan_proves n network h q asks found labels plan fits in
      takes found (subst (λ (asked : Asked). IsBestResult n asked found) (asks_same n q.line proves.asked (asked_by q) proves.asks asks) proves.best)

  -- and its labels are counted
  pub labels_found : (labels : List Label) → AreTheLabels n h (asked_by q) labels → IsSettledCount n h q.line (labels_counted h (length labels))
  labels_found labels are = inr (asked_by q, asks, count h are)
    where
      count : (h : Option HierarchyLists) → AreTheLabels n h (asked_by q) labels → IsLabelCount n h (asked_by q) (labels_counted h (length labels))
      count None are = refl
      count (Some h) are = (labels, are, refl)
