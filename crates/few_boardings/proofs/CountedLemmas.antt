-- The counting automaton accepts the words that the inner one accepts and whose transit letters are on its side of the limit.
use Rattle.plan_base.proofs.Common.{◌≡◌, ℕ, ◌+◌, ◌*◌, ◌/◌, ◌%◌, ◌<◌, ◌≤◌, true, ◌==◌, cond, IsTrue, List, [], ◌∷◌, refl, sym, ap, ◌∙◌, subst, arith, nat_tests, sum_by-cons}
use Rattle.search_laws.specs.{LabelsMeaning, IsLawfulLabels, HasMove, Reads, Accepts}
use Rattle.automaton.proofs.LanguageLemmas.{and_in, and_out}
use Rattle.few_boardings.specs.{Side, AtMost, AtLeast, is_transit, transits, state_at, reads_on, may_end_with, counted, IsOnSide, AcceptsCounted, added, inner_of, count_of, count_small, state_below, inner_below, count_after, after_small, KeepsWithin, inner_after, count_there, step_out, step_in, to_below}

pub transits_more : (c : ℕ) (word : List ℕ) → transits (c ∷ word) ≡ added c + transits word
transits_more c word = sum_by-cons (λ (d : ℕ). cond (is_transit d) 1 0) c word

-- a count of all letters is on the side where a word may end with the count of those that were counted
side_out : (side : Side) (limit count : ℕ) → KeepsWithin (reads_on side) limit count → IsTrue (may_end_with side limit (count_after limit 0 count)) → IsOnSide side limit count
side_out AtMost limit count keeps ends = keeps refl
side_out AtLeast limit count keeps ends = let at : count_after limit 0 count ≡ limit = grind (arith, nat_tests) in omega arith

keeps_in : (side : Side) (limit count : ℕ) → IsOnSide side limit count → KeepsWithin (reads_on side) limit count
keeps_in AtMost limit count is = λ closed. is
keeps_in AtLeast limit count is = λ closed. absurd cc

ends_in : (side : Side) (limit count : ℕ) → IsOnSide side limit count → IsTrue (may_end_with side limit (count_after limit 0 count))
ends_in AtMost limit count is = refl
ends_in AtLeast limit count is = let at : count_after limit 0 count ≡ limit = omega arith in grind (arith, nat_tests)

module _ (l : LabelsMeaning) (lawful : IsLawfulLabels l) (side : Side) (limit : ℕ) where
  -- what the counting automaton reads from s to r
  record ReadsInner (s r : ℕ) (word : List ℕ) : Type 0 where
    inner : Reads l (s / (limit + 1)) word (r / (limit + 1))
    keeps : KeepsWithin (reads_on side) limit (s % (limit + 1) + transits word)
    count : r % (limit + 1) ≡ count_after limit (s % (limit + 1)) (transits word)

  reads_out : (word : List ℕ) (s r : ℕ) → s < l.states * (limit + 1) → Reads (counted l side limit) s word r → ReadsInner s r word
  reads_out [] s r lt same =
      let small = count_small limit s in
      let at = ap (λ k. k % (limit + 1)) same in
      record { inner = ap (λ k. k / (limit + 1)) same; keeps = λ closed. omega arith; count = omega arith }
  reads_out (c ∷ word) s r lt (p, move, more) =
      let counts = step_out l lawful side limit s c p move in
      let rest = reads_out word p r (to_below l lawful side limit s c p lt counts) more in
      let count = count_there l lawful side limit s c p counts in
      let more = transits_more c word in
      record {
        inner = (counts.to, counts.inner, subst (λ q. Reads l q word (r / (limit + 1))) (inner_after l lawful side limit s c p counts) rest.inner);
        keeps = λ closed. (let one = counts.keeps closed in let all = rest.keeps closed in omega arith);
        count = let end = rest.count in omega arith;
      }

  reads_in : (word : List ℕ) (q p k : ℕ) → q < l.states → k ≤ limit → KeepsWithin (reads_on side) limit (k + transits word) → Reads l q word p
      → Reads (counted l side limit) (state_at limit q k) word (state_at limit p (count_after limit k (transits word)))
  reads_in [] q p k lt low keeps same = ap (λ x. state_at limit x (count_after limit k (transits []))) same ∙ ap (λ x. state_at limit q x) (omega arith)
  reads_in (c ∷ word) q p k lt low keeps (to, (i, move), more) =
      let longer = transits_more c word in
      let inner = inner_of limit q k low in
      let count = count_of limit q k low in
      let range = subst (λ t. t < l.states) move.to (lawful.to_in_range q i lt move.place) in
      let next = count_after limit k (added c) in
      let small = after_small limit k (added c) in
      let step = step_in l lawful side limit (state_at limit q k) c (state_at limit to next) (state_below limit l.states q k lt low) (record {
        to = to;
        inner = subst (λ x. HasMove l x c to) (sym inner) (i, move);
        keeps = λ closed. (let within = keeps closed in omega arith);
        leads = ap (λ x. state_at limit to (count_after limit x (added c))) (sym count);
      }) in
      let rest = reads_in word to p next range small (λ closed. (let within = keeps closed in omega arith)) more in
      (state_at limit to next, step, subst (λ x. Reads (counted l side limit) (state_at limit to next) word (state_at limit p x)) (omega arith) rest)

  pub accepts_counted : AcceptsCounted l side limit
  accepts_counted word = (out, into)
    where
      out : Accepts (counted l side limit) word → Accepts l word × IsOnSide side limit (transits word)
      out (s, r, lt, start, reads, acc) =
          let starts = and_out (s % (limit + 1) == 0) (l.is_start (s / (limit + 1))) start in
          let ends = and_out (may_end_with side limit (r % (limit + 1))) (l.accepts (r / (limit + 1))) acc in
          let none : s % (limit + 1) ≡ 0 = let h = starts.0 in grind (arith, nat_tests) in
          let all = reads_out word s r lt reads in
          let count : r % (limit + 1) ≡ count_after limit 0 (transits word) = all.count ∙ ap (λ k. count_after limit k (transits word)) none in
          let keeps = subst (λ k. KeepsWithin (reads_on side) limit (k + transits word)) none all.keeps in (
            (s / (limit + 1), r / (limit + 1), inner_below limit l.states s lt, starts.1, all.inner, ends.1),
            side_out side limit (transits word) (subst (KeepsWithin (reads_on side) limit) (omega arith) keeps) (subst (λ k. IsTrue (may_end_with side limit k)) count ends.0),
          )

      into : Accepts l word × IsOnSide side limit (transits word) → Accepts (counted l side limit) word
      into ((q, r, lt, start, reads, acc), is) =
          let inner = inner_of limit q 0 (omega arith) in
          let count = count_of limit q 0 (omega arith) in
          let small = after_small limit 0 (transits word) in
          let end = inner_of limit r (count_after limit 0 (transits word)) small in
          let end_count = count_of limit r (count_after limit 0 (transits word)) small in
          let none : (state_at limit q 0 % (limit + 1) == 0) ≡ true = grind (arith, nat_tests) in
          let last = state_at limit r (count_after limit 0 (transits word)) in (
            state_at limit q 0,
            last,
            state_below limit l.states q 0 lt (omega arith),
            and_in (state_at limit q 0 % (limit + 1) == 0) (l.is_start (state_at limit q 0 / (limit + 1))) none (subst (λ x. IsTrue (l.is_start x)) (sym inner) start),
            reads_in word q r 0 lt (omega arith) (subst (KeepsWithin (reads_on side) limit) (omega arith) (keeps_in side limit (transits word) is)) reads,
            and_in (may_end_with side limit (last % (limit + 1))) (l.accepts (last / (limit + 1)))
                (subst (λ k. IsTrue (may_end_with side limit k)) (sym end_count) (ends_in side limit (transits word) is)) (subst (λ x. IsTrue (l.accepts x)) (sym end) acc),
          )
