-- Ways by arcs of one letter.
use Rattle.plan_base.proofs.Common.{◌≡◌, ℕ, zero, suc, ◌+◌, ◌-◌, ◌<◌, ◌≤◌, ◌∙◌, ◌++◌, List, [], false, refl, sym, ap, append_assoc, arith}
use Rattle.search_laws.specs.{GraphMeaning, is_open, ways_from, Way}
use Rattle.search_laws.proofs.WayLemmas.{ways_split}

module _ (g : GraphMeaning) (v t letters : ℕ) where
  -- by a letter outside the set there are none
  none_open : (i m : ℕ) → ((k : ℕ) → i ≤ k → k < i + m → is_open letters (g.arc_at v k).letter ≡ false) → ways_from g v t letters i m ≡ []
  none_open i zero closed = refl
  none_open i (suc m) closed = rw (closed i (omega arith) (omega arith)) (none_open (i + 1) m (λ k from to. closed k (omega arith) (omega arith)))

  pub closed_ways : (first past : ℕ) → first < past → ((k : ℕ) → first ≤ k → k < past → (g.arc_at v k).letter ≡ (g.arc_at v first).letter)
      → is_open letters (g.arc_at v first).letter ≡ false → ways_from g v t letters first (past - first) ≡ []
  closed_ways first past some alike closed =
      none_open first (past - first) (λ k from to. ap (is_open letters) (alike k from (omega arith)) ∙ closed)

  pub more_ways : (first i past : ℕ) (before now next : List Way) → first ≤ i → i ≤ past → now ≡ before ++ ways_from g v t letters first (i - first)
      → next ≡ now ++ ways_from g v t letters i (past - i) → next ≡ before ++ ways_from g v t letters first (past - first)
  more_ways first i past before now next from to was more =
      let sum : (i - first) + (past - i) ≡ past - first = omega arith in
      let at : first + (i - first) ≡ i = omega arith in
      more ∙ ap (λ (ws : List Way). ws ++ ways_from g v t letters i (past - i)) was
      ∙ append_assoc before (ways_from g v t letters first (i - first)) (ways_from g v t letters i (past - i))
      ∙ ap (λ (ws : List Way). before ++ ws) (
      ap (λ k. ways_from g v t letters first (i - first) ++ ways_from g v t letters k (past - i)) (sym at)
      ∙ sym (ways_split g v t letters first (i - first) (past - i))
      ∙ ap (ways_from g v t letters first) sum)
