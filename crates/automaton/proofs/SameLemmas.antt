-- Two automata that answer alike, but for the order of their moves, are alike when collapsed. So it does not matter which position
-- automaton of an expression is taken.
use Rattle.plan_base.proofs.Common.{◌≡◌, ℕ, ◌*◌, ◌/◌, ◌%◌, ◌<◌, ◌&&◌, ◌==◌, ◌↔◌, ◌⊎◌, inl, inr, sym, ap, ◌∙◌, subst, arith}
use Rattle.search_laws.specs.{LabelsMeaning, IsLawfulLabels, HasMove}
use Rattle.automaton.specs.{Written.Written, IsPositionAutomaton, collapsed, Stays, Goes, step_out, step_in}

pub record AnswerAlike (l m : LabelsMeaning) : Type 0 where
  pub states : l.states ≡ m.states
  pub starts : (q : ℕ) → l.is_start q ≡ m.is_start q
  pub moves : (q c r : ℕ) → q < l.states → HasMove l q c r ↔ HasMove m q c r
  pub accepts : (q : ℕ) → q < l.states → l.accepts q ≡ m.accepts q

pub positions_alike : (e : Written) (l m : LabelsMeaning) → IsPositionAutomaton e l → IsPositionAutomaton e m → AnswerAlike l m
positions_alike e l m p o =
    let same : l.states ≡ m.states = p.states ∙ sym o.states in
    record {
      states = same;
      starts = λ q. p.starts q ∙ sym (o.starts q);
      moves = λ q c r lt.
          let there = subst (λ k. q < k) same lt in
          (λ h. (o.moves q c r there).1 ((p.moves q c r lt).0 h), λ h. (p.moves q c r lt).1 ((o.moves q c r there).0 h));
      accepts = λ q lt. p.accepts q lt ∙ sym (o.accepts q (subst (λ k. q < k) same lt));
    }

module _ (l m : LabelsMeaning) (law_l : IsLawfulLabels l) (law_m : IsLawfulLabels m) (states : l.states ≡ m.states)
    (moves : (q c r : ℕ) → q < l.states → HasMove l q c r → HasMove m q c r) where
  step_over : (s c r : ℕ) → s < 4 * l.states → Stays l law_l s c r ⊎ Goes l law_l s c r → Stays m law_m s c r ⊎ Goes m law_m s c r
  step_over s c r lt (inl stays) = inl (record { read = stays.read; letter = stays.letter; same = stays.same })
  step_over s c r lt (inr goes) = inr (record { to = goes.to; inner = moves (s / 4) c goes.to (omega arith) goes.inner; other = goes.other; leads = goes.leads })

  pub moves_over : (s c r : ℕ) → s < 4 * l.states → HasMove (collapsed l) s c r → HasMove (collapsed m) s c r
  moves_over s c r lt has = step_in m law_m s c r (omega (arith, states, lt)) (step_over s c r lt (step_out l law_l s c r lt has))

pub collapsed_alike : (l m : LabelsMeaning) → IsLawfulLabels l → IsLawfulLabels m → AnswerAlike l m → AnswerAlike (collapsed l) (collapsed m)
collapsed_alike l m law_l law_m alike = record {
  states = ap (λ k. 4 * k) alike.states;
  starts = λ s. ap (λ b. s % 4 == 0 && b) (alike.starts (s / 4));
  moves = λ s c r lt. (
    moves_over l m law_l law_m alike.states (λ q k p lt. (alike.moves q k p lt).0) s c r lt,
    moves_over m l law_m law_l (sym alike.states) (λ q k p lt. (alike.moves q k p (subst (λ n. q < n) (sym alike.states) lt)).1) s c r (subst (λ n. s < 4 * n) alike.states lt),
  );
  accepts = λ s lt. alike.accepts (s / 4) (omega arith);
}
