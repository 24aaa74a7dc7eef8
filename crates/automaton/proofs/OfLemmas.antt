-- The states that are built are those of the expression's position automaton.
use Rattle.plan_base.proofs.Common.{◌≡◌, ℕ, ◌^◌, ◌≤◌, Bool, false, ◌↔◌, List, [], ◌++◌, length, reverse, min, sym, ap, ◌∙◌, subst, arith, reverse-reverse}
use Rattle.search_laws.specs.{Accepts, IsLawfulLabels}
use Rattle.mode_expression.specs.{Form.Form, IsUsable, IsWordOf, places}
use Rattle.automaton.specs.{written, size, StateView, meaning_of_states, states_for, IsPositionAutomaton, inside.entry, inside.position_rows, inside.Built, inside.ArePositionsAdded, inside.Adds, inside.grown}
use Rattle.automaton.proofs.{RowLemmas.length-rows, WrittenLemmas.denoted_of_written, WrittenLemmas.written_of_denoted, WrittenLemmas.size_written, WrittenLemmas.letters_below, PositionLemmas.end, PositionLemmas.automaton_of, PositionLemmas.is_position_automaton, PositionLemmas.accepts_written, PositionLemmas.state_total, PositionLemmas.moves_few, PositionLemmas.is_lawful}

module _ (f : Form) (usable : IsUsable f) (old new : Built) (first : ℕ → Bool)
    (fresh : old ≡ record { at = min (places f) (2 ^ 32); dry = false; rows = [] }) (adds : Adds old new (written f) end first) where
  numbers : old.at ≡ size (written f)
  numbers = let small = usable.small in omega (arith, ap (λ b. b.at) fresh, size_written f usable.formed)

  added : ArePositionsAdded old new (written f) end first
  added = adds (omega (arith, numbers))

  at_start : new.at ≡ 0
  at_start = omega (arith, numbers, added.numbered)

  pub first_is : first ≡ entry (written f) 0 end
  first_is = added.entered ∙ ap (λ o. entry (written f) o end) at_start

  pub rows_are : reverse new.rows ≡ position_rows (written f) 0 end
  rows_are =
      ap reverse (added.rows_added ∙ ap (λ d. grown d old.rows (reverse (position_rows (written f) new.at end))) (ap (λ b. b.dry) fresh)
      ∙ ap (λ l. l ++ reverse (position_rows (written f) new.at end)) (ap (λ b. b.rows) fresh)) ∙ reverse-reverse (position_rows (written f) new.at end)
      ∙ ap (λ o. position_rows (written f) o end) at_start

  few_positions : size (written f) ≤ 200
  few_positions = let small = usable.small in omega (arith, size_written f usable.formed)

  pub few_rows : length (reverse new.rows) ≤ 200
  few_rows = omega (arith, ap length rows_are, length-rows (written f) 0 end, few_positions)

  -- the states that were made of these rows
  module _ (views : List StateView) (made : views ≡ states_for (reverse new.rows) first) where
    labels_are : automaton_of (written f) ≡ meaning_of_states views
    labels_are = ap meaning_of_states (sym (made ∙ ap (λ r. states_for r first) rows_are ∙ ap (λ S. states_for (position_rows (written f) 0 end) S) first_is))

    pub of_lawful : IsLawfulLabels (meaning_of_states views)
    of_lawful = subst IsLawfulLabels labels_are (is_lawful (written f) few_positions (letters_below f usable.formed))

    pub of_states : IsPositionAutomaton (written f) (meaning_of_states views)
    of_states = subst (IsPositionAutomaton (written f)) labels_are (is_position_automaton (written f))

    pub of_accepts : (word : List ℕ) → Accepts (meaning_of_states views) word ↔ IsWordOf f word
    of_accepts word =
        let accepts = accepts_written (written f) word in (
          λ holds. denoted_of_written f usable.formed word (accepts.0 (subst (λ l. Accepts l word) (sym labels_are) holds)),
          λ is. subst (λ l. Accepts l word) labels_are (accepts.1 (written_of_denoted f usable.formed word is)),
        )

    pub of_few_states : (meaning_of_states views).states ≤ 201
    of_few_states = omega (arith, ap (λ l. l.states) labels_are, state_total (written f), few_positions)

    pub of_few_moves : (q : ℕ) → (meaning_of_states views).moves q ≤ 200
    of_few_moves q = omega (arith, ap (λ l. l.moves q) labels_are, moves_few (written f) q, few_positions)
