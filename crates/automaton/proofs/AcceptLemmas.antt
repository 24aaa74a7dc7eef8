-- Each position automaton of an expression accepts the words that the expression denotes, whatever the order of its moves.
use Rattle.plan_base.proofs.Common.{ℕ, ◌<◌, ◌≤◌, IsTrue, List, [], ◌∷◌, sym, subst, arith}
use Rattle.search_laws.specs.{collapse, LabelsMeaning, IsLawfulLabels, HasMove, Reads, Accepts}
use Rattle.automaton.specs.{written, size, PositionsAccept, CollapsedPositionsAccept}
use Rattle.automaton.proofs.{WrittenLemmas.denoted_of_written, WrittenLemmas.written_of_denoted, WrittenLemmas.size_written, WrittenLemmas.letters_below, PositionLemmas.automaton_of, PositionLemmas.is_position_automaton, PositionLemmas.accepts_written, PositionLemmas.is_lawful, CollapsedLemmas.accepts_collapsed, SameLemmas.AnswerAlike, SameLemmas.positions_alike}

-- automata that answer alike accept the same words
module _ (l m : LabelsMeaning) (lawful : IsLawfulLabels l) (alike : AnswerAlike l m) where
  state_after : (q c p : ℕ) → q < l.states → HasMove l q c p → p < l.states
  state_after q c p lt (i, move) = subst (λ k. k < l.states) move.to (lawful.to_in_range q i lt move.place)

  reads_over : (word : List ℕ) (q r : ℕ) → q < l.states → Reads l q word r → Reads m q word r × (r < l.states)
  reads_over [] q r lt same = (same, subst (λ k. k < l.states) (sym same) lt)
  reads_over (c ∷ word) q r lt (p, move, more) =
      let rest = reads_over word p r (state_after q c p lt move) more in
      ((p, (alike.moves q c p lt).0 move, rest.0), rest.1)

  pub accepts_over : (word : List ℕ) → Accepts l word → Accepts m word
  accepts_over word (q, r, lt, start, reads, accepts) =
      let over = reads_over word q r lt reads in
      (q, r, subst (λ k. q < k) alike.states lt, subst IsTrue (alike.starts q) start, over.0, subst IsTrue (alike.accepts r over.1) accepts)

pub positions_accept : PositionsAccept
positions_accept form usable l lawful is word =
    let e = written form in
    let small : size e ≤ 200 = let few = usable.small in omega (arith, size_written form usable.formed) in
    let there = positions_alike e l (automaton_of e) is (is_position_automaton e) in
    let back = positions_alike e (automaton_of e) l (is_position_automaton e) is in
    let own = accepts_written e word in (
      λ accepts. denoted_of_written form usable.formed word (own.0 (accepts_over l (automaton_of e) lawful there word accepts)),
      λ denoted. accepts_over (automaton_of e) l (is_lawful e small (letters_below form usable.formed)) back word (own.1 (written_of_denoted form usable.formed word denoted)),
    )

pub collapsed_accept : CollapsedPositionsAccept
collapsed_accept form usable l lawful is word =
    let collapses = accepts_collapsed l lawful word in
    let inner = positions_accept form usable l lawful is (collapse word) in
    (λ accepts. inner.0 (collapses.0 accepts), λ denoted. collapses.1 (inner.1 denoted))
