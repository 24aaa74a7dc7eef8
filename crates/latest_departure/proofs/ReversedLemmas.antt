-- The reversed automaton accepts the reverses of the words that the other accepts.
use Rattle.plan_base.proofs.Common.{◌≡◌, ℕ, ◌<◌, IsTrue, List, [], ◌∷◌, refl, sym, subst, reverse, reverse-append, reverse-reverse}
use Rattle.search_laws.specs.{LabelsMeaning, IsLawfulLabels, HasMove, Reads, Accepts}
use Rattle.search_laws.proofs.WalkLemmas.{reads_more}
use Rattle.latest_departure.specs.{IsReversed, AcceptsReversed}

module _ (l : LabelsMeaning) (lawful : IsLawfulLabels l) where
  pub to_below : (q c p : ℕ) → q < l.states → HasMove l q c p → p < l.states
  to_below q c p lt (i, move) = subst (λ k. k < l.states) move.to (lawful.to_in_range q i lt move.place)

  pub reads_below : (word : List ℕ) (q p : ℕ) → q < l.states → Reads l q word p → p < l.states
  reads_below [] q p lt same = subst (λ k. k < l.states) (sym same) lt
  reads_below (c ∷ word) q p lt (to, move, more) = reads_below word to p (to_below q c to lt move) more

-- where each move of one automaton goes the other way in another, words are read the other way round
module _ (l r : LabelsMeaning) (lawful : IsLawfulLabels l) (states : r.states ≡ l.states)
    (back : (q c p : ℕ) → q < l.states → p < l.states → HasMove l q c p → HasMove r p c q) where
  pub reads_back : (word : List ℕ) (q p : ℕ) → q < l.states → Reads l q word p → Reads r p (reverse word) q
  reads_back [] q p lt same = sym same
  reads_back (c ∷ word) q p lt (to, move, more) =
      let below = to_below l lawful q c to lt move in
      subst (λ (w : List ℕ). Reads r p w q) (sym (reverse-append (c ∷ []) word))
      (reads_more r (reverse word) (c ∷ []) p to q (reads_back word to p below more) (q, back q c to lt below move, refl))

module _ (l r : LabelsMeaning) (lawful : IsLawfulLabels l) (turned_lawful : IsLawfulLabels r) (is : IsReversed l r) where
  moves_there : (q c p : ℕ) → q < l.states → p < l.states → HasMove l q c p → HasMove r p c q
  moves_there q c p lt below move = (is.moves p c q below lt).1 move

  moves_back : (q c p : ℕ) → q < r.states → p < r.states → HasMove r q c p → HasMove l p c q
  moves_back q c p lt below move = (is.moves q c p (subst (λ k. q < k) is.states lt) (subst (λ k. p < k) is.states below)).0 move

  pub accepts_reversed : AcceptsReversed l r
  accepts_reversed word = (out, into)
    where
      out : Accepts r word → Accepts l (reverse word)
      out (q, p, lt, start, reads, accepts) =
          let end = reads_below r turned_lawful word q p lt reads in
          let here = subst (λ k. q < k) is.states lt in
          let there = subst (λ k. p < k) is.states end in
          (p, q, there, subst IsTrue (is.accepts p there) accepts, reads_back r l turned_lawful (sym is.states) moves_back word q p lt reads, subst IsTrue (is.starts q here) start)

      into : Accepts l (reverse word) → Accepts r word
      into (q, p, lt, start, reads, accepts) =
          let end = reads_below l lawful (reverse word) q p lt reads in (
            p,
            q,
            subst (λ k. p < k) (sym is.states) end,
            subst IsTrue (sym (is.starts p end)) accepts,
            subst (λ (w : List ℕ). Reads r p w q) (reverse-reverse word) (reads_back l r lawful is.states moves_there (reverse word) q p lt reads),
            subst IsTrue (sym (is.accepts q lt)) start,
          )
