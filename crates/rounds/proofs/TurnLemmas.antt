-- Turns by the moves that they are of.
use Rattle.plan_base.proofs.Common.{◌≡◌, ℕ, ◌+◌, ◌<◌, ◌≤◌, ◌++◌, ◌⊎◌, inl, inr, List, [], ◌∷◌, sym, subst, ◌∙◌, arith, All, All-nil, Contains, All-push, Contains-append_left, Contains-push, cases_eq, cases_lt}
use Rattle.search_laws.specs.{LabelsMeaning, IsLawfulLabels, IsRoadLabels, HasMove}
use Rattle.rounds.specs.inside.{Turn, IsTurn, AreTurns}

module _ (l : LabelsMeaning) where
  -- moves by the letter lead to the state from these states, and from no others below one
  pub record AreSourcesBelow (letter state source : ℕ) (sources : List ℕ) : Type 0 where
    pub are : All (λ q. (q < l.states) × HasMove l q letter state) sources
    pub all : (q : ℕ) → q < source → HasMove l q letter state → Contains sources q

  pub no_sources : (letter state : ℕ) → AreSourcesBelow letter state 0 []
  no_sources letter state = record { are = All-nil (λ q. (q < l.states) × HasMove l q letter state); all = λ q lt move. absurd (omega arith) }

  -- with one more, or without one from which no move leads there
  pub source_more : (letter state source : ℕ) (sources : List ℕ) → AreSourcesBelow letter state source sources → source < l.states → HasMove l source letter state
      → AreSourcesBelow letter state (source + 1) (sources ++ source ∷ [])
  source_more letter state source sources are within move = record {
    are = All-push (λ q. (q < l.states) × HasMove l q letter state) sources source are.are (within, move);
    all = λ q lt leads. elim (cases_lt q source) [
      | inl less ↦ Contains-append_left sources (source ∷ []) q (are.all q less leads)
      | inr more ↦ (let is : source ≡ q = omega arith in subst (Contains (sources ++ source ∷ [])) is (Contains-push sources source))
    ];
  }

  pub source_passes : (letter state source : ℕ) (sources : List ℕ) → AreSourcesBelow letter state source sources → (HasMove l source letter state → ⊥)
      → AreSourcesBelow letter state (source + 1) sources
  source_passes letter state source sources are none = record {
    are = are.are;
    all = λ q lt leads. elim (cases_lt q source) [
      | inl less ↦ are.all q less leads
      | inr more ↦ (let is : q ≡ source = omega arith in absurd (none (subst (λ s. HasMove l s letter state) is leads)))
    ];
  }

  -- a turn by this letter to this state has this source
  abbrev HasTurn : List Turn → ℕ → ℕ → ℕ → Type 0
  HasTurn turns q c r = (turn : Turn) × Contains turns turn × (turn.letter ≡ c) × (turn.state ≡ r) × Contains turn.sources.items q

  -- the turns to the states below one, and to that one by the letters below one
  pub record AreTurnsBelow (state letter : ℕ) (turns : List Turn) : Type 0 where
    pub are : All (IsTurn l) turns
    pub all : (q c r : ℕ) → q < l.states → c < 3 → (r < state) ⊎ ((r ≡ state) × (c < letter)) → HasMove l q c r → HasTurn turns q c r

  pub no_turns : AreTurnsBelow 0 0 []
  no_turns = record { are = All-nil (IsTurn l); all = λ q c r lt road below move. absurd (none r c below) }
    where
      none : (r c : ℕ) → (r < 0) ⊎ ((r ≡ 0) × (c < 0)) → ⊥
      none r c (inl less) = omega arith
      none r c (inr (same, less)) = omega arith

  -- with one more, or without one where no move leads back to the state
  module _ (state letter : ℕ) (turns : List Turn) (below : AreTurnsBelow state letter turns) where
    so_far : (r c : ℕ) → (r < state) ⊎ ((r ≡ state) × (c < letter + 1)) → ((r < state) ⊎ ((r ≡ state) × (c < letter))) ⊎ ((r ≡ state) × (c ≡ letter))
    so_far r c (inl less) = inl (inl less)
    so_far r c (inr (same, less)) = elim (cases_lt c letter) [ inl lower ↦ inl (inr (same, lower)) | inr last ↦ inr (same, omega arith) ]

    pub turn_more : (turn : Turn) → turn.letter ≡ letter → turn.state ≡ state → letter < 3 → state < l.states → HasMove l state letter state → AreSourcesBelow letter state l.states turn.sources.items
        → AreTurnsBelow state (letter + 1) (turns ++ turn ∷ [])
    turn_more turn by to road within stays sources = record {
      are = All-push (IsTurn l) turns turn below.are (record {
        letter = omega arith;
        state = omega arith;
        stays = rw (by, to) stays;
        sources = rw (by, to) sources.are;
      });
      all = λ q c r lt low where_is move. elim (so_far r c where_is) [
        | inl before ↦ (let has = below.all q c r lt low before move in (has.0, Contains-append_left turns (turn ∷ []) has.0 has.1, has.2, has.3, has.4))
        | inr (same, last) ↦ (turn, Contains-push turns turn, by ∙ sym last, to ∙ sym same, sources.all q lt (subst (λ x. HasMove l q x state) last (subst (HasMove l q c) same move)))
      ];
    }

    pub turn_passes : (road : IsRoadLabels l) → (HasMove l state letter state → ⊥) → AreTurnsBelow state (letter + 1) turns
    turn_passes road none = record {
      are = below.are;
      all = λ q c r lt low where_is move. elim (so_far r c where_is) [
        | inl before ↦ below.all q c r lt low before move
        | inr (same, last) ↦ absurd (none (subst (λ x. HasMove l x letter x) same (subst (λ x. HasMove l r x r) last (road.again q c r lt low move))))
      ];
    }

  -- the next state
  pub turns_on : (state letter : ℕ) (turns : List Turn) → 3 ≤ letter → AreTurnsBelow state letter turns → AreTurnsBelow (state + 1) 0 turns
  turns_on state letter turns all_letters below = record {
    are = below.are;
    all = λ q c r lt road where_is. below.all q c r lt road (by_state r c road where_is);
  } where
    by_state : (r c : ℕ) → c < 3 → (r < state + 1) ⊎ ((r ≡ state + 1) × (c < 0)) → (r < state) ⊎ ((r ≡ state) × (c < letter))
    by_state r c road (inl less) = elim (cases_eq r state) [ inl same ↦ inr (same, omega arith) | inr other ↦ inl (omega arith) ]
    by_state r c road (inr (same, none)) = absurd (omega arith)

  -- all states
  pub turns_all : (lawful : IsLawfulLabels l) (state : ℕ) (turns : List Turn) → l.states ≤ state → AreTurnsBelow state 0 turns → AreTurns l turns
  turns_all lawful state turns all_states below = record {
    are = below.are;
    all = λ q c r lt road (i, move). below.all q c r lt road (inl (omega (arith, all_states, move.to, lawful.to_in_range q i lt move.place))) (i, move);
  }
