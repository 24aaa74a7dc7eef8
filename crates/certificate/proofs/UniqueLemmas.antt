-- A certificate has one verdict. Each clause says the same however the timetable sorts the runs into patterns, and whichever position
-- automaton of the expression is taken; and of the clauses one is the first that fails, at one place.
use Rattle.plan_base.proofs.Common.{◌≡◌, ℕ, zero, suc, ◌<◌, ◌≤◌, ◌⊎◌, inl, inr, List, [], ◌∷◌, ◌++◌, length, take, Bool, true, Option, Some, None, if◌then◌else◌, refl, sym, ap, ap₂, subst, ◌∙◌, arith, slice_index_or, is_some, Ok, Err, cases_lt}
use Rattle.search_laws.specs.{collapse, GraphMeaning, LabelsMeaning, HasMove, AllAfter, HoldsBelow, FailsFirstAt}
use Rattle.search_laws.proofs.FirstLemmas.{first_once}
use Rattle.product_search.specs.{Label, LabelVerdict, Open, IsBefore, IsListedBy, IsInOrderAt, StartIsListedAt, IsNoEndAt, ArcsAreListedAt, start_states, start_pairs, pairs_at, IsVerdict, declared.verdict.LabelVerdict.TheVariants.Closed}
use Rattle.mode_expression.specs.{IsWordOf}
use Rattle.automaton.specs.{written, IsPositionAutomaton, collapsed}
use Rattle.automaton.proofs.SameLemmas.{AnswerAlike, positions_alike, collapsed_alike}
use Rattle.hierarchy.specs.{HierarchyLists}
use Rattle.phase_graph.specs.{IsInUse, IsSoundIfGiven, starts_in, ends_in, Covers, CoverEachOther}
use Rattle.phase_graph.proofs.InUseLemmas.{graphs_in_use_are_alike}
use Rattle.mode_network.specs.{NetworkLists.NetworkLists, IsNetwork, Step, Route, IsStep, AreSteps, IsJourney, IsCopy}
use Rattle.mode_network.proofs.RuleLemmas.{some_is}
use Rattle.journey.specs.{QueryFault, Asked, Asks, AreTheCopies, number_of, IsRefused, IsFirstBad}
use Rattle.certificate.specs.{CertVerdict, Invalid, Claim, Setting, ResultHolds, claimed_arrival, Goal, IsTimely, FailsFirstOfThree, JourneyFails, IsAsClaimed, goal_of, IsResultVerdict, IsCertVerdict, VerdictIsUnique, as_verdict, declared.verdict.CertVerdict.TheVariants.Valid}
use Rattle.journey.proofs.{ReadingLemmas.reading_is_unique, CopyLemmas.one_list_of_copies, StepLemmas.step_once, StepLemmas.steps_once, WalkLemmas.bad_not_taken}
use Rattle.certificate.proofs.VerdictLemmas.{answers_as_claimed}

-- ---- the clauses of labels, over two graphs and two automata that answer alike

module _ (g h : GraphMeaning) (nodes : g.nodes ≡ h.nodes) (covers : Covers h g)
    (l m : LabelsMeaning) (states : l.states ≡ m.states) (moves : (q c r : ℕ) → q < l.states → HasMove m q c r → HasMove l q c r)
    (accepts : (q : ℕ) → q < l.states → m.accepts q ≡ l.accepts q) (targets : List ℕ) (arrival : Option ℕ) (list : List Label) where
  in_order_over : (k : ℕ) → IsInOrderAt g l arrival list k → IsInOrderAt h m arrival list k
  in_order_over k holds d =
      let (range, up) = holds d in
      ((subst (λ v. (slice_index_or list k d).node < v) nodes range.0, subst (λ s. (slice_index_or list k d).state < s) states range.1, range.2), up)

  no_end_over : (k : ℕ) → IsInOrderAt g l arrival list k → IsNoEndAt l targets list k → IsNoEndAt m targets list k
  no_end_over k in_order holds d at_target accepting =
      let range = (in_order d).0 in
      holds d at_target (subst (λ (b : Bool). b ≡ true) (accepts (slice_index_or list k d).state range.1) accepting)

  soon : (s t : ℕ) → s ≤ t → IsBefore arrival t → IsBefore arrival s
  soon s t le before = by_arrival arrival before
    where
      by_arrival : (o : Option ℕ) → IsBefore o t → IsBefore o s
      by_arrival None h = tt
      by_arrival (Some a) h = omega arith

  listed_later : (v r s t : ℕ) → s ≤ t → IsListedBy list v r s → IsListedBy list v r t
  listed_later v r s t le (at, by, has) = (at, omega arith, has)

  -- what holds after each move of the one holds after each of the other
  after_over : (q : ℕ) (letter : Option ℕ) (P : ℕ → Type 0) → q < l.states → AllAfter l q letter P → AllAfter m q letter P
  after_over q None P lt all = all
  after_over q (Some c) P lt all = λ j within set.
      let (i, move) = moves q c (m.move_at q j).to lt (j, record { place = within; letter = set; to = refl }) in
      subst P move.to (all i move.place move.letter)

  after_weaker : (q : ℕ) (letter : Option ℕ) (P Q : ℕ → Type 0) → ((r : ℕ) → P r → Q r) → AllAfter l q letter P → AllAfter l q letter Q
  after_weaker q None P Q to all = to q all
  after_weaker q (Some c) P Q to all = λ j within set. to (l.move_at q j).to (all j within set)

  -- an arc of the other has one of the first that arrives no later
  arcs_over : (k : ℕ) → IsInOrderAt g l arrival list k → ArcsAreListedAt g l arrival list k → ArcsAreListedAt h m arrival list k
  arcs_over k in_order holds d i within u arrives before =
      let x = slice_index_or list k d in
      let range = (in_order d).0 in
      let way = covers x.node x.at i u (record { node = subst (λ v. x.node < v) nodes range.0; arc = within }) arrives in
      let arc = way.2 in
      let listed = holds d way.0 arc.has.arc way.1 arc.arrives (soon way.1 u arc.in_time before) in
      let there = subst (λ (w : ℕ). AllAfter l x.state (g.arc_at x.node way.0).letter (λ r. IsListedBy list w r way.1)) arc.to listed in
      let by_letter = subst (λ (c : Option ℕ). AllAfter l x.state c (λ r. IsListedBy list (h.arc_at x.node i).to r way.1)) arc.tells there in
      after_over x.state (h.arc_at x.node i).letter (λ r. IsListedBy list (h.arc_at x.node i).to r u) range.1
      (after_weaker x.state (h.arc_at x.node i).letter (λ r. IsListedBy list (h.arc_at x.node i).to r way.1) (λ r. IsListedBy list (h.arc_at x.node i).to r u)
      (λ r. listed_later (h.arc_at x.node i).to r way.1 u arc.in_time) by_letter)

-- ---- the verdict on labels, clause by clause

-- what a verdict is said by: a clause fails first at a place, or it holds and the later ones decide
abbrev ByClause : ℕ → ℕ → (ℕ → Type 0) → Type 0 → LabelVerdict → Type 0
ByClause clause n P later r = ((at : ℕ) × FailsFirstAt n P at × (r ≡ Open clause at)) ⊎ (HoldsBelow n P × later)

same_clause : (clause n m : ℕ) (P Q : ℕ → Type 0) (later also : Type 0) (r s : LabelVerdict) → n ≡ m → ((k : ℕ) → k < n → P k → Q k) → ((k : ℕ) → k < n → Q k → P k)
    → (HoldsBelow n P → HoldsBelow m Q → later → also → r ≡ s) → ByClause clause n P later r → ByClause clause m Q also s → r ≡ s
same_clause clause n m P Q later also r s counts to from rest (inl (a, p, e)) (inl (b, q, f)) =
    e ∙ (ap (λ at. Open clause at) (first_once n m P Q to (λ k lt. from k (omega arith)) a b p q) ∙ sym f)
same_clause clause n m P Q later also r s counts to from rest (inl (a, p, e)) (inr (q, more)) = absurd (p.fails (from a p.place (q a (let w = p.place in omega arith))))
same_clause clause n m P Q later also r s counts to from rest (inr (p, more)) (inl (b, q, f)) =
    let lt : b < n = (let w = q.place in omega arith) in
    absurd (q.fails (to b lt (p b lt)))
same_clause clause n m P Q later also r s counts to from rest (inr (p, x)) (inr (q, y)) = rest p q x y

module _ (g : GraphMeaning) (l : LabelsMeaning) (starts targets : List ℕ) (dep : ℕ) (arrival : Option ℕ) (list : List Label) where
  abbrev ByArcs : LabelVerdict → Type 0
  ByArcs r = ByClause 9 (length list) (ArcsAreListedAt g l arrival list) (r ≡ Closed) r

  abbrev ByEnds : LabelVerdict → Type 0
  ByEnds r = ByClause 8 (length list) (IsNoEndAt l targets list) (ByArcs r) r

  abbrev ByStarts : LabelVerdict → Type 0
  ByStarts r = ByClause 7 (length (start_pairs l starts)) (StartIsListedAt l starts dep arrival list) (ByEnds r) r

  abbrev ByOrder : LabelVerdict → Type 0
  ByOrder r = ByClause 6 (length list) (IsInOrderAt g l arrival list) (ByStarts r) r

  clauses_of : (r : LabelVerdict) → IsVerdict g l starts targets dep arrival list r → ByOrder r
  clauses_of Closed closed = inr (closed.in_order, inr (closed.starts_listed, inr (closed.no_end, inr (closed.arcs_listed, refl))))
  clauses_of (Open clause at) (inl (e, fails)) = inl (at, fails, ap (λ c. Open c at) e)
  clauses_of (Open clause at) (inr (inl (e, order, fails))) = inr (order, inl (at, fails, ap (λ c. Open c at) e))
  clauses_of (Open clause at) (inr (inr (inl (e, order, listed, fails)))) = inr (order, inr (listed, inl (at, fails, ap (λ c. Open c at) e)))
  clauses_of (Open clause at) (inr (inr (inr (e, order, listed, ends, fails)))) = inr (order, inr (listed, inr (ends, inl (at, fails, ap (λ c. Open c at) e))))

-- the pairs of starts and start states
states_same : (l m : LabelsMeaning) → ((q : ℕ) → l.is_start q ≡ m.is_start q) → (k : ℕ) → start_states l k ≡ start_states m k
states_same l m starts zero = refl
states_same l m starts (suc k) =
    ap (λ (qs : List ℕ). qs ++ (if l.is_start k then k ∷ [] else [])) (states_same l m starts k) ∙ ap (λ (b : Bool). start_states m k ++ (if b then k ∷ [] else [])) (starts k)

pairs_same : (l m : LabelsMeaning) → ((q : ℕ) → l.is_start q ≡ m.is_start q) → l.states ≡ m.states → (starts : List ℕ) → start_pairs l starts ≡ start_pairs m starts
pairs_same l m alike states [] = refl
pairs_same l m alike states (v ∷ starts) =
    let here : start_states l l.states ≡ start_states m m.states = ap (start_states l) states ∙ states_same l m alike m.states in
    ap (λ qs. pairs_at v qs ++ start_pairs l starts) here ∙ ap (λ ps. pairs_at v (start_states m m.states) ++ ps) (pairs_same l m alike states starts)

module _ (g h : GraphMeaning) (same : CoverEachOther g h) (l m : LabelsMeaning) (alike : AnswerAlike l m) (starts targets : List ℕ) (dep : ℕ) (arrival : Option ℕ) (list : List Label) where
  forth_moves : (q c r : ℕ) → q < l.states → HasMove m q c r → HasMove l q c r
  forth_moves q c r lt = (alike.moves q c r lt).1

  back_moves : (q c r : ℕ) → q < m.states → HasMove l q c r → HasMove m q c r
  back_moves q c r lt = (alike.moves q c r (subst (λ k. q < k) (sym alike.states) lt)).0

  back_accepts : (q : ℕ) → q < m.states → l.accepts q ≡ m.accepts q
  back_accepts q lt = alike.accepts q (subst (λ k. q < k) (sym alike.states) lt)

  same_pairs : start_pairs l starts ≡ start_pairs m starts
  same_pairs = pairs_same l m alike.starts alike.states starts

  abbrev ListedAt : List (ℕ × ℕ) → ℕ → Type 0
  ListedAt pairs k = (d : ℕ × ℕ) → IsBefore arrival dep → IsListedBy list (slice_index_or pairs k d).0 (slice_index_or pairs k d).1 dep

  pub same_labels_verdict : (r s : LabelVerdict) → IsVerdict g l starts targets dep arrival list r
      → IsVerdict h m starts targets dep arrival list s → r ≡ s
  same_labels_verdict r s first second =
      same_clause 6 (length list) (length list) _ _ _ _ r s refl
      (λ k lt. in_order_over g h same.nodes same.back l m alike.states forth_moves (λ q lt. sym (alike.accepts q lt)) targets arrival list k)
      (λ k lt. in_order_over h g (sym same.nodes) same.forth m l (sym alike.states) back_moves back_accepts targets arrival list k)
      by_starts (clauses_of g l starts targets dep arrival list r first) (clauses_of h m starts targets dep arrival list s second)
    where
      by_starts : HoldsBelow (length list) (IsInOrderAt g l arrival list) → HoldsBelow (length list) (IsInOrderAt h m arrival list)
          → ByStarts g l starts targets dep arrival list r → ByStarts h m starts targets dep arrival list s → r ≡ s
      by_starts in_one in_two = same_clause 7 (length (start_pairs l starts)) (length (start_pairs m starts)) _ _ _ _ r s (ap length same_pairs)
          (λ k lt. subst (λ (ps : List (ℕ × ℕ)). ListedAt ps k) same_pairs)
          (λ k lt. subst (λ (ps : List (ℕ × ℕ)). ListedAt ps k) (sym same_pairs))
          (λ _ _. by_ends)
        where
          by_ends : ByEnds g l starts targets dep arrival list r → ByEnds h m starts targets dep arrival list s → r ≡ s
          by_ends = same_clause 8 (length list) (length list) _ _ _ _ r s refl
              (λ k lt. no_end_over g h same.nodes same.back l m alike.states forth_moves (λ q lt. sym (alike.accepts q lt)) targets arrival list k (in_one k lt))
              (λ k lt. no_end_over h g (sym same.nodes) same.forth m l (sym alike.states) back_moves back_accepts targets arrival list k (in_two k lt))
              (λ _ _. by_arcs)
            where
              by_arcs : ByArcs g l starts targets dep arrival list r → ByArcs h m starts targets dep arrival list s → r ≡ s
              by_arcs = same_clause 9 (length list) (length list) _ _ _ _ r s refl
                  (λ k lt. arcs_over g h same.nodes same.back l m alike.states forth_moves (λ q lt. sym (alike.accepts q lt)) targets arrival list k (in_one k lt))
                  (λ k lt. arcs_over h g (sym same.nodes) same.forth m l (sym alike.states) back_moves back_accepts targets arrival list k (in_two k lt))
                  (λ _ _ e f. e ∙ sym f)

-- ---- the verdict on a journey

-- a step before one that is reached can be taken
bad_before : (n : NetworkLists) → IsNetwork n → (v t : ℕ) (steps : List Step) (a b : ℕ) → IsFirstBad n v t steps a → IsFirstBad n v t steps b → a < b → ⊥
bad_before n network v t [] a b one other lt = let is = one.step_is in cc
bad_before n network v t (step ∷ steps) a zero one other lt = absurd (omega arith)
bad_before n network v t (step ∷ steps) zero (suc b) one other lt =
    let (v1, t1, c, rest, here, more, e) = other.before in
    let (at, now, none) = one.before in
    let same : step ≡ one.step = some_is one.step_is in
    one.bad v1 t1 c
    (subst (λ (s : Step). IsStep n one.node one.at s v1 t1 c) same
    (subst (λ x. IsStep n x one.at step v1 t1 c) (sym at) (subst (λ y. IsStep n v y step v1 t1 c) (sym now) here)))
bad_before n network v t (step ∷ steps) (suc a) (suc b) one other lt =
    let (v1, t1, c, rest, here, more, e) = one.before in
    let (v2, t2, c2, rest2, here2, more2, e2) = other.before in
    let ends = step_once n network v t step v2 t2 c2 v1 t1 c here2 here in
    let there : AreSteps n v1 t1 (take b steps) other.node other.at rest2 =
    subst (λ x. AreSteps n x t1 (take b steps) other.node other.at rest2) ends.0 (subst (λ y. AreSteps n v2 y (take b steps) other.node other.at rest2) ends.1 more2) in
    bad_before n network v1 t1 steps a b
    (record { node = one.node; at = one.at; letters = rest; step = one.step; before = more; step_is = one.step_is; bad = one.bad })
    (record { node = other.node; at = other.at; letters = rest2; step = other.step; before = there; step_is = other.step_is; bad = other.bad }) (omega arith)

-- a bad step is the first at one place
pub first_bad_once : (n : NetworkLists) → IsNetwork n → (v t : ℕ) (steps : List Step) (a b : ℕ) → IsFirstBad n v t steps a → IsFirstBad n v t steps b → a ≡ b
first_bad_once n network v t steps a b one other = elim (cases_lt a b) [
  | inl lt ↦ absurd (bad_before n network v t steps a b one other lt)
  | inr ge ↦ elim (cases_lt b a) [
    | inl lt ↦ absurd (bad_before n network v t steps b a other one lt)
    | inr le ↦ omega arith
  ]
]

-- of three facts one is the first that fails
pub fails_first_once : (P Q R P2 Q2 R2 : Type 0) → (P → P2) → (P2 → P) → (Q → Q2) → (Q2 → Q) → (R → R2) → (R2 → R) → (a b : ℕ) → FailsFirstOfThree P Q R a → FailsFirstOfThree P2 Q2 R2 b → a ≡ b
fails_first_once P Q R P2 Q2 R2 p p2 q q2 r r2 a b (inl (e, none)) (inl (f, _)) = e ∙ sym f
fails_first_once P Q R P2 Q2 R2 p p2 q q2 r r2 a b (inl (e, none)) (inr (inl (f, first, _))) = absurd (none (p2 first))
fails_first_once P Q R P2 Q2 R2 p p2 q q2 r r2 a b (inl (e, none)) (inr (inr (f, first, _, _))) = absurd (none (p2 first))
fails_first_once P Q R P2 Q2 R2 p p2 q q2 r r2 a b (inr (inl (e, first, none))) (inl (f, not)) = absurd (not (p first))
fails_first_once P Q R P2 Q2 R2 p p2 q q2 r r2 a b (inr (inl (e, first, none))) (inr (inl (f, _, _))) = e ∙ sym f
fails_first_once P Q R P2 Q2 R2 p p2 q q2 r r2 a b (inr (inl (e, first, none))) (inr (inr (f, _, second, _))) = absurd (none (q2 second))
fails_first_once P Q R P2 Q2 R2 p p2 q q2 r r2 a b (inr (inr (e, first, second, none))) (inl (f, not)) = absurd (not (p first))
fails_first_once P Q R P2 Q2 R2 p p2 q q2 r r2 a b (inr (inr (e, first, second, none))) (inr (inl (f, _, not))) = absurd (not (q second))
fails_first_once P Q R P2 Q2 R2 p p2 q q2 r r2 a b (inr (inr (e, first, second, none))) (inr (inr (f, _, _, _))) = e ∙ sym f

module _ (n : NetworkLists) (network : IsNetwork n) (q : Asked) (arrival : ℕ) (j : Route) where
  -- a journey has one end, one arrival and one word
  pub journey_once : (w u : ℕ) (word : List ℕ) (w2 u2 : ℕ) (word2 : List ℕ) → IsJourney n j w u word → IsJourney n j w2 u2 word2 → (w ≡ w2) × (u ≡ u2) × (word ≡ word2)
  journey_once w u word w2 u2 word2 a b =
      let ends = steps_once n network j.start j.at j.steps w u a.letters w2 u2 b.letters a.steps b.steps in
      (ends.0, ends.1, a.word_is ∙ (ap collapse ends.2 ∙ sym b.word_is))

module _ (n : NetworkLists) (network : IsNetwork n) (q : Asked) (goal : Goal) (j : Route) where
  -- a journey that is as it is claimed fails in no clause
  pub as_claimed_fails_not : IsAsClaimed n q goal j → (clause at : ℕ) → JourneyFails n q goal j clause at → ⊥
  as_claimed_fails_not a clause at (inl fails) = fails.fails a.starts
  as_claimed_fails_not a clause at (inr (inl fails)) =
      bad_not_taken n network j.start j.at j.steps at fails.bad (record { end = a.end; arrival = a.time; letters = a.real.letters; are = a.real.steps })
  as_claimed_fails_not a clause at (inr (inr fails)) = by_end fails.bad
    where
      same : (a.end ≡ fails.end) × (a.time ≡ fails.time) × (a.word ≡ fails.word)
      same = journey_once n network q a.time j a.end a.time a.word fails.end fails.time fails.word a.real fails.real

      by_end : FailsFirstOfThree (IsCopy n q.to fails.end) (IsTimely goal.arrival fails.time) (IsWordOf q.form fails.word) at → ⊥
      by_end (inl (e, none)) = none (subst (IsCopy n q.to) same.0 a.ends_at_copy)
      by_end (inr (inl (e, first, none))) = none (subst (IsTimely goal.arrival) same.1 a.timely)
      by_end (inr (inr (e, first, second, none))) = none (subst (IsWordOf q.form) same.2 a.denoted)

  pub fails_once : (c at d by : ℕ) → JourneyFails n q goal j c at → JourneyFails n q goal j d by → (c ≡ d) × (at ≡ by)
  fails_once c at d by (inl x) (inl y) = (x.clause_is ∙ sym y.clause_is, x.place ∙ sym y.place)
  fails_once c at d by (inl x) (inr (inl y)) = absurd (x.fails y.starts)
  fails_once c at d by (inl x) (inr (inr y)) = absurd (x.fails y.starts)
  fails_once c at d by (inr (inl x)) (inl y) = absurd (y.fails x.starts)
  fails_once c at d by (inr (inl x)) (inr (inl y)) = (x.clause_is ∙ sym y.clause_is, first_bad_once n network j.start j.at j.steps at by x.bad y.bad)
  fails_once c at d by (inr (inl x)) (inr (inr y)) =
      absurd (bad_not_taken n network j.start j.at j.steps at x.bad (record { end = y.end; arrival = y.time; letters = y.real.letters; are = y.real.steps }))
  fails_once c at d by (inr (inr x)) (inl y) = absurd (y.fails x.starts)
  fails_once c at d by (inr (inr x)) (inr (inl y)) =
      absurd (bad_not_taken n network j.start j.at j.steps by y.bad (record { end = x.end; arrival = x.time; letters = x.real.letters; are = x.real.steps }))
  fails_once c at d by (inr (inr x)) (inr (inr y)) =
      let same = journey_once n network q x.time j x.end x.time x.word y.end y.time y.word x.real y.real in (
        x.clause_is ∙ sym y.clause_is,
        fails_first_once (IsCopy n q.to x.end) (IsTimely goal.arrival x.time) (IsWordOf q.form x.word) (IsCopy n q.to y.end) (IsTimely goal.arrival y.time) (IsWordOf q.form y.word)
            (subst (IsCopy n q.to) same.0) (subst (IsCopy n q.to) (sym same.0)) (subst (IsTimely goal.arrival) same.1) (subst (IsTimely goal.arrival) (sym same.1))
            (subst (IsWordOf q.form) same.2) (subst (IsWordOf q.form) (sym same.2)) at by x.bad y.bad,
      )

-- ---- what a verdict is said by, whatever is claimed

-- the line is refused, with the fault of a number; or what it asks decides
abbrev pub ByLine : NetworkLists → List ℕ → (Asked → CertVerdict → Type 0) → CertVerdict → Type 0
ByLine n line ByAsked r =
    ((fault : QueryFault) × (at : ℕ) × IsRefused n line fault × (number_of fault ≡ Some at) × (r ≡ Invalid 1 at)) ⊎ ((asked : Asked) × Asks n line asked × ByAsked asked r)

pub same_by_line : (n : NetworkLists) (line : List ℕ) (ByAsked : Asked → CertVerdict → Type 0) → ((asked : Asked) (r s : CertVerdict) → ByAsked asked r → ByAsked asked s → r ≡ s)
    → (r s : CertVerdict) → ByLine n line ByAsked r → ByLine n line ByAsked s → r ≡ s
same_by_line n line ByAsked once r s (inl (a, at, x, p, e)) (inl (b, by, y, q, f)) =
    let same : Err a ≡ Err b = reading_is_unique n line (Err a) (Err b) x y in
    let number : at ≡ by = cc in
    e ∙ (ap (λ k. Invalid 1 k) number ∙ sym f)
same_by_line n line ByAsked once r s (inl (a, at, x, p, e)) (inr (asked, y, _)) = let same = reading_is_unique n line (Err a) (Ok asked) x y in cc
same_by_line n line ByAsked once r s (inr (asked, x, _)) (inl (b, by, y, q, f)) = let same = reading_is_unique n line (Ok asked) (Err b) x y in cc
same_by_line n line ByAsked once r s (inr (a, x, p)) (inr (b, y, q)) =
    let same : Ok a ≡ Ok b = reading_is_unique n line (Ok a) (Ok b) x y in
    let asks : a ≡ b = cc in
    once b r s (subst (λ (asked : Asked). ByAsked asked r) asks p) q

-- a clause fails of the result; or it holds, and the labels decide
abbrev pub ByResult : (ℕ → ℕ → Type 0) → Type 0 → (CertVerdict → Type 0) → CertVerdict → Type 0
ByResult Fails Holds ByLabels r = ((clause : ℕ) × (at : ℕ) × Fails clause at × (r ≡ Invalid clause at)) ⊎ (Holds × ByLabels r)

pub same_by_result : (Fails : ℕ → ℕ → Type 0) (Holds : Type 0) (ByLabels : CertVerdict → Type 0) → ((a at b by : ℕ) → Fails a at → Fails b by → Invalid a at ≡ Invalid b by)
    → (Holds → (clause at : ℕ) → Fails clause at → ⊥) → ((r s : CertVerdict) → ByLabels r → ByLabels s → r ≡ s)
    → (r s : CertVerdict) → ByResult Fails Holds ByLabels r → ByResult Fails Holds ByLabels s → r ≡ s
same_by_result Fails Holds ByLabels once never labels r s (inl (a, at, x, e)) (inl (b, by, y, f)) = e ∙ (once a at b by x y ∙ sym f)
same_by_result Fails Holds ByLabels once never labels r s (inl (a, at, x, e)) (inr (holds, y)) = absurd (never holds a at x)
same_by_result Fails Holds ByLabels once never labels r s (inr (holds, x)) (inl (b, by, y, f)) = absurd (never holds b by y)
same_by_result Fails Holds ByLabels once never labels r s (inr (_, x)) (inr (_, y)) = labels r s x y

-- a journey fails in one clause, at one place
pub one_fault : (n : NetworkLists) → IsNetwork n → (q : Asked) (goal : Goal) (j : Route) (a at b by : ℕ) → JourneyFails n q goal j a at → JourneyFails n q goal j b by → Invalid a at ≡ Invalid b by
one_fault n network q goal j a at b by one other =
    let same = fails_once n network q goal j a at b by one other in
    ap (λ k. Invalid k at) same.0 ∙ ap (λ k. Invalid b k) same.1

-- ---- the verdict on a certificate, clause by clause

module _ (n : NetworkLists) (network : IsNetwork n) (h : Option HierarchyLists) (sound : IsSoundIfGiven n h) (c : Claim) where
  -- the labels decide, over some setting
  abbrev ByLabels : Asked → CertVerdict → Type 0
  ByLabels asked r = (s : Setting n h c.line) × (s.asked ≡ asked) × ((v : LabelVerdict)
      × IsVerdict s.graph (collapsed s.automaton) (starts_in h s.origins) (ends_in h s.targets) s.asked.depart (claimed_arrival c.result) c.labels v × (r ≡ as_verdict v))

  abbrev ByPhases : Asked → CertVerdict → Type 0
  ByPhases asked r = ((c.phases ≡ is_some h → ⊥) × (r ≡ Invalid 2 0))
      ⊎ ((c.phases ≡ is_some h) × ByResult (λ clause at. IsResultVerdict n asked c.result (Invalid clause at)) (ResultHolds n asked c.result) (ByLabels asked) r)

  same_by_labels : (asked : Asked) (r s : CertVerdict) → ByLabels asked r → ByLabels asked s → r ≡ s
  same_by_labels asked r s (x, same_x, (v, first, e)) (y, same_y, (w, second, f)) =
      let asks : x.asked ≡ y.asked = same_x ∙ sym same_y in
      let origins : x.origins ≡ y.origins = one_list_of_copies n x.asked.from x.origins y.origins x.origin (subst (λ (a : Asked). AreTheCopies n a.from y.origins) (sym asks) y.origin) in
      let targets : x.targets ≡ y.targets = one_list_of_copies n x.asked.to x.targets y.targets x.destination (subst (λ (a : Asked). AreTheCopies n a.to y.targets) (sym asks) y.destination) in
      let graphs = graphs_in_use_are_alike n network h sound x.targets x.graph y.graph x.in_use (subst (λ (ts : List ℕ). IsInUse n h ts y.graph) (sym targets) y.in_use) in
      let depart : x.asked.depart ≡ y.asked.depart = ap (λ (a : Asked). a.depart) asks in
      let positions = subst (λ (a : Asked). IsPositionAutomaton (written a.form) y.automaton) (sym asks) y.positions in
      let alike = collapsed_alike x.automaton y.automaton x.lawful y.lawful (positions_alike (written x.asked.form) x.automaton y.automaton x.positions positions) in
      let there = subst (λ (ss : List ℕ). IsVerdict y.graph (collapsed y.automaton) (starts_in h ss) (ends_in h x.targets) x.asked.depart (claimed_arrival c.result) c.labels w) (sym origins)
      (subst (λ (ts : List ℕ). IsVerdict y.graph (collapsed y.automaton) (starts_in h y.origins) (ends_in h ts) x.asked.depart (claimed_arrival c.result) c.labels w) (sym targets)
      (subst (λ (d : ℕ). IsVerdict y.graph (collapsed y.automaton) (starts_in h y.origins) (ends_in h y.targets) d (claimed_arrival c.result) c.labels w) (sym depart) second)) in
      let same = same_labels_verdict x.graph y.graph graphs (collapsed x.automaton) (collapsed y.automaton) alike (starts_in h x.origins) (ends_in h x.targets) x.asked.depart
      (claimed_arrival c.result) c.labels v w first there in
      e ∙ (ap as_verdict same ∙ sym f)

  -- a result that holds fails in no clause
  holds_fails_not : (asked : Asked) (result : Option (ℕ × Route)) → ResultHolds n asked result → (clause at : ℕ) → IsResultVerdict n asked result (Invalid clause at) → ⊥
  holds_fails_not asked None holds clause at fails = cc
  holds_fails_not asked (Some claimed) holds clause at fails =
      as_claimed_fails_not n network asked (goal_of asked claimed.0) claimed.1 (answers_as_claimed n asked claimed.0 claimed.1 holds) clause at fails

  result_fails_once : (asked : Asked) (result : Option (ℕ × Route)) (a at b by : ℕ) → IsResultVerdict n asked result (Invalid a at) → IsResultVerdict n asked result (Invalid b by) → Invalid a at ≡ Invalid b by
  result_fails_once asked None a at b by one other = cc
  result_fails_once asked (Some claimed) a at b by one other = one_fault n network asked (goal_of asked claimed.0) claimed.1 a at b by one other

  same_by_phases : (asked : Asked) (r s : CertVerdict) → ByPhases asked r → ByPhases asked s → r ≡ s
  same_by_phases asked r s (inl (p, e)) (inl (q, f)) = e ∙ sym f
  same_by_phases asked r s (inl (p, e)) (inr (q, y)) = absurd (p q)
  same_by_phases asked r s (inr (p, x)) (inl (q, f)) = absurd (q p)
  same_by_phases asked r s (inr (p, x)) (inr (q, y)) =
      same_by_result _ _ (ByLabels asked) (result_fails_once asked c.result) (holds_fails_not asked c.result) (same_by_labels asked) r s x y

  lines_of : (r : CertVerdict) → IsCertVerdict n h c r → ByLine n c.line ByPhases r
  lines_of Valid valid = inr (valid.setting.asked, valid.setting.asks, inr (valid.phases, inr (valid.holds, (valid.setting, refl, (Closed, valid.closed, refl)))))
  lines_of (Invalid clause at) (inl f) = inl (f.fault, at, f.refused, f.number, ap (λ k. Invalid k at) f.clause_is)
  lines_of (Invalid clause at) (inr (inl f)) = inr (f.asked, f.asks, inl (f.phases, ap₂ Invalid f.clause_is f.place))
  lines_of (Invalid clause at) (inr (inr (inl f))) = inr (f.asked, f.asks, inr (f.phases, inl (clause, at, f.fails, refl)))
  lines_of (Invalid clause at) (inr (inr (inr f))) = inr (f.setting.asked, f.setting.asks, inr (f.phases, inr (f.holds, (f.setting, refl, (Open clause at, f.open_at, refl)))))

pub verdict_is_unique : VerdictIsUnique
verdict_is_unique n network h sound c one other p q =
    same_by_line n c.line (ByPhases n network h sound c) (same_by_phases n network h sound c) one other (lines_of n network h sound c one p) (lines_of n network h sound c other q)
