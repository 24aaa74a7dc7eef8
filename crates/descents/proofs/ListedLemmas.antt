-- What a walk reaches is in a list of labels that is closed, where no arrival ends it.
use Rattle.plan_base.proofs.Common.{◌≡◌, ◌∙◌, ℕ, zero, suc, ◌<◌, ◌≤◌, Bool, List, [], ◌∷◌, None, Some, inl, inr, sym, ap, subst, arith, IsTrue, Contains, cond, cases_eq, length-map, get_or-map, Contains-append_left, Contains-append_right}
use Rattle.search_laws.specs.{GraphMeaning, HasArc, IsLawfulGraph, LabelsMeaning, AllAfter}
use Rattle.search_laws.proofs.WalkLemmas.{walk_known}
use Rattle.product_search.specs.{Label, IsReachedAt, IsListedBy, IsClosed, ArcIsListed, label_of, start_states, start_pairs, pairs_at, AreLeastLabels}
use Rattle.rounds.specs.{AreReachedLabels}

states_contain : (l : LabelsMeaning) (n q : ℕ) → q < n → IsTrue (l.is_start q) → Contains (start_states l n) q
states_contain l zero q lt is = absurd (omega arith)
states_contain l (suc n) q lt is = elim (cases_eq q n) [
  | inl same ↦ Contains-append_right (start_states l n) (cond (l.is_start n) (n ∷ []) []) q (last (l.is_start n) same (subst (λ x. IsTrue (l.is_start x)) same is))
  | inr other ↦ Contains-append_left (start_states l n) (cond (l.is_start n) (n ∷ []) []) q (states_contain l n q (omega (arith, other)) is)
] where
  last : (b : Bool) → q ≡ n → IsTrue b → Contains (cond b (n ∷ []) []) q
  last b here is = subst (λ c. Contains (cond c (n ∷ []) []) q) (sym is) (0, omega arith, sym here)

pairs_contain : (l : LabelsMeaning) (starts : List ℕ) (v q : ℕ) → Contains starts v → q < l.states → IsTrue (l.is_start q) → Contains (start_pairs l starts) (v, q)
pairs_contain l [] v q (k, lt, is) low start = absurd (omega (arith, lt))
pairs_contain l (x ∷ starts) v q (zero, lt, is) low start =
    let state = states_contain l l.states q low start in
    let states = start_states l l.states in
    let pair : ℕ → ℕ × ℕ = λ r. (x, r) in
    let here : Contains (pairs_at x states) (x, q) = (state.0, omega (arith, state.1, length-map states pair), get_or-map pair states state.0 q (x, q) state.1 ∙ ap pair state.2) in
    Contains-append_left (pairs_at x states) (start_pairs l starts) (v, q) (subst (λ y. Contains (pairs_at x states) (y, q)) is here)
pairs_contain l (x ∷ starts) v q (suc k, lt, is) low start =
    Contains-append_right (pairs_at x (start_states l l.states)) (start_pairs l starts) (v, q) (pairs_contain l starts v q (k, omega (arith, lt), is) low start)

module _ (g : GraphMeaning) (lawful : IsLawfulGraph g) (l : LabelsMeaning) (starts : List ℕ) (dep : ℕ) (list : List Label) (closed : IsClosed g l starts [] dep None list) where
  abbrev Known : ℕ → ℕ → ℕ → Type 0
  Known v q s = Contains list (label_of v q s)

  known_closed : (t v q s i a : ℕ) → Known v q s → HasArc g v i → g.arrive v i s ≡ Some a → s ≤ t → a ≤ t
      → AllAfter l q (g.arc_at v i).letter (λ r. (b : ℕ) × (b ≤ a) × Known (g.arc_at v i).to r b)
  known_closed t v q s i a (k, lt, is) has e early by =
      subst (λ (x : Label). (i : ℕ) → i < g.arcs x.node → ArcIsListed g l None list x i) is (closed.arcs_listed k lt (label_of v q s)) i has.arc a e tt

  listed : (v q t : ℕ) → IsReachedAt g l starts dep v q t → IsListedBy list v q t
  listed v q t r =
      let pair = pairs_contain l starts r.start r.first r.starts_there r.is_state r.is_start in
      let first = subst (λ p. IsListedBy list p.0 p.1 dep) pair.2 (closed.starts_listed pair.0 pair.1 (r.start, r.first) tt) in
      walk_known g lawful l t Known (known_closed t) r.steps r.start r.first dep v q r.walk r.reads (first.0, first.1, first.2)

  -- so the least labels are all that walks reach
  pub all_reached : AreLeastLabels g l starts dep None None list → AreReachedLabels g l starts dep list
  all_reached least = record { reached = λ k d lt. (least.least k d lt).0.reached; all = listed }
