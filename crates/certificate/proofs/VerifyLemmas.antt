-- What the checks of a certificate say of it together.
use Rattle.plan_base.proofs.Common.{◌≡◌, ℕ, zero, suc, ◌^◌, ◌<◌, ◌≤◌, inl, inr, List, length, get_or, Bool, false, Option, Some, None, refl, sym, ◌∙◌, subst, arith, All, AllPairs, ◌↔◌, is_some, cases_lt, length-map}
use Rattle.search_laws.specs.{LabelsMeaning, IsLawfulLabels, Accepts, GraphMeaning, ArrivesAt, word_from, collapse}
use Rattle.product_search.specs.{Label, LabelVerdict, Open, IsVerdict, NoneArrivesBefore, declared.verdict.LabelVerdict.TheVariants.Closed}
use Rattle.product_search.proofs.BoundLemmas.{bound}
use Rattle.automaton.specs.{Positions, position_meaning, written, IsPositionAutomaton, collapsed, AcceptsCollapsed}
use Rattle.automaton.proofs.AcceptLemmas.{collapsed_accept}
use Rattle.hierarchy.specs.{HierarchyLists}
use Rattle.phase_graph.specs.{phase_node, IsInUse, IsSoundIfGiven, starts_in, ends_in}
use Rattle.phase_graph.proofs.InUseLemmas.{journeys_have_walks_in_use, graphs_in_use_are_lawful}
use Rattle.mode_expression.specs.{Expr, form_of, IsWordOf, Denotes}
use Rattle.mode_expression.proofs.ParseLemmas.{expressions_are_usable}
use Rattle.mode_network.specs.{NetworkLists.NetworkLists, nodes_of, IsNetwork, Route}
use Rattle.journey.specs.{Query, IsQuery, AreTheCopies, Asked, Answers, asked_by}
use Rattle.certificate.specs.{declared.verdict.CertVerdict.TheVariants.Valid, Invalid, Claim, Setting, ResultHolds, claimed_arrival, IsBestResult, ValidProves, claim_on, AreDenoted, IsResultVerdict, IsCertVerdict, as_verdict}

-- ---- how many copies there are

-- a list that ascends holds no number below its place
place_le : (list : List ℕ) → AllPairs (λ v w. v < w) list → (k d : ℕ) → k < length list → k ≤ get_or list k d
place_le list ascending zero d lt = omega arith
place_le list ascending (suc k) d lt =
    omega (arith, place_le list ascending k d (omega arith), ascending k (suc k) d (omega arith) lt)

-- so it is no longer than the number that bounds it
few_listed : (list : List ℕ) (most : ℕ) → AllPairs (λ v w. v < w) list → All (λ v. v < most) list → length list ≤ most
few_listed list most ascending below = elim (cases_lt most (length list)) [
  | inl long ↦ absurd (omega (arith, place_le list ascending most 0 long, below most 0 long))
  | inr short ↦ short
]

-- so there are few starts, and their nodes have numbers of 32 bits
pub few_starts : (h : Option HierarchyLists) (origins starts : List ℕ) → starts ≡ starts_in h origins → length origins < 2 ^ 32 → length starts < 2 ^ 32
few_starts None origins starts is few = subst (λ (ss : List ℕ). length ss < 2 ^ 32) (sym is) few
few_starts (Some h) origins starts is few = subst (λ (ss : List ℕ). length ss < 2 ^ 32) (sym is) (omega (arith, few, length-map origins (λ v. phase_node v false)))

pub low_nodes : (n : NetworkLists) → IsNetwork n → (list : List ℕ) → All (λ v. v < length (nodes_of n)) list → All (λ v. v < 2 ^ 31) list
low_nodes n network list nodes k d lt = let low = nodes k d lt in omega (arith, low, network.few_nodes)

pub few_copies : (n : NetworkLists) → IsNetwork n → (list : List ℕ) → AllPairs (λ v w. v < w) list → All (λ v. v < length (nodes_of n)) list → length list < 2 ^ 32
few_copies n network list ascending nodes = omega (arith, few_listed list (length (nodes_of n)) ascending nodes, network.few_nodes)

-- ---- words

-- the automaton of an expression, which reads adjacent equal road letters as one
pub automaton_denotes : (expr : Expr) (inner positions : Positions) → inner ≡ positions → AcceptsCollapsed (position_meaning positions)
    → ((word : List ℕ) → Accepts (position_meaning positions) word ↔ Denotes expr word) → AreDenoted (form_of expr) (collapsed (position_meaning inner))
automaton_denotes expr inner positions same collapses denotes = subst (λ p. AreDenoted (form_of expr) (collapsed (position_meaning p))) (sym same) (λ word. (
  λ accepted. (denotes (collapse word)).0 ((collapses word).0 accepted),
  λ denoted. (collapses word).1 ((denotes (collapse word)).1 denoted),
))

-- ---- verdicts

pub phases_fail : (n : NetworkLists) (h : Option HierarchyLists) (c : Claim) (q : Query) → IsQuery n c.line q.from q.to q.depart (form_of q.expr) → (c.phases ≡ is_some h → ⊥)
    → IsCertVerdict n h c (Invalid 2 0)
phases_fail n h c q asks phases = inr (inl (record { clause_is = refl; place = refl; asked = asked_by q; asks = asks; phases = phases }))

-- the claim of a certificate, part by part
pub claim_is : (c : Claim) (h : Option HierarchyLists) (q : Query) (line : List ℕ) (phases : Bool) (result : Option (ℕ × Route)) (labels : List Label)
    → (let parts : Claim = record { line = line; phases = phases; result = result; labels = labels } in parts ≡ c) → q.line ≡ line → phases ≡ is_some h → claim_on q h result labels ≡ c
claim_is c h q line phases result labels view same of_phases = cc

result_holds : (n : NetworkLists) (q : Asked) (result : Option (ℕ × Route)) → IsResultVerdict n q result Valid → ResultHolds n q result
result_holds n q None verdict = tt
result_holds n q (Some claimed) verdict = verdict

module _ (n : NetworkLists) (h : Option HierarchyLists) (c : Claim) (q : Query) (asks : IsQuery n c.line q.from q.to q.depart (form_of q.expr)) (phases : c.phases ≡ is_some h)
    (l : LabelsMeaning) (positions : IsPositionAutomaton (written (form_of q.expr)) l) (lawful : IsLawfulLabels l)
    (origins targets : List ℕ) (origin : AreTheCopies n q.from origins) (destination : AreTheCopies n q.to targets) (graph : GraphMeaning) (in_use : IsInUse n h targets graph) where
  abbrev setting : Setting n h c.line
  setting = record {
    asked = asked_by q;
    asks = asks;
    origins = origins;
    targets = targets;
    origin = origin;
    destination = destination;
    graph = graph;
    in_use = in_use;
    automaton = l;
    positions = positions;
    lawful = lawful;
  }

  pub labels_judged : (verdict : LabelVerdict) → IsResultVerdict n (asked_by q) c.result Valid
      → IsVerdict graph (collapsed l) (starts_in h origins) (ends_in h targets) q.depart (claimed_arrival c.result) c.labels verdict → IsCertVerdict n h c (as_verdict verdict)
  labels_judged Closed holds closed = record { setting = setting; phases = phases; holds = result_holds n (asked_by q) c.result holds; closed = closed }
  labels_judged (Open clause at) holds open_at =
      inr (inr (inr (record { setting = setting; phases = phases; holds = result_holds n (asked_by q) c.result holds; open_at = open_at })))

-- ---- what is proved

module _ (n : NetworkLists) (network : IsNetwork n) (h : Option HierarchyLists) (sound : IsSoundIfGiven n h) (q : Asked) (l : LabelsMeaning) (origins targets : List ℕ)
    (denotes : AreDenoted q.form l) (from : AreTheCopies n q.from origins) (to : AreTheCopies n q.to targets) (g : GraphMeaning) (in_use : IsInUse n h targets g) where
  -- for each journey that answers an accepted walk arrives no later
  arrives : (k : Route) (t : ℕ) → Answers n q k t → (s : ℕ) × (s ≤ t) × ArrivesAt g l (starts_in h origins) (ends_in h targets) k.at s
  arrives k t a =
      let walk = journeys_have_walks_in_use n network h sound origins targets g in_use k.steps k.start k.at a.end t a.real.letters a.real.steps
      ((from.are k.start).1 a.starts_at_copy) ((to.are a.end).1 a.ends_at_copy) in
      let denoted : IsWordOf q.form (collapse (word_from g walk.start walk.steps)) = subst (IsWordOf q.form) (a.real.word_is ∙ sym walk.same_word) a.denoted in (
        walk.at,
        walk.no_later,
        record {
          start = walk.start;
          end = walk.end;
          steps = walk.steps;
          starts_there = walk.starts_there;
          ends_there = walk.ends_there;
          walk = walk.walk;
          word = (denotes (word_from g walk.start walk.steps)).1 denoted;
        },
      )

  pub best_result : (result : Option (ℕ × Route)) → ResultHolds n q result
      → NoneArrivesBefore g l (starts_in h origins) (ends_in h targets) q.depart (claimed_arrival result) → IsBestResult n q result
  best_result None holds bound = λ k t a. let walk = arrives k t a in bound k.at walk.0 a.not_before walk.2
  best_result (Some claimed) holds bound = (
    record { arrival = claimed.0; answers = holds; least = λ k t a. (let walk = arrives k t a in let first = bound k.at walk.0 a.not_before walk.2 in omega (arith, walk.1, first)) },
    refl,
  )

pub valid_proves : ValidProves
valid_proves n network h sound c valid =
    let s = valid.setting in
    let asked = s.asked in
    let usable = expressions_are_usable s.asks.shape.expr asked.form s.asks.expression in
    let denotes = collapsed_accept asked.form usable s.automaton s.lawful s.positions in
    let none = bound s.graph (graphs_in_use_are_lawful n network h sound s.targets s.graph s.in_use) (collapsed s.automaton) (starts_in h s.origins) (ends_in h s.targets) asked.depart
    (claimed_arrival c.result) c.labels valid.closed in
    record {
      asked = asked;
      asks = s.asks;
      best = best_result n network h sound asked (collapsed s.automaton) s.origins s.targets denotes s.origin s.destination s.graph s.in_use c.result valid.holds none;
    }
