-- The first clause of a certificate that fails, at the first place where it does.
use Rattle.std.specs.Prelude.{◌≡◌, ℕ, ◌↔◌, ◌⊎◌, is_some, List, Option, Some, None}
use Rattle.mode_expression.specs.{Form.Form, IsWordOf}
use Rattle.search_laws.specs.{LabelsMeaning, Accepts, collapse}
use Rattle.product_search.specs.{Label, LabelVerdict, Open, IsVerdict, declared.verdict.LabelVerdict.TheVariants.Closed}
use Rattle.automaton.specs.{collapsed}
use Rattle.hierarchy.specs.{HierarchyLists}
use Rattle.phase_graph.specs.{IsSoundIfGiven, starts_in, ends_in}
use Rattle.mode_network.specs.{NetworkLists.NetworkLists, IsNetwork, Route}
use Rattle.journey.specs.{QueryFault, Query, number_of, IsRefused, Asked, Asks, Answers}
use Rattle.certificate.specs.{declared.verdict.CertVerdict.CertVerdict, declared.verdict.CertVerdict.TheVariants.Valid, declared.verdict.CertVerdict.TheVariants.Invalid, declared.claimed.Arrival.TheVariants.At, declared.claimed.Goal.Goal, Certificates.Claim, Claimed.JourneyFails, Valid.Setting, Valid.ResultHolds, Valid.claimed_arrival, Valid.IsValid}

-- what is claimed of a query, by labels of phases where a hierarchy is given
abbrev pub claim_on : Query → Option HierarchyLists → Option (ℕ × Route) → List Label → Claim
claim_on q h result labels = record { line = q.line; phases = is_some h; result = result; labels = labels }

-- the automaton accepts exactly the words whose collapse the form denotes
abbrev pub AreDenoted : Form → LabelsMeaning → Type 0
AreDenoted form l = (word : List ℕ) → Accepts l word ↔ IsWordOf form (collapse word)

-- ---- clause 1: the line is refused, with the fault of this number

pub record LineFails (n : NetworkLists) (line : List ℕ) (clause at : ℕ) : Type 0 where
  pub clause_is : clause ≡ 1
  pub fault : QueryFault
  pub refused : IsRefused n line fault
  pub number : number_of fault ≡ Some at

-- ---- clause 2: the line is a query, and the labels are of phases without a hierarchy, or are not with one

pub record PhasesFail (n : NetworkLists) (h : Option HierarchyLists) (c : Claim) (clause at : ℕ) : Type 0 where
  pub clause_is : clause ≡ 2
  pub place : at ≡ 0
  pub asked : Asked
  pub asks : Asks n c.line asked
  pub phases : c.phases ≡ is_some h → ⊥

-- ---- clauses 3 to 5: of the journey that is claimed

-- it starts at the departure or later, and arrives when that is claimed
abbrev pub goal_of : Asked → ℕ → Goal
goal_of q arrival = record { earliest = q.depart; arrival = At arrival }

-- the verdict on a journey that is claimed with an arrival
abbrev pub IsJourneyVerdict : NetworkLists → Asked → ℕ → Route → CertVerdict → Type 0
IsJourneyVerdict n q arrival j Valid = Answers n q j arrival
IsJourneyVerdict n q arrival j (Invalid clause at) = JourneyFails n q (goal_of q arrival) j clause at

-- the verdict on a result, which is skipped where it is claimed that no journey answers
abbrev pub IsResultVerdict : NetworkLists → Asked → Option (ℕ × Route) → CertVerdict → Type 0
IsResultVerdict n q (Some claimed) verdict = IsJourneyVerdict n q claimed.0 claimed.1 verdict
IsResultVerdict n q None verdict = verdict ≡ Valid

pub record ResultFails (n : NetworkLists) (h : Option HierarchyLists) (c : Claim) (clause at : ℕ) : Type 0 where
  pub asked : Asked
  pub asks : Asks n c.line asked
  pub phases : c.phases ≡ is_some h
  pub fails : IsResultVerdict n asked c.result (Invalid clause at)

-- ---- clauses 6 to 9: of the labels

-- a verdict on labels as one on their certificate
abbrev pub as_verdict : LabelVerdict → CertVerdict
as_verdict Closed = Valid
as_verdict (Open clause at) = Invalid clause at

pub record LabelsFail (n : NetworkLists) (h : Option HierarchyLists) (c : Claim) (clause at : ℕ) : Type 0 where
  pub setting : Setting n h c.line
  pub phases : c.phases ≡ is_some h
  pub holds : ResultHolds n setting.asked c.result
  pub open_at : IsVerdict setting.graph (collapsed setting.automaton) (starts_in h setting.origins) (ends_in h setting.targets) setting.asked.depart
      (claimed_arrival c.result) c.labels (Open clause at)

-- ---- all nine

-- The certificate is valid; or the clause is the first that fails, at its first place.
abbrev pub IsCertVerdict : NetworkLists → Option HierarchyLists → Claim → CertVerdict → Type 0
IsCertVerdict n h c Valid = IsValid n h c
IsCertVerdict n h c (Invalid clause at) = LineFails n c.line clause at ⊎ PhasesFail n h c clause at ⊎ ResultFails n h c clause at ⊎ LabelsFail n h c clause at

-- ---- laws

-- a certificate has one verdict: it is valid, or one clause is the first that fails, at one place
abbrev pub VerdictIsUnique : Type 0
VerdictIsUnique = (n : NetworkLists) → IsNetwork n → (h : Option HierarchyLists) → IsSoundIfGiven n h → (c : Claim) (one other : CertVerdict)
    → IsCertVerdict n h c one → IsCertVerdict n h c other → one ≡ other
