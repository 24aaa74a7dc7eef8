-- A region and a hierarchy that were read, or not: what a run says of them.
use Rattle.plan_base.proofs.Common.{◌≡◌, ℕ, inl, inr, List, Option, Result, ⊤, err_from_is_err_and}
use Rattle.std.specs.Prelude.{IsErrAnd}
use Rattle.plan_base.proofs.MoreWritten.{stays_so}
use Rattle.plan_base.specs.{ShelfMeaning, SinkMeaning, Stays, Caps}
use Rattle.mode_network.specs.NetworkLists.{NetworkLists}
use Rattle.hierarchy.specs.{HierarchyLists}
use Rattle.hierarchy_commands.specs.{OnHierarchyIfNamed}
use Rattle.hierarchy_commands.proofs.OutcomeLemmas.{named_fails, on_named}
use Rattle.run_steps.specs.{Outcome, OnRegion, scene, Saying, end_of}
use Rattle.run_steps.proofs.Steps.{region_fails, on_region}
use Rattle.answer_commands.specs.{HasBoth, IsBothOutcome}

-- what is said of a region, and of a hierarchy where one is named
abbrev OnBoth : Caps → List ℕ → Option (List ℕ) → (NetworkLists → Option HierarchyLists → Saying) → Saying
OnBoth caps region named rest = OnRegion caps region (λ n. OnHierarchyIfNamed n named (rest n))

module _ {caps : Caps} {old new : ShelfMeaning} {before after : SinkMeaning} {region : List ℕ} {named : Option (List ℕ)} (rest : NetworkLists → Option HierarchyLists → Saying) where
  -- they were not both read
  pub both_fail : {outcome : Outcome} → IsBothOutcome caps old new region named outcome → Stays before after → OnBoth caps region named rest (scene old before) (scene new after) outcome
  both_fail (inl fails) same = region_fails old old new before after region caps (λ n. OnHierarchyIfNamed n named (rest n)) _ fails same
  both_fail (inr lacks) same =
      on_region old lacks.mid new before after region caps (λ n. OnHierarchyIfNamed n named (rest n)) lacks.n lacks.has lacks.later _
      (named_fails lacks.mid new new before after lacks.n named (rest lacks.n) _ lacks.lacks same)

  -- they were, and the rest says this
  pub on_both : {mid : ShelfMeaning} {n : NetworkLists} {h : Option HierarchyLists} {outcome : Outcome} → HasBoth caps old mid region named n h → rest n h (scene mid before) (scene new after) outcome
      → OnBoth caps region named rest (scene old before) (scene new after) outcome
  on_both {mid = mid} {n = n} {h = h} both says =
      on_region old both.mid new before after region caps (λ n. OnHierarchyIfNamed n named (rest n)) n both.has both.later _
      (on_named both.mid mid new before after n named (rest n) h both.found _ says)

-- a run ends that did not read both
pub both_end : {caps : Caps} {old new : ShelfMeaning} {out : SinkMeaning} {region : List ℕ} {named : Option (List ℕ)} (rest : NetworkLists → Option HierarchyLists → Saying) {outcome : Outcome} (result : Result ⊤ Outcome)
    → IsErrAnd result (λ e. e ≡ outcome) → IsBothOutcome caps old new region named outcome → OnBoth caps region named rest (scene old out) (scene new out) (end_of result)
both_end {out = out} rest result ends fails = let p = err_from_is_err_and result ends in rw (p.1, p.2) (both_fail rest fails (stays_so out))
