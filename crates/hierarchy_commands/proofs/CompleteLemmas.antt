-- A run whose files are there and without fault ends with its work done: each other outcome has a cause that is not there.
use Rattle.plan_base.proofs.Common.{ℕ, ◌⊎◌, inl, inr, List, Option, Some, None, subst, IfSome}
use Rattle.mode_network.specs.NetworkLists.{NetworkLists}
use Rattle.hierarchy.specs.{HierarchyLists, IsHierarchy, IsSound, Broken}
use Rattle.hierarchy_check.proofs.VerdictLemmas.{sound_verdict}
use Rattle.hierarchy_file.proofs.CauseLaws.{no_hierarchy, spell_one}
use Rattle.run_steps.specs.{Hierarchy, Saying, Files, IsDoneOrMemory, Completes}
use Rattle.run_steps.proofs.CompleteSteps.{file_completes, network_completes, writes_completes}
use Rattle.hierarchy_commands.specs.{IsUnsound, OnSound, OnHierarchyIfNamed, SpellsSound, IsSoundIfNamed, CheckCompletes, ContractCompletes}

module _ (files : Files) where
  -- a hierarchy that is sound is read and checked
  sound_completes : (n : NetworkLists) (P : HierarchyLists → Type 0) (rest : HierarchyLists → Saying) → ((h : HierarchyLists) → IsHierarchy h × IsSound n h → Completes files (P h) (rest h))
      → (bytes : List ℕ) → Completes files (SpellsSound n P bytes) (OnSound n rest bytes)
  sound_completes n P rest more bytes (h, spells, sound, p) old new outcome tells quiet (inl (fault, none, ends)) = absurd (no_hierarchy bytes h fault spells none)
  sound_completes n P rest more bytes (h, spells, sound, p) old new outcome tells quiet (inr (k, other, says)) =
      on (subst (λ (x : HierarchyLists). IsUnsound n x old new outcome ⊎ (IsSound n x × rest x old new outcome)) (spell_one bytes k h other spells) says)
    where
      on : IsUnsound n h old new outcome ⊎ (IsSound n h × rest h old new outcome) → IsDoneOrMemory outcome
      on (inl (clause, at, by, broken, ends)) =
          let verdict = sound_verdict n h (Broken clause at by) broken sound in
          absurd (cc)
      on (inr (is, rests)) = more h (spells.0.rules, is) p old new outcome tells quiet rests

  pub named_completes : (n : NetworkLists) (named : Option (List ℕ)) (P : Option HierarchyLists → Type 0) (rest : Option HierarchyLists → Saying)
      → ((h : Option HierarchyLists) → IfSome h (λ k. IsHierarchy k × IsSound n k) → Completes files (P h) (rest h)) → Completes files (IsSoundIfNamed files n named P) (OnHierarchyIfNamed n named rest)
  named_completes n None P rest more = more None tt
  named_completes n (Some name) P rest more =
      file_completes files Hierarchy name _ _ (sound_completes n (λ h. P (Some h)) (λ h. rest (Some h)) (λ h sound. more (Some h) sound))

-- what can be done is done
pub check_completes : CheckCompletes
check_completes caps files region hierarchy =
    file_completes files _ region _ _ (network_completes files caps _ _ (λ n rules. file_completes files _ hierarchy _ _ (sound_completes files n _ _ (λ h sound. writes_completes files _ _))))

pub contract_completes : ContractCompletes
contract_completes caps files region keep = file_completes files _ region _ _ (network_completes files caps _ _ (λ n rules. writes_completes files _ _))
