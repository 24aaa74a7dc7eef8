-- What the steps of a run answer, put together to what the run says.
use Rattle.plan_base.proofs.Common.{ℕ, inl, inr, List, Option, Some, None, refl, subst, IfSome}
use Rattle.plan_base.specs.{ShelfMeaning, SinkMeaning, Stays}
use Rattle.mode_network.specs.NetworkLists.{NetworkLists}
use Rattle.hierarchy.specs.{HierarchyLists, IsSound}
use Rattle.hierarchy_file.specs.declared.fault.HFileFault.TheVariants as no
use Rattle.run_steps.specs.{Outcome, Done, Usage, Missing, ReadFault, TooLong, WriteFault, BadRegion, BadFeed, Invalid, BadCertificate, BadHierarchy, Unsound, OutOfMemory, scene, Saying}
use Rattle.hierarchy_commands.specs.{OnSound, OnHierarchy, OnHierarchyIfNamed, AreUnsound, HasSound, HasUnsound, IsHierarchyOutcome, IsFoundSound, IsNamedOutcome}

module _ (old mid new : ShelfMeaning) (before after : SinkMeaning) (name : List ℕ) (n : NetworkLists) where
  -- the bytes of a hierarchy spell none that is sound
  unsound : (rest : HierarchyLists → Saying) (outcome : Outcome) → HasUnsound old mid n name outcome → Stays before after → OnHierarchy n name rest (scene old before) (scene mid after) outcome
  unsound rest outcome has same = by_outcome outcome has.unsound
    where
      spelled : (o : Outcome) → OnSound n rest has.bytes (scene mid before) (scene mid after) o → OnHierarchy n name rest (scene old before) (scene mid after) o
      spelled o says = inr (record { bytes = has.bytes; file = has.file; mid = mid; later = has.later; says = says })

      by_outcome : (o : Outcome) → AreUnsound n has.bytes o → OnHierarchy n name rest (scene old before) (scene mid after) o
      by_outcome (BadHierarchy fault) none = spelled (BadHierarchy fault) (inl (fault, none, (refl, same)))
      by_outcome (Unsound clause at by) (h, spells, broken) =
          spelled (Unsound clause at by) (inr (h, spells, inl (clause, at, by, broken, (refl, same))))
      by_outcome OutOfMemory none = inl (none, same)
      by_outcome Done none = absurd none
      by_outcome Usage none = absurd none
      by_outcome WriteFault none = absurd none
      by_outcome (Missing file) none = absurd none
      by_outcome (ReadFault file) none = absurd none
      by_outcome (TooLong file) none = absurd none
      by_outcome (BadRegion fault) none = absurd none
      by_outcome (BadFeed fault) none = absurd none
      by_outcome (Invalid clause at) none = absurd none
      by_outcome (BadCertificate line) none = absurd none

  -- no hierarchy was found that is sound
  pub hierarchy_fails : (rest : HierarchyLists → Saying) (outcome : Outcome) → IsHierarchyOutcome old mid n name outcome → Stays before after
      → OnHierarchy n name rest (scene old before) (scene mid after) outcome
  hierarchy_fails rest outcome (inl unread) same = inl (unread, same)
  hierarchy_fails rest outcome (inr has) same = unsound rest outcome has same

  -- one was, and the rest says this
  pub on_hierarchy : (rest : HierarchyLists → Saying) (h : HierarchyLists) → HasSound old mid n name h
      → (outcome : Outcome) → rest h (scene mid before) (scene new after) outcome → OnHierarchy n name rest (scene old before) (scene new after) outcome
  on_hierarchy rest h has outcome says = inr (record {
    bytes = has.bytes;
    file = has.file;
    mid = mid;
    later = has.later;
    says = inr (h, has.sound.0, inr (has.sound.1, says));
  })

-- ---- a hierarchy that may be named

module _ (old mid new : ShelfMeaning) (before after : SinkMeaning) (n : NetworkLists) where
  pub named_fails : (named : Option (List ℕ)) (rest : Option HierarchyLists → Saying) (outcome : Outcome) → IsNamedOutcome old mid n named outcome → Stays before after
      → OnHierarchyIfNamed n named rest (scene old before) (scene mid after) outcome
  named_fails None rest outcome none same = absurd none
  named_fails (Some name) rest outcome fails same = hierarchy_fails old mid new before after name n (λ h. rest (Some h)) outcome fails same

  pub on_named : (named : Option (List ℕ)) (rest : Option HierarchyLists → Saying) (h : Option HierarchyLists) → IsFoundSound old mid n named h
      → (outcome : Outcome) → rest h (scene mid before) (scene new after) outcome → OnHierarchyIfNamed n named rest (scene old before) (scene new after) outcome
  on_named None rest None same outcome says = subst (λ (s : ShelfMeaning). rest None (scene s before) (scene new after) outcome) same says
  on_named None rest (Some h) none outcome says = absurd none
  on_named (Some name) rest None none outcome says = absurd none
  on_named (Some name) rest (Some h) has outcome says = on_hierarchy old mid new before after name n (λ k. rest (Some k)) h has outcome says

-- what was found is sound
pub found_sound : (old new : ShelfMeaning) (n : NetworkLists) (named : Option (List ℕ)) (h : Option HierarchyLists) → IsFoundSound old new n named h → IfSome h (λ k. IsSound n k)
found_sound old new n named None found = tt
found_sound old new n None (Some h) none = absurd none
found_sound old new n (Some name) (Some h) has = has.sound.1
