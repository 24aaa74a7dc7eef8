-- The line `settled` behind the blocks of an answer.
use Rattle.plan_base.proofs.Common.{◌≡◌, ℕ, inl, true, false, List, Option, Some, None, refl, ⊤, Result, IfErr, OnOk, is_some}
use Rattle.plan_base.specs.{ShelfMeaning, SinkMeaning, Appended}
use Rattle.plan_base.proofs.MoreWritten.{stays_so}
use Rattle.mode_network.specs.NetworkLists.{NetworkLists}
use Rattle.hierarchy.specs.{HierarchyLists}
use Rattle.run_steps.specs.{AreCounted, Outcome, Done, OutOfMemory, query_lines, scene, end_of, IsTextOutcome, declared.limits.Limits.Limits}
use Rattle.run_steps.proofs.Steps.{text_ends}
use Rattle.answer_commands.specs.{IsAnswerCount, IsSettledLine, WritesSettled, settled_line}

module _ (n : NetworkLists) (limits : Limits) (shelf : ShelfMeaning) (out : SinkMeaning) (bytes : List ℕ) where
  -- there is none without a hierarchy
  pub none_settled : (h : Option HierarchyLists) → is_some h ≡ false → WritesSettled n h limits bytes (scene shelf out) (scene shelf out) Done
  none_settled None none = (refl, stays_so out)
  none_settled (Some h) none = absurd (cc)

  -- it was not made
  pub unmade_settled : (h : Option HierarchyLists) → is_some h ≡ true → WritesSettled n h limits bytes (scene shelf out) (scene shelf out) OutOfMemory
  unmade_settled None some = absurd (cc)
  unmade_settled (Some h) some = inl (stays_so out)

  -- it is written, or a front of it
  pub settled_ends : (h : Option HierarchyLists) → is_some h ≡ true → (after : SinkMeaning) (sum : ℕ) → AreCounted (IsAnswerCount n h limits) (query_lines bytes) sum → (result : Result ⊤ Outcome)
      → OnOk result (Appended out after (settled_line sum)) → IfErr result (IsTextOutcome out after (settled_line sum)) → WritesSettled n h limits bytes (scene shelf out) (scene shelf after) (end_of result)
  settled_ends None some after sum settled result ok err = absurd (cc)
  settled_ends (Some h) some after sum settled result ok err =
      text_ends shelf shelf out after (IsSettledLine n (Some h) limits (query_lines bytes)) (settled_line sum) (sum, settled, refl) result ok err
