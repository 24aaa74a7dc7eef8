use Rattle.plan_base.proofs.Common.{Some, inl, inr, subst, Contains}
use Rattle.search_laws.proofs.given.GivenRuns.make_room.Goals as goal

pub returns-in_ok-cells : goal.returns-in_ok-cells
returns-in_ok-cells c = λ run known. elim (c.put_all.ensures run known) [
  | inl none ↦ absurd (c.in_ok-cells.ensures run none)
  | inr old ↦ subst (λ cells. Contains cells (Some run)) c.deref.ensures.value old
]
