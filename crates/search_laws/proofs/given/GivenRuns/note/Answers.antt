use Rattle.plan_base.proofs.Common.{inl, inr}
use Rattle.search_laws.proofs.given.GivenRuns.note.Goals as goal

pub returns : goal.returns
returns c = λ other known. elim (c.put-is_lost.ensures other known) [
  | inl old ↦ inl (c.in_ok-make_room.ensures other old)
  | inr new ↦ inr (let same = new in cc)
]
