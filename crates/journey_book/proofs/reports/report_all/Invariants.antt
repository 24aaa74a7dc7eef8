use Rattle.plan_base.proofs.Common.{◌≤◌, map, string_bytes, take}
use Rattle.journey_book.specs.{BookStays, HasReported, rule_of}
use Rattle.journey_book.proofs.reports.report_all.Given as goal

-- the book has stayed, and the lines so far are of the names so far
abbrev pub invariant-loop-name : goal.invariant-loop-name
invariant-loop-name g l = record {
  later : (g.K.Keeper.meaning l.fn.keeper).faults ≤ (g.K.Keeper.meaning l.keeper).faults;
  stays : BookStays (g.K.Keeper.meaning l.fn.keeper) (g.K.Keeper.meaning l.keeper);
  lines : HasReported (rule_of l.report) (g.K.Keeper.meaning l.fn.keeper) (map string_bytes (take l.name-index l.names)) l.text.items l.well;
}
