use Rattle.plan_base.proofs.Common.{ap₂, subst}
use Rattle.mode_network.specs.{NetworkLists.NetworkLists, IsTimetableOf}
use Rattle.hierarchy.specs.{HierarchyLists}
use Rattle.phase_graph.specs.{marks_in, phase_meaning}
use Rattle.phase_graph.proofs.in_use.GraphInUse.new.Goals as goal

pub returns-in_ok-phases-in-Some-clause-is : goal.returns-in_ok-phases-in-Some-clause-is
returns-in_ok-phases-in-Some-clause-is c =
    let p = c.in_ok-phases-in-Some.phases in
    let is = c.in_ok-phases-in-Some.ensures in
    rw c.in-Some.is (record {
      table = p.plain.timetable.now;
      of = subst (λ (n : NetworkLists). IsTimetableOf n p.plain.timetable.now) is.network p.plain.of;
      keeps = is.keeps;
      marks = marks_in p.falls.first.items;
      are = is.marks;
      is = ap₂ (λ (n : NetworkLists) (h : HierarchyLists). phase_meaning n p.plain.timetable.now h (marks_in p.falls.first.items)) is.network is.hierarchy;
    })
