use Rattle.plan_base.proofs.Common.{sym, subst}
use Rattle.hierarchy.specs.{IsFirstBroken}
use Rattle.hierarchy_check.specs.{HasNodes}
use Rattle.hierarchy_commands.proofs.reading.joined.Goals as goal

pub check_ways-requires : goal.check_ways-requires
check_ways-requires g c = subst (HasNodes c.args.network.now) (sym c.in_ok-h.ensures) c.requires

pub returns-in-Broken-clause-err : goal.returns-in-Broken-clause-err
returns-in-Broken-clause-err g c =
    subst (λ h. IsFirstBroken c.args.network.now h c.in-Broken.clause c.in-Broken.at c.in-Broken.by) c.in_ok-h.ensures (rw c.in-Broken.is at c.check_ways.ensures)
