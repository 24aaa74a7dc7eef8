use Rattle.contractor.specs.inside.{IsLessInto}
use Rattle.contractor.proofs.cutting.cut_into.Given as goal

abbrev pub invariant-after : goal.invariant-after
invariant-after l = IsLessInto l.x (l.fn.into).items (l.into).items
