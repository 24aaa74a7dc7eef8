use Rattle.plan_base.proofs.Common.{arith}
use Rattle.region_build.specs.{lists_of}
use Rattle.region_build.proofs.TallyLaws.{left_more}
use Rattle.region_build.proofs.left.LeftOut.with.Goals as goal

pub returns : goal.returns
returns c = λ sources are. left_more sources (lists_of c.args.source.now) c.args.self _ are (grind arith) (grind arith) (grind arith) (let late = c.requires in grind (arith, late))
