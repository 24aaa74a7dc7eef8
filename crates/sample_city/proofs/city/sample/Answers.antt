use Rattle.plan_base.proofs.Common.{rules}
use Rattle.sample_city.proofs.KeepLaws.{not_refused}
use Rattle.sample_city.proofs.city.sample.Goals as goal

pub returns-in-Err-clause-full : goal.returns-in-Err-clause-full
returns-in-Err-clause-full c = λ full. not_refused c.args.n c.args.caps.now _ c.requires.size (search rules) full
