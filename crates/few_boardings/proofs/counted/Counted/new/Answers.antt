use Rattle.few_boardings.proofs.CountedLemmas.{accepts_counted}
use Rattle.few_boardings.proofs.counted.Counted.new.Goals as goal

pub returns-clause-accepts : goal.returns-clause-accepts
returns-clause-accepts g c = accepts_counted (g.L.Labels.automaton c.args.inner) (g.met.L.Labels.lawful c.args.inner) c.args.side c.args.limit
