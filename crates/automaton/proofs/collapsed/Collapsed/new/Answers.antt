use Rattle.automaton.proofs.CollapsedLemmas.{accepts_collapsed}
use Rattle.automaton.proofs.collapsed.Collapsed.new.Goals as goal

pub returns-clause-accepts : goal.returns-clause-accepts
returns-clause-accepts g c = accepts_collapsed (g.L.Labels.automaton c.args.inner) (g.met.L.Labels.lawful c.args.inner)
