use Rattle.sample_command.proofs.summary.times_over.Goals as goal

pub returns-clause-labels : goal.returns-clause-labels
returns-clause-labels g c = record {
  hierarchy = c.in_ok-hierarchy.hierarchy;
  contracted = c.in_ok-hierarchy.ensures.contracted;
  labels = c.in_ok-over.ensures.settled;
}
