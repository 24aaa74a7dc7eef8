use Rattle.phase_graph.specs.inside.{places_into}
use Rattle.phase_graph.proofs.MarkLemmas.{IsFollowing}
use Rattle.phase_graph.proofs.marks.follow.Given as goal

abbrev pub invariant-loop-fall : goal.invariant-loop-fall
invariant-loop-fall l = IsFollowing l.h l.targets l.nodes l.x (places_into l.h l.x) l.numbers.items l.queue.items l.initial.queue.items l.fall-index
