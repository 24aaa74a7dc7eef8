use Rattle.plan_base.proofs.Common.{append_assoc}
use Rattle.certificate.proofs.TextLemmas.{front_text}
use Rattle.certificate.proofs.printing.push_front.Goals as goal

pub returns : goal.returns
returns c = rw (c.in_ok-push_graph.ensures, c.in_ok-push_query.ensures, c.in_ok-extend_from_slice.ensures.items, front_text c.args.query.now c.args.phases) (simp append_assoc)
