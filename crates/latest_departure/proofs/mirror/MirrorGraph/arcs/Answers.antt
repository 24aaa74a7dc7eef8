use Rattle.plan_base.proofs.Common.{◌∙◌, sym}
use Rattle.latest_departure.specs.{row_entries}
use Rattle.latest_departure.proofs.RowLemmas.{total}
use Rattle.latest_departure.proofs.mirror.MirrorGraph.arcs.Goals as goal

pub returns : goal.returns
returns c = c.count.ensures ∙ sym (total (row_entries c.args.self.now.backwards.now.entries c.args.self.now.backwards.now.places c.args.v))
