use Rattle.plan_base.proofs.Common.{◌+◌, ◌-◌, ◌<◌, ◌∙◌, ap, sym, arith}
use Rattle.plain_graph.specs.{PlainArc}
use Rattle.latest_departure.specs.{source_rows, row_entries, count_of, mirror_arc}
use Rattle.latest_departure.proofs.{RowLemmas.total, SumLemmas.stood_at, SumLemmas.same_letter}
use Rattle.latest_departure.proofs.mirror.MirrorGraph.past_letter.Goals as goal

pub overflow_add-result : goal.overflow_add-result
overflow_add-result c =
    let b = c.args.self.now.backwards.now in
    omega (arith, c.entry_of-first.ensures.within, c.count_of.ensures.value, total (row_entries b.entries b.places c.args.v), c.known.ensures.few c.args.v c.requires.node)

pub returns-clause-same : goal.returns-clause-same
returns-clause-same c k from until =
    let b = c.args.self.now.backwards.now in
    let stands = c.entry_of-first.ensures in
    let source = c.entry_of-first.result.0.now.source in
    let first = c.entry_of-first.result.1 in
    let at = stood_at (source_rows b) c.args.v c.args.i source first stands in
    let here : k < first + count_of source = omega (arith, until, c.count_of.ensures.value) in
    ap (λ (a : PlainArc). (mirror_arc b.network b.table c.args.v a).letter) (at k (omega (arith, from, stands.from)) here)
    ∙ same_letter b.network b.table c.args.v source (k - first) (c.args.i - first)
    ∙ sym (ap (λ (a : PlainArc). (mirror_arc b.network b.table c.args.v a).letter) (at c.args.i stands.from stands.until))
