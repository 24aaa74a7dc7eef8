use Rattle.plan_base.proofs.Common.{get_or, sym, ◌∙◌, ap, arith, slice_index, slice_get-get_or}
use Rattle.product_search.specs.declared.row.Row.{Row}
use Rattle.product_search.proofs.FrontierLemmas.{behind_next, behind_all}
use Rattle.product_search.proofs.frontier.cleared.Goals as goal

pub loop-row-preserved : goal.loop-row-preserved
loop-row-preserved c =
    let rows = c.args.rows.now in
    let i = c.loop-row.row-index in
    let blank : Row = record { node = 0; state = 0; next = 0; way = 0; delay = 0 } in
    behind_next c.args.chains.count rows c.loop-row.first.items c.clear_at.new.first.items i (get_or rows i blank) (slice_get-get_or rows i blank c.loop-row-test.true)
    c.loop-row.invariant (ap (slice_index c.clear_at.new.first.items) (sym c.place.ensures) ∙ c.clear_at.ensures.here)
    (λ v other. c.clear_at.ensures.others v (λ e. other (e ∙ c.place.ensures)))

pub returns : goal.returns
returns c = behind_all c.args.chains.count c.args.rows.now c.loop-row.first.items c.loop-row.row-index (omega arith) c.loop-row.invariant
