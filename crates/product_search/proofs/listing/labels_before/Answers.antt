use Rattle.plan_base.proofs.Common.{◌++◌, take, filter_map, ◌∙◌, ap, sym, option_to_list}
use Rattle.product_search.specs.inside.{rows, label_of_row}
use Rattle.product_search.proofs.ListingLemmas.{gives_more, gives_all}
use Rattle.product_search.proofs.listing.labels_before.Goals as goal

pub loop-row-preserved : goal.loop-row-preserved
loop-row-preserved c =
    let h = label_of_row c.args.frontier.now.base c.args.until in
    let rs = rows c.args.frontier.now in
    let i = c.loop-row.row-index in
    c.in_ok-push_some.ensures ∙ ap (λ ls. ls ++ option_to_list c.label_before.result) c.loop-row.invariant
    ∙ ap (λ o. filter_map h (take i rs) ++ option_to_list o) c.label_before.ensures
    ∙ sym (gives_more h rs i (record { node = 0; state = 0; next = 0; way = 0; delay = 0 })
    c.deref-row-items.result.now c.deref-row-items.ensures.value c.loop-row-test.true)

pub returns : goal.returns
returns c = record {
  labels = c.loop-row.invariant ∙ gives_all (label_of_row c.args.frontier.now.base c.args.until) (rows c.args.frontier.now) c.loop-row.row-index
      c.deref-row-items.result.now c.deref-row-items.ensures.value c.loop-row-test.false;
}
