use Rattle.plan_base.proofs.Common.{◌∙◌, ap, slice_index, arith}
use Rattle.product_search.specs.inside.{rows}
use Rattle.product_search.proofs.FrontierLemmas.{sought_first, sought_found, sought_next, sought_smaller, sought_within}
use Rattle.product_search.proofs.frontier.Frontier.find.Goals as goal

pub chain-init : goal.chain-init
chain-init c =
    let f = c.args.self.now in
    sought_first f.chains.count (rows f) f.first.items c.requires.indexed c.args.node c.args.state c.head-cursor.result
    (c.head-cursor.ensures ∙ ap (slice_index f.first.items) c.place.ensures)

pub index-row-requires : goal.index-row-requires
index-row-requires c =
    let f = c.args.self.now in
    omega (arith, sought_within f.chains.count (rows f) c.args.node c.args.state c.chain.cursor c.chain-test.true c.chain.invariant)

pub returns-then-row-state : goal.returns-then-row-state
returns-then-row-state c =
    sought_found c.args.self.now c.requires c.args.node c.args.state c.chain.cursor c.index-row.result.now c.chain-test.true c.chain.invariant
    c.index-row.ensures c.if-row-state.true

pub chain-smaller : goal.chain-smaller
chain-smaller c =
    sought_smaller c.args.self.now c.requires c.args.node c.args.state c.chain.cursor c.index-row.result.now c.chain-test.true c.chain.invariant
    c.index-row.ensures

pub chain-preserved : goal.chain-preserved
chain-preserved c =
    sought_next c.args.self.now c.requires c.args.node c.args.state c.chain.cursor c.index-row.result.now c.chain-test.true c.chain.invariant
    c.index-row.ensures c.if-row-state.false
