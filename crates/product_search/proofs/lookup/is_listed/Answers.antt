use Rattle.plan_base.proofs.Common.{◌+◌, ◌-◌, ◌/◌, ◌<◌, length, leb, slice_index_or, sym, arith, leb-true, le-leb, get_or_default}
use Rattle.product_search.specs.{label_of}
use Rattle.product_search.proofs.CheckLemmas.{below_up_to, above_from, found_is}
use Rattle.product_search.proofs.lookup.is_listed.Goals as goal

pub loop-low-preserved-in-Less : goal.loop-low-preserved-in-Less
loop-low-preserved-in-Less c =
    let list = c.args.list.now in
    let m = c.loop-low.low + (c.loop-low.high - c.loop-low.low) / 2 in
    let x = slice_index_or list m (label_of 0 0 0) in
    let lt : m < length list = omega arith in
    record {
      within = c.loop-low.invariant.within;
      below = λ i d before. below_up_to list c.requires m x (label_of c.args.node c.args.state c.args.at) d lt (get_or_default list m (label_of 0 0 0) x lt) (sym c.in-Less.ensures) i (omega arith);
      above = c.loop-low.invariant.above;
    }

pub returns-in-Equal : goal.returns-in-Equal
returns-in-Equal c =
    let list = c.args.list.now in
    let m = c.loop-low.low + (c.loop-low.high - c.loop-low.low) / 2 in
    let x = slice_index_or list m (label_of 0 0 0) in
    let lt : m < length list = omega arith in
    found_is list c.requires m x c.args.node c.args.state c.args.at lt (get_or_default list m (label_of 0 0 0) x lt) (sym c.in-Equal.ensures)
    (leb x.at c.args.at) (leb-true x.at c.args.at, le-leb x.at c.args.at)

pub loop-low-preserved : goal.loop-low-preserved
loop-low-preserved c =
    let list = c.args.list.now in
    let m = c.loop-low.low + (c.loop-low.high - c.loop-low.low) / 2 in
    let x = slice_index_or list m (label_of 0 0 0) in
    let lt : m < length list = omega arith in
    record {
      within = omega arith;
      below = c.loop-low.invariant.below;
      above = λ i d from in_range. above_from list c.requires m x (label_of c.args.node c.args.state c.args.at) d lt (get_or_default list m (label_of 0 0 0) x lt) (sym c.in-Greater.ensures) i from in_range;
    }
