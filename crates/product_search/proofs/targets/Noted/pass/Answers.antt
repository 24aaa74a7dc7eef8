use Rattle.plan_base.proofs.Common.{◌≡◌, ◌<◌, ◌∙◌, length, ap, sym, arith, slice_index, get_or_default}
use Rattle.product_search.specs.inside.{time_of}
use Rattle.product_search.proofs.NotingLemmas.{reached_more}
use Rattle.product_search.proofs.targets.Noted.pass.Goals as goal

pub pass-preserved : goal.pass-preserved
pass-preserved c =
    let nodes = c.args.targets.now.nodes.items in
    let places = c.args.targets.now.places.items in
    let times = c.pass.self.times.items in
    let p = c.pass.self.passed in
    let within : p < length nodes = omega (arith, c.pass-test.true, c.len.ensures) in
    let node : slice_index nodes p ≡ c.index.result.now = sym (c.index.ensures ∙ get_or_default nodes p c.index.result.now 0 within) in
    record {
      reached = reached_more nodes places times p c.in-Some.field-0 c.pass.invariant.reached (ap (time_of places times) node ∙ sym c.time_of.ensures ∙ c.in-Some.is);
      same = c.pass.invariant.same;
      latest = c.pass.invariant.latest;
    }
