use Rattle.plan_base.proofs.Common.{◌+◌, [], ◌∷◌, ◌++◌, ◌∙◌, List, take, take_more, take_all, subst, slice_index_or}
use Rattle.timetable_arcs.specs.{Call, no_call}
use Rattle.rounds.specs.{IsLine}
use Rattle.rounds.proofs.LineLemmas.{line_push}
use Rattle.rounds.proofs.lines.line_of.Goals as goal

pub loop-call-preserved : goal.loop-call-preserved
loop-call-preserved c =
    let calls = c.args.calls.now in
    let i = c.loop-call.call-index in
    let there = c.in-Some.ensures.some in
    record {
      line = rw (take_more calls i no_call c.loop-call-test.true, c.in_ok-push.ensures.items)
          (line_push c.args.network.now c.args.places.nodes.now (take i calls) c.loop-call.crossings.items (slice_index_or calls i no_call) c.in-Some.place c.loop-call.invariant.line there.0 (there.1 ∙ c.stop_node.ensures));
    }

pub returns : goal.returns
returns c = subst (λ (xs : List Call). IsLine c.args.network.now c.args.places.nodes.now xs c.loop-call.crossings.items) (take_all c.loop-call.call-index c.args.calls.now c.loop-call-test.false) c.loop-call.invariant.line
