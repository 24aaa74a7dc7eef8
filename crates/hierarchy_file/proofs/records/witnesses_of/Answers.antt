use Rattle.plan_base.proofs.Common.{◌≡◌, None, Some, rules}
use Rattle.hierarchy.specs.{WitnessLists}
use Rattle.hierarchy_file.specs.{key_of_witness, many_ascending, witness_at}
use Rattle.hierarchy_file.proofs.LoopLemmas.{goes_on, halts, is_done}
use Rattle.hierarchy_file.proofs.records.witnesses_of.Goals as goal

pub returns-in_default : goal.returns-in_default
returns-in_default c =
    let unread : witness_at c.loop.before c.loop.rest.now ≡ None = search rules in
    halts witness_at key_of_witness c.loop.witnesses c.args.count c.loop.counter c.loop.before c.loop.rest.now (many_ascending witness_at key_of_witness c.args.count None c.args.bytes.now) c.loop-test.true unread c.loop.invariant

pub loop-preserved : goal.loop-preserved
loop-preserved c =
    let read_now : WitnessLists = record { below = c.in-Some.below; nodes = c.witness_at.new.nodes.items } in
    let read : witness_at c.loop.before c.loop.rest.now ≡ Some (read_now, c.in-Some.after.now) = search rules in
    let next = goes_on witness_at key_of_witness c.loop.witnesses c.args.count c.loop.counter c.loop.before c.loop.rest.now read_now c.in-Some.after.now
    (many_ascending witness_at key_of_witness c.args.count None c.args.bytes.now) c.loop-test.true read c.loop.invariant in
    rw (c.in_ok-push.ensures, c.key.ensures, c.deref-in-loop.ensures.value, c.deref.ensures.value) next

pub returns : goal.returns
returns c =
    is_done witness_at key_of_witness c.loop.witnesses c.args.count c.loop.counter c.loop.before c.loop.rest.now (many_ascending witness_at key_of_witness c.args.count None c.args.bytes.now) c.loop-test.false c.loop.invariant
