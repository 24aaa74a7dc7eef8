use Rattle.plan_base.proofs.Common.{◌≡◌, None, Some, rules}
use Rattle.hierarchy_file.specs.{key_of_entry, many_ascending, entry_front}
use Rattle.hierarchy_file.proofs.LoopLemmas.{goes_on, halts, is_done}
use Rattle.hierarchy_file.proofs.records.entries_of.Goals as goal

pub returns-in_default : goal.returns-in_default
returns-in_default c =
    let unread : entry_front c.loop.before c.loop.rest.now ≡ None = search rules in
    halts entry_front key_of_entry c.loop.entries.items c.args.count c.loop.counter c.loop.before c.loop.rest.now (many_ascending entry_front key_of_entry c.args.count None c.args.bytes.now) c.loop-test.true unread c.loop.invariant

pub loop-preserved : goal.loop-preserved
loop-preserved c =
    let read : entry_front c.loop.before c.loop.rest.now ≡ Some (c.in-Some.entry, c.in-Some.after.now) = search rules in
    let next = goes_on entry_front key_of_entry c.loop.entries.items c.args.count c.loop.counter c.loop.before c.loop.rest.now c.in-Some.entry c.in-Some.after.now
    (many_ascending entry_front key_of_entry c.args.count None c.args.bytes.now) c.loop-test.true read c.loop.invariant in
    rw c.in_ok-push.ensures.items next

pub returns : goal.returns
returns c =
    is_done entry_front key_of_entry c.loop.entries.items c.args.count c.loop.counter c.loop.before c.loop.rest.now (many_ascending entry_front key_of_entry c.args.count None c.args.bytes.now) c.loop-test.false c.loop.invariant
