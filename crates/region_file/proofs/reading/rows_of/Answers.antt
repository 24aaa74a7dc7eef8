use Rattle.plan_base.proofs.Common.{◌≡◌, None, Some, length, rules}
use Rattle.file_records.specs.{one}
use Rattle.region_file.specs.{many}
use Rattle.region_file.proofs.LoopLemmas.{goes_on, halts, is_done, one_is, none_is}
use Rattle.region_file.proofs.reading.rows_of.Goals as goal

pub returns-in_default : goal.returns-in_default
returns-in_default g c =
    let told = g.K.RecordKind.told in
    let unread : told c.loop.rest.now ≡ None = search rules in
    halts (one told) c.loop.rows.items c.args.count c.loop.counter c.loop.rest.now (length c.loop.rest.now) (many (one told) c.args.count c.args.bytes.now) c.loop-test.true (none_is told c.loop.rest.now unread) c.loop.invariant

pub loop-preserved : goal.loop-preserved
loop-preserved g c =
    let told = g.K.RecordKind.told in
    let read : told c.loop.rest.now ≡ Some (c.in-Some.row, c.in-Some.behind.now) = search rules in
    let next = goes_on (one told) c.loop.rows.items c.args.count c.loop.counter c.loop.rest.now c.in-Some.row c.in-Some.behind.now
    (many (one told) c.args.count c.args.bytes.now) c.loop-test.true (one_is told c.loop.rest.now (c.in-Some.row, c.in-Some.behind.now) read) c.loop.invariant in
    rw c.in_ok-push.ensures.items next

pub returns : goal.returns
returns g c =
    let told = g.K.RecordKind.told in
    is_done (one told) c.loop.rows.items c.args.count c.loop.counter c.loop.rest.now (many (one told) c.args.count c.args.bytes.now) c.loop-test.false c.loop.invariant
