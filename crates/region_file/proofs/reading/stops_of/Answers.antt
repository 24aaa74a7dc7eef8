use Rattle.plan_base.proofs.Common.{◌≡◌, ◌∙◌, ◌+◌, ◌-◌, [], None, Some, ap₂, rules}
use Rattle.file_records.specs.{one}
use Rattle.region_file.specs.{stop_front, many, stops_read}
use Rattle.region_file.proofs.LoopLemmas.{with_stops, stops_begin, stops_go_on, stops_halt, stops_done}
use Rattle.region_file.proofs.reading.stops_of.Goals as goal

pub loop-number-init : goal.loop-number-init
loop-number-init c =
    let names_are : c.new.result.items ≡ [] = search rules in
    let nodes_are : c.new-2.result.items ≡ [] = search rules in
    ap₂ (λ names nodes. with_stops names nodes 0 (many (one stop_front) (c.args.count - 0) c.args.bytes.now)) names_are nodes_are ∙ stops_begin c.args.count c.args.bytes.now

pub returns-in_default : goal.returns-in_default
returns-in_default c =
    let unread : stop_front c.loop-number.rest.now ≡ None = search rules in
    stops_halt c.loop-number.stops.names.items c.loop-number.stops.nodes.items c.args.count c.loop-number.number c.loop-number.rest.now (stops_read c.args.count c.args.bytes.now) c.loop-number.invariant c.loop-number-test.true unread

pub loop-number-preserved : goal.loop-number-preserved
loop-number-preserved c =
    let read : stop_front c.loop-number.rest.now ≡ Some ((c.in-Some.stop.0, c.in-Some.stop.1), c.in-Some.behind.now) = search rules in
    let next = stops_go_on c.loop-number.stops.names.items c.loop-number.stops.nodes.items c.args.count c.loop-number.number c.loop-number.rest.now (stops_read c.args.count c.args.bytes.now) c.loop-number.invariant c.in-Some.stop.0 c.in-Some.stop.1 c.in-Some.behind.now c.loop-number-test.true read in
    ap₂ (λ names nodes. with_stops names nodes (c.loop-number.number + 1) (many (one stop_front) (c.args.count - (c.loop-number.number + 1)) c.in-Some.behind.now)) c.in_ok-push_stop.ensures.names c.in_ok-push_stop.ensures.nodes ∙ next

pub returns : goal.returns
returns c = stops_done c.loop-number.stops.names.items c.loop-number.stops.nodes.items c.args.count c.loop-number.number c.loop-number.rest.now (stops_read c.args.count c.args.bytes.now) c.loop-number.invariant c.loop-number-test.false
