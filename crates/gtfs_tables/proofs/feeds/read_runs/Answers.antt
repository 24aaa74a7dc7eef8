use Rattle.plan_base.proofs.Common.{[], ap, option_map, err_from_is_err_and}
use Rattle.gtfs_tables.specs.{MissingFile}
use Rattle.gtfs_tables.proofs.FeedLemmas.{faulty_calls, faulty_frequencies, faulty_trips}
use Rattle.gtfs_tables.proofs.feeds.read_runs.Goals as goal

pub returns-in_err-trips-clause-fault : goal.returns-in_err-trips-clause-fault
returns-in_err-trips-clause-fault c =
    let p = err_from_is_err_and c.from_residual.result c.from_residual.ensures.1 in
    let basis = c.requires in
    let present = ap (option_map MissingFile) basis.present in
    rw (p.1, p.2) (faulty_trips c.args.caps.now c.args.files.now present [] basis.agencies _ basis.stops _ basis.routes _ basis.services _ basis.dates _ basis.route_ids c.in_err-trips.field-0.0 c.in_err-trips.ensures.fault)

pub returns-in_err-frequencies-clause-fault : goal.returns-in_err-frequencies-clause-fault
returns-in_err-frequencies-clause-fault c =
    let p = err_from_is_err_and c.from_residual-in_err-frequencies.result c.from_residual-in_err-frequencies.ensures.1 in
    let basis = c.requires in
    let present = ap (option_map MissingFile) basis.present in
    rw (p.1, p.2) (faulty_frequencies c.args.caps.now c.args.files.now present [] basis.agencies _ basis.stops _ basis.routes _ basis.services _ basis.dates _ basis.route_ids _ c.in_ok-trips.ensures.trips _ c.in_ok-trips.ensures.ids c.in_err-frequencies.field-0.0 c.in_err-frequencies.ensures.fault)

pub returns-in_err-calls-clause-fault : goal.returns-in_err-calls-clause-fault
returns-in_err-calls-clause-fault c =
    let p = err_from_is_err_and c.from_residual-in_err-calls.result c.from_residual-in_err-calls.ensures.1 in
    let basis = c.requires in
    let present = ap (option_map MissingFile) basis.present in
    rw (p.1, p.2) (faulty_calls c.args.caps.now c.args.files.now present [] basis.agencies _ basis.stops _ basis.routes _ basis.services _ basis.dates _ basis.route_ids _ c.in_ok-trips.ensures.trips _ c.in_ok-trips.ensures.ids _ c.in_ok-frequencies.ensures.frequencies _ basis.stop_ids c.in_err-calls.field-0.0 c.in_err-calls.ensures.fault)
