use Rattle.plan_base.proofs.Common.{[], ap, option_map, err_from_is_err_and}
use Rattle.gtfs_tables.specs.{MissingFile}
use Rattle.gtfs_tables.proofs.FeedLemmas.{faulty_agencies, faulty_dates, faulty_routes, faulty_services, faulty_stops}
use Rattle.gtfs_tables.proofs.feeds.read_basis.Goals as goal

pub returns-in_err-check_agencies-clause-fault : goal.returns-in_err-check_agencies-clause-fault
returns-in_err-check_agencies-clause-fault c =
    let p = err_from_is_err_and c.from_residual.result c.from_residual.ensures.1 in
    let present = ap (option_map MissingFile) c.requires in
    rw (p.1, p.2) (faulty_agencies c.args.caps.now c.args.files.now present c.in_err-check_agencies.field-0.0 c.in_err-check_agencies.ensures.fault)

pub returns-in_err-stops-clause-fault : goal.returns-in_err-stops-clause-fault
returns-in_err-stops-clause-fault c =
    let p = err_from_is_err_and c.from_residual-in_err-stops.result c.from_residual-in_err-stops.ensures.1 in
    let present = ap (option_map MissingFile) c.requires in
    rw (p.1, p.2) (faulty_stops c.args.caps.now c.args.files.now present [] c.in_ok-check_agencies.ensures.agencies c.in_err-stops.field-0.0 c.in_err-stops.ensures.fault)

pub returns-in_err-routes-clause-fault : goal.returns-in_err-routes-clause-fault
returns-in_err-routes-clause-fault c =
    let p = err_from_is_err_and c.from_residual-in_err-routes.result c.from_residual-in_err-routes.ensures.1 in
    let present = ap (option_map MissingFile) c.requires in
    rw (p.1, p.2) (faulty_routes c.args.caps.now c.args.files.now present [] c.in_ok-check_agencies.ensures.agencies _ c.in_ok-stops.ensures.stops c.in_err-routes.field-0.0 c.in_err-routes.ensures.fault)

pub returns-in_err-services-clause-fault : goal.returns-in_err-services-clause-fault
returns-in_err-services-clause-fault c =
    let p = err_from_is_err_and c.from_residual-in_err-services.result c.from_residual-in_err-services.ensures.1 in
    let present = ap (option_map MissingFile) c.requires in
    rw (p.1, p.2) (faulty_services c.args.caps.now c.args.files.now present [] c.in_ok-check_agencies.ensures.agencies _ c.in_ok-stops.ensures.stops _ c.in_ok-routes.ensures.routes c.in_err-services.field-0.0 c.in_err-services.ensures.fault)

pub returns-in_err-dates-clause-fault : goal.returns-in_err-dates-clause-fault
returns-in_err-dates-clause-fault c =
    let p = err_from_is_err_and c.from_residual-in_err-dates.result c.from_residual-in_err-dates.ensures.1 in
    let present = ap (option_map MissingFile) c.requires in
    rw (p.1, p.2) (faulty_dates c.args.caps.now c.args.files.now present [] c.in_ok-check_agencies.ensures.agencies _ c.in_ok-stops.ensures.stops _ c.in_ok-routes.ensures.routes _ c.in_ok-services.ensures.services c.in_err-dates.field-0.0 c.in_err-dates.ensures.fault)
