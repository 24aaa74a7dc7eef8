use Rattle.plan_base.proofs.Common.{ℕ, [], length, sym, ap, subst, ◌∙◌, Ok, option_map, AllByRecursion, length-map}
use Rattle.gtfs_tables.specs.{MissingFile, RouteRow, StopRow, TripRow, IsCall, IsFeed, IsFrequency, IsTrip}
use Rattle.gtfs_tables.proofs.{FeedLemmas.all_read, FeedSound.calls_keep, FeedSound.dates_keep, FeedSound.frequencies_keep, FeedSound.route_ids, FeedSound.routes_keep, FeedSound.sequences, FeedSound.service_ids, FeedSound.services_keep, FeedSound.stop_ids, FeedSound.stops_keep, FeedSound.trip_ids, FeedSound.trips_keep}
use Rattle.gtfs_tables.proofs.feeds.read_present.Goals as goal

pub returns-clause-feed : goal.returns-clause-feed
returns-clause-feed c =
    let basis = c.in_ok-basis.ensures.basis in
    let runs = c.in_ok-runs.ensures.runs in
    let present = ap (option_map MissingFile) basis.present in
    all_read c.args.caps.now c.args.files.now present [] basis.agencies _ basis.stops _ basis.routes _ basis.services _ basis.dates _ basis.route_ids
    _ runs.trips _ runs.trip_ids _ runs.frequencies _ basis.stop_ids _ runs.calls ∙ ap Ok (sym c.gathered.ensures)

pub returns-clause-sound : goal.returns-clause-sound
returns-clause-sound c =
    let caps = c.args.caps.now in
    let basis = c.in_ok-basis.ensures.basis in
    let runs = c.in_ok-runs.ensures.runs in
    let count_stops = ap length basis.stop_ids ∙ length-map c.in_ok-basis.basis.stops.rows.items (λ (stop : StopRow). stop.id) in
    let count_routes = ap length basis.route_ids ∙ length-map c.in_ok-basis.basis.routes.rows.items (λ (route : RouteRow). route.id) in
    let count_trips = ap length runs.trip_ids ∙ length-map c.in_ok-runs.runs.trips.rows.items (λ (trip : TripRow). trip.id) in
    subst IsFeed (sym c.gathered.ensures) (record {
      stops = stops_keep caps _ _ basis.stops;
      stop_ids = stop_ids caps _ _ basis.stops;
      routes = routes_keep caps _ _ basis.routes;
      route_ids = route_ids caps _ _ basis.routes;
      services = services_keep caps _ _ basis.services;
      service_ids = service_ids caps _ _ basis.services;
      dates = dates_keep caps _ _ basis.dates;
      trips = subst (λ (n : ℕ). AllByRecursion (IsTrip n) c.in_ok-runs.runs.trips.rows.items) count_routes (trips_keep caps _ _ _ runs.trips);
      trip_ids = trip_ids caps _ _ _ runs.trips;
      frequencies = subst (λ (n : ℕ). AllByRecursion (IsFrequency n) c.in_ok-runs.runs.frequencies.items) count_trips (frequencies_keep caps _ _ _ runs.frequencies);
      calls = subst (λ (n : ℕ). AllByRecursion (IsCall n (length c.in_ok-basis.basis.stops.rows.items)) c.in_ok-runs.runs.calls.items) count_trips
          (subst (λ (n : ℕ). AllByRecursion (IsCall (length c.in_ok-runs.runs.trips.ids) n) c.in_ok-runs.runs.calls.items) count_stops (calls_keep caps _ _ _ _ runs.calls));
      sequences = sequences caps _ _ _ _ runs.calls;
    })
