-- How the tables of a feed follow one another.
use Rattle.plan_base.proofs.Common.{◌≡◌, ℕ, List, map, sym, ap, ◌∙◌, None, Some, Result, Ok, Err}
use Rattle.plan_base.specs.{Caps}
use Rattle.gtfs_tables.specs.{CallRow, DateRow, FeedFault, FrequencyRow, FeedFiles, RouteRow, ServiceRow, StopRow, TripRow, ◌>>=◌, IsFaultOf, faultless, agencies, bytes_of, feed_of, missing_file, tables_of, records_of, FeedLists.FeedLists, inside.AreRead}
use Rattle.gtfs_tables.specs.Calls as Calls
use Rattle.gtfs_tables.specs.Frequencies as Frequencies
use Rattle.gtfs_tables.specs.Routes as Routes
use Rattle.gtfs_tables.specs.ServiceDates as Dates
use Rattle.gtfs_tables.specs.Services as Services
use Rattle.gtfs_tables.specs.Stops as Stops
use Rattle.gtfs_tables.specs.Trips as Trips
use Rattle.gtfs_tables.proofs.TableLemmas.{want_map}

module _ (caps : Caps) (files : FeedFiles) where
  -- what follows each table
  after_calls : List StopRow → List RouteRow → List ServiceRow → List DateRow → List TripRow → List FrequencyRow → Result (List CallRow) FeedFault → Result FeedLists FeedFault
  after_calls stops routes services dates trips frequencies r = r >>= (λ calls. Ok (record { stops = stops; routes = routes; services = services; dates = dates; trips = trips; frequencies = frequencies; calls = calls }))

  after_frequencies : List StopRow → List RouteRow → List ServiceRow → List DateRow → List TripRow → Result (List FrequencyRow) FeedFault → Result FeedLists FeedFault
  after_frequencies stops routes services dates trips r = r >>= (λ frequencies. after_calls stops routes services dates trips frequencies (records_of (Calls.calls caps (map (λ trip. trip.id) trips) (map (λ stop. stop.id) stops)) (bytes_of files.stop_times)))

  after_trips : List StopRow → List RouteRow → List ServiceRow → List DateRow → Result (List TripRow) FeedFault → Result FeedLists FeedFault
  after_trips stops routes services dates r = r >>= (λ trips. after_frequencies stops routes services dates trips (records_of (Frequencies.frequencies (map (λ trip. trip.id) trips)) (bytes_of files.frequencies)))

  after_dates : List StopRow → List RouteRow → List ServiceRow → Result (List DateRow) FeedFault → Result FeedLists FeedFault
  after_dates stops routes services r = r >>= (λ dates. after_trips stops routes services dates (records_of (Trips.trips caps (map (λ route. route.id) routes)) (bytes_of files.trips)))

  after_services : List StopRow → List RouteRow → Result (List ServiceRow) FeedFault → Result FeedLists FeedFault
  after_services stops routes r = r >>= (λ services. after_dates stops routes services (records_of (Dates.dates caps) (bytes_of files.calendar_dates)))

  after_routes : List StopRow → Result (List RouteRow) FeedFault → Result FeedLists FeedFault
  after_routes stops r = r >>= (λ routes. after_services stops routes (records_of (Services.services caps) (bytes_of files.calendar)))

  after_stops : Result (List StopRow) FeedFault → Result FeedLists FeedFault
  after_stops r = r >>= (λ stops. after_routes stops (records_of (Routes.routes caps) (bytes_of files.routes)))

  after_agencies : Result (List (List ℕ)) FeedFault → Result FeedLists FeedFault
  after_agencies r = r >>= (λ zones. after_stops (records_of (Stops.stops caps) (bytes_of files.stops)))

  pub absent_file : (fault : FeedFault) → missing_file files ≡ Some fault → feed_of caps files ≡ Err fault
  unfolding feed_of
  absent_file fault is = ap (λ o. faultless o files >>= tables_of caps) is

  module _ (present : missing_file files ≡ None) where
    to_agencies : feed_of caps files ≡ after_agencies (records_of agencies (bytes_of files.agency))
    unfolding feed_of after_agencies after_stops after_routes after_services after_dates after_trips after_frequencies after_calls
    to_agencies = ap (λ o. faultless o files >>= tables_of caps) present

    pub faulty_agencies : (fault : FeedFault) → IsFaultOf (records_of agencies (bytes_of files.agency)) fault → IsFaultOf (feed_of caps files) fault
    unfolding after_agencies
    faulty_agencies fault h = want_map fault _ _ (λ e. to_agencies ∙ ap after_agencies e) h

    module _ (zones : List (List ℕ)) (zones_read : AreRead agencies (bytes_of files.agency) zones) where
      to_stops : feed_of caps files ≡ after_stops (records_of (Stops.stops caps) (bytes_of files.stops))
      unfolding after_agencies
      to_stops = to_agencies ∙ ap after_agencies zones_read.are

      pub faulty_stops : (fault : FeedFault) → IsFaultOf (records_of (Stops.stops caps) (bytes_of files.stops)) fault → IsFaultOf (feed_of caps files) fault
      unfolding after_stops
      faulty_stops fault h = want_map fault _ _ (λ e. to_stops ∙ ap after_stops e) h

      module _ (stops : List StopRow) (stops_read : AreRead (Stops.stops caps) (bytes_of files.stops) stops) where
        to_routes : feed_of caps files ≡ after_routes stops (records_of (Routes.routes caps) (bytes_of files.routes))
        unfolding after_stops
        to_routes = to_stops ∙ ap after_stops stops_read.are

        pub faulty_routes : (fault : FeedFault) → IsFaultOf (records_of (Routes.routes caps) (bytes_of files.routes)) fault → IsFaultOf (feed_of caps files) fault
        unfolding after_routes
        faulty_routes fault h = want_map fault _ _ (λ e. to_routes ∙ ap (after_routes stops) e) h

        module _ (routes : List RouteRow) (routes_read : AreRead (Routes.routes caps) (bytes_of files.routes) routes) where
          to_services : feed_of caps files ≡ after_services stops routes (records_of (Services.services caps) (bytes_of files.calendar))
          unfolding after_routes
          to_services = to_routes ∙ ap (after_routes stops) routes_read.are

          pub faulty_services : (fault : FeedFault) → IsFaultOf (records_of (Services.services caps) (bytes_of files.calendar)) fault → IsFaultOf (feed_of caps files) fault
          unfolding after_services
          faulty_services fault h = want_map fault _ _ (λ e. to_services ∙ ap (after_services stops routes) e) h

          module _ (services : List ServiceRow) (services_read : AreRead (Services.services caps) (bytes_of files.calendar) services) where
            to_dates : feed_of caps files ≡ after_dates stops routes services (records_of (Dates.dates caps) (bytes_of files.calendar_dates))
            unfolding after_services
            to_dates = to_services ∙ ap (after_services stops routes) services_read.are

            pub faulty_dates : (fault : FeedFault) → IsFaultOf (records_of (Dates.dates caps) (bytes_of files.calendar_dates)) fault → IsFaultOf (feed_of caps files) fault
            unfolding after_dates
            faulty_dates fault h = want_map fault _ _ (λ e. to_dates ∙ ap (after_dates stops routes services) e) h

            module _ (dates : List DateRow) (dates_read : AreRead (Dates.dates caps) (bytes_of files.calendar_dates) dates) (route_ids : List (List ℕ)) (routes_listed : route_ids ≡ map (λ route. route.id) routes) where
              to_trips : feed_of caps files ≡ after_trips stops routes services dates (records_of (Trips.trips caps route_ids) (bytes_of files.trips))
              unfolding after_dates
              to_trips = to_dates ∙ ap (after_dates stops routes services) dates_read.are ∙ ap (λ ids. after_trips stops routes services dates (records_of (Trips.trips caps ids) (bytes_of files.trips))) (sym routes_listed)

              pub faulty_trips : (fault : FeedFault) → IsFaultOf (records_of (Trips.trips caps route_ids) (bytes_of files.trips)) fault → IsFaultOf (feed_of caps files) fault
              unfolding after_trips
              faulty_trips fault h = want_map fault _ _ (λ e. to_trips ∙ ap (after_trips stops routes services dates) e) h

              module _ (trips : List TripRow) (trips_read : AreRead (Trips.trips caps route_ids) (bytes_of files.trips) trips) (trip_ids : List (List ℕ)) (trips_listed : trip_ids ≡ map (λ trip. trip.id) trips) where
                to_frequencies : feed_of caps files ≡ after_frequencies stops routes services dates trips (records_of (Frequencies.frequencies trip_ids) (bytes_of files.frequencies))
                unfolding after_trips
                to_frequencies = to_trips ∙ ap (after_trips stops routes services dates) trips_read.are
                    ∙ ap (λ ids. after_frequencies stops routes services dates trips (records_of (Frequencies.frequencies ids) (bytes_of files.frequencies))) (sym trips_listed)

                pub faulty_frequencies : (fault : FeedFault) → IsFaultOf (records_of (Frequencies.frequencies trip_ids) (bytes_of files.frequencies)) fault → IsFaultOf (feed_of caps files) fault
                unfolding after_frequencies
                faulty_frequencies fault h = want_map fault _ _ (λ e. to_frequencies ∙ ap (after_frequencies stops routes services dates trips) e) h

                module _ (frequencies : List FrequencyRow) (frequencies_read : AreRead (Frequencies.frequencies trip_ids) (bytes_of files.frequencies) frequencies) (stop_ids : List (List ℕ))
                    (stops_listed : stop_ids ≡ map (λ stop. stop.id) stops) where
                  to_calls : feed_of caps files ≡ after_calls stops routes services dates trips frequencies (records_of (Calls.calls caps trip_ids stop_ids) (bytes_of files.stop_times))
                  unfolding after_frequencies
                  to_calls = to_frequencies ∙ ap (after_frequencies stops routes services dates trips) frequencies_read.are
                      ∙ ap (λ ids. after_calls stops routes services dates trips frequencies (records_of (Calls.calls caps ids (map (λ stop. stop.id) stops)) (bytes_of files.stop_times))) (sym trips_listed)
                      ∙ ap (λ ids. after_calls stops routes services dates trips frequencies (records_of (Calls.calls caps trip_ids ids) (bytes_of files.stop_times))) (sym stops_listed)

                  pub faulty_calls : (fault : FeedFault) → IsFaultOf (records_of (Calls.calls caps trip_ids stop_ids) (bytes_of files.stop_times)) fault → IsFaultOf (feed_of caps files) fault
                  unfolding after_calls
                  faulty_calls fault h = want_map fault _ _ (λ e. to_calls ∙ ap (after_calls stops routes services dates trips frequencies) e) h

                  pub all_read : (calls : List CallRow) → AreRead (Calls.calls caps trip_ids stop_ids) (bytes_of files.stop_times) calls
                      → feed_of caps files ≡ Ok (record { stops = stops; routes = routes; services = services; dates = dates; trips = trips; frequencies = frequencies; calls = calls })
                  unfolding after_calls
                  all_read calls read = to_calls ∙ ap (after_calls stops routes services dates trips frequencies) read.are
