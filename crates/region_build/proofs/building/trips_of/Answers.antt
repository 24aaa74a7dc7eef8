use Rattle.plan_base.proofs.Common.{List, ℕ, Option, ◌≡◌, ◌≤◌, length, map, subst, sym, ap, ◌∙◌, AllByRecursion}
use Rattle.plan_base.specs.{Caps}
use Rattle.gtfs_tables.specs.{FeedLists.FeedLists, IsFeedId, CallRow, FrequencyRow}
use Rattle.region_build.specs.{fault_by, network_lists, expanded, AreCallsInOrder, AreFrequenciesInOrder, lists_of, stop_number, IsTally, BuildFault, Source, StopEntry, Counts}
use Rattle.region_build.proofs.{BuildLaws.are_compiled, BuildLaws.has_fault, TripLaws.sources_have_ids, TripRuleLaws.headways_last, TripRuleLaws.headways_right}
use Rattle.region_build.proofs.building.trips_of.Goals as goal

fault_is : (caps : Caps) (back : Option ℕ) {counts given : Counts} {fault other : Option BuildFault} → fault ≡ fault_by caps counts back → counts ≡ given → fault ≡ other → fault_by caps given back ≡ other
fault_is caps back found counted is = ap (λ (counts : Counts). fault_by caps counts back) (sym counted) ∙ sym found ∙ is

pub sources_of-requires-clause-calls : goal.sources_of-requires-clause-calls
sources_of-requires-clause-calls c =
    subst (AreCallsInOrder c.args.feed.now.calls) (sym c.deref-3.ensures.value)
    (subst (λ (given : List CallRow). AreCallsInOrder given c.in_ok-calls.calls.items) (c.deref.ensures.value ∙ ap (λ (feed : FeedLists). feed.calls) c.feed.view_is) c.in_ok-calls.ensures)

pub sources_of-requires-clause-frequencies : goal.sources_of-requires-clause-frequencies
sources_of-requires-clause-frequencies c =
    subst (AreFrequenciesInOrder c.args.feed.now.frequencies) (sym c.deref-4.ensures.value)
    (subst (λ (given : List FrequencyRow). AreFrequenciesInOrder given c.in_ok-frequencies.frequencies.items) (c.deref-2.ensures.value ∙ ap (λ (feed : FeedLists). feed.frequencies) c.feed.view_is) c.in_ok-frequencies.ensures)

pub tally_of-requires : goal.tally_of-requires
tally_of-requires c =
    let said = c.in_ok-sources.ensures in
    subst (λ (sources : List Source). AllByRecursion (λ (source : Source). AllByRecursion (λ (row : FrequencyRow). 1 ≤ row.headway) source.frequencies.now) sources) (sym c.deref-5.ensures.value)
    (headways_last c.args.feed.now c.args.days.now said.calls said.frequencies 0 c.args.feed.now.trips c.in_ok-sources.sources.items
    (headways_right c.args.feed.now said.frequencies c.requires.feed said.frequencies_are.same) said.each)

pub numbered_trips-requires-clause-ids : goal.numbered_trips-requires-clause-ids
numbered_trips-requires-clause-ids c =
    let said = c.in_ok-sources.ensures in
    subst (λ (sources : List Source). AllByRecursion (λ (source : Source). IsFeedId source.id.now) sources) (sym c.deref-7.ensures.value)
    (sources_have_ids c.args.feed.now c.args.days.now said.calls said.frequencies 0 (length c.args.feed.now.routes) c.args.feed.now.trips c.in_ok-sources.sources.items said.each c.requires.feed.trips)

pub returns-in-Some-clause-fault : goal.returns-in-Some-clause-fault
returns-in-Some-clause-fault c objects lists =
    let is = subst (λ (sources : List Source). IsTally (map lists_of sources) c.in_ok-tally.tally) c.deref-5.ensures.value c.in_ok-tally.ensures in
    has_fault c.args.caps.now lists c.in_ok-sources.ensures is c.in-Some.fault (fault_is c.args.caps.now c.in_ok-tally.tally.back c.fault_by.ensures c.counts.ensures c.in-Some.is)

pub returns-clause-compiled : goal.returns-clause-compiled
returns-clause-compiled c objects lists =
    let is = subst (λ (sources : List Source). IsTally (map lists_of sources) c.in_ok-tally.tally) c.deref-5.ensures.value c.in_ok-tally.ensures in
    let trips = c.in_ok-trips.ensures
    ∙ ap (λ (entries : List StopEntry). expanded (stop_number entries) (map lists_of c.deref-7.result.now)) c.deref-6.ensures.value
    ∙ ap (λ (sources : List Source). expanded (stop_number c.args.lists.now.entries.items) (map lists_of sources)) c.deref-7.ensures.value in
    let none = fault_is c.args.caps.now c.in_ok-tally.tally.back c.fault_by.ensures c.counts.ensures c.in_default.is in
    are_compiled c.args.caps.now lists c.in_ok-sources.ensures is none (network_lists c.args.days.now c.args.lists.now c.in_ok-trips.trips.items) (ap (network_lists c.args.days.now c.args.lists.now) trips)

pub returns-clause-left_out : goal.returns-clause-left_out
returns-clause-left_out c =
    let is = subst (λ (sources : List Source). IsTally (map lists_of sources) c.in_ok-tally.tally) c.deref-5.ensures.value c.in_ok-tally.ensures in
    record { sources = map lists_of c.in_ok-sources.sources.items; said = c.in_ok-sources.ensures; are = is.left }
