use Rattle.plan_base.proofs.Common.{◌≡◌, ◌++◌, ◌<◌, ◌^◌, List, length, sym, rules, subst, inl, inr, All, flat_map}
use Rattle.service_days.specs.{AreKept}
use Rattle.timetable_arcs.specs.{TripLists}
use Rattle.mode_network.specs.{nodes_of}
use Rattle.region_file.specs.{Format, Text, Binary, AreSpelling, spelling, inside.head_in, inside.line_in, inside.node_in, inside.trip_in}
use Rattle.region_file.specs.declared.lines.Line.TheVariants as line
use Rattle.region_file.proofs.{Encoded.written, Fits.counts_fit, Fits.few_calls, Fits.is_region}
use Rattle.region_file.proofs.encoding.encode.Goals as goal

pub push_trips-requires : goal.push_trips-requires
push_trips-requires c =
    let same : c.trips.result.now ≡ c.args.network.now.trips = search rules in
    subst (λ (trips : List TripLists). All (λ (trip : TripLists). length trip.calls < 2 ^ 32) trips) (sym same) (few_calls c.args.network.now c.known.ensures)

pub returns-clause-spelled : goal.returns-clause-spelled
returns-clause-spelled c =
    let n = c.args.network.now in
    let format = c.args.format in
    let head : c.push_head.new.out.items ≡ head_in format n = search rules in
    let days : c.push_days.new.out.items ≡ c.push_head.new.out.items ++ line_in format (line.Days n.days) = search rules in
    let nodes : c.push_nodes.new.out.items ≡ c.push_days.new.out.items ++ flat_map (node_in format n.stop_names) (nodes_of n) = search rules in
    let arcs : c.push_arcs.new.out.items ≡ c.push_nodes.new.out.items ++ flat_map (λ arc. line_in format (line.Arc arc)) n.arcs = search rules in
    let links : c.push_links.new.out.items ≡ c.push_arcs.new.out.items ++ flat_map (λ link. line_in format (line.Link link)) n.links = search rules in
    let trips : c.push_trips.new.out.items ≡ c.push_links.new.out.items ++ flat_map (trip_in format) n.trips = search rules in
    let end : c.push_end.new.out.items ≡ c.push_trips.new.out.items ++ line_in format line.End = search rules in
    rw (end, trips, links, arcs, nodes, days, head) (written format n c.known.ensures.parts)

pub returns-clause-again : goal.returns-clause-again
returns-clause-again c =
    let n = c.args.network.now in
    let kept : AreKept c.days.result.now = record { are = c.known-2.ensures.days; made = c.known-2.ensures.made } in
    let region = is_region n c.known.ensures (subst AreKept c.days.ensures kept) in
    λ caps faultless. record { region = region; spelled = by_format c.args.format (returns-clause-spelled c); faultless = faultless }
  where
    by_format : (format : Format) → c.push_end.new.out.items ≡ spelling format c.args.network.now → AreSpelling c.push_end.new.out.items c.args.network.now
    by_format Text is = inl is
    by_format Binary is = inr (record { counts = counts_fit c.args.network.now c.known.ensures; spelled = is })
