use Rattle.automaton.specs.{collapsed, collapsed_lawful, position_meaning}
use Rattle.mode_expression.specs.{form_of}
use Rattle.few_boardings.specs.{AtLeast}
use Rattle.few_boardings.proofs.{CountedLemmas.accepts_counted, FoundLemmas.counting_of}
use Rattle.departures.proofs.TransitLemmas.{accepts_none}
use Rattle.departures.proofs.search.RideSearch.new.Goals as goal

pub returns-clause-search : goal.returns-clause-search
returns-clause-search c =
    let is = c.in_ok-expressed.ensures in
    let reader = c.in_ok-expressed.expressed.made.labels.inner in
    let inner = position_meaning reader.inner in
    let lawful = collapsed_lawful inner reader.inner.lawful reader.fits in
    let reads = counting_of (form_of c.args.query.now.expr) inner AtLeast 1 c.positions_accept.ensures.collapsed c.requires.usable reader.inner.lawful reader.fits is.positions in
    record {
      reads = rw (is.on_side, is.limited) reads;
      none = λ off word accepts. accepts_none (collapsed inner) lawful (c.reads_transit-reads_transit.ensures off) (accepts_counted (collapsed inner) lawful AtLeast 1) word
          (rw (is.on_side, is.limited) at accepts);
      journeys = rw c.new-plain.ensures.network c.new-plain.ensures.journeys;
      origin = rw c.new-plain.ensures.network c.in_ok-origins.ensures.are;
      destination = rw c.new-plain.ensures.network c.in_ok-destinations.ensures.are;
      start_nodes = rw c.new-plain.ensures.network c.in_ok-origins.ensures.nodes;
    }
