use Rattle.journey.specs.{asked_by}
use Rattle.departures.proofs.ListingLemmas.{IsListing, left_of}
use Rattle.departures.proofs.listing.departures.Given as goal

abbrev pub invariant-loop-best : goal.invariant-loop-best
invariant-loop-best l = IsListing l.search.plain.network.now (asked_by l.search.query.now) l.without l.window l.rows.items l.best

abbrev pub decreases-loop-best : goal.decreases-loop-best
decreases-loop-best l = left_of l.closes l.best
