use Rattle.certificate.proofs.UniqueLemmas.{journey_once}
use Rattle.journey_book.proofs.reviewing.arrival_of.Goals as goal

pub returns : goal.returns
returns c q best =
    (journey_once c.args.network.now c.known.ensures q 0 c.args.journey.now best.answers.end best.arrival best.answers.word c.ends-arrival.result.0 c.ends-arrival.result.1 c.ends-arrival.ensures.0
    best.answers.real c.ends-arrival.ensures.1).1
