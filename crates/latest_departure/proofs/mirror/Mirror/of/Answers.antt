use Rattle.latest_departure.specs.{source_rows}
use Rattle.latest_departure.proofs.{MirrorLaws.mirror_lawful, MirrorWalks.mirrors_are_journeys, MirrorWalks.journeys_are_mirrors}
use Rattle.latest_departure.proofs.mirror.Mirror.of.Goals as goal

pub invariant_of-result : goal.invariant_of-result
invariant_of-result c =
    let b = c.args.backwards.now in
    let k = c.known.ensures in
    record { soon = c.requires; lawful = mirror_lawful b.network k.network b.table k.keeps k.of (source_rows b) k.sources c.args.deadline c.requires }

pub returns-clause-journeys : goal.returns-clause-journeys
returns-clause-journeys c =
    let b = c.args.backwards.now in
    let k = c.known.ensures in
    mirrors_are_journeys b.network k.network b.table k.keeps k.of (source_rows b) k.sources c.args.deadline
    (mirror_lawful b.network k.network b.table k.keeps k.of (source_rows b) k.sources c.args.deadline c.requires)

pub returns-clause-walks : goal.returns-clause-walks
returns-clause-walks c =
    let b = c.args.backwards.now in
    let k = c.known.ensures in
    journeys_are_mirrors b.network k.network b.table k.keeps k.of (source_rows b) k.sources c.args.deadline
    (mirror_lawful b.network k.network b.table k.keeps k.of (source_rows b) k.sources c.args.deadline c.requires)
