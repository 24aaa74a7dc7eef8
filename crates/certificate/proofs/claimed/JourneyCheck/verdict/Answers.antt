use Rattle.certificate.proofs.VerdictLemmas.{end_fails, as_claimed}
use Rattle.certificate.proofs.claimed.JourneyCheck.verdict.Goals as goal

pub returns-in-Some : goal.returns-in-Some
returns-in-Some g c =
    end_fails (g.L.Labels.automaton c.args.self.labels.now) c.args.self c.requires.set_up c.args.goal c.args.journey.now (c.starts_well.ensures.0 c.if-not-starts_well.false)
    c.in-Ok.walked c.in-Ok.ensures c.in-Some.at c.in-Some.ensures

pub returns-in-Ok : goal.returns-in-Ok
returns-in-Ok g c =
    as_claimed (g.L.Labels.automaton c.args.self.labels.now) c.args.self c.requires.set_up c.args.goal c.args.journey.now (c.starts_well.ensures.0 c.if-not-starts_well.false)
    c.in-Ok.walked c.in-Ok.ensures c.in-None.ensures
