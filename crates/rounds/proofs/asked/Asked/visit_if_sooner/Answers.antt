use Rattle.plan_base.proofs.Common.{arith, length}
use Rattle.rounds.specs.inside.{asked_of}
use Rattle.rounds.proofs.VisitLemmas.{cell_found, row_found, noted_here, sooner_here, sooner_visiting}
use Rattle.rounds.proofs.asked.Asked.visit_if_sooner.Goals.{else-delay-lt-NEVER-via-then-delay-lt-NEVER+else-lower, else-delay-lt-NEVER-via-else-delay-lt-NEVER}
use Rattle.rounds.proofs.asked.Asked.visit_if_sooner.Goals as goal

pub index-delay-requires : goal.index-delay-requires
index-delay-requires g c =
    let a = asked_of {l = g.L.Labels} c.args.self.now in
    let row = c.index.result.now in
    omega (arith, row_found a.labels.states (length a.rounds.crossings.items) c.args.rows.now.items c.args.state row c.requires.visiting.reached.shape c.requires.state c.index.ensures, row.ok.0, c.requires.crossing)

pub visit-requires-clause-here : goal.visit-requires-clause-here
visit-requires-clause-here g c =
    let a = asked_of {l = g.L.Labels} c.args.self.now in
    cell_found a.labels.states (length a.rounds.crossings.items) c.args.rows.now.items c.args.state c.index.result.now c.requires.visiting.reached.shape c.requires.state c.index.ensures
    c.args.crossing c.index-delay.result.now c.requires.crossing c.index-delay.ensures

pub returns-then-lower-clause-visiting : goal.returns-then-lower-clause-visiting
returns-then-lower-clause-visiting g c =
    let a = asked_of {l = g.L.Labels} c.args.self.now in
    let old = c.args.rows.now.items in
    let delay = c.index-delay.result.now in
    let visiting = c.requires.visiting in
    let at = cell_found a.labels.states (length a.rounds.crossings.items) old c.args.state c.index.result.now visiting.reached.shape c.requires.state c.index.ensures c.args.crossing delay c.requires.crossing c.index-delay.ensures in
    sooner_visiting a old c.args.visits.now.items c.lower.new.rows.items c.args.state c.args.crossing delay c.requires.state c.requires.crossing at visiting.visited c.lower.ensures.lowered
    c.visit.new.rows.items c.visit.result visiting.shape c.visit.ensures.taken c.visit.ensures.visited

pub returns-then-lower-clause-here : goal.returns-then-lower-clause-here
returns-then-lower-clause-here g c =
    let a = asked_of {l = g.L.Labels} c.args.self.now in
    let old = c.args.rows.now.items in
    let delay = c.index-delay.result.now in
    let visiting = c.requires.visiting in
    let at = cell_found a.labels.states (length a.rounds.crossings.items) old c.args.state c.index.result.now visiting.reached.shape c.requires.state c.index.ensures c.args.crossing delay c.requires.crossing c.index-delay.ensures in
    sooner_here a old c.args.visits.now.items c.lower.new.rows.items c.args.state c.args.crossing delay c.requires.state c.requires.crossing at visiting.visited c.lower.ensures.lowered
    c.visit.new.rows.items c.visit.result c.lower.ensures.here c.visit.ensures.taken

pub returns-else-delay-lt-NEVER-clause-here : goal.returns-else-delay-lt-NEVER-clause-here
returns-else-delay-lt-NEVER-clause-here g c =
    let a = asked_of {l = g.L.Labels} c.args.self.now in
    let old = c.args.rows.now.items in
    let delay = c.index-delay.result.now in
    let visiting = c.requires.visiting in
    let at = cell_found a.labels.states (length a.rounds.crossings.items) old c.args.state c.index.result.now visiting.reached.shape c.requires.state c.index.ensures c.args.crossing delay c.requires.crossing c.index-delay.ensures in
    λ same some. elim c.else-delay-lt-NEVER.branch [
      | else-delay-lt-NEVER-via-then-delay-lt-NEVER+else-lower w ↦ rw w.visits-is
          (noted_here a old c.args.visits.now.items w.lower.new.rows.items c.args.state c.args.crossing delay c.requires.state c.requires.crossing at visiting.visited w.lower.ensures.lowered w.lower.ensures.here)
      | else-delay-lt-NEVER-via-else-delay-lt-NEVER w ↦ absurd (omega (arith, some, at, w.if-delay-lt-NEVER.false))
    ]
