use Rattle.plan_base.proofs.Common.{subst, err_from_is_err_and}
use Rattle.mode_network.specs.NetworkLists.{NetworkLists}
use Rattle.journey.specs.{IsBlockUnder}
use Rattle.departures.specs.{IsProfileBlock}
use Rattle.run_steps.specs.{declared.outcome.FileRole.TheVariants.Queries, Done, scene, AnswersFile, Ends, end_of}
use Rattle.run_steps.proofs.{PieceLemmas.stops_early, Steps.on_region}
use Rattle.late_commands.proofs.answering.profile.Goals as goal

pub returns-in_err-least : goal.returns-in_err-least
returns-in_err-least g c =
    let p = err_from_is_err_and c.from_residual-in_err-least.result c.from_residual-in_err-least.ensures.1 in
    let mid = g.F.Shelf.meaning c.read_region.new.shelf in
    let out = g.O.Sink.meaning c.args.ports.now.out in
    rw (p.1, p.2)
    (on_region (g.F.Shelf.meaning c.args.ports.now.shelf) mid mid out out c.args.region.now
    c.args.caps.now _ c.in_ok-network.network c.in_ok-network.ensures.ok c.in_ok-network.ensures.later _ (stops_early Queries c.args.queries.now (IsBlockUnder c.in_ok-network.network c.args.places (IsProfileBlock c.in_ok-network.network c.args.window)) (λ bytes. Ends Done) mid out))

pub returns : goal.returns
returns g c =
    let mid = g.F.Shelf.meaning c.read_region.new.shelf in
    let new = g.F.Shelf.meaning c.answer_file.new.ports.shelf in
    let before = g.O.Sink.meaning c.args.ports.now.out in
    let after = g.O.Sink.meaning c.answer_file.new.ports.out in
    on_region (g.F.Shelf.meaning c.args.ports.now.shelf) mid new before after c.args.region.now
    c.args.caps.now _ c.in_ok-network.network c.in_ok-network.ensures.ok c.in_ok-network.ensures.later _
    (subst (λ (n : NetworkLists). AnswersFile Queries c.args.queries.now (IsBlockUnder n c.args.places (IsProfileBlock n c.args.window)) (scene mid before) (scene new after) (end_of c.answer_file.result)) c.in_ok-least.ensures c.answer_file.ensures)
