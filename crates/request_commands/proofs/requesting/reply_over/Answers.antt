use Rattle.plan_base.proofs.Common.{Bor, err_from_is_err_and, option_map}
use Rattle.hierarchy.specs.declared.hierarchy.Hierarchy.{Hierarchy}
use Rattle.run_steps.specs.{declared.outcome.FileRole.TheVariants.Requests, Done, Ends}
use Rattle.run_steps.proofs.PieceLemmas.{stops_early}
use Rattle.request_commands.specs.{IsReply}
use Rattle.request_commands.proofs.requesting.reply_over.Goals as goal

pub returns-in_err-backwards : goal.returns-in_err-backwards
returns-in_err-backwards g c =
    let p = err_from_is_err_and c.from_residual.result c.from_residual.ensures.1 in
    rw (p.1, p.2) (stops_early Requests c.args.path.now (IsReply c.args.network.now (option_map (λ (x : Bor Hierarchy). x.now) c.args.hierarchy) c.args.limits) (λ bytes. Ends Done)
    (g.F.Shelf.meaning c.args.ports.now.shelf) (g.O.Sink.meaning c.args.ports.now.out))

pub returns-in_err-least : goal.returns-in_err-least
returns-in_err-least g c =
    let p = err_from_is_err_and c.from_residual-in_err-least.result c.from_residual-in_err-least.ensures.1 in
    rw (p.1, p.2) (stops_early Requests c.args.path.now (IsReply c.args.network.now (option_map (λ (x : Bor Hierarchy). x.now) c.args.hierarchy) c.args.limits) (λ bytes. Ends Done)
    (g.F.Shelf.meaning c.args.ports.now.shelf) (g.O.Sink.meaning c.args.ports.now.out))
