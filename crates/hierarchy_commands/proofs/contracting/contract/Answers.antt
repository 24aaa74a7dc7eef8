use Rattle.plan_base.proofs.Common.{inl, err_from_is_err_and}
use Rattle.plan_base.proofs.MoreWritten.{stays_so}
use Rattle.run_steps.proofs.Steps.{on_region, text_fails}
use Rattle.hierarchy_commands.specs.{IsContraction}
use Rattle.hierarchy_commands.proofs.contracting.contract.Goals as goal

pub returns-in_err-text : goal.returns-in_err-text
returns-in_err-text g c =
    let p = err_from_is_err_and c.from_residual-in_err-text.result c.from_residual-in_err-text.ensures.1 in
    rw (p.1, p.2) (inl (tt, stays_so (g.O.Sink.meaning c.args.ports.now.out)))

pub returns-in_err-write_text : goal.returns-in_err-write_text
returns-in_err-write_text g c =
    let p = err_from_is_err_and c.from_residual-in_err-write_text.result c.from_residual-in_err-write_text.ensures.1 in
    let before = g.O.Sink.meaning c.args.ports.now.out in
    let after = g.O.Sink.meaning c.write_text.new.out in
    let new = g.F.Shelf.meaning c.read_region.new.shelf in
    rw (p.1, p.2)
    (on_region (g.F.Shelf.meaning c.args.ports.now.shelf) new new before after c.args.region.now
    c.args.caps.now _ c.in_ok-network.network c.in_ok-network.ensures.ok c.in_ok-network.ensures.later _
    (text_fails new new before after (IsContraction c.in_ok-network.network c.args.keep) c.in_ok-text.text.items c.in_ok-text.ensures _
    (rw (← c.deref.ensures.value) c.in_err-write_text.ensures.err)))

pub returns : goal.returns
returns g c =
    let before = g.O.Sink.meaning c.args.ports.now.out in
    let after = g.O.Sink.meaning c.write_text.new.out in
    let new = g.F.Shelf.meaning c.read_region.new.shelf in
    on_region (g.F.Shelf.meaning c.args.ports.now.shelf) new new before after c.args.region.now
    c.args.caps.now _ c.in_ok-network.network c.in_ok-network.ensures.ok c.in_ok-network.ensures.later _
    (record { out = c.in_ok-text.text.items; is = c.in_ok-text.ensures; appended = rw (← c.deref.ensures.value) c.in_ok-write_text.ensures.ok })
