use Rattle.run_steps.proofs.Steps.{text_ends}
use Rattle.late_commands.specs.{IsLateCertified}
use Rattle.late_commands.proofs.certifying.write_certified.Goals as goal

pub returns : goal.returns
returns g c = λ old new.
    text_ends old new (g.O.Sink.meaning c.args.out.now) (g.O.Sink.meaning c.write_text.new.out) (IsLateCertified c.args.network.now c.args.limits c.args.line.now) c.in_ok-text.text.items c.in_ok-text.ensures c.write_text.result
    (rw (← c.deref.ensures.value) c.write_text.ensures.ok) (rw (← c.deref.ensures.value) c.write_text.ensures.err)
