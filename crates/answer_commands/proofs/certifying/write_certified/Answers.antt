use Rattle.plan_base.proofs.Common.{Bor, option_map}
use Rattle.hierarchy.specs.declared.hierarchy.Hierarchy.{Hierarchy}
use Rattle.run_steps.proofs.Steps.{text_ends}
use Rattle.answer_commands.specs.{IsCertified}
use Rattle.answer_commands.proofs.certifying.write_certified.Goals as goal

pub returns : goal.returns
returns g c = λ old new.
    text_ends old new (g.O.Sink.meaning c.args.out.now) (g.O.Sink.meaning c.write_text.new.out)
    (IsCertified c.args.network.now (option_map (λ (x : Bor Hierarchy). x.now) c.args.hierarchy) c.args.limits c.args.line.now) c.in_ok-text.text.items c.in_ok-text.ensures c.write_text.result
    (rw (← c.deref.ensures.value) c.write_text.ensures.ok) (rw (← c.deref.ensures.value) c.write_text.ensures.err)
