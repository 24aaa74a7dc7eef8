use Rattle.compile_commands.specs.{IsRegionFile}
use Rattle.run_steps.proofs.Steps.{text_ends}
use Rattle.compile_commands.proofs.compiling.write_compiled.Goals as goal

pub returns : goal.returns
returns g c = λ caps old new within.
    text_ends old new (g.O.Sink.meaning c.args.out.now) (g.O.Sink.meaning c.write_text.new.out) (IsRegionFile caps c.args.format c.args.region.now.network) c.in_ok-text.text.items
    (record { text = c.in_ok-text.ensures.spelled; spells = c.in_ok-text.ensures.again caps within }) c.write_text.result
    (rw (← c.deref.ensures.value) c.write_text.ensures.ok) (rw (← c.deref.ensures.value) c.write_text.ensures.err)
