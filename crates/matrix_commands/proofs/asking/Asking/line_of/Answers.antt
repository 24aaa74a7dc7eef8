use Rattle.matrix_commands.proofs.PairLemmas.{line_is}
use Rattle.matrix_commands.proofs.asking.Asking.line_of.Goals as goal

pub returns : goal.returns
returns c =
    let it = c.args.self.now in
    rw (
      c.in_ok-push_field-4.ensures,
      c.in_ok-push_field-3.ensures,
      c.in_ok-push_field-2.ensures,
      c.in_ok-push_field.ensures,
      c.in_ok-line.ensures.items,
      c.as_bytes.ensures.value,
      c.as_bytes-2.ensures.value,
      c.as_bytes-3.ensures.value,
    )
    (line_is it.date.now it.time.now it.expr.now c.args.from.now c.args.to.now)
