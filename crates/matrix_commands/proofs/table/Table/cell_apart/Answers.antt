use Rattle.matrix_commands.proofs.table.Table.cell_apart.Goals as goal

pub returns : goal.returns
returns c = rw (c.deref.ensures.value, c.in_ok-line.ensures) at c.cell_of.ensures
