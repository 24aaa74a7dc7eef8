use Rattle.command_line.proofs.description.with_hierarchy.Goals as goal

pub returns : goal.returns
returns c = c.with_option.ensures
