use Rattle.command_line.proofs.description.with_places.Goals as goal

pub returns : goal.returns
returns c = c.with_option.ensures
