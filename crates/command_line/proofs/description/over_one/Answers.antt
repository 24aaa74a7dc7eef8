use Rattle.clap.specs.Words.{new_app}
use Rattle.command_line.proofs.description.over_one.Goals as goal

pub returns : goal.returns
returns c = c.with_word.ensures (new_app c.args.name.now).top c.named.ensures
