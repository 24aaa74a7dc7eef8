use Rattle.std.proofs.Common.{[]}
use Rattle.command_line.specs.{command_of, single_word}
use Rattle.command_line.proofs.description.over_two.Goals as goal

pub returns : goal.returns
returns c = c.with_word.ensures (command_of c.args.name.now single_word []) c.in_ok-command.ensures
