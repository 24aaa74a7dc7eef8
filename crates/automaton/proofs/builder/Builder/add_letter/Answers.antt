use Rattle.automaton.specs.inside.{built_of, has}
use Rattle.automaton.proofs.AddLemmas.{adds_letter}
use Rattle.automaton.proofs.builder.Builder.add_letter.Goals as goal

pub returns : goal.returns
returns c =
    adds_letter c.args.bits (built_of c.args.self.now) (built_of c.add_row.new.self) (has c.args.after) (has c.just-place.result) c.just-place.ensures c.in_ok-add_row.ensures
