use Rattle.run_steps.specs.{scene}
use Rattle.run_steps.proofs.in_turn.write_in_turn.Given as goal

abbrev pub ghost-answer_pieces : goal.ghost-answer_pieces
ghost-answer_pieces g a = scene (g.F.Shelf.meaning a.ports.now.shelf) (g.O.Sink.meaning a.ports.now.out)
