use Rattle.promises.proofs.AnswerLemmas.{answer_prints_right_blocks}
use Rattle.promises.proofs.answered.answer_prints_right_blocks.Goals as goal

pub returns : goal.returns
returns c = answer_prints_right_blocks
