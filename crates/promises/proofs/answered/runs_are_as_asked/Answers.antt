use Rattle.promises.proofs.AskedLemmas.{runs_are_as_asked, words_ask_one_thing}
use Rattle.promises.proofs.answered.runs_are_as_asked.Goals as goal

pub returns-clause-one : goal.returns-clause-one
returns-clause-one c = words_ask_one_thing

pub returns-clause-said : goal.returns-clause-said
returns-clause-said c = runs_are_as_asked
