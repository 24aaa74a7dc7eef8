use Rattle.product_search.proofs.LetterLemmas.{few_letters, letters_below}
use Rattle.product_search.proofs.moves.letters_end.Goals as goal

pub returns-clause-few : goal.returns-clause-few
returns-clause-few c = few_letters c.args.letters c.requires

pub returns-clause-end : goal.returns-clause-end
returns-clause-end c = λ k set. letters_below c.args.letters k c.requires set
