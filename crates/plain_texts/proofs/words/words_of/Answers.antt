use Rattle.std.proofs.Common.{List, ℕ, Bor}
use Rattle.plain_texts.proofs.Spaced.{words_joined}
use Rattle.plain_texts.proofs.words.words_of.Goals as goal

pub returns-clause-joined : goal.returns-clause-joined
returns-clause-joined c = words_joined (λ (b : Bor (List ℕ)). b.now) (λ v. v.items) c.args.line.now c.split.result c.split.ensures
