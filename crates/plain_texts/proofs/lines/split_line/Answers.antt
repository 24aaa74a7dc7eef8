use Rattle.std.proofs.Common.{List, ℕ, Bor}
use Rattle.plain_texts.proofs.Pieces.{split_line_exact}
use Rattle.plain_texts.proofs.lines.split_line.Goals as goal

pub returns-clause-exact : goal.returns-clause-exact
returns-clause-exact c = split_line_exact (λ (b : Bor (List ℕ)). b.now) c.args.text.now c.cut_any_line.result c.cut_any_line.ensures.line
