use Rattle.std.proofs.Common.{List, ℕ, Bor}
use Rattle.plain_texts.proofs.Pieces.{next_line_exact}
use Rattle.plain_texts.proofs.lines.next_line.Goals as goal

pub returns-clause-exact : goal.returns-clause-exact
returns-clause-exact c = next_line_exact (λ (b : Bor (List ℕ)). b.now) c.args.text.now c.cut_line.result c.cut_line.ensures.line
