use Rattle.std.proofs.Common.{◌≡◌, ◌++◌, ◌∷◌, [], ◌%◌, arith, rules}
use Rattle.plain_texts.specs.{glyph}
use Rattle.plain_texts.proofs.Hexadecimal.{hexadecimal_none, hexadecimal_longer}
use Rattle.plain_texts.proofs.hexadecimals.+push_hexadecimal.Goals as goal

pub returns-then-n-eq0 : goal.returns-then-n-eq0
returns-then-n-eq0 t c = hexadecimal_none c.args.out.now.items c.args.n c.if-n-eq0.true

pub returns : goal.returns
returns t c =
    let last : c.push.new.self.items ≡ c.push_hexadecimal.new.out.items ++ glyph (c.args.n % 16) ∷ [] = search rules in
    hexadecimal_longer c.args.out.now.items c.push_hexadecimal.new.out.items _ c.args.n (omega arith) c.in_ok-push_hexadecimal.ensures last
