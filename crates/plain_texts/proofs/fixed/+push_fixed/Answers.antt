use Rattle.std.proofs.Common.{◌≡◌, ◌++◌, ◌∷◌, [], ◌+◌, ◌%◌, arith, rules}
use Rattle.plain_texts.proofs.FixedDecimal.{fixed_none, fixed_more}
use Rattle.plain_texts.proofs.fixed.+push_fixed.Goals as goal

pub returns-then-width-eq0 : goal.returns-then-width-eq0
returns-then-width-eq0 t c = fixed_none c.args.out.now.items c.args.width c.args.n c.if-width-eq0.true

pub returns : goal.returns
returns t c =
    let last : c.push.new.self.items ≡ c.push_fixed.new.out.items ++ (48 + c.args.n % 10) ∷ [] = search rules in
    fixed_more c.args.out.now.items c.push_fixed.new.out.items _ c.args.width c.args.n (omega arith) c.in_ok-push_fixed.ensures last
