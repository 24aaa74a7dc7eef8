use Rattle.std.proofs.Common.{rules, ◌≡◌, ◌∷◌, ◌++◌, ◌+◌, [], map, get_or, drop, false, arith, ◌∙◌, subst, slice_range}
use Rattle.std.proofs.lemmas.Grind.{common_steps}
use Rattle.plain_texts.specs.Lines as spec
use Rattle.plain_texts.proofs.{Pieces.WordsSoFar, Pieces.words_space, Pieces.words_byte, Pieces.words_end, words.words_into.Goals.then-byte-eq32+in_ok-push, words.words_into.Goals.else-byte-eq32}
use Rattle.plain_texts.proofs.words.words_into.Goals as goal

pub loop-at-preserved : goal.loop-at-preserved
loop-at-preserved c = elim c.if-byte-eq32.branch [
  | then-byte-eq32+in_ok-push w ↦
      let pushed : map (λ w. w.now) c.loop-at.words.items ++ slice_range c.args.line.now c.loop-at.start c.loop-at.at ∷ [] ≡ map (λ w. w.now) c.if-byte-eq32.words.items = grind (arith, common_steps) in
      let start : c.loop-at.at + 1 ≡ c.if-byte-eq32.start = search rules in
      let next = words_space c.args.line.now (map (λ w. w.now) c.loop-at.words.items) c.loop-at.start c.loop-at.at c.loop-at.invariant (omega arith) (search rules) in
      subst (λ x. WordsSoFar c.args.line.now (map (λ w. w.now) c.if-byte-eq32.words.items) x (c.loop-at.at + 1)) start (subst (λ x. WordsSoFar c.args.line.now x (c.loop-at.at + 1) (c.loop-at.at + 1)) pushed next)
  | else-byte-eq32 w ↦
      let kept : map (λ w. w.now) c.loop-at.words.items ≡ map (λ w. w.now) c.if-byte-eq32.words.items = search rules in
      let start : c.loop-at.start ≡ c.if-byte-eq32.start = search rules in
      let other : spec.is_space (get_or c.args.line.now c.loop-at.at 0) ≡ false = search rules in
      let next = words_byte c.args.line.now (map (λ w. w.now) c.loop-at.words.items) c.loop-at.start c.loop-at.at c.loop-at.invariant other in
      subst (λ x. WordsSoFar c.args.line.now (map (λ w. w.now) c.if-byte-eq32.words.items) x (c.loop-at.at + 1)) start (subst (λ x. WordsSoFar c.args.line.now x c.loop-at.start (c.loop-at.at + 1)) kept next)
]

pub returns : goal.returns
returns c =
    let pushed : map (λ w. w.now) c.push-2.new.self.items ≡ map (λ w. w.now) c.loop-at.words.items ++ drop c.loop-at.start c.args.line.now ∷ [] = grind (arith, common_steps) in
    record { words = pushed ∙ words_end c.args.line.now (map (λ w. w.now) c.loop-at.words.items) c.loop-at.start c.loop-at.at c.loop-at.invariant (omega arith) }
