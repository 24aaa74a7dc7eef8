use Rattle.std.proofs.Common.{rules, ◌≡◌, arith, ◌∙◌, Some, None}
use Rattle.plain_texts.specs.{value_at}
use Rattle.plain_texts.proofs.{ShortNumbers.number_empty, ShortNumbers.number_long, ShortNumbers.number_padded, ShortNumbers.number_is, ShortNumbers.number_none, ShortNumbers.number_past, numbers.short_number.Goals.then-is_empty-via-then-is_empty, numbers.short_number.Goals.then-is_empty-via-else-is_empty+then-text-gt18, numbers.short_number.Goals.then-is_empty-via-else-is_empty+else-text-gt18+then-is_padded}
use Rattle.plain_texts.proofs.numbers.short_number.Goals as goal

pub returns-then-is_empty : goal.returns-then-is_empty
returns-then-is_empty c = elim c.then-is_empty.branch [
  | then-is_empty-via-then-is_empty w ↦ number_empty c.args.below c.args.text.now (search rules)
  | then-is_empty-via-else-is_empty+then-text-gt18 w ↦ number_long c.args.below c.args.text.now c.requires (search rules)
  | then-is_empty-via-else-is_empty+else-text-gt18+then-is_padded w ↦ number_padded c.args.below c.args.text.now w.if-is_padded.ensures.0 w.if-is_padded.ensures.1
]

pub returns-in_err-whole : goal.returns-in_err-whole
returns-in_err-whole c =
    let none : value_at c.args.text.now ≡ None = search rules in
    let result : c.from_residual.result ≡ None = search rules in
    result ∙ number_none c.args.below c.args.text.now (search rules) c.if-is_padded.ensures none

pub returns-then-whole-below : goal.returns-then-whole-below
returns-then-whole-below c =
    let value : value_at c.args.text.now ≡ Some c.in_ok-whole.whole = search rules in
    number_is c.args.below c.args.text.now c.in_ok-whole.whole (search rules) c.if-is_padded.ensures value (omega arith)

pub returns-else-whole-below : goal.returns-else-whole-below
returns-else-whole-below c =
    let value : value_at c.args.text.now ≡ Some c.in_ok-whole.whole = search rules in
    number_past c.args.below c.args.text.now c.in_ok-whole.whole (search rules) c.if-is_padded.ensures value (search rules)
