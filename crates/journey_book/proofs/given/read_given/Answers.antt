use Rattle.plan_base.proofs.Common.{arith, map, string_bytes, length, ◌<◌, ◌≡◌, length-map}
use Rattle.journey_book.proofs.GivenLemmas.{few_words}
use Rattle.journey_book.proofs.given.read_given.Goals as goal

pub returns-then-words-gt-MOST_WORDS : goal.returns-then-words-gt-MOST_WORDS
returns-then-words-gt-MOST_WORDS c =
    let words = map string_bytes c.args.words.now in
    let same : length words ≡ length c.args.words.now = length-map c.args.words.now string_bytes in
    let many : 6 < length words = omega (arith, same) in
    few_words words many
