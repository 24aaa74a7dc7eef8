use Rattle.plan_base.proofs.Common.{◌∙◌, List, ℕ, ap, string_bytes, sym, option_and_then, option_map}
use Rattle.journey_book.specs.{given_view, request_by}
use Rattle.journey_book.proofs.WordLemmas.{none_asked, words_asked}
use Rattle.journey_book.proofs.words.read_words.Goals as goal

pub returns-in-len3-up : goal.returns-in-len3-up
returns-in-len3-up c =
    let command = c.command-item.result in
    c.named_behind.ensures ∙ ap (λ (w : List ℕ). option_and_then (request_by w) (option_map given_view c.read_given.result)) c.as_str.ensures.value
    ∙ ap (option_and_then (request_by (string_bytes command))) c.read_given.ensures ∙ sym (words_asked c.args.words.now command c.in-len3-up.len_at_least c.command-item.is)

pub returns-in_default : goal.returns-in_default
returns-in_default c = none_asked c.args.words.now c.in_default.len_below
