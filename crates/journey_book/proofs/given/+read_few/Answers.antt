use Rattle.plan_base.proofs.Common.{◌≡◌, ◌∙◌, List, ℕ, true, false, ap, sym, string_bytes, codes, option_and_then, option_map, bytes_eq}
use Rattle.journey_book.specs.{given_view, with_hierarchy, with_word}
use Rattle.journey_book.proofs.GivenLemmas.{alone_read, hierarchy_read, word_read}
use Rattle.journey_book.proofs.given.+read_few.Goals as goal

pub returns-in_default-rest : goal.returns-in_default-rest
returns-in_default-rest t c =
    let word = string_bytes c.word-item.result in
    let here : bytes_eq word (codes "--hierarchy") ≡ true = ap (λ (w : List ℕ). bytes_eq w (codes "--hierarchy")) (sym c.as_str.ensures.value) ∙ sym c.eq.ensures ∙ c.if-eq.true in
    alone_read c.args.words.now c.word-item.result c.in-len1-up.len_at_least c.word-item.is here c.in_default-rest.len_below

pub returns-then-eq : goal.returns-then-eq
returns-then-eq t c =
    let word = string_bytes c.word-item.result in
    let yes : bytes_eq word (codes "--hierarchy") ≡ true = ap (λ (w : List ℕ). bytes_eq w (codes "--hierarchy")) (sym c.as_str.ensures.value) ∙ sym c.eq.ensures ∙ c.if-eq.true in
    hierarchy_read c.args.words.now c.word-item.result c.in-len1-up.len_at_least c.word-item.is yes c.file-item.result c.in-len1-up-rest.len_at_least c.file-item.is
    (option_map given_view c.read_few.result) c.read_few.ensures _
    (c.with_hierarchy.ensures ∙ ap (λ (f : List ℕ). option_and_then (with_hierarchy f) (option_map given_view c.read_few.result)) c.as_str-then-eq.ensures.value)

pub returns : goal.returns
returns t c =
    let word = string_bytes c.word-item.result in
    let not : bytes_eq word (codes "--hierarchy") ≡ false = ap (λ (w : List ℕ). bytes_eq w (codes "--hierarchy")) (sym c.as_str.ensures.value) ∙ sym c.eq.ensures ∙ c.if-eq.false in
    word_read c.args.words.now c.word-item.result c.in-len1-up.len_at_least c.word-item.is not (option_map given_view c.read_few-2.result) c.read_few-2.ensures _
    (c.with_word.ensures ∙ ap (λ (w : List ℕ). option_and_then (with_word w) (option_map given_view c.read_few-2.result)) c.as_str-2.ensures.value)
