-- An expression's text holds no line feed: a byte that is no letter, digit, space or sign makes a token that stands nowhere.
use Rattle.plan_base.proofs.Common.{◌≡◌, ◌≢◌, ℕ, ◌+◌, Bool, true, false, ◌==◌, Some, None, List, [], ◌∷◌, cond, map, refl, sym, ap, ◌∙◌, arith, AllByRecursion, nat_tests, All-nil, All-cons, option_and_then_some, none-some}
use Rattle.plain_texts.specs.{is_feed, IsLine}
use Rattle.mode_expression.specs.{Token, Unknown, joins, widened, lexemes, Lexeme, placed_token, token_of, tokens_of, token, Spells, declared.place.Place.Place, declared.place.Place.TheVariants.NeedsAtom, declared.place.Place.TheVariants.AfterAtom, declared.place.Place.TheVariants.AfterItem, declared.place.Place.TheVariants.Least, declared.place.Place.TheVariants.AfterLeast, declared.place.Place.TheVariants.Most, declared.place.Place.TheVariants.AfterMost, Form.Form, inside.Reading, inside.step_at, inside.empty_reading}
use Rattle.mode_expression.proofs.MachineLemmas.{accept, accept_sentence}

-- the tokens of a sentence are known
stands_nowhere : (place : Place) (s : Reading) → step_at place s Unknown ≡ None
stands_nowhere NeedsAtom s = refl
stands_nowhere AfterAtom s = refl
stands_nowhere AfterItem s = refl
stands_nowhere Least s = refl
stands_nowhere (AfterLeast n) s = refl
stands_nowhere (Most m) s = refl
stands_nowhere (AfterMost m n) s = refl

all_known : (tokens : List Token) (s : Reading) (form : Form) → accept s tokens ≡ Some form → AllByRecursion (λ t. t ≢ Unknown) tokens
all_known [] s form e = tt
all_known (t ∷ tokens) s form e =
    option_and_then_some (λ after. accept after tokens) (step_at s.place s t) form e
    (λ after is rest. (λ unknown. none-some after (sym (stands_nowhere s.place s) ∙ ap (λ t. step_at s.place s t) (sym unknown) ∙ is), all_known tokens after form rest))

-- a lexeme does not begin with a line feed
abbrev BeginsPlain : List ℕ → Type 0
BeginsPlain [] = Unit {0}
BeginsPlain (b ∷ bytes) = is_feed b ≡ false

known_begins_plain : (bytes : List ℕ) → token_of bytes ≢ Unknown → BeginsPlain bytes
known_begins_plain [] known = tt
known_begins_plain (b ∷ bytes) known = by_test (is_feed b) refl
  where
    by_test : (feed : Bool) → is_feed b ≡ feed → is_feed b ≡ false
    by_test false is = is
    by_test true is = let same : b ≡ 10 = grind (arith, nat_tests) in absurd (known (ap (λ c. token_of (c ∷ bytes)) same))

abbrev BeginPlain : List Lexeme → Type 0
BeginPlain = AllByRecursion (λ (l : Lexeme). BeginsPlain l.bytes)

all_begin_plain : (ls : List Lexeme) → AllByRecursion (λ t. t ≢ Unknown) (map token (map placed_token ls)) → BeginPlain ls
all_begin_plain [] known = tt
all_begin_plain (l ∷ ls) known = (known_begins_plain l.bytes known.0, all_begin_plain ls known.1)

-- so no byte of the text is one: bytes that join a run are letters or digits
joined_is_plain : (c d : ℕ) (text : List ℕ) → joins c (d ∷ text) ≡ true → (is_feed c ≡ false) × (is_feed d ≡ false) × ((d == 32) ≡ false)
joined_is_plain c d text e = (grind (arith, nat_tests), grind (arith, nat_tests), grind (arith, nat_tests))

abbrev FirstIsPlain : List Lexeme → Type 0
FirstIsPlain [] = Unit {0}
FirstIsPlain (l ∷ ls) = BeginsPlain l.bytes

first_is_plain : (at c : ℕ) (text : List ℕ) → (c == 32) ≡ false → is_feed c ≡ false → FirstIsPlain (lexemes at (c ∷ text))
first_is_plain at c text other plain = rw other (by_join (joins c text) (lexemes (at + 1) text))
  where
    by_join : (join : Bool) (ls : List Lexeme) → FirstIsPlain (cond join (widened at c ls) (record { at = at; bytes = c ∷ [] } ∷ ls))
    by_join true [] = tt
    by_join true (l ∷ ls) = plain
    by_join false ls = plain

unwidened : (at c : ℕ) (ls : List Lexeme) → FirstIsPlain ls → BeginPlain (widened at c ls) → BeginPlain ls
unwidened at c [] first h = tt
unwidened at c (l ∷ ls) first h = (first, h.1)

next_is_plain : (at c : ℕ) (text : List ℕ) → BeginPlain (lexemes at (c ∷ text)) → (is_feed c ≡ false) × BeginPlain (lexemes (at + 1) text)
next_is_plain at c text h = by_space (c == 32) refl h
  where
    by_join : (others : List ℕ) (join : Bool) → joins c others ≡ join
        → BeginPlain (cond join (widened at c (lexemes (at + 1) others)) (record { at = at; bytes = c ∷ [] } ∷ lexemes (at + 1) others)) → (is_feed c ≡ false) × BeginPlain (lexemes (at + 1) others)
    by_join others false is h = h
    by_join [] true is h = cc
    by_join (d ∷ others) true is h =
        let plain = joined_is_plain c d others is in
        (plain.0, unwidened at c (lexemes (at + 1) (d ∷ others)) (first_is_plain (at + 1) d others plain.2 plain.1) h)

    by_space : (space : Bool) → (c == 32) ≡ space
        → BeginPlain (cond space (lexemes (at + 1) text) (cond (joins c text) (widened at c (lexemes (at + 1) text)) (record { at = at; bytes = c ∷ [] } ∷ lexemes (at + 1) text))) → (is_feed c ≡ false) × BeginPlain (lexemes (at + 1) text)
    by_space true is h = (grind (arith, nat_tests), h)
    by_space false is h = by_join text (joins c text) refl h

plain_from_lexemes : (text : List ℕ) (at : ℕ) → BeginPlain (lexemes at text) → IsLine text
plain_from_lexemes [] at h = All-nil (λ b. is_feed b ≡ false)
plain_from_lexemes (c ∷ text) at h =
    let next = next_is_plain at c text h in
    All-cons (λ b. is_feed b ≡ false) c text next.0 (plain_from_lexemes text (at + 1) next.1)

pub spelled_is_line : (text : List ℕ) (form : Form) → Spells text form → IsLine text
spelled_is_line text form spells =
    plain_from_lexemes text 0 (all_begin_plain (lexemes 0 text) (all_known (map token (tokens_of text)) empty_reading form (accept_sentence (map token (tokens_of text)) form spells)))
