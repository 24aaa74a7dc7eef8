-- The words of a command line, as a slice's pattern tells them.
use Rattle.plan_base.proofs.Common.{◌≡◌, ◌∙◌, ℕ, ◌-◌, ◌<◌, ◌≤◌, List, [], ◌∷◌, length, take, drop, get_or, map, string_bytes, None, Some, refl, ap, sym, arith, option_and_then, String, take_all, Global}
use Rattle.journey_book.specs.{given_by, AsksOfBook, BookRequest, request_by, request_in_words}

-- a command's name and the words behind it
pub words_asked : (words : List (String Global)) (name : String Global) → 3 ≤ length words → name ≡ get_or words 2 name
    → request_in_words (map string_bytes words) ≡ option_and_then (request_by (string_bytes name)) (given_by (map string_bytes (take (length words - 3) (drop 3 words))))
words_asked [] name many is = absurd (omega arith)
words_asked (a ∷ []) name many is = absurd (omega arith)
words_asked (a ∷ b ∷ []) name many is = absurd (omega arith)
words_asked (a ∷ b ∷ c ∷ rest) name many is =
    let count : length (a ∷ b ∷ c ∷ rest) - 3 ≡ length rest = omega arith in
    let all : take (length rest) rest ≡ rest = take_all (length rest) rest (omega arith) in
    rw (count, all) (ap (λ (w : String Global). option_and_then (request_by (string_bytes w)) (given_by (map string_bytes rest))) (sym is))

-- fewer words ask for nothing
pub none_asked : (words : List (String Global)) → length words < 3 → None ≡ request_in_words (map string_bytes words)
none_asked [] few = refl
none_asked (a ∷ []) few = refl
none_asked (a ∷ b ∷ []) few = refl
none_asked (a ∷ b ∷ c ∷ rest) few = absurd (omega arith)

-- words ask for one thing
pub asked_once : (words : List (List ℕ)) (one other : BookRequest) → Some one ≡ request_in_words words → AsksOfBook words other → one ≡ other
asked_once words one other is asks = let e = is ∙ asks in cc
