-- How the tokens of a text follow from its bytes.
use Rattle.plan_base.proofs.Common.{◌≡◌, ◌≢◌, ℕ, ◌+◌, ◌<◌, Bool, true, false, ◌&&◌, ◌||◌, ◌==◌, List, [], ◌∷◌, ◌++◌, length, get_or, take, drop, refl, sym, ap, ◌∙◌, append_assoc, arith, drop-cons, add-one, add-zero, length-drop, nat_tests, take_more}
use Rattle.mode_expression.specs.{is_lower, is_digit, joins, lexemes, widened, Lexeme}

is_32 : (c : ℕ) → c ≢ 32 → (c == 32) ≡ false
is_32 c other = grind (arith, nat_tests)

lexemes_joined : (at c : ℕ) (text : List ℕ) → c ≢ 32 → joins c text ≡ true → lexemes at (c ∷ text) ≡ widened at c (lexemes (at + 1) text)
lexemes_joined at c text other join = let e = is_32 c other in rw (e, join)

lexemes_apart : (at c : ℕ) (text : List ℕ) → c ≢ 32 → joins c text ≡ false
    → lexemes at (c ∷ text) ≡ record { at = at; bytes = c ∷ [] } ∷ lexemes (at + 1) text
lexemes_apart at c text other join = let e = is_32 c other in rw (e, join)

drop_at : (text : List ℕ) (i : ℕ) → i < length text → drop i text ≡ get_or text i 0 ∷ drop (i + 1) text
drop_at text i lt = rw (add-one, drop-cons text i 0)

-- the first lexeme with these bytes before its own
abbrev pub prefixed : ℕ → List ℕ → List Lexeme → List Lexeme
prefixed at front [] = []
prefixed at front (lexeme ∷ lexemes) = record { at = at; bytes = front ++ lexeme.bytes } ∷ lexemes

prefixed-widened : (at here c : ℕ) (front : List ℕ) (ls : List Lexeme) → prefixed at front (widened here c ls) ≡ prefixed at (front ++ c ∷ []) ls
prefixed-widened at here c front [] = refl
prefixed-widened at here c front (l ∷ ls) = ap (λ bytes. record { at = at; bytes = bytes } ∷ ls) (sym (append_assoc front (c ∷ []) l.bytes))

prefixed-none : (at c : ℕ) (ls : List Lexeme) → prefixed at [] (widened at c ls) ≡ widened at c ls
prefixed-none at c [] = refl
prefixed-none at c (l ∷ ls) = refl

pub run_begins : (text : List ℕ) → 0 < length text → get_or text 0 0 ≢ 32 → (at : ℕ)
    → lexemes at text ≡ prefixed at [] (lexemes (at + 0) (drop 0 text))
run_begins [] some other at = absurd (omega arith)
run_begins (c ∷ text) some other at = by_join (joins c text) refl
  where
    by_join : (b : Bool) → joins c text ≡ b → lexemes at (c ∷ text) ≡ prefixed at [] (lexemes (at + 0) (drop 0 (c ∷ text)))
    by_join true is = rw add-zero (rw (lexemes_joined at c text other is) (sym (prefixed-none at c (lexemes (at + 1) text))))
    by_join false is = rw add-zero (rw (lexemes_apart at c text other is))

lower_is_no_space : (c : ℕ) → is_lower c ≡ true → c ≢ 32
lower_is_no_space c is e = grind (arith, nat_tests)

digit_is_no_space : (c : ℕ) → is_digit c ≡ true → c ≢ 32
digit_is_no_space c is e = grind (arith, nat_tests)

joined_is_no_space : (c d : ℕ) (text : List ℕ) → joins c (d ∷ text) ≡ true → d ≢ 32
joined_is_no_space c d text is = by_cases (is_lower c) (is_lower d) (is_digit c) (is_digit d) refl refl is
  where
    by_cases : (a b e f : Bool) → is_lower d ≡ b → is_digit d ≡ f → ((a && b) || (e && f)) ≡ true → d ≢ 32
    by_cases true true e f low dig is = lower_is_no_space d low
    by_cases a b true true low dig is = digit_is_no_space d dig
    by_cases true false true false low dig is = absurd (cc)
    by_cases true false false f low dig is = absurd (cc)
    by_cases false b true false low dig is = absurd (cc)
    by_cases false b false f low dig is = absurd (cc)

-- a run goes on with one more byte
pub run_more : (text : List ℕ) (i : ℕ) → i + 1 < length text → get_or text i 0 ≢ 32
    → joins (get_or text i 0) (get_or text (i + 1) 0 ∷ []) ≡ true
    → ((at : ℕ) → lexemes at text ≡ prefixed at (take i text) (lexemes (at + i) (drop i text)))
    → (get_or text (i + 1) 0 ≢ 32) × ((at : ℕ) → lexemes at text ≡ prefixed at (take (i + 1) text) (lexemes (at + (i + 1)) (drop (i + 1) text)))
run_more text i lt other join before = (joined_is_no_space (get_or text i 0) (get_or text (i + 1) 0) [] join, step)
  where
    step : (at : ℕ) → lexemes at text ≡ prefixed at (take (i + 1) text) (lexemes (at + (i + 1)) (drop (i + 1) text))
    step at =
        let c = get_or text i 0 in
        let front = take i text in
        let below : i < length text = omega arith in
        let next = drop_at text (i + 1) lt in
        let joined : joins c (drop (i + 1) text) ≡ true = rw next join in
        let widen = ap (λ ts. lexemes (at + i) ts) (drop_at text i below) ∙ lexemes_joined (at + i) c (drop (i + 1) text) other joined
        ∙ ap (λ n. widened (at + i) c (lexemes n (drop (i + 1) text))) (omega arith) in
        let ls = lexemes (at + (i + 1)) (drop (i + 1) text) in
        before at ∙ ap (λ l. prefixed at front l) widen ∙ prefixed-widened at (at + i) c front ls
        ∙ ap (λ bytes. prefixed at bytes ls) (sym (take_more text i 0 below))

-- a run ends where the next byte does not join it
pub run_ends : (text : List ℕ) (i : ℕ) → i < length text → get_or text i 0 ≢ 32
    → (i + 1 < length text → joins (get_or text i 0) (get_or text (i + 1) 0 ∷ []) ≡ false)
    → ((at : ℕ) → lexemes at text ≡ prefixed at (take i text) (lexemes (at + i) (drop i text)))
    → (at : ℕ) → lexemes at text ≡ record { at = at; bytes = take (i + 1) text } ∷ lexemes (at + (i + 1)) (drop (i + 1) text)
run_ends text i lt other apart before at =
    let c = get_or text i 0 in
    let alone = ap (λ ts. lexemes (at + i) ts) (drop_at text i lt) ∙ lexemes_apart (at + i) c (drop (i + 1) text) other (not_joined (drop (i + 1) text) refl) in
    before at ∙ ap (λ l. prefixed at (take i text) l) alone
    ∙ ap (λ n. record { at = at; bytes = take i text ++ c ∷ [] } ∷ lexemes n (drop (i + 1) text)) (omega arith)
    ∙ ap (λ bytes. record { at = at; bytes = bytes } ∷ lexemes (at + (i + 1)) (drop (i + 1) text)) (sym (take_more text i 0 lt))
  where
    not_joined : (rest : List ℕ) → drop (i + 1) text ≡ rest → joins (get_or text i 0) (drop (i + 1) text) ≡ false
    not_joined [] is = rw is
    not_joined (d ∷ rest) is =
        let more : i + 1 < length text = omega (arith, ap length is, length-drop (i + 1) text) in
        rw (drop_at text (i + 1) more) (apart more)
