-- Words of a line: a line is cut at its spaces and joined by spaces, without loss either way.
use Rattle.std.proofs.Common.{◌≡◌, ℕ, suc, List, [], ◌∷◌, refl, ap, ◌∙◌, ◌<◌, ◌+◌, ◌%◌, ◌^◌, arith, Bool, true, false, ℤ, pos, negsuc, ◌&&◌, Result, Ok, Err, IfOk, map, decimal, unsigned_abs, nat_lt}
use Rattle.std.specs.Fmt.{signed_decimal}
use Rattle.std.specs.List.{AllByRecursion, list_all}
use Rattle.std.proofs.lemmas.Bool.Decides.{nat_tests}
use Rattle.std.proofs.lemmas.Bool.{false≢true}
use Rattle.std.proofs.lemmas.List.Sums.{AllPass-from_list_all}
use Rattle.std.proofs.lemmas.Fmt.{decimal_by_steps_wide}
use Rattle.std.proofs.lemmas.List.Splits.{slice_split_none, slice_split_at, join_with_byte-slice_split}
use Rattle.std.proofs.lemmas.List.Elements.{All-nil, All-cons, All-push, All-append, All-weaker}
use Rattle.plain_texts.specs.{is_feed, is_space, IsLine, IsWord, words_of, spaced, is_name, is_name_byte, glyph, hexadecimal, IsHexadecimal}
use Rattle.plain_texts.proofs.Hexadecimal.{hexadecimal_by_steps}

-- A line is its words with one space between each two.
pub spaced-words_of : (line : List ℕ) → spaced (words_of line) ≡ line
unfolding spaced words_of
spaced-words_of line = join_with_byte-slice_split 32 line

no_space : (b : ℕ) → 32 < b → is_space b ≡ false
no_space b h = grind (arith, nat_tests)

no_feed : (b : ℕ) → 32 < b → is_feed b ≡ false
no_feed b h = grind (arith, nat_tests)

-- Words that are joined are found again.
pub words_of-spaced : (word : List ℕ) (words : List (List ℕ)) → AllByRecursion IsWord (word ∷ words) → words_of (spaced (word ∷ words)) ≡ word ∷ words
unfolding spaced words_of
words_of-spaced word [] h = slice_split_none is_space word (All-weaker (λ b. 32 < b) (λ b. is_space b ≡ false) no_space word h.0)
words_of-spaced word (next ∷ words) h = slice_split_at is_space word 32 (spaced (next ∷ words)) (All-weaker (λ b. 32 < b) (λ b. is_space b ≡ false) no_space word h.0) refl ∙ ap (λ x. word ∷ x) (words_of-spaced next words h.1)

pub word_is_line : (word : List ℕ) → IsWord word → IsLine word
word_is_line word h = All-weaker (λ b. 32 < b) (λ b. is_feed b ≡ false) no_feed word h

-- Joined words are a line.
pub spaced_is_line : (words : List (List ℕ)) → AllByRecursion IsWord words → IsLine (spaced words)
unfolding spaced
spaced_is_line [] h = All-nil (λ b. is_feed b ≡ false)
spaced_is_line (word ∷ []) h = word_is_line word h.0
spaced_is_line (word ∷ next ∷ words) h = All-append (λ b. is_feed b ≡ false) word (32 ∷ spaced (next ∷ words)) (word_is_line word h.0) (All-cons (λ b. is_feed b ≡ false) 32 (spaced (next ∷ words)) refl (spaced_is_line (next ∷ words) h.1))

-- a word whose bytes were tested: for a literal the test computes
pub word_by_test : (word : List ℕ) → list_all (λ b. nat_lt 32 b) word ≡ true → IsWord word
word_by_test word e = All-weaker (λ b. nat_lt 32 b ≡ true) (λ b. 32 < b) (λ b h. grind (arith, nat_tests)) word (AllPass-from_list_all (nat_lt 32) word e)

pub decimal_is_word : (n : ℕ) → n < 10 ^ 64 → IsWord (decimal n)
decimal_is_word n small = decimal_by_steps_wide (λ n ds. IsWord ds) (λ n h. All-cons (λ b. 32 < b) (48 + n) [] (omega arith) (All-nil (λ b. 32 < b))) (λ n ds h front. All-push (λ b. 32 < b) ds (48 + n % 10) front (omega arith)) n small

pub signed_is_word : (z : ℤ) → unsigned_abs z < 10 ^ 64 → IsWord (signed_decimal z)
signed_is_word (pos n) small = decimal_is_word n small
signed_is_word (negsuc n) small = All-cons (λ b. 32 < b) 45 (decimal (suc n)) (omega arith) (decimal_is_word (suc n) small)

visible_glyph : (d : ℕ) → 32 < glyph d
visible_glyph d = grind (arith, nat_tests)

pub hexadecimal_is_word : (n : ℕ) → IsHexadecimal n → IsWord (hexadecimal n)
hexadecimal_is_word n h = hexadecimal_by_steps (λ n ds. IsWord ds) (λ n some small. All-cons (λ b. 32 < b) (glyph n) [] (visible_glyph n) (All-nil (λ b. 32 < b))) (λ n ds many front. All-push (λ b. 32 < b) ds (glyph (n % 16)) front (visible_glyph (n % 16))) n n h.some (omega arith)

visible : (b : ℕ) → is_name_byte b ≡ true → 32 < b
visible b e = grind (arith, nat_tests)

each_byte : (bytes : List ℕ) → is_name bytes ≡ true → list_all is_name_byte bytes ≡ true
unfolding is_name
each_byte bytes e = last_of_three _ _ _ e
  where
    last_of_three : (a b c : Bool) → (a && (b && c)) ≡ true → c ≡ true
    last_of_three true true c e = e
    last_of_three true false c e = absurd (false≢true e)
    last_of_three false b c e = absurd (false≢true e)

pub name_is_word : (bytes : List ℕ) → is_name bytes ≡ true → IsWord bytes
name_is_word bytes e = All-weaker (λ b. is_name_byte b ≡ true) (λ b. 32 < b) visible bytes (AllPass-from_list_all is_name_byte bytes (each_byte bytes e))

pub words_joined : {B : Type 0} (v : B → List ℕ) {X E : Type 0} (items : X → List B) (line : List ℕ) (r : Result X E) → IfOk r (λ x. map v (items x) ≡ words_of line) → IfOk r (λ x. spaced (map v (items x)) ≡ line)
words_joined v items line (Ok x) e = ap spaced e ∙ spaced-words_of line
words_joined v items line (Err e) h = tt
