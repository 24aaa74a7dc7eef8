-- What the words behind a command say, word by word; and that they are few.
use Rattle.plan_base.proofs.Common.{◌≡◌, ◌∙◌, ℕ, ◌+◌, ◌-◌, ◌<◌, ◌≤◌, Bool, true, false, cond, List, [], ◌∷◌, length, take, drop, get_or, map, string_bytes, Option, Some, None, is_some, refl, ap, sym, subst, arith, IfSome, codes, nat_lt, option_and_then, bytes_eq, String, take_all, bytes_eq-Decides, Global}
use borrow.Author.Tests.{ltb-true}
use Rattle.journey_book.specs.{Given.Given, is_option, given_by, nothing_given, with_fail, with_hierarchy, with_plain, with_word}

abbrev weight : Bool → ℕ → ℕ
weight true count = count
weight false count = 0

weight_within : (b : Bool) (count : ℕ) → weight b count ≤ count
weight_within true count = omega arith
weight_within false count = omega arith

-- so many words say this: one for each plain word and for `--fail`, and two for `--hierarchy`
record AreSo (count : ℕ) (given : Given) : Type 0 where
  counts : count ≡ (length given.words + weight (is_some given.hierarchy) 2) + weight given.fail 1
  few : length given.words ≤ 3

then_so : (found : Option Given) (more : Given → Option Given) (count next : ℕ) → ((given : Given) → AreSo count given → IfSome (more given) (AreSo next))
    → IfSome found (AreSo count) → IfSome (option_and_then more found) (AreSo next)
then_so None more count next step so = tt
then_so (Some given) more count next step so = step given so

fail_so : (count : ℕ) (given : Given) → AreSo count given → IfSome (with_fail given) (AreSo (count + 1))
fail_so count given so = go given.fail refl
  where
    go : (b : Bool) → given.fail ≡ b → IfSome (cond b None (Some (record given { fail = true }))) (AreSo (count + 1))
    go true is = tt
    go false is = let none : weight given.fail 1 ≡ 0 = ap (λ (b : Bool). weight b 1) is in record { counts = omega (arith, none, so.counts); few = so.few }

hierarchy_so : (file : List ℕ) (count : ℕ) (given : Given) → AreSo count given → IfSome (with_hierarchy file given) (AreSo (count + 2))
hierarchy_so file count given so = go (is_option file) (is_some given.hierarchy) refl
  where
    go : (option b : Bool) → is_some given.hierarchy ≡ b → IfSome (cond option None (cond b None (Some (record given { hierarchy = Some file })))) (AreSo (count + 2))
    go true b is = tt
    go false true is = tt
    go false false is = let none : weight (is_some given.hierarchy) 2 ≡ 0 = ap (λ (b : Bool). weight b 2) is in record { counts = omega (arith, none, so.counts); few = so.few }

plain_so : (word : List ℕ) (count : ℕ) (given : Given) → AreSo count given → IfSome (with_plain word given) (AreSo (count + 1))
plain_so word count given so = go (is_option word) (nat_lt (length given.words) 3) refl
  where
    go : (option b : Bool) → nat_lt (length given.words) 3 ≡ b → IfSome (cond option None (cond b (Some (record given { words = word ∷ given.words })) None)) (AreSo (count + 1))
    go true b is = tt
    go false true is = let less : length given.words < 3 = ltb-true (length given.words) 3 is in record { counts = omega (arith, so.counts); few = omega (arith, less) }
    go false false is = tt

word_so : (word : List ℕ) (count : ℕ) (given : Given) → AreSo count given → IfSome (with_word word given) (AreSo (count + 1))
word_so word count given so = go (bytes_eq word (codes "--fail"))
  where
    go : (b : Bool) → IfSome (cond b (with_fail given) (with_plain word given)) (AreSo (count + 1))
    go true = fail_so count given so
    go false = plain_so word count given so

same : (count next : ℕ) → count ≡ next → (found : Option Given) → IfSome found (AreSo count) → IfSome found (AreSo next)
same count next is found so = subst (λ (n : ℕ). IfSome found (AreSo n)) is so

given_so : (words : List (List ℕ)) → IfSome (given_by words) (AreSo (length words))
given_so [] = record { counts = refl; few = omega arith }
given_so (word ∷ []) = word_so word 0 nothing_given (record { counts = refl; few = omega arith })
given_so (word ∷ next ∷ rest) = go (bytes_eq word (codes "--hierarchy")) (given_so rest) (given_so (next ∷ rest))
  where
    go : (b : Bool) → IfSome (given_by rest) (AreSo (length rest)) → IfSome (given_by (next ∷ rest)) (AreSo (length (next ∷ rest)))
        → IfSome (cond b (option_and_then (with_hierarchy next) (given_by rest)) (option_and_then (with_word word) (given_by (next ∷ rest)))) (AreSo (length (word ∷ next ∷ rest)))
    go true behind all = then_so (given_by rest) (with_hierarchy next) (length rest) (length (word ∷ next ∷ rest)) (λ given so. same (length rest + 2) (length (word ∷ next ∷ rest)) (omega arith) (with_hierarchy next given) (hierarchy_so next (length rest) given so)) behind
    go false behind all = then_so (given_by (next ∷ rest)) (with_word word) (length (next ∷ rest)) (length (word ∷ next ∷ rest)) (λ given so. same (length (next ∷ rest) + 1) (length (word ∷ next ∷ rest)) (omega arith) (with_word word given) (word_so word (length (next ∷ rest)) given so)) all

-- more words than six are not those of any command
pub few_words : (words : List (List ℕ)) → 6 < length words → None ≡ given_by words
few_words words many = go (given_by words) (given_so words)
  where
    go : (found : Option Given) → IfSome found (AreSo (length words)) → None ≡ found
    go None so = refl
    go (Some given) so =
        let file = weight_within (is_some given.hierarchy) 2 in
        let fail = weight_within given.fail 1 in
        absurd (omega (arith, so.counts, so.few, file, fail, many))

-- one word and those behind it, where it is not `--hierarchy`
pub word_first : (word : List ℕ) (rest : List (List ℕ)) → bytes_eq word (codes "--hierarchy") ≡ false → given_by (word ∷ rest) ≡ option_and_then (with_word word) (given_by rest)
word_first word [] not = refl
word_first word (next ∷ rest) not = rw not refl

-- `--hierarchy`, its file, and the words behind them
hierarchy_first : (word file : List ℕ) (rest : List (List ℕ)) → bytes_eq word (codes "--hierarchy") ≡ true → given_by (word ∷ file ∷ rest) ≡ option_and_then (with_hierarchy file) (given_by rest)
hierarchy_first word file rest is = rw is refl

-- `--hierarchy` with no file behind it
alone : (word : List ℕ) (rest : List (String Global)) → length rest < 1 → bytes_eq word (codes "--hierarchy") ≡ true → None ≡ given_by (word ∷ map string_bytes rest)
alone word [] none here =
    let is : word ≡ codes "--hierarchy" = (bytes_eq-Decides word (codes "--hierarchy")).0 here in
    subst (λ (w : List ℕ). None ≡ given_by (w ∷ [])) (sym is) refl
alone word (first ∷ rest) none here = absurd (omega arith)

-- ---- what a slice's pattern tells

abbrev pub tail : List (String Global) → List (String Global)
tail words = take (length words - 1) (drop 1 words)

split_one : (words : List (String Global)) (word : String Global) → 1 ≤ length words → word ≡ get_or words 0 word → map string_bytes words ≡ string_bytes word ∷ map string_bytes (tail words)
split_one [] word some is = absurd (omega arith)
split_one (first ∷ rest) word some is =
    let count : length (first ∷ rest) - 1 ≡ length rest = omega arith in
    let all : take (length rest) rest ≡ rest = take_all (length rest) rest (omega arith) in
    rw (count, all) (ap (λ (w : String Global). string_bytes w ∷ map string_bytes rest) (sym is))

module _ (words : List (String Global)) (word : String Global) (some : 1 ≤ length words) (first : word ≡ get_or words 0 word) where
  -- a word that is not `--hierarchy`, and those behind it
  pub word_read : bytes_eq (string_bytes word) (codes "--hierarchy") ≡ false → (found : Option Given) → found ≡ given_by (map string_bytes (tail words))
      → (result : Option Given) → result ≡ option_and_then (with_word (string_bytes word)) found → result ≡ given_by (map string_bytes words)
  word_read not found says result is =
      is ∙ ap (option_and_then (with_word (string_bytes word))) says ∙ sym (word_first (string_bytes word) (map string_bytes (tail words)) not)
      ∙ sym (ap given_by (split_one words word some first))

  -- `--hierarchy` and no more
  pub alone_read : bytes_eq (string_bytes word) (codes "--hierarchy") ≡ true → length (tail words) < 1 → None ≡ given_by (map string_bytes words)
  alone_read here none = alone (string_bytes word) (tail words) none here ∙ sym (ap given_by (split_one words word some first))

  -- `--hierarchy`, its file, and those behind them
  pub hierarchy_read : bytes_eq (string_bytes word) (codes "--hierarchy") ≡ true → (file : String Global) → 1 ≤ length (tail words) → file ≡ get_or (tail words) 0 file
      → (found : Option Given) → found ≡ given_by (map string_bytes (tail (tail words)))
      → (result : Option Given) → result ≡ option_and_then (with_hierarchy (string_bytes file)) found → result ≡ given_by (map string_bytes words)
  hierarchy_read here file more next found says result is =
      let split = split_one words word some first ∙ ap (λ (r : List (List ℕ)). string_bytes word ∷ r) (split_one (tail words) file more next) in
      is ∙ ap (option_and_then (with_hierarchy (string_bytes file))) says ∙ sym (hierarchy_first (string_bytes word) (string_bytes file) (map string_bytes (tail (tail words))) here)
      ∙ sym (ap given_by split)
