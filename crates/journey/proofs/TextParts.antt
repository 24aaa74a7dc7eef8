-- The parts of the lines of a block, each of which tells what it is of.
use Rattle.plan_base.proofs.Common.{◌≡◌, ◌≢◌, ℕ, ℤ, zero, suc, ◌+◌, ◌-◌, ◌/◌, ◌%◌, ◌^◌, ◌<◌, ◌≤◌, ◌∙◌, List, [], ◌∷◌, ◌++◌, Bool, true, false, Some, refl, ap, ap₂, sym, arith, codes, append_assoc, All, nat_lt, not, ◌==◌, if◌then◌else◌, position, bytes_eq, flat_map, decimal, signed_decimal, list_all, nat_tests, All-nil, All-cons, All-push, All-append, All-weaker, AllPass-from_list_all, same_Some}
use Rattle.plan_base.specs.{letter_names}
use Rattle.plain_texts.specs.{IsWord, IsId, signed_at, fixed_decimal}
use Rattle.plain_texts.proofs.{FixedDecimal.fixed_decimal-zero, FixedDecimal.fixed_decimal-suc, Signed.signed_again, Spaced.word_by_test, Spaced.decimal_is_word}
use Rattle.service_days.specs.{DaysMeaning.DaysMeaning, AreDays, base_of, date_of, day_at, hours_text, part_text, time_text, clock_text_of, clock_at}
use Rattle.service_days.proofs.ClockLaws.{clock_again}
use Rattle.search_laws.specs.{IsLetter}
use Rattle.journey.specs.{letter_text}

-- ---- a mark after a part that lacks it

abbrev pub Lacks : ℕ → List ℕ → Type 0
Lacks mark text = All (λ b. b ≢ mark) text

first_lacks : (mark b : ℕ) (bs : List ℕ) → Lacks mark (b ∷ bs) → b ≢ mark
first_lacks mark b bs h = h 0 0 (omega arith)

rest_lacks : (mark b : ℕ) (bs : List ℕ) → Lacks mark (b ∷ bs) → Lacks mark bs
rest_lacks mark b bs h k d lt = h (suc k) d (omega (arith, lt))

-- what stands before the first mark, and what stands behind it
pub cut_once : (mark : ℕ) (a b x y : List ℕ) → Lacks mark a → Lacks mark b → a ++ mark ∷ x ≡ b ++ mark ∷ y → (a ≡ b) × (x ≡ y)
cut_once mark [] [] x y h g e = (refl, cc)
cut_once mark [] (c ∷ b) x y h g e = let same : mark ≡ c = cc in absurd (first_lacks mark c b g (sym same))
cut_once mark (c ∷ a) [] x y h g e = let same : c ≡ mark = cc in absurd (first_lacks mark c a h same)
cut_once mark (c ∷ a) (d ∷ b) x y h g e =
    let first : c ≡ d = cc in
    let more : a ++ mark ∷ x ≡ b ++ mark ∷ y = cc in
    let rest = cut_once mark a b x y (rest_lacks mark c a h) (rest_lacks mark d b g) more in
    (ap₂ (λ p ps. p ∷ ps) first rest.0, rest.1)

pub word_lacks : (mark : ℕ) (word : List ℕ) → mark ≤ 32 → IsWord word → Lacks mark word
word_lacks mark word le h = All-weaker (λ b. 32 < b) (λ b. b ≢ mark) (λ b lt e. omega (arith, le, lt, e)) word h

pub lacks_by_test : (mark : ℕ) (text : List ℕ) → list_all (λ b. not (b == mark)) text ≡ true → Lacks mark text
lacks_by_test mark text e = All-weaker (λ b. not (b == mark) ≡ true) (λ b. b ≢ mark) (λ b h. grind (arith, nat_tests)) text (AllPass-from_list_all (λ b. not (b == mark)) text e)

-- ---- letters

pub record LetterTells (k : ℕ) : Type 0 where
  pub again : position (λ known. bytes_eq known (letter_text k)) letter_names ≡ Some k
  pub plain : Lacks 58 (letter_text k)

pub letter_tells : (k : ℕ) → IsLetter k → LetterTells k
letter_tells zero h = record { again = refl; plain = lacks_by_test 58 (codes "foot") refl }
letter_tells (suc zero) h = record { again = refl; plain = lacks_by_test 58 (codes "bike") refl }
letter_tells (suc (suc zero)) h = record { again = refl; plain = lacks_by_test 58 (codes "car") refl }
letter_tells (suc (suc (suc zero))) h = record { again = refl; plain = lacks_by_test 58 (codes "tram") refl }
letter_tells (suc (suc (suc (suc zero)))) h = record { again = refl; plain = lacks_by_test 58 (codes "metro") refl }
letter_tells (suc (suc (suc (suc (suc zero))))) h = record { again = refl; plain = lacks_by_test 58 (codes "rail") refl }
letter_tells (suc (suc (suc (suc (suc (suc zero)))))) h = record { again = refl; plain = lacks_by_test 58 (codes "bus") refl }
letter_tells (suc (suc (suc (suc (suc (suc (suc zero))))))) h = record { again = refl; plain = lacks_by_test 58 (codes "ferry") refl }
letter_tells (suc (suc (suc (suc (suc (suc (suc (suc zero)))))))) h = record { again = refl; plain = lacks_by_test 58 (codes "cable") refl }
letter_tells (suc (suc (suc (suc (suc (suc (suc (suc (suc zero))))))))) h = record { again = refl; plain = lacks_by_test 58 (codes "lift") refl }
letter_tells (suc (suc (suc (suc (suc (suc (suc (suc (suc (suc zero)))))))))) h = record { again = refl; plain = lacks_by_test 58 (codes "funicular") refl }
letter_tells (suc (suc (suc (suc (suc (suc (suc (suc (suc (suc (suc zero))))))))))) h = record { again = refl; plain = lacks_by_test 58 (codes "trolley") refl }
letter_tells (suc (suc (suc (suc (suc (suc (suc (suc (suc (suc (suc (suc zero)))))))))))) h = record { again = refl; plain = lacks_by_test 58 (codes "monorail") refl }
letter_tells (suc (suc (suc (suc (suc (suc (suc (suc (suc (suc (suc (suc (suc zero))))))))))))) h = record { again = refl; plain = lacks_by_test 58 (codes "other") refl }
letter_tells (suc (suc (suc (suc (suc (suc (suc (suc (suc (suc (suc (suc (suc (suc k)))))))))))))) h = absurd (omega (arith, h))

-- the name of a letter is a word, and that of none is empty
pub letter_is_word : (k : ℕ) → IsWord (letter_text k)
letter_is_word zero = word_by_test (codes "foot") refl
letter_is_word (suc zero) = word_by_test (codes "bike") refl
letter_is_word (suc (suc zero)) = word_by_test (codes "car") refl
letter_is_word (suc (suc (suc zero))) = word_by_test (codes "tram") refl
letter_is_word (suc (suc (suc (suc zero)))) = word_by_test (codes "metro") refl
letter_is_word (suc (suc (suc (suc (suc zero))))) = word_by_test (codes "rail") refl
letter_is_word (suc (suc (suc (suc (suc (suc zero)))))) = word_by_test (codes "bus") refl
letter_is_word (suc (suc (suc (suc (suc (suc (suc zero))))))) = word_by_test (codes "ferry") refl
letter_is_word (suc (suc (suc (suc (suc (suc (suc (suc zero)))))))) = word_by_test (codes "cable") refl
letter_is_word (suc (suc (suc (suc (suc (suc (suc (suc (suc zero))))))))) = word_by_test (codes "lift") refl
letter_is_word (suc (suc (suc (suc (suc (suc (suc (suc (suc (suc zero)))))))))) = word_by_test (codes "funicular") refl
letter_is_word (suc (suc (suc (suc (suc (suc (suc (suc (suc (suc (suc zero))))))))))) = word_by_test (codes "trolley") refl
letter_is_word (suc (suc (suc (suc (suc (suc (suc (suc (suc (suc (suc (suc zero)))))))))))) = word_by_test (codes "monorail") refl
letter_is_word (suc (suc (suc (suc (suc (suc (suc (suc (suc (suc (suc (suc (suc zero))))))))))))) = word_by_test (codes "other") refl
letter_is_word (suc (suc (suc (suc (suc (suc (suc (suc (suc (suc (suc (suc (suc (suc k)))))))))))))) = All-nil (λ b. 32 < b)

pub letter_once : (k l : ℕ) → IsLetter k → IsLetter l → letter_text k ≡ letter_text l → k ≡ l
letter_once k l hk hl e =
    same_Some k l (sym (letter_tells k hk).again ∙ ap (λ text. position (λ known. bytes_eq known text) letter_names) e ∙ (letter_tells l hl).again)

-- the names of a word's letters stand on one line
pub word_on_line : (word : List ℕ) → Lacks 10 (flat_map (λ letter. 32 ∷ letter_text letter) word)
word_on_line [] = All-nil (λ b. b ≢ 10)
word_on_line (letter ∷ word) =
    All-append (λ b. b ≢ 10) (32 ∷ letter_text letter) (flat_map (λ letter. 32 ∷ letter_text letter) word)
    (All-cons (λ b. b ≢ 10) 32 (letter_text letter) (λ e. omega (arith, e)) (word_lacks 10 (letter_text letter) (omega arith) (letter_is_word letter))) (word_on_line word)

-- ---- ids

pub id_once : (a b : ℤ) → IsId a → IsId b → signed_decimal a ≡ signed_decimal b → a ≡ b
id_once a b ha hb e = same_Some a b (sym (signed_again (10 ^ 18) a (omega arith) ha) ∙ ap (signed_at (10 ^ 18)) e ∙ signed_again (10 ^ 18) b (omega arith) hb)

-- ---- clock texts

pub fixed_is_word : (width n : ℕ) → IsWord (fixed_decimal width n)
fixed_is_word zero n = rw (fixed_decimal-zero n) (All-nil (λ b. 32 < b))
fixed_is_word (suc width) n = rw (fixed_decimal-suc width n) (All-push (λ b. 32 < b) (fixed_decimal width (n / 10)) (48 + n % 10) (fixed_is_word width (n / 10)) (omega arith))

part_is_word : (mark width part : ℕ) → 32 < mark → IsWord (part_text mark width part)
part_is_word mark width part lt = All-cons (λ b. 32 < b) mark (fixed_decimal width part) lt (fixed_is_word width part)

hours_is_word : (hours : ℕ) → hours < 10 ^ 64 → IsWord (hours_text hours)
hours_is_word hours small = by_test (nat_lt hours 100)
  where
    by_test : (few : Bool) → IsWord (if few then fixed_decimal 2 hours else decimal hours)
    by_test true = fixed_is_word 2 hours
    by_test false = decimal_is_word hours small

pub time_is_word : (ms : ℕ) → ms < 10 ^ 64 → IsWord (time_text ms)
time_is_word ms small =
    let both = λ (a b : List ℕ) (h : IsWord a) (g : IsWord b). All-append (λ b. 32 < b) a b h g in
    both _ _ (both _ _ (both _ _ (hours_is_word (ms / 3600000) (omega (arith, small))) (part_is_word 58 2 (ms / 60000 % 60) (omega arith))) (part_is_word 58 2 (ms / 1000 % 60) (omega arith)))
    (part_is_word 46 3 (ms % 1000) (omega arith))

module _ (days : DaysMeaning) where
  -- the date of the day that has begun, and the time since then
  abbrev pub day_text : ℕ → List ℕ
  day_text t = fixed_decimal 8 (date_of days (day_at days t))

  abbrev pub since_text : ℕ → List ℕ
  since_text t = time_text (t - base_of days (day_at days t))

  pub day_is_word : (t : ℕ) → IsWord (day_text t)
  day_is_word t = fixed_is_word 8 (date_of days (day_at days t))

  pub since_is_word : (t : ℕ) → t < 2 ^ 128 → IsWord (since_text t)
  since_is_word t small = time_is_word (t - base_of days (day_at days t)) (omega (arith, small))

  pub clock_on_line : (t : ℕ) → t < 2 ^ 128 → Lacks 10 (clock_text_of days t)
  clock_on_line t small =
      All-append (λ b. b ≢ 10) (day_text t) (32 ∷ since_text t) (word_lacks 10 (day_text t) (omega arith) (day_is_word t))
      (All-cons (λ b. b ≢ 10) 32 (since_text t) (λ e. omega (arith, e)) (word_lacks 10 (since_text t) (omega arith) (since_is_word t small)))

  pub clock_once : AreDays days → (t u : ℕ) → t < 2 ^ 128 → u < 2 ^ 128 → clock_text_of days t ≡ clock_text_of days u → t ≡ u
  clock_once are t u ht hu e = same_Some t u (sym (clock_again days are t ht) ∙ ap (clock_at days) e ∙ clock_again days are u hu)

  -- a clock text, a space and more
  pub clock_before : AreDays days → (t u : ℕ) (x y : List ℕ) → t < 2 ^ 128 → u < 2 ^ 128 → clock_text_of days t ++ 32 ∷ x ≡ clock_text_of days u ++ 32 ∷ y → t ≡ u
  clock_before are t u x y ht hu e =
      let there = sym (append_assoc (day_text t) (32 ∷ since_text t) (32 ∷ x)) ∙ e ∙ append_assoc (day_text u) (32 ∷ since_text u) (32 ∷ y) in
      let day = cut_once 32 (day_text t) (day_text u) (since_text t ++ 32 ∷ x) (since_text u ++ 32 ∷ y) (word_lacks 32 (day_text t) (omega arith) (day_is_word t)) (word_lacks 32 (day_text u) (omega arith) (day_is_word u)) there in
      let since = cut_once 32 (since_text t) (since_text u) x y (word_lacks 32 (since_text t) (omega arith) (since_is_word t ht)) (word_lacks 32 (since_text u) (omega arith) (since_is_word u hu)) day.1 in
      clock_once are t u ht hu (ap₂ (λ a b. a ++ 32 ∷ b) day.0 since.0)
