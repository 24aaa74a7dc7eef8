-- Letters as bits.
use Rattle.plan_base.proofs.Common.{◌≡◌, ℕ, ◌+◌, ◌-◌, ◌^◌, ◌<◌, ◌≤◌, ◌/◌, ◌∙◌, sym, subst, inl, inr, arith, IsBitSet, bit_at, bit_or, div-eq_of_lt, cases_lt, bit_at_or}
use lib.Count.{count_leading_zeros}
use Rattle.std.proofs.Common.{pow_mono}
use Rattle.std.proofs.lemmas.Nat.{bit_set_by_shift, leading_length}
use Rattle.std.proofs.lemmas.Nat.Bits.{shr_and_one}
use Rattle.search_laws.specs.{IsLetterSet, letter_count, LabelsMeaning}
use Rattle.product_search.specs.inside.{HasLettersBelow, HasLeavingBelow}

pub bit_from_set : (n k : ℕ) → IsBitSet n k → bit_at n k ≡ 1
bit_from_set n k set = sym (shr_and_one n k) ∙ (bit_set_by_shift n k).1 set

pub set_from_bit : (n k : ℕ) → bit_at n k ≡ 1 → IsBitSet n k
set_from_bit n k e = (bit_set_by_shift n k).0 (shr_and_one n k ∙ e)

or_first : (a b k : ℕ) → IsBitSet a k → IsBitSet (bit_or a b) k
or_first a b k set = set_from_bit (bit_or a b) k (omega (arith, bit_at_or a b k, bit_from_set a k set))

or_second : (a b k : ℕ) → IsBitSet b k → IsBitSet (bit_or a b) k
or_second a b k set = set_from_bit (bit_or a b) k (omega (arith, bit_at_or a b k, bit_from_set b k set))

-- one move more
pub letters_more : (l : LabelsMeaning) (q n letters : ℕ) → HasLettersBelow l q n letters → HasLettersBelow l q (n + 1) (bit_or letters (l.move_at q n).letters)
letters_more l q n letters has j c lt set = elim (cases_lt j n) [
  | inl below ↦ or_first letters (l.move_at q n).letters c (has j c below set)
  | inr ge ↦ (let e : j ≡ n = omega arith in or_second letters (l.move_at q n).letters c (subst (λ k. IsBitSet (l.move_at q k).letters c) e set))
]

-- one move more, of which the letters are taken if it leads to another state
pub leaving_more : (l : LabelsMeaning) (q n letters more : ℕ) → HasLeavingBelow l q n letters → (((l.move_at q n).to ≡ q → ⊥) → more ≡ (l.move_at q n).letters)
    → HasLeavingBelow l q (n + 1) (bit_or letters more)
leaving_more l q n letters more has taken j c lt set leaves = elim (cases_lt j n) [
  | inl below ↦ or_first letters more c (has j c below set leaves)
  | inr ge ↦ (let e : j ≡ n = omega arith in
      let same : more ≡ (l.move_at q n).letters = taken (λ stays. leaves (subst (λ k. (l.move_at q k).to ≡ q) (sym e) stays)) in
      or_second letters more c (subst (λ x. IsBitSet x c) (sym same) (subst (λ k. IsBitSet (l.move_at q k).letters c) e set)))
]

-- no letter from m on is in a set below 2 ^ m
pub letter_below : (letters m c : ℕ) → letters < 2 ^ m → IsBitSet letters c → c < m
letter_below letters m c small set = elim (cases_lt c m) [
  | inl below ↦ below
  | inr ge ↦ (let one = bit_from_set letters c set in
      let none : letters / 2 ^ c ≡ 0 = div-eq_of_lt {n = letters} {m = 2 ^ c} (omega (arith, pow_mono {i = m} {j = c} ge)) in
      absurd (omega (arith, one, none)))
]

-- where a set of the fourteen letters ends
pub few_letters : (letters : ℕ) → IsLetterSet letters → 32 - count_leading_zeros 32 letters ≤ letter_count
few_letters letters small =
    let it = leading_length 32 letters (omega arith) in
    elim (cases_lt it.0 15) [
      | inl below ↦ omega (arith, it.1)
      | inr ge ↦ absurd (omega (arith, pow_mono {i = 15} {j = it.0} ge, it.3))
    ]

pub letters_below : (letters c : ℕ) → IsLetterSet letters → IsBitSet letters c → c < 32 - count_leading_zeros 32 letters
letters_below letters c small set =
    let it = leading_length 32 letters (omega arith) in
    let below = letter_below letters it.0 c it.2 set in
    omega (arith, it.1)
