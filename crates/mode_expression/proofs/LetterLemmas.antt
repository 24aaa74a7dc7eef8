-- Letters by number and by name.
use Rattle.plan_base.proofs.Common.{◌≡◌, ℕ, zero, suc, ◌<◌, true, false, nat_lt, List, [], Some, None, get_or, slice_get, refl, sym, ap, lit≤, arith, position_or_len_is, get_or_from_slice_get, nat_tests, bytes_eq}
use Rattle.search_laws.specs.{IsLetter, letter_count}
use Rattle.mode_expression.specs.{Letter, Foot, Bike, Car, Tram, Metro, Rail, Bus, Ferry, Cable, Lift, Funicular, Trolley, Monorail, Other, letter_named, number_of, letter_numbered}
use Rattle.plan_base.specs.{letter_names}

-- the letter that has a number has that number
pub number_of_numbered : (n : ℕ) (letter : Letter) → letter_numbered n ≡ Some letter → number_of letter ≡ n
number_of_numbered zero letter e = let same : Foot ≡ letter = cc in ap number_of (sym same)
number_of_numbered (suc zero) letter e = let same : Bike ≡ letter = cc in ap number_of (sym same)
number_of_numbered (suc (suc zero)) letter e = let same : Car ≡ letter = cc in ap number_of (sym same)
number_of_numbered (suc (suc (suc zero))) letter e = let same : Tram ≡ letter = cc in ap number_of (sym same)
number_of_numbered (suc (suc (suc (suc zero)))) letter e = let same : Metro ≡ letter = cc in ap number_of (sym same)
number_of_numbered (suc (suc (suc (suc (suc zero))))) letter e = let same : Rail ≡ letter = cc in ap number_of (sym same)
number_of_numbered (suc (suc (suc (suc (suc (suc zero)))))) letter e = let same : Bus ≡ letter = cc in ap number_of (sym same)
number_of_numbered (suc (suc (suc (suc (suc (suc (suc zero))))))) letter e = let same : Ferry ≡ letter = cc in ap number_of (sym same)
number_of_numbered (suc (suc (suc (suc (suc (suc (suc (suc zero)))))))) letter e = let same : Cable ≡ letter = cc in ap number_of (sym same)
number_of_numbered (suc (suc (suc (suc (suc (suc (suc (suc (suc zero))))))))) letter e = let same : Lift ≡ letter = cc in ap number_of (sym same)
number_of_numbered (suc (suc (suc (suc (suc (suc (suc (suc (suc (suc zero)))))))))) letter e = let same : Funicular ≡ letter = cc in ap number_of (sym same)
number_of_numbered (suc (suc (suc (suc (suc (suc (suc (suc (suc (suc (suc zero))))))))))) letter e = let same : Trolley ≡ letter = cc in ap number_of (sym same)
number_of_numbered (suc (suc (suc (suc (suc (suc (suc (suc (suc (suc (suc (suc zero)))))))))))) letter e = let same : Monorail ≡ letter = cc in ap number_of (sym same)
number_of_numbered (suc (suc (suc (suc (suc (suc (suc (suc (suc (suc (suc (suc (suc zero))))))))))))) letter e = let same : Other ≡ letter = cc in ap number_of (sym same)
number_of_numbered (suc (suc (suc (suc (suc (suc (suc (suc (suc (suc (suc (suc (suc (suc n)))))))))))))) letter e = absurd (cc)

pub name_of_numbered : (n : ℕ) (letter : Letter) (name : List ℕ) → letter_numbered n ≡ Some letter
    → slice_get letter_names (number_of letter) ≡ Some name → get_or letter_names n [] ≡ name
name_of_numbered n letter name e named =
    get_or_from_slice_get letter_names n name [] (rw (number_of_numbered n letter e) at named)

-- each number below their count is a letter's
pub is_numbered : (n : ℕ) → IsLetter n → letter_numbered n ≡ None → (A : Type 0) → A
is_numbered zero lt e = absurd (cc)
is_numbered (suc zero) lt e = absurd (cc)
is_numbered (suc (suc zero)) lt e = absurd (cc)
is_numbered (suc (suc (suc zero))) lt e = absurd (cc)
is_numbered (suc (suc (suc (suc zero)))) lt e = absurd (cc)
is_numbered (suc (suc (suc (suc (suc zero))))) lt e = absurd (cc)
is_numbered (suc (suc (suc (suc (suc (suc zero)))))) lt e = absurd (cc)
is_numbered (suc (suc (suc (suc (suc (suc (suc zero))))))) lt e = absurd (cc)
is_numbered (suc (suc (suc (suc (suc (suc (suc (suc zero)))))))) lt e = absurd (cc)
is_numbered (suc (suc (suc (suc (suc (suc (suc (suc (suc zero))))))))) lt e = absurd (cc)
is_numbered (suc (suc (suc (suc (suc (suc (suc (suc (suc (suc zero)))))))))) lt e = absurd (cc)
is_numbered (suc (suc (suc (suc (suc (suc (suc (suc (suc (suc (suc zero))))))))))) lt e = absurd (cc)
is_numbered (suc (suc (suc (suc (suc (suc (suc (suc (suc (suc (suc (suc zero)))))))))))) lt e = absurd (cc)
is_numbered (suc (suc (suc (suc (suc (suc (suc (suc (suc (suc (suc (suc (suc zero))))))))))))) lt e = absurd (cc)
is_numbered (suc (suc (suc (suc (suc (suc (suc (suc (suc (suc (suc (suc (suc (suc n)))))))))))))) lt e = absurd (omega arith)

pub none_named : (name : List ℕ) → ((k : ℕ) → IsLetter k → bytes_eq (get_or letter_names k []) name ≡ false) → letter_named name ≡ None
none_named name others =
    let e = position_or_len_is (λ known. bytes_eq known name) letter_names letter_count [] (lit≤ tt) others (λ lt. absurd (omega (arith, lt))) in
    rw e

pub some_named : (name : List ℕ) (n : ℕ) → IsLetter n → ((k : ℕ) → k < n → bytes_eq (get_or letter_names k []) name ≡ false)
    → bytes_eq (get_or letter_names n []) name ≡ true → letter_named name ≡ Some n
some_named name n lt others here =
    let e = position_or_len_is (λ known. bytes_eq known name) letter_names n [] (omega arith) others (λ _. here) in
    let below : nat_lt n letter_count ≡ true = grind (arith, nat_tests) in
    rw e (rw below refl)
