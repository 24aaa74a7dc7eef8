-- The first byte that passes a test, as a place in the list.
use Rattle.std.proofs.Common.{◌≡◌, ℕ, List, length, Bool, Option, Some, None, position, arith, le_refl}
use Rattle.std.proofs.lemmas.Bool.{false_from_ne_true}
use Rattle.std.proofs.lemmas.Bool.Decides.{nat_tests}
use Rattle.std.proofs.lemmas.List.Sums.{position_or_len_is}
use Rattle.memchr.specs.Find.{IsFirstByte}

pub position_of_first : (test : ℕ → Bool) (hay : List ℕ) (r : Option ℕ) → IsFirstByte test hay r → r ≡ position test hay
position_of_first test hay None nowhere =
    let at = position_or_len_is test hay (length hay) 0 (le_refl (length hay)) (λ k h. false_from_ne_true _ (nowhere k (omega arith) h)) (λ h. absurd (omega (arith, h))) in
    grind (arith, nat_tests, at)
position_of_first test hay (Some k) first =
    let at = position_or_len_is test hay k 0 (omega (arith, first.0.high)) (λ j h. false_from_ne_true _ (first.0.before j (omega arith) h)) (λ _. first.1) in
    let inside = first.0.high in
    grind (arith, nat_tests, at, inside)
