-- What was pushed part by part was pushed in one.
use Rattle.plan_base.proofs.Common.{◌≡◌, ℕ, List, ◌++◌, ap, refl, ◌∙◌, append_assoc}

pub two : (old first second a b : List ℕ) → first ≡ old ++ a → second ≡ first ++ b → second ≡ old ++ (a ++ b)
two old first second a b is_first is_second = is_second ∙ ap (λ t. t ++ b) is_first ∙ append_assoc old a b

pub five : (old s1 s2 s3 s4 s5 a b c d e : List ℕ) → s1 ≡ old ++ a → s2 ≡ s1 ++ b → s3 ≡ s2 ++ c → s4 ≡ s3 ++ d → s5 ≡ s4 ++ e → s5 ≡ old ++ (a ++ (b ++ (c ++ (d ++ e))))
five old s1 s2 s3 s4 s5 a b c d e is1 is2 is3 is4 is5 =
    two s3 s4 s5 d e is4 is5 ∙ two s2 s3 (s3 ++ (d ++ e)) c (d ++ e) is3 refl ∙ two s1 s2 (s2 ++ (c ++ (d ++ e))) b (c ++ (d ++ e)) is2 refl ∙ two old s1 (s1 ++ (b ++ (c ++ (d ++ e)))) a (b ++ (c ++ (d ++ e))) is1 refl
