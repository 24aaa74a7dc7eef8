-- The places of letters in a sequence or an alternative.
use Rattle.plan_base.proofs.Common.{◌≡◌, ℕ, ◌+◌, ◌^◌, ◌≤◌, List, [], ◌∷◌, length, map, take, min, sum_by, Vec, refl, sym, ap, ◌∙◌, inl, inr, ◌⊎◌, take_all, sum_by-cons, Global}
use Rattle.mode_expression.specs.{Expr, form_of, in_turn, one_of, places, declared.expr.Expr.Seq, declared.expr.Expr.Alt}
use Rattle.mode_expression.proofs.FormLemmas.{form_seq, form_alt}

abbrev pub places_of : Expr → ℕ
places_of expr = places (form_of expr)

places_in_turn : (items : List Expr) → places (in_turn (map form_of items)) ≡ sum_by places_of items
places_in_turn [] = refl
places_in_turn (item ∷ items) = ap (λ n. places_of item + n) (places_in_turn items) ∙ sym (sum_by-cons places_of item items)

places_one_of : (items : List Expr) → places (one_of (map form_of items)) ≡ sum_by places_of items
places_one_of [] = refl
places_one_of (item ∷ items) = ap (λ n. places_of item + n) (places_one_of items) ∙ sym (sum_by-cons places_of item items)

all_counted : (items : List Expr) (i count : ℕ) → length items ≤ i → count ≡ min (sum_by places_of (take i items)) (2 ^ 32)
    → count ≡ min (sum_by places_of items) (2 ^ 32)
all_counted items i count all counted = counted ∙ ap (λ xs. min (sum_by places_of xs) (2 ^ 32)) (take_all i items all)

places_seq : (expr : Expr) (parts : Vec Expr Global) (items : List Expr) (i count : ℕ) → expr ≡ Seq parts → items ≡ parts.items → length items ≤ i
    → count ≡ min (sum_by places_of (take i items)) (2 ^ 32) → count ≡ min (places_of expr) (2 ^ 32)
places_seq expr parts items i count is same all counted =
    all_counted items i count all counted
    ∙ ap (λ n. min n (2 ^ 32)) (ap (λ xs. sum_by places_of xs) same ∙ sym (places_in_turn parts.items) ∙ sym (ap places (form_seq parts)) ∙ sym (ap places_of is))

places_alt : (expr : Expr) (parts : Vec Expr Global) (items : List Expr) (i count : ℕ) → expr ≡ Alt parts → items ≡ parts.items → length items ≤ i
    → count ≡ min (sum_by places_of (take i items)) (2 ^ 32) → count ≡ min (places_of expr) (2 ^ 32)
places_alt expr parts items i count is same all counted =
    all_counted items i count all counted
    ∙ ap (λ n. min n (2 ^ 32)) (ap (λ xs. sum_by places_of xs) same ∙ sym (places_one_of parts.items) ∙ sym (ap places (form_alt parts)) ∙ sym (ap places_of is))

-- the places of an expression of several parts
pub places_parts : (expr : Expr) (parts : Vec Expr Global) (items : List Expr) (i count : ℕ) → (expr ≡ Seq parts) ⊎ (expr ≡ Alt parts)
    → items ≡ parts.items → length items ≤ i → count ≡ min (sum_by places_of (take i items)) (2 ^ 32) → count ≡ min (places_of expr) (2 ^ 32)
places_parts expr parts items i count (inl is) same all counted = places_seq expr parts items i count is same all counted
places_parts expr parts items i count (inr is) same all counted = places_alt expr parts items i count is same all counted
