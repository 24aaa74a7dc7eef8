-- The laws of the escape: the code of a byte ends at the second `%`, so no two ids have one name.
use Rattle.std.proofs.Common.{◌≡◌, ℕ, List, [], ◌∷◌, ◌++◌, length, refl, ap, sym, ◌∙◌, subst, ◌<◌, ◌≤◌, ◌*◌, ◌^◌, ◌/◌, ◌%◌, arith, ◌⊎◌, inl, inr, append_assoc, Bool, true, false, Some, None, nat_eq, codes, All, flat_map, length-append}
use Rattle.std.specs.List.{list_all, slice_split}
use Rattle.std.proofs.lemmas.Bool.{cases_lt, cases_eq, cases_Bool, and_from, cond-true}
use Rattle.std.proofs.lemmas.Bool.Decides.{nat_tests}
use Rattle.std.proofs.lemmas.List.Elements.{All-nil, All-cons}
use Rattle.std.proofs.lemmas.List.Folds.{list_all-append}
use Rattle.std.proofs.lemmas.List.Splits.{slice_split_at}
use Rattle.plain_texts.specs.{is_name, is_name_byte, name_of, glyph, hexadecimal, hexadecimal_at, is_plain, code_of, escaped_byte, escaped}
use Rattle.plain_texts.proofs.Hexadecimal.{hexadecimal_again, hexadecimal_last, hexadecimal-zero}

is_percent : ℕ → Bool
is_percent b = nat_eq b 37

record StandsForItself (b : ℕ) : Type 0 where
  is : is_plain b ≡ true
  visible : 32 < b
  not_percent : b ≡ 37 → ⊥
  not_delete : b ≡ 127 → ⊥

record IsSpelled (b : ℕ) : Type 0 where
  is : is_plain b ≡ false
  small : b < 128

plain_cases : (b : ℕ) → StandsForItself b ⊎ IsSpelled b
plain_cases b = elim (cases_Bool (is_plain b)) as (λ _. StandsForItself b ⊎ IsSpelled b) [
  | inl plain ↦ inl (record { is = plain; visible = grind (arith, nat_tests); not_percent = grind (arith, nat_tests); not_delete = grind (arith, nat_tests) })
  | inr other ↦ inr (record { is = other; small = grind (arith, nat_tests) })
]

-- a code has one digit or two
one_digit : (b : ℕ) → 0 < b → b < 16 → hexadecimal b ≡ glyph b ∷ []
one_digit b some small =
    let whole : b % 16 ≡ b = omega arith in
    let none : b / 16 ≡ 0 = omega arith in
    hexadecimal_last b some ∙ rw (none, whole, hexadecimal-zero) refl

two_digits : (b : ℕ) → 16 ≤ b → b < 128 → hexadecimal b ≡ glyph (b / 16) ∷ glyph (b % 16) ∷ []
two_digits b some small = hexadecimal_last b (omega arith) ∙ ap (λ front. front ++ glyph (b % 16) ∷ []) (one_digit (b / 16) (omega arith) (omega arith))

code_by_cases : (P : List ℕ → Type 0) (b : ℕ) → b < 128 → ((d : ℕ) → d < 16 → P (glyph d ∷ [])) → ((d e : ℕ) → d < 16 → e < 16 → P (glyph d ∷ glyph e ∷ [])) → P (code_of b)
code_by_cases P b small one two = elim (cases_eq b 0) as (λ _. P (code_of b)) [
  | inl none ↦ subst (λ b. P (code_of b)) (sym none) (one 0 (omega arith))
  | inr some ↦
      let is : code_of b ≡ hexadecimal b = grind (arith, nat_tests) in
      subst P (sym is) (elim (cases_lt b 16) as (λ _. P (hexadecimal b)) [
        | inl few ↦ subst P (sym (one_digit b (omega arith) few)) (one b few)
        | inr many ↦ subst P (sym (two_digits b many small)) (two (b / 16) (b % 16) (omega arith) (omega arith))
      ])
]

glyph_is_none : (d : ℕ) → is_percent (glyph d) ≡ false
unfolding is_percent
glyph_is_none d = grind (arith, nat_tests)

code_has_none : (b : ℕ) → b < 128 → All (λ c. is_percent c ≡ false) (code_of b)
code_has_none b small = code_by_cases (λ code. All (λ c. is_percent c ≡ false) code) b small
    (λ d h. All-cons (λ c. is_percent c ≡ false) (glyph d) [] (glyph_is_none d) (All-nil (λ c. is_percent c ≡ false)))
    (λ d e h i. All-cons (λ c. is_percent c ≡ false) (glyph d) (glyph e ∷ []) (glyph_is_none d) (All-cons (λ c. is_percent c ≡ false) (glyph e) [] (glyph_is_none e) (All-nil (λ c. is_percent c ≡ false))))

hexadecimal_of_one : (a b : ℕ) → 0 < a → a < 128 → 0 < b → b < 128 → hexadecimal a ≡ hexadecimal b → a ≡ b
hexadecimal_of_one a b some fits some_too fits_too e =
    let x = hexadecimal_again a (record { some = some; within = omega arith }) in
    let y = hexadecimal_again b (record { some = some_too; within = omega arith }) in
    let z : Some a ≡ Some b = cc in
    cc

-- a code that is `0` alone is that of 0
zero_is_none : (b : ℕ) → 0 < b → b < 128 → codes "0" ≡ hexadecimal b → ⊥
unfolding hexadecimal_at
zero_is_none b some fits e =
    let again = hexadecimal_again b (record { some = some; within = omega arith }) in
    let none : hexadecimal_at (codes "0") ≡ None = refl in
    cc

-- no two bytes have one code
code_is_of_one : (a b : ℕ) → a < 128 → b < 128 → code_of a ≡ code_of b → a ≡ b
code_is_of_one a b fits fits_too e = elim (cases_eq a 0) as (λ _. a ≡ b) [
  | inl zero ↦ elim (cases_eq b 0) as (λ _. a ≡ b) [
    | inl zero_too ↦ zero ∙ sym zero_too
    | inr some ↦
        let left : code_of a ≡ codes "0" = ap code_of zero in
        let right : code_of b ≡ hexadecimal b = grind (arith, nat_tests) in
        absurd (zero_is_none b (omega arith) fits_too (sym left ∙ e ∙ right))
  ]
  | inr some ↦
      let left : code_of a ≡ hexadecimal a = grind (arith, nat_tests) in
      elim (cases_eq b 0) as (λ _. a ≡ b) [
        | inl zero ↦
            let right : code_of b ≡ codes "0" = ap code_of zero in
            absurd (zero_is_none a (omega arith) fits (sym right ∙ sym e ∙ left))
        | inr some_too ↦
            let right : code_of b ≡ hexadecimal b = grind (arith, nat_tests) in
            hexadecimal_of_one a b (omega arith) fits (omega arith) fits_too (sym left ∙ e ∙ right)
      ]
]

-- a byte that does not stand for itself
spelled : (b : ℕ) → is_plain b ≡ false → escaped_byte b ≡ 37 ∷ (code_of b ++ 37 ∷ [])
spelled b other = rw other refl

stays : (b : ℕ) → is_plain b ≡ true → escaped_byte b ≡ b ∷ []
stays b plain = rw plain refl

-- from texts that agree, the first bytes and the texts behind them can be told
record SameFirst (a b : ℕ) (x y : List ℕ) : Type 0 where
  first : a ≡ b
  rest : x ≡ y

parted : (b : ℕ) (x : List ℕ) → b < 128 → slice_split is_percent (code_of b ++ 37 ∷ x) ≡ code_of b ∷ slice_split is_percent x
unfolding is_percent
parted b x fits = slice_split_at is_percent (code_of b) 37 x (code_has_none b fits) refl

behind_same : (front x y : List ℕ) → front ++ x ≡ front ++ y → x ≡ y
behind_same [] x y e = e
behind_same (b ∷ front) x y e = behind_same front x y (cc)

both_spelled : (a b : ℕ) (x y : List ℕ) → a < 128 → b < 128 → (37 ∷ (code_of a ++ 37 ∷ [])) ++ x ≡ (37 ∷ (code_of b ++ 37 ∷ [])) ++ y → SameFirst a b x y
both_spelled a b x y fits fits_too e =
    let left : (code_of a ++ 37 ∷ []) ++ x ≡ code_of a ++ 37 ∷ x = append_assoc (code_of a) (37 ∷ []) x in
    let right : (code_of b ++ 37 ∷ []) ++ y ≡ code_of b ++ 37 ∷ y = append_assoc (code_of b) (37 ∷ []) y in
    let bare : code_of a ++ 37 ∷ x ≡ code_of b ++ 37 ∷ y = cc in
    let parts : code_of a ∷ slice_split is_percent x ≡ code_of b ∷ slice_split is_percent y = sym (parted a x fits) ∙ ap (slice_split is_percent) bare ∙ parted b y fits_too in
    let codes_same : code_of a ≡ code_of b = cc in
    let first : a ≡ b = code_is_of_one a b fits fits_too codes_same in
    let aligned : code_of b ++ 37 ∷ x ≡ code_of b ++ 37 ∷ y = ap (λ c. c ++ 37 ∷ x) (sym codes_same) ∙ bare in
    let rests = behind_same (code_of b) (37 ∷ x) (37 ∷ y) aligned in
    record { first = first; rest = cc }

byte_is_told : (a b : ℕ) (x y : List ℕ) → escaped_byte a ++ x ≡ escaped_byte b ++ y → SameFirst a b x y
byte_is_told a b x y e = elim (plain_cases a) as (λ _. SameFirst a b x y) [
  | inl plain ↦ elim (plain_cases b) as (λ _. SameFirst a b x y) [
    | inl too ↦
        let same : (a ∷ []) ++ x ≡ (b ∷ []) ++ y = ap (λ t. t ++ x) (sym (stays a plain.is)) ∙ e ∙ ap (λ t. t ++ y) (stays b too.is) in
        record { first = cc; rest = cc }
    | inr not_too ↦
        let same : (a ∷ []) ++ x ≡ (37 ∷ (code_of b ++ 37 ∷ [])) ++ y = ap (λ t. t ++ x) (sym (stays a plain.is)) ∙ e ∙ ap (λ t. t ++ y) (spelled b not_too.is) in
        absurd (plain.not_percent (cc))
  ]
  | inr other ↦ elim (plain_cases b) as (λ _. SameFirst a b x y) [
    | inl too ↦
        let same : (37 ∷ (code_of a ++ 37 ∷ [])) ++ x ≡ (b ∷ []) ++ y = ap (λ t. t ++ x) (sym (spelled a other.is)) ∙ e ∙ ap (λ t. t ++ y) (stays b too.is) in
        absurd (too.not_percent (cc))
    | inr not_too ↦ both_spelled a b x y other.small not_too.small (ap (λ t. t ++ x) (sym (spelled a other.is)) ∙ e ∙ ap (λ t. t ++ y) (spelled b not_too.is))
  ]
]

not_empty : (b : ℕ) (x : List ℕ) → escaped_byte b ++ x ≡ [] → ⊥
not_empty b x e = elim (plain_cases b) as (λ _. ⊥) [
  | inl plain ↦ let same : (b ∷ []) ++ x ≡ [] = ap (λ t. t ++ x) (sym (stays b plain.is)) ∙ e in cc
  | inr other ↦ let same : (37 ∷ (code_of b ++ 37 ∷ [])) ++ x ≡ [] = ap (λ t. t ++ x) (sym (spelled b other.is)) ∙ e in cc
]

pub escaped_of_one : (a b : List ℕ) → escaped a ≡ escaped b → a ≡ b
unfolding escaped
escaped_of_one [] [] e = refl
escaped_of_one [] (b ∷ bs) e = absurd (not_empty b (flat_map escaped_byte bs) (sym e))
escaped_of_one (a ∷ xs) [] e = absurd (not_empty a (flat_map escaped_byte xs) e)
escaped_of_one (a ∷ xs) (b ∷ bs) e =
    let told = byte_is_told a b (flat_map escaped_byte xs) (flat_map escaped_byte bs) e in
    let rest = escaped_of_one xs bs told.rest in
    ap (λ b. b ∷ xs) told.first ∙ ap (λ t. b ∷ t) rest

-- what a byte gives: bytes of a name, one to four
record IsShortName (text : List ℕ) : Type 0 where
  bytes : list_all is_name_byte text ≡ true
  some : 0 < length text
  few : length text ≤ 4

glyph_is_name : (d : ℕ) → d < 16 → is_name_byte (glyph d) ≡ true
glyph_is_name d small = grind (arith, nat_tests)

spelled_name : (code : List ℕ) → list_all is_name_byte code ≡ true → length code ≤ 2 → IsShortName (37 ∷ (code ++ 37 ∷ []))
spelled_name code are few = record {
  bytes = list_all-append is_name_byte code (37 ∷ []) ∙ and_from (list_all is_name_byte code) true are refl;
  some = omega arith;
  few = omega (arith, length-append code (37 ∷ []));
}

byte_name : (b : ℕ) → IsShortName (escaped_byte b)
byte_name b = elim (plain_cases b) as (λ _. IsShortName (escaped_byte b)) [
  | inl plain ↦
      let is : is_name_byte b ≡ true = grind (arith, nat_tests) in
      subst IsShortName (sym (stays b plain.is)) (record { bytes = rw is refl; some = omega arith; few = omega arith })
  | inr other ↦ subst IsShortName (sym (spelled b other.is)) (code_by_cases (λ code. IsShortName (37 ∷ (code ++ 37 ∷ []))) b other.small
      (λ d h. spelled_name (glyph d ∷ []) (rw (glyph_is_name d h) refl) (omega arith))
      (λ d e h i. spelled_name (glyph d ∷ glyph e ∷ []) (rw (glyph_is_name d h, glyph_is_name e i) refl) (omega arith)))
]

pub length-escaped : (id : List ℕ) → length (escaped id) ≤ 4 * length id
unfolding escaped
length-escaped [] = omega arith
length-escaped (b ∷ bs) = omega (arith, length-append (escaped_byte b) (flat_map escaped_byte bs), byte_name b, length-escaped bs)

escaped_bytes : (id : List ℕ) → list_all is_name_byte (escaped id) ≡ true
unfolding escaped
escaped_bytes [] = refl
escaped_bytes (b ∷ bs) = list_all-append is_name_byte (escaped_byte b) (flat_map escaped_byte bs) ∙ and_from (list_all is_name_byte (escaped_byte b)) (list_all is_name_byte (flat_map escaped_byte bs)) (byte_name b).bytes (escaped_bytes bs)

escaped_some : (id : List ℕ) → 0 < length id → 0 < length (escaped id)
unfolding escaped
escaped_some [] some = some
escaped_some (b ∷ bs) some = omega (arith, length-append (escaped_byte b) (flat_map escaped_byte bs), byte_name b)

pub escaped_is_name : (id : List ℕ) → 0 < length id → length id < 2 ^ 30 → is_name (escaped id) ≡ true
unfolding is_name
escaped_is_name id some short =
    let longer : 0 < length (escaped id) = escaped_some id some in
    let within : length (escaped id) < 2 ^ 32 = omega (arith, length-escaped id) in
    let bytes = escaped_bytes id in
    grind (arith, nat_tests)

-- so the bytes that an id gives are not refused
pub escaped_is_some : (id bytes : List ℕ) → bytes ≡ escaped id → 0 < length id → length id < 2 ^ 30 → name_of bytes ≡ None → ⊥
escaped_is_some id bytes same some short none =
    let is = cond-true (is_name bytes) (Some bytes) None (ap is_name same ∙ escaped_is_name id some short) in
    cc
