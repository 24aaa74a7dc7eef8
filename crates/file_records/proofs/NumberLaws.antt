-- A number that is read is the number that was written, and what was written is read again.
use Rattle.std.proofs.Common.{◌≡◌, ℕ, ℤ, ◌+◌, ◌^◌, ◌<◌, ◌≤◌, Bool, true, false, cond, ltb, List, ◌++◌, length, get_or, take, drop, Some, None, refl, sym, ap, subst, ◌∙◌, append_assoc, length-append, arith, inl, inr, option_map, FitsSigned, w32, w64, bytes_eq, ltb-false, le-ltb, take_at, drop_at, take-append-drop, length-take, get_or-drop, get_or-take}
use Rattle.std.specs.Int.{Width, byte_len, cast_signed, cast_unsigned, from_be_bytes, to_be_bytes}
use Rattle.std.proofs.lemmas.Bool.{cases_lt}
use Rattle.std.proofs.lemmas.Int.{of_z-to_z, to_z-of_z}
use Rattle.std.proofs.lemmas.List.{get_or_past}
use Rattle.std.proofs.lemmas.Nat.{be_bytes_4, be_bytes_8, from_be_bytes-to_be_bytes_4, from_be_bytes-to_be_bytes_8}
use Rattle.file_records.specs.{number_front, signed_bytes, signed_front}
use Rattle.file_records.proofs.Steps.{mapped, same_bytes}

abbrev pub IsBytes : List ℕ → Type 0
IsBytes bytes = (i : ℕ) → get_or bytes i 0 < 256

pub IsBytes-drop : (n : ℕ) (bytes : List ℕ) → IsBytes bytes → IsBytes (drop n bytes)
IsBytes-drop n bytes h i = rw get_or-drop (h (n + i))

IsBytes-take : (n : ℕ) (bytes : List ℕ) → IsBytes bytes → IsBytes (take n bytes)
IsBytes-take n bytes h i =
    elim (cases_lt i n) [
      | inl lt ↦ rw (get_or-take n bytes i 0 lt) (h i)
      | inr le ↦ rw (get_or_past (take n bytes) i 0 (omega (arith, length-take n bytes))) (omega arith)
    ]

-- what was read from the front
pub record Takes (bytes text rest : List ℕ) : Type 0 where
  pub parts : bytes ≡ text ++ rest
  pub rest_fits : IsBytes rest

pub Takes-then : (a x b y c : List ℕ) → Takes a x b → Takes b y c → Takes a (x ++ y) c
Takes-then a x b y c p q = record { parts = p.parts ∙ ap (λ (t : List ℕ). x ++ t) q.parts ∙ sym (append_assoc x y c); rest_fits = q.rest_fits }

-- bytes that begin with these
pub begins_with : (magic bytes : List ℕ) → IsBytes bytes → bytes_eq (take (length magic) bytes) magic ≡ true → Takes bytes magic (drop (length magic) bytes)
begins_with magic bytes fits e = record {
  parts = sym (take-append-drop (length magic) bytes) ∙ ap (λ t. t ++ drop (length magic) bytes) (same_bytes (take (length magic) bytes) magic e);
  rest_fits = IsBytes-drop (length magic) bytes fits;
}

-- ---- numbers

pub record IsWide (w : Width) (limit : ℕ) : Type 0 where
  pub len : (n : ℕ) → length (to_be_bytes w n) ≡ byte_len w
  pub back : (bytes : List ℕ) → length bytes ≡ byte_len w → IsBytes bytes → to_be_bytes w (from_be_bytes w bytes) ≡ bytes
  pub again : (n : ℕ) → n < limit → from_be_bytes w (to_be_bytes w n) ≡ n
  pub below : (bytes : List ℕ) → IsBytes bytes → from_be_bytes w bytes < limit
  pub sign : (n : ℕ) → n < limit → cast_unsigned w (cast_signed w n) ≡ n

pub wide32 : IsWide w32 (2 ^ 32)
wide32 = record {
  len = λ n. refl;
  back = λ bytes len fits. be_bytes_4 bytes _ len fits refl;
  again = λ n lt. from_be_bytes-to_be_bytes_4 n lt;
  below = λ bytes fits. omega (arith, fits 0, fits 1, fits 2, fits 3);
  sign = λ n lt. of_z-to_z w32 n lt;
}

pub wide64 : IsWide w64 (2 ^ 64)
wide64 = record {
  len = λ n. refl;
  back = λ bytes len fits. be_bytes_8 bytes _ len fits refl;
  again = λ n lt. from_be_bytes-to_be_bytes_8 n lt;
  below = λ bytes fits. omega (arith, fits 0, fits 1, fits 2, fits 3, fits 4, fits 5, fits 6, fits 7);
  sign = λ n lt. of_z-to_z w64 n lt;
}

guard_some : {A : Type 0} (b : Bool) (x y : A) → cond b None (Some x) ≡ Some y → (b ≡ false) × (x ≡ y)
guard_some true x y e = absurd cc
guard_some false x y e = (refl, cc)

pub number_takes : (w : Width) (limit : ℕ) (wide : IsWide w limit) (bytes : List ℕ) (x : ℕ × List ℕ) → IsBytes bytes → number_front w bytes ≡ Some x
    → Takes bytes (to_be_bytes w x.0) x.1 × (x.0 < limit)
number_takes w limit wide bytes x fits e =
    let g = guard_some (ltb (length bytes) (byte_len w)) (from_be_bytes w (take (byte_len w) bytes), drop (byte_len w) bytes) x e in
    let long : byte_len w ≤ length bytes = ltb-false _ _ g.0 in
    let front : to_be_bytes w (from_be_bytes w (take (byte_len w) bytes)) ≡ take (byte_len w) bytes =
    wide.back (take (byte_len w) bytes) (omega (arith, length-take (byte_len w) bytes)) (IsBytes-take (byte_len w) bytes fits) in
    let taken : Takes bytes (to_be_bytes w (from_be_bytes w (take (byte_len w) bytes))) (drop (byte_len w) bytes) =
    record { parts = rw front (sym (take-append-drop (byte_len w) bytes)); rest_fits = IsBytes-drop (byte_len w) bytes fits } in
    subst (λ (y : ℕ × List ℕ). Takes bytes (to_be_bytes w y.0) y.1 × (y.0 < limit)) g.1 (taken, wide.below (take (byte_len w) bytes) (IsBytes-take (byte_len w) bytes fits))

pub number_again : (w : Width) (limit : ℕ) (wide : IsWide w limit) (n : ℕ) (rest : List ℕ) → n < limit → number_front w (to_be_bytes w n ++ rest) ≡ Some (n, rest)
number_again w limit wide n rest lt =
    let len = wide.len n in
    let long : ltb (length (to_be_bytes w n ++ rest)) (byte_len w) ≡ false = le-ltb _ _ (omega (arith, length-append (to_be_bytes w n) rest)) in
    rw (long, take_at (to_be_bytes w n) rest (byte_len w) len, drop_at (to_be_bytes w n) rest (byte_len w) len, wide.again n lt) refl

-- ---- signed numbers

pub signed_takes : (w : Width) (limit : ℕ) (wide : IsWide w limit) (bytes : List ℕ) (x : ℤ × List ℕ) → IsBytes bytes → signed_front w bytes ≡ Some x → Takes bytes (signed_bytes w x.0) x.1
signed_takes w limit wide bytes x fits e =
    let found = mapped (λ (n : ℕ × List ℕ). (cast_signed w n.0, n.1)) (number_front w bytes) x e in
    let taken = number_takes w limit wide bytes found.0 fits found.1 in
    let is : Takes bytes (signed_bytes w (cast_signed w found.0.0)) found.0.1 = subst (λ (n : ℕ). Takes bytes (to_be_bytes w n) found.0.1) (sym (wide.sign found.0.0 taken.1)) taken.0 in
    subst (λ (y : ℤ × List ℕ). Takes bytes (signed_bytes w y.0) y.1) found.2 is

pub signed_again : (w : Width) (limit : ℕ) (wide : IsWide w limit) (z : ℤ) (rest : List ℕ) → FitsSigned w z → cast_unsigned w z < limit → signed_front w (signed_bytes w z ++ rest) ≡ Some (z, rest)
signed_again w limit wide z rest fits low =
    ap (option_map (λ (n : ℕ × List ℕ). (cast_signed w n.0, n.1))) (number_again w limit wide (cast_unsigned w z) rest low)
    ∙ ap (λ y. Some (y, rest)) (to_z-of_z w z fits)
