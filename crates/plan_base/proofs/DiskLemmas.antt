-- What a read gives of a file, and what remains of it.
use Rattle.plan_base.proofs.Common.{◌≡◌, sym, ap, subst, ◌∙◌, ℕ, ◌+◌, ◌≤◌, List, ◌++◌, length, take, drop, Option, None, Some, length-take-le, drop-append_seam, drop-drop, IfSome, IsSomeAnd, string_bytes, String, Global}
use Rattle.std.specs.Io.KnownBytes.{Consumes}
use Rattle.plan_base.specs.{DiskFiles, IsRest, declared.folder_shelf.Opened.Opened}

-- the rest of the file of a path is that of the path's text
pub rest_of_path : (told : Option DiskFiles) (name : List ℕ) (from : ℕ) (rest : Option (List ℕ)) (path : Option (String Global)) → IfSome path (λ p. string_bytes p ≡ name)
    → IsRest told name from rest → IfSome path (λ p. IsRest told (string_bytes p) from rest)
rest_of_path told name from rest None is of = tt
rest_of_path told name from rest (Some p) is of = subst (λ (x : List ℕ). IsRest told x from rest) (sym is) of

module _ (into : List ℕ) (n : ℕ) (within : n ≤ length into) where
  -- what was read is a front of the rest, and what then remains is the rest behind it
  behind : (rest ys : List ℕ) → rest ≡ take n into ++ ys → ys ≡ drop n rest
  behind rest ys e =
      sym (ap (λ k. drop k rest) (sym (length-take-le n into within)) ∙ ap (drop (length (take n into))) e ∙ drop-append_seam (take n into) ys)

  goes_on : (bytes : List ℕ) (from : ℕ) (after : Option (List ℕ)) → Consumes (Some (drop from bytes)) after (take n into) → after ≡ Some (drop (from + n) bytes)
  goes_on bytes from None none = absurd none
  goes_on bytes from (Some ys) e = ap Some (behind (drop from bytes) ys e ∙ drop-drop n from bytes)

  module _ (path : List ℕ) (from : ℕ) (before after : Option (List ℕ)) (read : Consumes before after (take n into)) where
    read_at : (bytes : List ℕ) → before ≡ Some (drop from bytes) → Consumes (Some (drop from bytes)) after (take n into)
    read_at bytes is = subst (λ (b : Option (List ℕ)). Consumes b after (take n into)) is read

    -- what remains behind a read
    pub rest_behind : (told : Option DiskFiles) → IsRest told path from before → IsRest told path (from + n) after
    rest_behind None rest = tt
    rest_behind (Some files) rest = of (files path) rest
      where
        of : (held : Option (List ℕ)) → IsSomeAnd held (λ bytes. before ≡ Some (drop from bytes)) → IsSomeAnd held (λ bytes. after ≡ Some (drop (from + n) bytes))
        of None none = absurd none
        of (Some bytes) is = goes_on bytes from after (read_at bytes is)

-- a file that was opened, and what it is behind a read
module _ {I : Type 0} (remaining : I → Option (List ℕ)) (told : Option DiskFiles) where
  abbrev pub GoesOn : Option (Opened I) → Type 0
  GoesOn last = IfSome last (λ o. IfSome o.path (λ path. IsRest told (string_bytes path) o.at (remaining o.file)))

  pub passed_on : (path : Option (String Global)) (at : ℕ) (file : I) (last : Option (Opened I))
      → IfSome last (λ o. (o.path ≡ path) × (o.at ≡ at) × (o.file ≡ file)) → IfSome path (λ p. IsRest told (string_bytes p) at (remaining file)) → GoesOn last
  passed_on path at file None same of = tt
  passed_on path at file (Some o) same of = rw (same.0, same.1, same.2) of
