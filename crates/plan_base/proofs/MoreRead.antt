use Rattle.plan_base.proofs.Common.{◌≡◌, sym, ap, ap₂, subst, ◌∙◌, ℕ, ◌+◌, ◌≤◌, List, ◌++◌, length, take, Option, None, Some, IfSome, IsSomeAnd, length-append, length-take-le, take-add}
use Rattle.plan_base.specs.{ShelfMeaning, IsLater, Told, AreBytesAt, Gave}

-- these bytes are a front of the file that is held, if one is
abbrev pub IsFrontOf : List ℕ → Option (List ℕ) → Type 0
IsFrontOf bytes held = IfSome held (λ file. bytes ≡ take (length bytes) file)

front_more : (bytes into : List ℕ) (n : ℕ) → n ≤ length into → (held : Option (List ℕ)) → IsFrontOf bytes held → IsSomeAnd held (λ file. AreBytesAt file (length bytes) n into) → IsFrontOf (bytes ++ take n into) held
front_more bytes into n within None front gave = absurd gave
front_more bytes into n within (Some file) front gave =
    let len : length (bytes ++ take n into) ≡ length bytes + n = length-append bytes (take n into) ∙ ap (λ k. length bytes + k) (length-take-le n into within) in
    ap₂ (λ xs ys. xs ++ ys) front gave.same ∙ sym (take-add (length bytes) n file) ∙ ap (λ k. take k file) (sym len)

told_more : (name bytes into : List ℕ) (n : ℕ) → n ≤ length into → (files : Option (List ℕ → Option (List ℕ))) → IfSome files (λ held. IsFrontOf bytes (held name)) → IfSome files (λ held. IsSomeAnd (held name) (λ file. AreBytesAt file (length bytes) n into)) → IfSome files (λ held. IsFrontOf (bytes ++ take n into) (held name))
told_more name bytes into n within None front gave = tt
told_more name bytes into n within (Some held) front gave = front_more bytes into n within (held name) front gave

-- a front of the file, and what a read from its end gave, are a front of the file
pub read_more : (first now : ShelfMeaning) (name bytes into : List ℕ) (n : ℕ) → n ≤ length into → IsLater first now → Told first name (IsFrontOf bytes) → Gave now name (length bytes) n into → Told first name (IsFrontOf (bytes ++ take n into))
read_more first now name bytes into n within later front gave =
    told_more name bytes into n within first.files front
    (subst (λ files. IfSome files (λ held. IsSomeAnd (held name) (λ file. AreBytesAt file (length bytes) n into))) later.files gave)
