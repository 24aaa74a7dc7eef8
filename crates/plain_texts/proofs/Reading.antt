-- What a reader of one spelling is made of: its two laws.
use Rattle.std.proofs.Common.{◌≡◌, refl, Option, Some, None, IfSome}
use Rattle.plain_texts.specs.{IsReadBy}

-- Where what is read is spelled so, and what is spelled so is read, the reader is exact.
pub read_by_laws : {X T : Type 0} (spell : X → T) (Allowed : X → Type 0) (text : T) (r : Option X) → ((x : X) → r ≡ Some x → Allowed x × (text ≡ spell x)) → ((x : X) → Allowed x → text ≡ spell x → r ≡ Some x) → IsReadBy spell Allowed text r
read_by_laws spell Allowed text (Some x) takes again = takes x refl
read_by_laws {X} spell Allowed text None takes again = λ x fits e. none_is x (again x fits e)
  where
    none_is : (x : X) → ◌≡◌ {A = Option X} None (Some x) → ⊥
    none_is x e = cc

-- What is read is allowed.
pub allowed_if_read : {X T : Type 0} (spell : X → T) (Allowed : X → Type 0) (text : T) (r : Option X) → IsReadBy spell Allowed text r → IfSome r Allowed
allowed_if_read spell Allowed text (Some x) h = h.0
allowed_if_read spell Allowed text None h = tt
