-- Steps of reading, one after the other.
use Rattle.std.proofs.Common.{◌≡◌, ℕ, true, List, Some, None, Result, Ok, Err, refl, ap, ◌∙◌, ◌⊎◌, inl, inr, Option, option_and_then, option_map, bytes_eq}
use Rattle.std.proofs.lemmas.Option.{none-some, same_Some}
use Rattle.std.proofs.lemmas.Slice.Eq.{bytes_eq-Decides}
use Rattle.file_records.specs.{◌>>=◌}

-- bytes that are equal to a literal
pub same_bytes : (xs ys : List ℕ) → bytes_eq xs ys ≡ true → xs ≡ ys
same_bytes xs ys e = (bytes_eq-Decides xs ys).0 e

pub mapped : {A B : Type 0} (f : A → B) (o : Option A) (y : B) → option_map f o ≡ Some y → (x : A) × (o ≡ Some x) × (f x ≡ y)
mapped f None y e = absurd (none-some y e)
mapped f (Some x) y e = (x, refl, same_Some (f x) y e)

-- one step of reading, where it gave a value
pub and_then : {A B : Type 0} (o : Option A) (f : A → Option B) (x : A) (y : Option B) → o ≡ Some x → f x ≡ y → option_and_then f o ≡ y
and_then o f x y e next = ap (option_and_then f) e ∙ next

pub ok_is : {A : Type 0} (x y : A) → ◌≡◌ {A = Result A ℕ} (Ok x) (Ok y) → x ≡ y
ok_is x y e = cc

pub err_is : {A : Type 0} (x y : ℕ) → ◌≡◌ {A = Result A ℕ} (Err x) (Err y) → x ≡ y
err_is x y e = cc

pub bind_ok : {A B : Type 0} (r : Result A ℕ) (next : A → Result B ℕ) (y : B) → (r >>= next) ≡ Ok y → (x : A) × (r ≡ Ok x) × (next x ≡ Ok y)
bind_ok (Ok x) next y e = (x, refl, e)
bind_ok (Err left) next y e = absurd cc

pub bind_err : {A B : Type 0} (r : Result A ℕ) (next : A → Result B ℕ) (left : ℕ) → (r >>= next) ≡ Err left → (r ≡ Err left) ⊎ ((x : A) × (r ≡ Ok x) × (next x ≡ Err left))
bind_err (Ok x) next left e = inr (x, refl, e)
bind_err (Err l) next left e = inl (ap Err (err_is l left e))

pub bind_is : {A B : Type 0} (r : Result A ℕ) (next : A → Result B ℕ) (x : A) (y : Result B ℕ) → r ≡ Ok x → next x ≡ y → (r >>= next) ≡ y
bind_is r next x y e later = ap (λ q. q >>= next) e ∙ later
