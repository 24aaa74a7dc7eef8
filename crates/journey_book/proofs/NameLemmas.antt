-- A name that is none of the commands' asks for nothing.
use Rattle.plan_base.proofs.Common.{◌≡◌, ℕ, Bool, true, false, cond, List, [], ◌∷◌, Option, Some, None, refl, sym, ⊤, find, option_and_then, bytes_eq, bytes_eq-Decides}
use Rattle.journey_book.specs.{Given.Given, BookRequest}

-- what a command asks for
abbrev pub Asking : Type 0
Asking = List (List ℕ) → Option (List ℕ) → Bool → Option BookRequest

-- the name is that of none of these
abbrev pub IsNoneOf : List ℕ → List (List ℕ × Asking) → Type 0
IsNoneOf name [] = ⊤
IsNoneOf name (command ∷ more) = (name ≡ command.0 → ⊥) × IsNoneOf name more

pub asks_for_none : (name : List ℕ) (given : Given) (commands : List (List ℕ × Asking)) → IsNoneOf name commands
    → option_and_then (λ command. command.1 given.words given.hierarchy given.fail) (find (λ command. bytes_eq command.0 name) commands) ≡ None
asks_for_none name given [] none = refl
asks_for_none name given (command ∷ more) none = go (bytes_eq command.0 name) refl (asks_for_none name given more none.1)
  where
    go : (b : Bool) → bytes_eq command.0 name ≡ b
        → option_and_then (λ command. command.1 given.words given.hierarchy given.fail) (find (λ command. bytes_eq command.0 name) more) ≡ None
        → option_and_then (λ command. command.1 given.words given.hierarchy given.fail) (cond b (Some command) (find (λ command. bytes_eq command.0 name) more)) ≡ None
    go true is rest = absurd (none.0 (sym ((bytes_eq-Decides command.0 name).0 is)))
    go false is rest = rest
