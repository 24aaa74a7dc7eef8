-- A name that is none of the commands' asks for nothing.
use Rattle.plan_base.proofs.Common.{◌≡◌, ℕ, Bool, true, false, cond, List, [], ◌∷◌, Option, Some, None, refl, sym, ⊤, find, option_and_then, bytes_eq, bytes_eq-Decides}
use Rattle.clap.specs.Words.{Row}
use Rattle.command_words.specs.{Request}

-- the name is that of none of these
abbrev pub IsNoneOf : List ℕ → List (List ℕ × (List Row → Option Request)) → Type 0
IsNoneOf name [] = ⊤
IsNoneOf name (command ∷ more) = (name ≡ command.0 → ⊥) × IsNoneOf name more

pub asks_for_none : (name : List ℕ) (rows : List Row) (commands : List (List ℕ × (List Row → Option Request))) → IsNoneOf name commands
    → option_and_then (λ command. command.1 rows) (find (λ command. bytes_eq command.0 name) commands) ≡ None
asks_for_none name rows [] none = refl
asks_for_none name rows (command ∷ more) none = go (bytes_eq command.0 name) refl (asks_for_none name rows more none.1)
  where
    go : (b : Bool) → bytes_eq command.0 name ≡ b
        → option_and_then (λ command. command.1 rows) (find (λ command. bytes_eq command.0 name) more) ≡ None
        → option_and_then (λ command. command.1 rows) (cond b (Some command) (find (λ command. bytes_eq command.0 name) more)) ≡ None
    go true is rest = absurd (none.0 (sym ((bytes_eq-Decides command.0 name).0 is)))
    go false is rest = rest
