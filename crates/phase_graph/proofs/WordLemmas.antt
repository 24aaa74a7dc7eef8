-- Words in which adjacent equal road letters are made one, letter by letter.
use Rattle.plan_base.proofs.Common.{◌≡◌, ℕ, ◌<◌, ◌&&◌, ◌==◌, Bool, true, false, cond, nat_lt, nat_eq, List, [], ◌∷◌, ◌++◌, Some, None, refl, sym, ap, ◌∙◌, Option, option_to_list, if◌then◌else◌, eqb-true, eq-eqb, lt-ltb, and_from, and_parts}
use Rattle.search_laws.specs.{collapse}

-- a letter before a word that is collapsed already
abbrev push : ℕ → List ℕ → List ℕ
push c [] = c ∷ []
push c (d ∷ word) = if (c == d) && nat_lt c 3 then d ∷ word else (c ∷ d ∷ word)

-- a word keeps its first letter
first_kept : (d : ℕ) (w : List ℕ) → (rest : List ℕ) × (collapse (d ∷ w) ≡ d ∷ rest)
first_kept d [] = ([], refl)
first_kept d (e ∷ w) = by_test ((d == e) && nat_lt d 3) refl (first_kept e w)
  where
    by_test : (b : Bool) → ((d == e) && nat_lt d 3) ≡ b → (rest : List ℕ) × (collapse (e ∷ w) ≡ e ∷ rest) → (rest : List ℕ) × (cond b (collapse (e ∷ w)) (d ∷ collapse (e ∷ w)) ≡ d ∷ rest)
    by_test true same (rest, is) = (rest, is ∙ ap (λ x. x ∷ rest) (sym (eqb-true d e (and_parts _ _ same).0)))
    by_test false differ (rest, is) = (collapse (e ∷ w), refl)

push_is : (c : ℕ) (w : List ℕ) → collapse (c ∷ w) ≡ push c (collapse w)
push_is c [] = refl
push_is c (d ∷ w) =
    let first = first_kept d w in
    let test = (c == d) && nat_lt c 3 in
    ap (λ x. cond test x (c ∷ x)) first.1 ∙ sym (ap (push c) first.1)

-- a letter before words that collapse alike
pub same_letter : (c : ℕ) (a b : List ℕ) → collapse a ≡ collapse b → collapse (c ∷ a) ≡ collapse (c ∷ b)
same_letter c a b same = push_is c a ∙ ap (push c) same ∙ sym (push_is c b)

pub same_letters : (o : Option ℕ) (a b : List ℕ) → collapse a ≡ collapse b → collapse (option_to_list o ++ a) ≡ collapse (option_to_list o ++ b)
same_letters None a b same = same
same_letters (Some c) a b same = same_letter c a b same

-- a road letter that is told again
pub again : (c : ℕ) (w : List ℕ) → c < 3 → collapse (c ∷ c ∷ w) ≡ collapse (c ∷ w)
again c w road = ap (λ b. cond b (collapse (c ∷ w)) (c ∷ collapse (c ∷ w))) (and_from (nat_eq c c) (nat_lt c 3) (eq-eqb c c refl) (lt-ltb c 3 road))
