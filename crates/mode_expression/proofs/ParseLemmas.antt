-- What the expression of a text is known to be.
use Rattle.plan_base.proofs.Common.{◌≡◌, ℕ, ◌^◌, ◌<◌, ◌≤◌, Bool, true, false, List, [], ◌∷◌, ◌++◌, length, map, Option, Some, None, IfSome, Ok, Err, codes, option_map, refl, sym, subst, inl, inr, ◌⊎◌, if◌then◌else◌, ◌==◌, arith, lit<, nat_le, position-Some, pow_below, bytes_eq}
use Rattle.search_laws.specs.{IsLetter, IsLetterSet, every_letter, letter_count, transit_letters}
use Rattle.mode_expression.specs.{Token, Name, Number, Bar, Star, Plus, Question, OpenBrace, CloseBrace, Comma, Open, Close, Unknown, ExprFault, TooLong, TooDeep, Syntax, TooLarge, OutOfMemory, in_turn, one_of, IsWellFormed, Suffix, star, plus, question, exactly, between, Choice, only, or, Row, last, next, Item, plain, counted, Atom, name, group, suffix_tokens, choice_tokens, row_tokens, item_tokens, atom_tokens, sequence, alternative, counted_form, choice_forms, row_forms, item_form, atom_form, letter_named, letters_named, Lexeme, is_lower, is_digit, placed_token, lexemes, token_of, name_token, symbol_token, decimal, token, Spells, IsReadAs, reading_of, IsFault, IsShallow, ReadsAs, ExpressionsAreUsable, Form.Form}
use Rattle.plan_base.specs.{letter_names}
use Rattle.mode_expression.proofs.ReadingLemmas.{reading_is_right}

pub spells_of_reading : (text : List ℕ) (form : Form) → reading_of text ≡ Ok form → Spells text form
spells_of_reading text form e = subst (λ result. IsReadAs text result) e (reading_is_right text)

pub misread : (text : List ℕ) (at : ℕ) → reading_of text ≡ Err at → IsReadAs text (Err at)
misread text at e = subst (λ result. IsReadAs text result) e (reading_is_right text)

-- a name stands for some of the fourteen letters
abbrev IsKnown : Token → Type 0
IsKnown (Name bits) = IsLetterSet bits
IsKnown _ = Unit {0}

abbrev AllKnown : List Token → Type 0
AllKnown [] = Unit {0}
AllKnown (token ∷ tokens) = IsKnown token × AllKnown tokens

known_front : (xs ys : List Token) → AllKnown (xs ++ ys) → AllKnown xs
known_front [] ys known = tt
known_front (x ∷ xs) ys known = (known.0, known_front xs ys known.1)

known_back : (xs ys : List Token) → AllKnown (xs ++ ys) → AllKnown ys
known_back [] ys known = known
known_back (x ∷ xs) ys known = known_back xs ys known.1

abbrev AreWellFormed : List Form → Type 0
AreWellFormed [] = Unit {0}
AreWellFormed (form ∷ forms) = IsWellFormed form × AreWellFormed forms

in_turn_formed : (forms : List Form) → AreWellFormed forms → IsWellFormed (in_turn forms)
in_turn_formed [] formed = tt
in_turn_formed (form ∷ forms) formed = (formed.0, in_turn_formed forms formed.1)

one_of_formed : (forms : List Form) → AreWellFormed forms → IsWellFormed (one_of forms)
one_of_formed [] formed = tt
one_of_formed (form ∷ forms) formed = (formed.0, one_of_formed forms formed.1)

sequence_formed : (forms : List Form) → AreWellFormed forms → IsWellFormed (sequence forms)
sequence_formed [] formed = tt
sequence_formed (form ∷ []) formed = formed.0
sequence_formed (form ∷ other ∷ forms) formed = in_turn_formed (form ∷ other ∷ forms) formed

alternative_formed : (forms : List Form) → AreWellFormed forms → IsWellFormed (alternative forms)
alternative_formed [] formed = tt
alternative_formed (form ∷ []) formed = formed.0
alternative_formed (form ∷ other ∷ forms) formed = one_of_formed (form ∷ other ∷ forms) formed

counted_formed : (form : Form) (suffix : Suffix) → IsWellFormed form → IsWellFormed (counted_form form suffix)
counted_formed form star formed = (formed, omega arith)
counted_formed form plus formed = (formed, omega arith)
counted_formed form question formed = (formed, (omega arith, omega arith))
counted_formed form (exactly n least) formed = (formed, (least, omega arith))
counted_formed form (between m n least most) formed = (formed, (least, most))

mutual
  choice_formed : (choice : Choice) → AllKnown (choice_tokens choice) → AreWellFormed (choice_forms choice)
  choice_formed (only row) known = (sequence_formed (row_forms row) (row_formed row known), tt)
  choice_formed (or row choice) known = (
    sequence_formed (row_forms row) (row_formed row (known_front (row_tokens row) (Bar ∷ choice_tokens choice) known)),
    choice_formed choice (known_back (row_tokens row) (Bar ∷ choice_tokens choice) known).1,
  )

  row_formed : (row : Row) → AllKnown (row_tokens row) → AreWellFormed (row_forms row)
  row_formed (last item) known = (item_formed item known, tt)
  row_formed (next item row) known =
      (item_formed item (known_front (item_tokens item) (row_tokens row) known), row_formed row (known_back (item_tokens item) (row_tokens row) known))

  item_formed : (item : Item) → AllKnown (item_tokens item) → IsWellFormed (item_form item)
  item_formed (plain atom) known = atom_formed atom known
  item_formed (counted atom suffix) known =
      counted_formed (atom_form atom) suffix (atom_formed atom (known_front (atom_tokens atom) (suffix_tokens suffix) known))

  atom_formed : (atom : Atom) → AllKnown (atom_tokens atom) → IsWellFormed (atom_form atom)
  atom_formed (name bits) known = known.0
  atom_formed (group choice) known =
      alternative_formed (choice_forms choice) (choice_formed choice (known_front (choice_tokens choice) (Close ∷ []) known.1))

power_below : (n : ℕ) → IsLetter n → IsLetterSet (2 ^ n)
power_below n lt = pow_below n letter_count lt

letters_known : (word : List ℕ) → IfSome (letters_named word) IsLetterSet
letters_known word = by_any (bytes_eq word (codes "any")) (bytes_eq word (codes "transit")) (letter_named word) refl
  where
    by_any : (a b : Bool) (o : Option ℕ) → letter_named word ≡ o
        → IfSome (if a then Some every_letter else (if b then Some transit_letters else option_map (λ number. 2 ^ number) o)) IsLetterSet
    by_any true b o is = lit< tt
    by_any false true o is = lit< tt
    by_any false false None is = tt
    by_any false false (Some n) is = power_below n (position-Some (λ known. bytes_eq known word) letter_names n [] is).0

name_known : (o : Option ℕ) → IfSome o IsLetterSet → IsKnown (name_token o)
name_known None known = tt
name_known (Some bits) known = known

symbol_cases : (a b e f g h i j k : Bool) → IsKnown (if a then Bar else (if b then Star else (if e then Plus else (if f then Question else (if g then OpenBrace else (if h then CloseBrace else (if i then Comma else (if j then Open else (if k then Close else Unknown)))))))))
symbol_cases true b e f g h i j k = tt
symbol_cases false true e f g h i j k = tt
symbol_cases false false true f g h i j k = tt
symbol_cases false false false true g h i j k = tt
symbol_cases false false false false true h i j k = tt
symbol_cases false false false false false true i j k = tt
symbol_cases false false false false false false true j k = tt
symbol_cases false false false false false false false true k = tt
symbol_cases false false false false false false false false true = tt
symbol_cases false false false false false false false false false = tt

symbol_known : (c : ℕ) → IsKnown (symbol_token c)
symbol_known c = symbol_cases (c == 124) (c == 42) (c == 43) (c == 63) (c == 123) (c == 125) (c == 44) (c == 40) (c == 41)

token_cases : (a b e : Bool) (word number symbol : Token) → IsKnown word → IsKnown number → IsKnown symbol
    → IsKnown (if a then word else (if b then (if e then number else Unknown) else symbol))
token_cases true b e word number symbol p q r = p
token_cases false true true word number symbol p q r = q
token_cases false true false word number symbol p q r = tt
token_cases false false e word number symbol p q r = r

token_known : (bytes : List ℕ) → IsKnown (token_of bytes)
token_known [] = tt
token_known (c ∷ bytes) =
    let all = c ∷ bytes in
    token_cases (is_lower c) (is_digit c) (nat_le (length all) 4) (name_token (letters_named all)) (Number (decimal all)) (symbol_token c)
    (name_known (letters_named all) (letters_known all)) tt (symbol_known c)

tokens_known : (ls : List Lexeme) → AllKnown (map token (map placed_token ls))
tokens_known [] = tt
tokens_known (l ∷ ls) = (token_known l.bytes, tokens_known ls)

-- the expression of a text is well formed
pub formed_of_spelled : (text : List ℕ) (form : Form) → Spells text form → IsWellFormed form
formed_of_spelled text form sentence =
    let known : AllKnown (choice_tokens sentence.tree) = subst AllKnown (sym sentence.derives) (tokens_known (lexemes 0 text)) in
    subst IsWellFormed sentence.means (alternative_formed (choice_forms sentence.tree) (choice_formed sentence.tree known))

pub expressions_are_usable : ExpressionsAreUsable
expressions_are_usable text form is = record { formed = formed_of_spelled text form is.spells; small = is.small }

pub fault_of_reading : (text : List ℕ) (fault : ExprFault) → length text ≤ 4096 → IsShallow text → ReadsAs text fault
    → (fault ≡ OutOfMemory) ⊎ IsFault text fault
fault_of_reading text (Syntax at) short shallow reads = inr (short, shallow, misread text at reads)
fault_of_reading text OutOfMemory short shallow reads = inl refl
fault_of_reading text (TooLong n) short shallow reads = absurd reads
fault_of_reading text (TooDeep at) short shallow reads = absurd reads
fault_of_reading text (TooLarge n) short shallow reads = absurd reads
