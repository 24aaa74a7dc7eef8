-- What is written out denotes the same words, and has the places that were counted.
use Rattle.plan_base.proofs.Common.{◌≡◌, ℕ, zero, suc, ◌+◌, ◌-◌, ◌*◌, ◌<◌, ◌≤◌, List, [], ◌∷◌, ◌++◌, Option, Some, None, IfSome, refl, sym, ap, ◌∙◌, subst, inl, inr, append_assoc, get_or, lit<, arith}
use Rattle.search_laws.specs.{IsLetterSet}
use Rattle.mode_expression.specs.{Form.Form, letters, empty, both, never, either, repeated, IsJoined, IsPower, IsWordOf, IsWellFormed, IsCount, places, copies as copied}
use Rattle.automaton.specs.{Written.Written, copies_in_turn, options, repeat, written, size, letters_written, IsWritten, letters_at}

joined_map : (P Q R S : List ℕ → Type 0) → ((w : List ℕ) → P w → R w) → ((w : List ℕ) → Q w → S w) → (word : List ℕ) → IsJoined P Q word → IsJoined R S word
joined_map P Q R S f g word (x, y, split, in_P, in_Q) = (x, y, split, f x in_P, g y in_Q)

power_map : (P Q : List ℕ → Type 0) → ((w : List ℕ) → P w → Q w) → (k : ℕ) (word : List ℕ) → IsPower P k word → IsPower Q k word
power_map P Q f zero word none = none
power_map P Q f (suc k) word joined = joined_map P (IsPower P k) Q (IsPower Q k) f (power_map P Q f k) word joined

module _ (P : List ℕ → Type 0) where
  power_add : (m j n : ℕ) → n ≡ m + j → (x y : List ℕ) → IsPower P m x → IsPower P j y → IsPower P n (x ++ y)
  power_add zero j n e x y none in_y =
      let same : n ≡ j = omega arith in
      subst (λ k. IsPower P k (x ++ y)) (sym same) (subst (λ w. IsPower P j (w ++ y)) (sym none) in_y)
  power_add (suc m) j zero e x y in_x in_y = absurd (omega arith)
  power_add (suc m) j (suc n) e x y (u, v, split, in_u, in_v) in_y =
      (u, v ++ y, ap (λ w. w ++ y) split ∙ append_assoc u v y, in_u, power_add m j n (omega arith) v y in_v in_y)

  power_split : (m j n : ℕ) → n ≡ m + j → (word : List ℕ) → IsPower P n word → IsJoined (IsPower P m) (IsPower P j) word
  power_split zero j n e word in_word = let same : n ≡ j = omega arith in ([], word, refl, refl, subst (λ k. IsPower P k word) same in_word)
  power_split (suc m) j zero e word in_word = absurd (omega arith)
  power_split (suc m) j (suc n) e word (u, v, split, in_u, in_v) = after (power_split m j n (omega arith) v in_v)
    where
      after : IsJoined (IsPower P m) (IsPower P j) v → IsJoined (IsPower P (suc m)) (IsPower P j) word
      after (x, y, parts, in_x, in_y) = (u ++ x, y, split ∙ ap (λ w. u ++ w) parts ∙ sym (append_assoc u x y), (u, x, refl, in_u, in_x), in_y)

module _ (e : Written) where
  copies_power : (k : ℕ) (word : List ℕ) → IsWritten (copies_in_turn k e) word → IsPower (IsWritten e) k word
  copies_power zero word none = none
  copies_power (suc k) word joined =
      joined_map (IsWritten e) (IsWritten (copies_in_turn k e)) (IsWritten e) (IsPower (IsWritten e) k) (λ w in_w. in_w) (copies_power k) word joined

  power_copies : (k : ℕ) (word : List ℕ) → IsPower (IsWritten e) k word → IsWritten (copies_in_turn k e) word
  power_copies zero word none = none
  power_copies (suc k) word joined =
      joined_map (IsWritten e) (IsPower (IsWritten e) k) (IsWritten e) (IsWritten (copies_in_turn k e)) (λ w in_w. in_w) (power_copies k) word joined

  abbrev UpTo : ℕ → List ℕ → Type 0
  UpTo n word = (k : ℕ) × (k ≤ n) × IsPower (IsWritten e) k word

  options_power : (n : ℕ) (word : List ℕ) → IsWritten (options n e) word → UpTo n word
  options_power zero word none = (0, omega arith, none)
  options_power (suc n) word (inl none) = (0, omega arith, none)
  options_power (suc n) word (inr (x, y, split, in_x, in_y)) = after (options_power n y in_y)
    where
      after : UpTo n y → UpTo (suc n) word
      after (k, few, power) = (suc k, omega arith, (x, y, split, in_x, power))

  power_options : (n k : ℕ) → k ≤ n → (word : List ℕ) → IsPower (IsWritten e) k word → IsWritten (options n e) word
  power_options zero zero few word none = none
  power_options zero (suc k) few word power = absurd (omega arith)
  power_options (suc n) zero few word none = inl none
  power_options (suc n) (suc k) few word (x, y, split, in_x, in_y) = inr (x, y, split, in_x, power_options n k (omega arith) y in_y)

-- how often the part comes
abbrev Repeats : (List ℕ → Type 0) → ℕ → Option ℕ → List ℕ → Type 0
Repeats P least most word = (k : ℕ) × (least ≤ k) × IfSome most (λ m. k ≤ m) × IsPower P k word

repeats_map : (P Q : List ℕ → Type 0) → ((w : List ℕ) → P w → Q w) → (least : ℕ) (most : Option ℕ) (word : List ℕ) → Repeats P least most word → Repeats Q least most word
repeats_map P Q f least most word (k, low, high, power) = (k, low, high, power_map P Q f k word power)

repeat_out : (e : Written) (least : ℕ) (most : Option ℕ) → IsCount least most → (word : List ℕ) → IsWritten (repeat e least most) word → Repeats (IsWritten e) least most word
repeat_out e zero None count word (inl none) = (0, omega arith, tt, none)
repeat_out e zero None count word (inr (k, power)) = (suc k, omega arith, tt, power)
repeat_out e (suc least) None count word (k, power) = (suc k, omega arith, tt, power)
repeat_out e least (Some most) (some, order) word (x, y, split, in_x, in_y) = after (options_power e (most - least) y in_y)
  where
    after : UpTo e (most - least) y → Repeats (IsWritten e) least (Some most) word
    after (k, few, power) = (
      least + k,
      omega arith,
      omega arith,
      subst (λ w. IsPower (IsWritten e) (least + k) w) (sym split) (power_add (IsWritten e) least k (least + k) refl x y (copies_power e least x in_x) power),
    )

repeat_in : (e : Written) (least : ℕ) (most : Option ℕ) → IsCount least most → (word : List ℕ) → Repeats (IsWritten e) least most word → IsWritten (repeat e least most) word
repeat_in e zero None count word (zero, low, high, power) = inl power
repeat_in e zero None count word (suc k, low, high, power) = inr (k, power)
repeat_in e (suc least) None count word (zero, low, high, power) = absurd (omega arith)
repeat_in e (suc least) None count word (suc k, low, high, power) = (k, power)
repeat_in e least (Some most) (some, order) word (k, low, high, power) = after (power_split (IsWritten e) least (k - least) k (omega arith) word power)
  where
    after : IsJoined (IsPower (IsWritten e) least) (IsPower (IsWritten e) (k - least)) word → IsWritten (repeat e least (Some most)) word
    after (x, y, split, in_x, in_y) = (x, y, split, power_copies e least x in_x, power_options e (most - least) (k - least) (omega arith) y in_y)

pub denoted_of_written : (f : Form) → IsWellFormed f → (word : List ℕ) → IsWritten (written f) word → IsWordOf f word
denoted_of_written (letters bits) formed word in_word = in_word
denoted_of_written empty formed word in_word = in_word
denoted_of_written (both a b) formed word in_word =
    joined_map (IsWritten (written a)) (IsWritten (written b)) (IsWordOf a) (IsWordOf b) (denoted_of_written a formed.0) (denoted_of_written b formed.1) word in_word
denoted_of_written never formed word in_word = in_word
denoted_of_written (either a b) formed word (inl in_word) = inl (denoted_of_written a formed.0 word in_word)
denoted_of_written (either a b) formed word (inr in_word) = inr (denoted_of_written b formed.1 word in_word)
denoted_of_written (repeated a least most) formed word in_word =
    repeats_map (IsWritten (written a)) (IsWordOf a) (denoted_of_written a formed.0) least most word (repeat_out (written a) least most formed.1 word in_word)

pub written_of_denoted : (f : Form) → IsWellFormed f → (word : List ℕ) → IsWordOf f word → IsWritten (written f) word
written_of_denoted (letters bits) formed word in_word = in_word
written_of_denoted empty formed word in_word = in_word
written_of_denoted (both a b) formed word in_word =
    joined_map (IsWordOf a) (IsWordOf b) (IsWritten (written a)) (IsWritten (written b)) (written_of_denoted a formed.0) (written_of_denoted b formed.1) word in_word
written_of_denoted never formed word in_word = in_word
written_of_denoted (either a b) formed word (inl in_word) = inl (written_of_denoted a formed.0 word in_word)
written_of_denoted (either a b) formed word (inr in_word) = inr (written_of_denoted b formed.1 word in_word)
written_of_denoted (repeated a least most) formed word in_word =
    repeat_in (written a) least most formed.1 word (repeats_map (IsWordOf a) (IsWritten (written a)) (written_of_denoted a formed.0) least most word in_word)

-- the positions are the places that were counted
size_copies : (k : ℕ) (e : Written) → size (copies_in_turn k e) ≡ k * size e
size_copies zero e = omega arith
size_copies (suc k) e = omega (arith, size_copies k e)

size_options : (k : ℕ) (e : Written) → size (options k e) ≡ k * size e
size_options zero e = omega arith
size_options (suc k) e = omega (arith, size_options k e)

size_counted : (least rest most n : ℕ) → most ≡ least + rest → least * n + rest * n ≡ most * n
size_counted least rest most n e = rw e (omega arith)

size_repeat : (e : Written) (least : ℕ) (most : Option ℕ) → IsCount least most → size (repeat e least most) ≡ copied most * size e
size_repeat e zero None count = omega arith
size_repeat e (suc least) None count = omega arith
size_repeat e least (Some most) (some, order) =
    ap (λ n. n + size (options (most - least) e)) (size_copies least e) ∙ ap (λ n. least * size e + n) (size_options (most - least) e)
    ∙ size_counted least (most - least) most (size e) (omega arith)

pub size_written : (f : Form) → IsWellFormed f → size (written f) ≡ places f
size_written (letters bits) formed = refl
size_written empty formed = refl
size_written (both a b) formed = omega (arith, size_written a formed.0, size_written b formed.1)
size_written never formed = refl
size_written (either a b) formed = omega (arith, size_written a formed.0, size_written b formed.1)
size_written (repeated a least most) formed =
    size_repeat (written a) least most formed.1 ∙ ap (λ n. copied most * n) (size_written a formed.0)

-- letters are among the fourteen
abbrev AllBelow : List ℕ → Type 0
AllBelow [] = Unit {0}
AllBelow (b ∷ bits) = IsLetterSet b × AllBelow bits

below-append : (xs ys : List ℕ) → AllBelow xs → AllBelow ys → AllBelow (xs ++ ys)
below-append [] ys none in_ys = in_ys
below-append (x ∷ xs) ys in_xs in_ys = (in_xs.0, below-append xs ys in_xs.1 in_ys)

copies_below : (k : ℕ) (e : Written) → AllBelow (letters_written e) → AllBelow (letters_written (copies_in_turn k e))
copies_below zero e below = tt
copies_below (suc k) e below = below-append (letters_written e) (letters_written (copies_in_turn k e)) below (copies_below k e below)

options_below : (k : ℕ) (e : Written) → AllBelow (letters_written e) → AllBelow (letters_written (options k e))
options_below zero e below = tt
options_below (suc k) e below = below-append (letters_written e) (letters_written (options k e)) below (options_below k e below)

repeat_below : (e : Written) (least : ℕ) (most : Option ℕ) → AllBelow (letters_written e) → AllBelow (letters_written (repeat e least most))
repeat_below e zero None below = below
repeat_below e (suc least) None below = below
repeat_below e least (Some most) below =
    below-append (letters_written (copies_in_turn least e)) (letters_written (options (most - least) e)) (copies_below least e below) (options_below (most - least) e below)

written_below : (f : Form) → IsWellFormed f → AllBelow (letters_written (written f))
written_below (letters bits) formed = (formed, tt)
written_below empty formed = tt
written_below (both a b) formed = below-append (letters_written (written a)) (letters_written (written b)) (written_below a formed.0) (written_below b formed.1)
written_below never formed = tt
written_below (either a b) formed = below-append (letters_written (written a)) (letters_written (written b)) (written_below a formed.0) (written_below b formed.1)
written_below (repeated a least most) formed = repeat_below (written a) least most (written_below a formed.0)

at_below : (xs : List ℕ) (k : ℕ) → AllBelow xs → IsLetterSet (get_or xs k 0)
at_below [] k below = lit< tt
at_below (x ∷ xs) zero below = below.0
at_below (x ∷ xs) (suc k) below = at_below xs k below.1

pub letters_below : (f : Form) → IsWellFormed f → (p : ℕ) → IsLetterSet (letters_at (written f) p)
letters_below f formed p = at_below (letters_written (written f)) (p - 1) (written_below f formed)
