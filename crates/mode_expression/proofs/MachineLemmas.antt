-- The readings that accept a list of tokens are those of its derivation trees.
use Rattle.plan_base.proofs.Common.{◌≡◌, ℕ, ◌≤◌, Bool, true, false, ◌&&◌, nat_le, List, [], ◌∷◌, ◌++◌, Option, Some, None, option_and_then, refl, sym, ap, ◌∙◌, subst, append_assoc, append-nil, inl, inr, ◌⊎◌, if◌then◌else◌, arith, nat_tests}
use Rattle.mode_expression.specs.{Token, Name, Number, Bar, Star, Plus, Question, OpenBrace, CloseBrace, Comma, Open, Close, letters, Suffix, star, plus, question, exactly, between, Choice, only, or, Row, last, next, Item, plain, counted, Atom, name, group, suffix_tokens, choice_tokens, row_tokens, item_tokens, atom_tokens, sequence, alternative, counted_form, choice_forms, row_forms, item_form, atom_form, IsSentence, declared.place.Place.Place, declared.place.Place.TheVariants.NeedsAtom, declared.place.Place.TheVariants.AfterAtom, declared.place.Place.TheVariants.AfterItem, declared.place.Place.TheVariants.Least, declared.place.Place.TheVariants.AfterLeast, declared.place.Place.TheVariants.Most, declared.place.Place.TheVariants.AfterMost, Form.Form, inside.Frame, inside.Reading, inside.in_order_onto, inside.step, inside.step_atom, inside.step_item, inside.step_suffix, inside.step_least, inside.step_after_least, inside.step_most, inside.step_after_most, inside.repeat_last, inside.finish, inside.empty_reading}

abbrev pub reading : List Frame → List Form → List Form → Place → Reading
reading outer choices parts place = record { outer = outer; frame = record { choices = choices; parts = parts }; place = place }

-- the expression that a reading makes of all these tokens
abbrev pub accept : Reading → List Token → Option Form
accept s [] = finish s
accept s (token ∷ tokens) = option_and_then (λ after. accept after tokens) (step s token)

-- an atom may stand here
abbrev pub TakesAtom : Place → Type 0
TakesAtom NeedsAtom = Unit {0}
TakesAtom AfterAtom = Unit {0}
TakesAtom AfterItem = Unit {0}
TakesAtom _ = ⊥

abbrev place_after : Item → Place
place_after (plain atom) = AfterAtom
place_after (counted atom suffix) = AfterItem

abbrev place_after_row : Row → Place
place_after_row (last item) = place_after item
place_after_row (next item row) = place_after_row row

abbrev place_after_choice : Choice → Place
place_after_choice (only row) = place_after_row row
place_after_choice (or row choice) = place_after_choice choice

abbrev parts_after : List Form → Row → List Form
parts_after parts (last item) = item_form item ∷ parts
parts_after parts (next item row) = parts_after (item_form item ∷ parts) row

abbrev choices_after : List Form → Choice → List Form
choices_after choices (only row) = choices
choices_after choices (or row choice) = choices_after (sequence (row_forms row) ∷ choices) choice

abbrev last_parts : Choice → List Form
last_parts (only row) = parts_after [] row
last_parts (or row choice) = last_parts choice

onto-parts_after : (parts : List Form) (row : Row) → in_order_onto (parts_after parts row) [] ≡ in_order_onto parts (row_forms row)
onto-parts_after parts (last item) = refl
onto-parts_after parts (next item row) = onto-parts_after (item_form item ∷ parts) row

onto-choices_after : (choices : List Form) (choice : Choice) →
    in_order_onto (choices_after choices choice) (sequence (in_order_onto (last_parts choice) []) ∷ []) ≡ in_order_onto choices (choice_forms choice)
onto-choices_after choices (only row) = ap (λ parts. in_order_onto choices (sequence parts ∷ [])) (onto-parts_after [] row)
onto-choices_after choices (or row choice) = onto-choices_after (sequence (row_forms row) ∷ choices) choice

takes_after : (item : Item) → TakesAtom (place_after item)
takes_after (plain atom) = tt
takes_after (counted atom suffix) = tt

-- an item may end here
abbrev pub EndsItem : Place → Type 0
EndsItem AfterAtom = Unit {0}
EndsItem AfterItem = Unit {0}
EndsItem _ = ⊥

ends_after : (item : Item) → EndsItem (place_after item)
ends_after (plain atom) = tt
ends_after (counted atom suffix) = tt

ends_after_row : (row : Row) → EndsItem (place_after_row row)
ends_after_row (last item) = ends_after item
ends_after_row (next item row) = ends_after_row row

takes_after_row : (row : Row) → TakesAtom (place_after_row row)
takes_after_row (last item) = takes_after item
takes_after_row (next item row) = takes_after_row row

takes_after_choice : (choice : Choice) → EndsItem (place_after_choice choice)
takes_after_choice (only row) = ends_after_row row
takes_after_choice (or row choice) = takes_after_choice choice

accept_bar : (outer : List Frame) (choices parts : List Form) (place : Place) → EndsItem place → (more : List Token) →
    accept (reading outer choices parts place) (Bar ∷ more) ≡ accept (reading outer (sequence (in_order_onto parts []) ∷ choices) [] NeedsAtom) more
accept_bar outer choices parts AfterAtom ends more = refl
accept_bar outer choices parts AfterItem ends more = refl
accept_bar outer choices parts NeedsAtom ends more = absurd ends
accept_bar outer choices parts Least ends more = absurd ends
accept_bar outer choices parts (AfterLeast n) ends more = absurd ends
accept_bar outer choices parts (Most n) ends more = absurd ends
accept_bar outer choices parts (AfterMost m n) ends more = absurd ends

pub accept_close : (before_choices before_parts : List Form) (outer : List Frame) (choices parts : List Form) (place : Place) → EndsItem place → (more : List Token) →
    accept (reading (record { choices = before_choices; parts = before_parts } ∷ outer) choices parts place) (Close ∷ more)
    ≡ accept (reading outer before_choices (alternative (in_order_onto choices (sequence (in_order_onto parts []) ∷ [])) ∷ before_parts) AfterAtom) more
accept_close cs ps outer choices parts AfterAtom ends more = refl
accept_close cs ps outer choices parts AfterItem ends more = refl
accept_close cs ps outer choices parts NeedsAtom ends more = absurd ends
accept_close cs ps outer choices parts Least ends more = absurd ends
accept_close cs ps outer choices parts (AfterLeast n) ends more = absurd ends
accept_close cs ps outer choices parts (Most n) ends more = absurd ends
accept_close cs ps outer choices parts (AfterMost m n) ends more = absurd ends

module _ (outer : List Frame) (choices parts : List Form) where
  accept_name : (place : Place) → TakesAtom place → (bits : ℕ) (more : List Token) →
      accept (reading outer choices parts place) (Name bits ∷ more) ≡ accept (reading outer choices (letters bits ∷ parts) AfterAtom) more
  accept_name NeedsAtom takes bits more = refl
  accept_name AfterAtom takes bits more = refl
  accept_name AfterItem takes bits more = refl
  accept_name Least takes bits more = absurd takes
  accept_name (AfterLeast n) takes bits more = absurd takes
  accept_name (Most n) takes bits more = absurd takes
  accept_name (AfterMost m n) takes bits more = absurd takes

  accept_open : (place : Place) → TakesAtom place → (more : List Token) →
      accept (reading outer choices parts place) (Open ∷ more)
      ≡ accept (reading (record { choices = choices; parts = parts } ∷ outer) [] [] NeedsAtom) more
  accept_open NeedsAtom takes more = refl
  accept_open AfterAtom takes more = refl
  accept_open AfterItem takes more = refl
  accept_open Least takes more = absurd takes
  accept_open (AfterLeast n) takes more = absurd takes
  accept_open (Most n) takes more = absurd takes
  accept_open (AfterMost m n) takes more = absurd takes

  accept_suffix : (part : Form) (suffix : Suffix) (more : List Token) →
      accept (reading outer choices (part ∷ parts) AfterAtom) (suffix_tokens suffix ++ more)
      ≡ accept (reading outer choices (counted_form part suffix ∷ parts) AfterItem) more
  accept_suffix part star more = refl
  accept_suffix part plus more = refl
  accept_suffix part question more = refl
  accept_suffix part (exactly n least) more = let e : nat_le 1 n ≡ true = grind (arith, nat_tests) in rw e
  accept_suffix part (between m n least most) more =
      let e : nat_le 1 n ≡ true = grind (arith, nat_tests) in
      let f : nat_le m n ≡ true = grind (arith, nat_tests) in
      rw (e, f)

mutual
  accept_choice : (choice : Choice) (outer : List Frame) (choices : List Form) (more : List Token) →
      accept (reading outer choices [] NeedsAtom) (choice_tokens choice ++ more)
      ≡ accept (reading outer (choices_after choices choice) (last_parts choice) (place_after_choice choice)) more
  accept_choice (only row) outer choices more = accept_row row outer choices [] NeedsAtom tt more
  accept_choice (or row choice) outer choices more =
      let split = append_assoc (row_tokens row) (Bar ∷ choice_tokens choice) more in
      let first = accept_row row outer choices [] NeedsAtom tt (Bar ∷ choice_tokens choice ++ more) in
      let bar = accept_bar outer choices (parts_after [] row) (place_after_row row) (ends_after_row row) (choice_tokens choice ++ more) in
      let same = ap (λ parts. accept (reading outer (sequence parts ∷ choices) [] NeedsAtom) (choice_tokens choice ++ more)) (onto-parts_after [] row) in
      rw split (first ∙ bar ∙ same ∙ accept_choice choice outer (sequence (row_forms row) ∷ choices) more)

  accept_row : (row : Row) (outer : List Frame) (choices parts : List Form) (place : Place) → TakesAtom place → (more : List Token) →
      accept (reading outer choices parts place) (row_tokens row ++ more)
      ≡ accept (reading outer choices (parts_after parts row) (place_after_row row)) more
  accept_row (last item) outer choices parts place takes more = accept_item item outer choices parts place takes more
  accept_row (next item row) outer choices parts place takes more =
      let split = append_assoc (item_tokens item) (row_tokens row) more in
      rw split (accept_item item outer choices parts place takes (row_tokens row ++ more)
      ∙ accept_row row outer choices (item_form item ∷ parts) (place_after item) (takes_after item) more)

  accept_item : (item : Item) (outer : List Frame) (choices parts : List Form) (place : Place) → TakesAtom place → (more : List Token) →
      accept (reading outer choices parts place) (item_tokens item ++ more)
      ≡ accept (reading outer choices (item_form item ∷ parts) (place_after item)) more
  accept_item (plain atom) outer choices parts place takes more = accept_atom atom outer choices parts place takes more
  accept_item (counted atom suffix) outer choices parts place takes more =
      let split = append_assoc (atom_tokens atom) (suffix_tokens suffix) more in
      rw split (accept_atom atom outer choices parts place takes (suffix_tokens suffix ++ more)
      ∙ accept_suffix outer choices parts (atom_form atom) suffix more)

  accept_atom : (atom : Atom) (outer : List Frame) (choices parts : List Form) (place : Place) → TakesAtom place → (more : List Token) →
      accept (reading outer choices parts place) (atom_tokens atom ++ more)
      ≡ accept (reading outer choices (atom_form atom ∷ parts) AfterAtom) more
  accept_atom (name bits) outer choices parts place takes more = accept_name outer choices parts place takes bits more
  accept_atom (group choice) outer choices parts place takes more =
      let frame : Frame = record { choices = choices; parts = parts } in
      let split = append_assoc (choice_tokens choice) (Close ∷ []) more in
      let opened = accept_open outer choices parts place takes ((choice_tokens choice ++ Close ∷ []) ++ more) in
      let inside = accept_choice choice (frame ∷ outer) [] (Close ∷ more) in
      let closed = accept_close choices parts outer (choices_after [] choice) (last_parts choice) (place_after_choice choice) (takes_after_choice choice) more in
      let same = ap (λ forms. accept (reading outer choices (alternative forms ∷ parts) AfterAtom) more) (onto-choices_after [] choice) in
      opened ∙ (rw split (inside ∙ closed ∙ same))

-- What may follow an item in its group: nothing, more items and alternatives, or `|` and more alternatives.
data Rest : Type 0 where
  nothing : Rest
  more : Choice → Rest
  others : Choice → Rest

abbrev rest_tokens : Rest → List Token
rest_tokens nothing = []
rest_tokens (more choice) = choice_tokens choice
rest_tokens (others choice) = Bar ∷ choice_tokens choice

-- the expression of a group, from what was read of it and the choice that goes on with its row
abbrev choice_onto : List Form → List Form → Choice → Form
choice_onto choices parts (only row) = alternative (in_order_onto choices (sequence (in_order_onto parts (row_forms row)) ∷ []))
choice_onto choices parts (or row choice) = alternative (in_order_onto choices (sequence (in_order_onto parts (row_forms row)) ∷ choice_forms choice))

abbrev rest_onto : List Form → List Form → Rest → Form
rest_onto choices parts nothing = alternative (in_order_onto choices (sequence (in_order_onto parts []) ∷ []))
rest_onto choices parts (more choice) = choice_onto choices parts choice
rest_onto choices parts (others choice) = choice_onto (sequence (in_order_onto parts []) ∷ choices) [] choice

-- the choice of an item and what follows it
abbrev with_item : Item → Rest → Choice
with_item item nothing = only (last item)
with_item item (more (only row)) = only (next item row)
with_item item (more (or row choice)) = or (next item row) choice
with_item item (others choice) = or (last item) choice

tokens_with_item : (item : Item) (rest : Rest) → choice_tokens (with_item item rest) ≡ item_tokens item ++ rest_tokens rest
tokens_with_item item nothing = sym (append-nil (item_tokens item))
tokens_with_item item (more (only row)) = refl
tokens_with_item item (more (or row choice)) = append_assoc (item_tokens item) (row_tokens row) (Bar ∷ choice_tokens choice)
tokens_with_item item (others choice) = refl

choice_onto-others : (choices : List Form) (row : Form) (choice : Choice) →
    choice_onto (row ∷ choices) [] choice ≡ alternative (in_order_onto choices (row ∷ choice_forms choice))
choice_onto-others choices row (only _) = refl
choice_onto-others choices row (or _ _) = refl

onto_with_item : (choices parts : List Form) (item : Item) (rest : Rest) →
    choice_onto choices parts (with_item item rest) ≡ rest_onto choices (item_form item ∷ parts) rest
onto_with_item choices parts item nothing = refl
onto_with_item choices parts item (more (only row)) = refl
onto_with_item choices parts item (more (or row choice)) = refl
onto_with_item choices parts item (others choice) = sym (choice_onto-others choices (sequence (in_order_onto parts (item_form item ∷ []))) choice)

choice_onto-nil : (choice : Choice) → choice_onto [] [] choice ≡ alternative (choice_forms choice)
choice_onto-nil (only row) = refl
choice_onto-nil (or row choice) = refl

-- the tokens go on with the rest of a group, and then with what E allows
abbrev FollowsItem : (Form → List Token → Type 0) → List Form → List Form → List Token → Type 0
FollowsItem E choices parts tokens =
    (rest : Rest) × (after : List Token) × (tokens ≡ rest_tokens rest ++ after) × E (rest_onto choices parts rest) after

-- the same after an atom, which may have a suffix
abbrev FollowsAtom : (Form → List Token → Type 0) → List Form → List Form → Form → List Token → Type 0
FollowsAtom E choices parts form tokens =
    FollowsItem E choices (form ∷ parts) tokens
    ⊎ ((suffix : Suffix) × (after : List Token) × (tokens ≡ suffix_tokens suffix ++ after) × FollowsItem E choices (counted_form form suffix ∷ parts) after)

-- the same before an atom
abbrev FollowsChoice : (Form → List Token → Type 0) → List Form → List Form → List Token → Type 0
FollowsChoice E choices parts tokens =
    (choice : Choice) × (after : List Token) × (tokens ≡ choice_tokens choice ++ after) × E (choice_onto choices parts choice) after

-- the same inside the braces of a suffix
abbrev FollowsBrace : (Form → List Token → Type 0) → List Form → List Form → Form → List Token → List Token → Type 0
FollowsBrace E choices parts form front tokens =
    (suffix : Suffix) × (inner : List Token) × (after : List Token) × (suffix_tokens suffix ≡ OpenBrace ∷ front ++ inner)
    × (tokens ≡ inner ++ after) × FollowsItem E choices (counted_form form suffix ∷ parts) after

-- after a group with this form, the tokens close the groups around it, and the whole is e
abbrev Ends : Form → List Frame → Form → List Token → Type 0
Ends e [] form tokens = (tokens ≡ []) × (form ≡ e)
Ends e (frame ∷ outer) form tokens =
    (after : List Token) × (tokens ≡ Close ∷ after) × FollowsAtom (Ends e outer) frame.choices frame.parts form after

abbrev Completes : Form → List Frame → List Form → List Form → Place → List Token → Type 0
Completes e outer choices parts NeedsAtom tokens = FollowsChoice (Ends e outer) choices parts tokens
Completes e outer choices parts AfterItem tokens = FollowsItem (Ends e outer) choices parts tokens
Completes e outer choices [] place tokens = Unit {0}
Completes e outer choices (form ∷ parts) AfterAtom tokens = FollowsAtom (Ends e outer) choices parts form tokens
Completes e outer choices (form ∷ parts) Least tokens = FollowsBrace (Ends e outer) choices parts form [] tokens
Completes e outer choices (form ∷ parts) (AfterLeast n) tokens = FollowsBrace (Ends e outer) choices parts form (Number n ∷ []) tokens
Completes e outer choices (form ∷ parts) (Most m) tokens = FollowsBrace (Ends e outer) choices parts form (Number m ∷ Comma ∷ []) tokens
Completes e outer choices (form ∷ parts) (AfterMost m n) tokens =
    1 ≤ n → m ≤ n → FollowsBrace (Ends e outer) choices parts form (Number m ∷ Comma ∷ Number n ∷ []) tokens

module _ (E : Form → List Token → Type 0) (choices parts : List Form) where
  from_item : (item : Item) (tokens : List Token) → FollowsItem E choices (item_form item ∷ parts) tokens
      → FollowsChoice E choices parts (item_tokens item ++ tokens)
  from_item item tokens (rest, after, e, held) = (
    with_item item rest,
    after,
    ap (λ ts. item_tokens item ++ ts) e ∙ sym (append_assoc (item_tokens item) (rest_tokens rest) after) ∙ ap (λ ts. ts ++ after) (sym (tokens_with_item item rest)),
    subst (λ form. E form after) (sym (onto_with_item choices parts item rest)) held,
  )

  from_atom : (atom : Atom) (tokens : List Token) → FollowsAtom E choices parts (atom_form atom) tokens
      → FollowsChoice E choices parts (atom_tokens atom ++ tokens)
  from_atom atom tokens (inl follows) = from_item (plain atom) tokens follows
  from_atom atom tokens (inr (suffix, after, e, follows)) =
      let whole = from_item (counted atom suffix) after follows in
      let same = append_assoc (atom_tokens atom) (suffix_tokens suffix) after ∙ ap (λ ts. atom_tokens atom ++ ts) (sym e) in
      subst (λ ts. FollowsChoice E choices parts ts) same whole

module _ (e : Form) where
  sound_end : (outer : List Frame) (choices parts : List Form) (place : Place) → finish (reading outer choices parts place) ≡ Some e
      → Completes e outer choices parts place []
  sound_end outer choices parts NeedsAtom h = absurd (cc)
  sound_end [] choices parts AfterItem h = (nothing, [], refl, (refl, cc))
  sound_end (_ ∷ _) choices parts AfterItem h = absurd (cc)
  sound_end outer choices [] AfterAtom h = tt
  sound_end [] choices (form ∷ parts) AfterAtom h = inl (nothing, [], refl, (refl, cc))
  sound_end (_ ∷ _) choices (form ∷ parts) AfterAtom h = absurd (cc)
  sound_end outer choices parts Least h = absurd (cc)
  sound_end outer choices parts (AfterLeast n) h = absurd (cc)
  sound_end outer choices parts (Most n) h = absurd (cc)
  sound_end outer choices parts (AfterMost m n) h = absurd (cc)

  module _ (tokens : List Token)
      (later : (outer : List Frame) (choices parts : List Form) (place : Place) → accept (reading outer choices parts place) tokens ≡ Some e
      → Completes e outer choices parts place tokens) where
    sound_atom : (token : Token) (outer : List Frame) (choices parts : List Form) (place : Place)
        → option_and_then (λ after. accept after tokens) (step_atom (reading outer choices parts place) token) ≡ Some e
        → FollowsChoice (Ends e outer) choices parts (token ∷ tokens)
    sound_atom (Name bits) outer choices parts place h =
        from_atom (Ends e outer) choices parts (name bits) tokens (later outer choices (letters bits ∷ parts) AfterAtom h)
    sound_atom Open outer choices parts place h = inside (later (record { choices = choices; parts = parts } ∷ outer) [] [] NeedsAtom h)
      where
        inside : Completes e (record { choices = choices; parts = parts } ∷ outer) [] [] NeedsAtom tokens
            → FollowsChoice (Ends e outer) choices parts (Open ∷ tokens)
        inside (choice, after, split, (beyond, closes, follows)) =
            let form_same = choice_onto-nil choice in
            let whole = from_atom (Ends e outer) choices parts (group choice) beyond (subst (λ form. FollowsAtom (Ends e outer) choices parts form beyond) form_same follows) in
            let same = ap (λ ts. Open ∷ ts) (append_assoc (choice_tokens choice) (Close ∷ []) beyond ∙ ap (λ ts. choice_tokens choice ++ ts) (sym closes) ∙ sym split) in
            subst (λ ts. FollowsChoice (Ends e outer) choices parts ts) same whole
    sound_atom _ outer choices parts place h = absurd (cc)

    from_choice : (outer : List Frame) (choices parts : List Form) (ts : List Token) → FollowsChoice (Ends e outer) choices parts ts
        → FollowsItem (Ends e outer) choices parts ts
    from_choice outer choices parts ts (choice, after, split, held) = (more choice, after, split, held)

    sound_item : (token : Token) (outer : List Frame) (choices parts : List Form) (place : Place)
        → option_and_then (λ after. accept after tokens) (step_item (reading outer choices parts place) token) ≡ Some e
        → FollowsItem (Ends e outer) choices parts (token ∷ tokens)
    sound_item Bar outer choices parts place h = inside (later outer (sequence (in_order_onto parts []) ∷ choices) [] NeedsAtom h)
      where
        inside : Completes e outer (sequence (in_order_onto parts []) ∷ choices) [] NeedsAtom tokens → FollowsItem (Ends e outer) choices parts (Bar ∷ tokens)
        inside (choice, after, split, held) = (others choice, after, ap (λ ts. Bar ∷ ts) split, held)
    sound_item Close [] choices parts place h = absurd (cc)
    sound_item Close (frame ∷ outer) choices parts place h =
        (nothing, Close ∷ tokens, refl, (tokens, refl, later outer frame.choices (rest_onto choices parts nothing ∷ frame.parts) AfterAtom h))
    sound_item token outer choices parts place h = from_choice outer choices parts (token ∷ tokens) (sound_atom token outer choices parts place h)

    sound_suffix : (token : Token) (outer : List Frame) (choices parts : List Form) (form : Form) (place : Place)
        → option_and_then (λ after. accept after tokens) (step_suffix (reading outer choices (form ∷ parts) place) token) ≡ Some e
        → FollowsAtom (Ends e outer) choices parts form (token ∷ tokens)
    sound_suffix Star outer choices parts form place h = inr (star, tokens, refl, later outer choices (counted_form form star ∷ parts) AfterItem h)
    sound_suffix Plus outer choices parts form place h = inr (plus, tokens, refl, later outer choices (counted_form form plus ∷ parts) AfterItem h)
    sound_suffix Question outer choices parts form place h = inr (question, tokens, refl, later outer choices (counted_form form question ∷ parts) AfterItem h)
    sound_suffix OpenBrace outer choices parts form place h = inside (later outer choices (form ∷ parts) Least h)
      where
        inside : FollowsBrace (Ends e outer) choices parts form [] tokens → FollowsAtom (Ends e outer) choices parts form (OpenBrace ∷ tokens)
        inside (suffix, inner, after, spelled, split, follows) =
            inr (suffix, after, ap (λ ts. OpenBrace ∷ ts) split ∙ ap (λ ts. ts ++ after) (sym spelled), follows)
    sound_suffix token outer choices parts form place h = inl (sound_item token outer choices (form ∷ parts) place h)

    sound_least : (token : Token) (outer : List Frame) (choices parts : List Form) (form : Form)
        → option_and_then (λ after. accept after tokens) (step_least (reading outer choices (form ∷ parts) Least) token) ≡ Some e
        → FollowsBrace (Ends e outer) choices parts form [] (token ∷ tokens)
    sound_least (Number n) outer choices parts form h = inside (later outer choices (form ∷ parts) (AfterLeast n) h)
      where
        inside : FollowsBrace (Ends e outer) choices parts form (Number n ∷ []) tokens → FollowsBrace (Ends e outer) choices parts form [] (Number n ∷ tokens)
        inside (suffix, inner, after, spelled, split, follows) =
            (suffix, Number n ∷ inner, after, spelled, ap (λ ts. Number n ∷ ts) split, follows)
    sound_least _ outer choices parts form h = absurd (cc)

    sound_after_least : (token : Token) (outer : List Frame) (choices parts : List Form) (form : Form) (n : ℕ)
        → option_and_then (λ after. accept after tokens) (step_after_least (reading outer choices (form ∷ parts) (AfterLeast n)) n token) ≡ Some e
        → FollowsBrace (Ends e outer) choices parts form (Number n ∷ []) (token ∷ tokens)
    sound_after_least CloseBrace outer choices parts form n h = tested (nat_le 1 n) refl h
      where
        tested : (b : Bool) → nat_le 1 n ≡ b
            → option_and_then (λ after. accept after tokens) (if b then repeat_last (reading outer choices (form ∷ parts) (AfterLeast n)) n (Some n) else None) ≡ Some e
            → FollowsBrace (Ends e outer) choices parts form (Number n ∷ []) (CloseBrace ∷ tokens)
        tested true is held =
            let least : 1 ≤ n = grind (arith, nat_tests) in
            (exactly n least, CloseBrace ∷ [], tokens, refl, refl, later outer choices (counted_form form (exactly n least) ∷ parts) AfterItem held)
        tested false is held = absurd (cc)
    sound_after_least Comma outer choices parts form n h = inside (later outer choices (form ∷ parts) (Most n) h)
      where
        inside : FollowsBrace (Ends e outer) choices parts form (Number n ∷ Comma ∷ []) tokens
            → FollowsBrace (Ends e outer) choices parts form (Number n ∷ []) (Comma ∷ tokens)
        inside (suffix, inner, after, spelled, split, follows) =
            (suffix, Comma ∷ inner, after, spelled, ap (λ ts. Comma ∷ ts) split, follows)
    sound_after_least _ outer choices parts form n h = absurd (cc)

    sound_most : (token : Token) (outer : List Frame) (choices parts : List Form) (form : Form) (m : ℕ)
        → option_and_then (λ after. accept after tokens) (step_most (reading outer choices (form ∷ parts) (Most m)) m token) ≡ Some e
        → FollowsBrace (Ends e outer) choices parts form (Number m ∷ Comma ∷ []) (token ∷ tokens)
    sound_most (Number n) outer choices parts form m h = tested (nat_le 1 n) (nat_le m n) refl refl h
      where
        inside : FollowsBrace (Ends e outer) choices parts form (Number m ∷ Comma ∷ Number n ∷ []) tokens
            → FollowsBrace (Ends e outer) choices parts form (Number m ∷ Comma ∷ []) (Number n ∷ tokens)
        inside (suffix, inner, after, spelled, split, follows) =
            (suffix, Number n ∷ inner, after, spelled, ap (λ ts. Number n ∷ ts) split, follows)

        tested : (a b : Bool) → nat_le 1 n ≡ a → nat_le m n ≡ b
            → option_and_then (λ after. accept after tokens) (if a && b then Some (reading outer choices (form ∷ parts) (AfterMost m n)) else None) ≡ Some e
            → FollowsBrace (Ends e outer) choices parts form (Number m ∷ Comma ∷ []) (Number n ∷ tokens)
        tested true true least most held =
            inside (later outer choices (form ∷ parts) (AfterMost m n) held (grind (arith, nat_tests)) (grind (arith, nat_tests)))
        tested true false least most held = absurd (cc)
        tested false b least most held = absurd (cc)
    sound_most _ outer choices parts form m h = absurd (cc)

    sound_after_most : (token : Token) (outer : List Frame) (choices parts : List Form) (form : Form) (m n : ℕ) → 1 ≤ n → m ≤ n
        → option_and_then (λ after. accept after tokens) (step_after_most (reading outer choices (form ∷ parts) (AfterMost m n)) m n token) ≡ Some e
        → FollowsBrace (Ends e outer) choices parts form (Number m ∷ Comma ∷ Number n ∷ []) (token ∷ tokens)
    sound_after_most CloseBrace outer choices parts form m n least most h =
        (between m n least most, CloseBrace ∷ [], tokens, refl, refl, later outer choices (counted_form form (between m n least most) ∷ parts) AfterItem h)
    sound_after_most _ outer choices parts form m n least most h = absurd (cc)

    sound_step : (token : Token) (outer : List Frame) (choices parts : List Form) (place : Place)
        → accept (reading outer choices parts place) (token ∷ tokens) ≡ Some e
        → Completes e outer choices parts place (token ∷ tokens)
    sound_step token outer choices parts NeedsAtom h = sound_atom token outer choices parts NeedsAtom h
    sound_step token outer choices parts AfterItem h = sound_item token outer choices parts AfterItem h
    sound_step token outer choices [] AfterAtom h = tt
    sound_step token outer choices [] Least h = tt
    sound_step token outer choices [] (AfterLeast n) h = tt
    sound_step token outer choices [] (Most m) h = tt
    sound_step token outer choices [] (AfterMost m n) h = tt
    sound_step token outer choices (form ∷ parts) AfterAtom h = sound_suffix token outer choices parts form AfterAtom h
    sound_step token outer choices (form ∷ parts) Least h = sound_least token outer choices parts form h
    sound_step token outer choices (form ∷ parts) (AfterLeast n) h = sound_after_least token outer choices parts form n h
    sound_step token outer choices (form ∷ parts) (Most m) h = sound_most token outer choices parts form m h
    sound_step token outer choices (form ∷ parts) (AfterMost m n) h = λ least most. sound_after_most token outer choices parts form m n least most h

  sound : (tokens : List Token) (outer : List Frame) (choices parts : List Form) (place : Place)
      → accept (reading outer choices parts place) tokens ≡ Some e → Completes e outer choices parts place tokens
  sound [] outer choices parts place h = sound_end outer choices parts place h
  sound (token ∷ tokens) outer choices parts place h = sound_step tokens (sound tokens) token outer choices parts place h

-- what is accepted is a sentence
pub sentence_of_accepted : (tokens : List Token) (form : Form) → accept empty_reading tokens ≡ Some form → IsSentence tokens form
sentence_of_accepted tokens form h = inside (sound form tokens [] [] [] NeedsAtom h)
  where
    inside : Completes form [] [] [] NeedsAtom tokens → IsSentence tokens form
    inside (choice, after, split, (none, same)) = record {
      tree = choice;
      derives = sym (append-nil (choice_tokens choice)) ∙ ap (λ ts. choice_tokens choice ++ ts) (sym none) ∙ sym split;
      means = sym (choice_onto-nil choice) ∙ same;
    }

pub finish_ends : (choices parts : List Form) (place : Place) → EndsItem place
    → finish (reading [] choices parts place) ≡ Some (alternative (in_order_onto choices (sequence (in_order_onto parts []) ∷ [])))
finish_ends choices parts AfterAtom ends = refl
finish_ends choices parts AfterItem ends = refl
finish_ends choices parts NeedsAtom ends = absurd ends
finish_ends choices parts Least ends = absurd ends
finish_ends choices parts (AfterLeast n) ends = absurd ends
finish_ends choices parts (Most n) ends = absurd ends
finish_ends choices parts (AfterMost m n) ends = absurd ends

-- each sentence is accepted, with its expression
pub accept_sentence : (tokens : List Token) (form : Form) → IsSentence tokens form → accept empty_reading tokens ≡ Some form
accept_sentence tokens form sentence =
    let choice = sentence.tree in
    let run = accept_choice choice [] [] [] in
    let end = finish_ends (choices_after [] choice) (last_parts choice) (place_after_choice choice) (takes_after_choice choice) in
    let spelled = ap (λ ts. accept empty_reading ts) (sym sentence.derives ∙ sym (append-nil (choice_tokens choice))) in
    spelled ∙ run ∙ end ∙ ap (λ forms. Some (alternative forms)) (onto-choices_after [] choice) ∙ ap (λ f. Some f) sentence.means
