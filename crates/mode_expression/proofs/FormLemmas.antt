-- The form of an expression in memory, by its parts.
use Rattle.plan_base.proofs.Common.{◌≡◌, ◌≢◌, List, [], ◌∷◌, ◌++◌, length, map, reverse, Vec, refl, sym, ap, ◌∙◌, append_assoc, append-nil, length-map, map-append, reverse-append, reverse-reverse, reverse_onto, Global}
use mathlib.Core.Former.{Count}
use Rattle.mode_expression.specs.{Expr, Seq', Alt', Row_of-Expr, end_of-Expr, more_of-Expr, form_of, form_in_turn, form_of_one, in_turn, one_of, both, either, sequence, alternative, declared.expr.Expr.Seq, declared.expr.Expr.Alt, declared.expr.Expr.items-the_row-Expr, declared.expr.Expr.items_hidden-the_row-Expr-0, Form.Form, inside.Frame, inside.in_order_onto, inside.with_choice, inside.group_of, inside.latest}

abbrev row_of : Expr → (n : Count) × Row_of-Expr n
row_of (Seq' _ row) = (_, row)
row_of (Alt' _ row) = (_, row)
row_of _ = (_, end_of-Expr)

in_turn_row : (n : _) (row : Row_of-Expr n) → form_in_turn row ≡ in_turn (map form_of (items-the_row-Expr n row))
in_turn_row n end_of-Expr = refl
in_turn_row n (more_of-Expr part rest) = ap (λ f. both (form_of part) f) (in_turn_row _ rest)

one_of_row : (n : _) (row : Row_of-Expr n) → form_of_one row ≡ one_of (map form_of (items-the_row-Expr n row))
one_of_row n end_of-Expr = refl
one_of_row n (more_of-Expr part rest) = ap (λ f. either (form_of part) f) (one_of_row _ rest)

pub form_seq : (parts : Vec Expr Global) → form_of (Seq parts) ≡ in_turn (map form_of parts.items)
form_seq parts =
    let row = row_of (Seq parts) in
    in_turn_row row.0 row.1 ∙ ap (λ es. in_turn (map form_of es)) (items_hidden-the_row-Expr-0 parts)

pub form_alt : (parts : Vec Expr Global) → form_of (Alt parts) ≡ one_of (map form_of parts.items)
form_alt parts =
    let row = row_of (Alt parts) in
    one_of_row row.0 row.1 ∙ ap (λ es. one_of (map form_of es)) (items_hidden-the_row-Expr-0 parts)

sequence_of_many : (forms : List Form) → length forms ≢ 1 → sequence forms ≡ in_turn forms
sequence_of_many [] many = refl
sequence_of_many (form ∷ []) many = absurd (many refl)
sequence_of_many (form ∷ other ∷ forms) many = refl

alternative_of_many : (forms : List Form) → length forms ≢ 1 → alternative forms ≡ one_of forms
alternative_of_many [] many = refl
alternative_of_many (form ∷ []) many = absurd (many refl)
alternative_of_many (form ∷ other ∷ forms) many = refl

pub form_sequence : (parts : Vec Expr Global) → length parts.items ≢ 1 → form_of (Seq parts) ≡ sequence (map form_of parts.items)
form_sequence parts many = form_seq parts ∙ sym (sequence_of_many (map form_of parts.items) (rw length-map many))

pub form_alternative : (parts : Vec Expr Global) → length parts.items ≢ 1 → form_of (Alt parts) ≡ alternative (map form_of parts.items)
form_alternative parts many = form_alt parts ∙ sym (alternative_of_many (map form_of parts.items) (rw length-map many))

onto-reverse : (forms more : List Form) → in_order_onto forms more ≡ reverse forms ++ more
onto-reverse [] more = refl
onto-reverse (form ∷ forms) more =
    onto-reverse forms (form ∷ more) ∙ sym (append_assoc (reverse forms) (form ∷ []) more)
    ∙ ap (λ forms. forms ++ more) (sym (reverse_onto forms form []))

pub onto-latest : (items : List Expr) → in_order_onto (latest items) [] ≡ map form_of items
onto-latest items = onto-reverse (latest items) [] ∙ append-nil (reverse (latest items)) ∙ reverse-reverse (map form_of items)

pub latest-push : (items : List Expr) (expr : Expr) → latest (items ++ expr ∷ []) ≡ form_of expr ∷ latest items
latest-push items expr = ap reverse (map-append form_of items (expr ∷ [])) ∙ reverse-append (map form_of items) (form_of expr ∷ [])

abbrev frame : List Expr → List Expr → Frame
frame choices parts = record { choices = latest choices; parts = latest parts }

abbrev frame_with : List Form → List Expr → Frame
frame_with forms items = record { choices = forms; parts = latest items }

pub choice_made : (choices parts choices_after parts_after : List Expr) (row : Expr) → form_of row ≡ sequence (map form_of parts)
    → choices_after ≡ choices ++ row ∷ [] → parts_after ≡ [] → frame choices_after parts_after ≡ with_choice (frame choices parts)
choice_made choices parts choices_after parts_after row made pushed emptied =
    let first = ap latest pushed ∙ latest-push choices row ∙ ap (λ form. form ∷ latest choices) (made ∙ ap sequence (sym (onto-latest parts))) in
    ap (λ cs. frame_with cs parts_after) first ∙ ap (λ items. frame_with (with_choice (frame choices parts)).choices items) emptied

pub whole_made : (choices parts choices_after : List Expr) (row : Expr) → form_of row ≡ sequence (map form_of parts)
    → choices_after ≡ choices ++ row ∷ [] → alternative (map form_of choices_after) ≡ group_of (frame choices parts)
whole_made choices parts choices_after row made pushed =
    let first = ap latest pushed ∙ latest-push choices row ∙ ap (λ form. form ∷ latest choices) (made ∙ ap sequence (sym (onto-latest parts))) in
    ap alternative (sym (onto-latest choices_after) ∙ ap (λ forms. in_order_onto forms []) first)
