-- The text of a query line's expression, and the form that it spells.
use Rattle.plan_base.proofs.Common.{◌≡◌, ◌∙◌, ℕ, ◌+◌, List, Some, None, take, drop, ap, refl, sym, subst, Bool, true, false, ◌&&◌, Option, ◌==◌, position, option_map, Ok, ∥∥₁_map, option_and_then_some, none-some, same_Some}
use mathlib.Core.Bool.{cond}
use Rattle.mode_expression.specs.{Form.Form, IsExpression, OutcomeIsUnique}
use Rattle.mode_network.specs.{NetworkLists.NetworkLists, Endpoint}
use Rattle.journey.specs.{Fields, Shape, at_space, fields_of, shape_of, shape_of_fields, endpoint_of, is_filled, IsQuery}
use Rattle.kept_automata.specs.{IsMadeOfText, IsSpelledIn, behind_space, behind_place, expression_text}

-- the value that is there under a test
guarded : {A : Type 0} (b : Bool) (o : Option A) (y : A) → cond b o None ≡ Some y → o ≡ Some y
guarded true o y e = e
guarded false o y e = absurd (none-some y e)

-- a query line spells its expression
pub query_spells : (n : NetworkLists) (line : List ℕ) (from to : Endpoint) (depart : ℕ) (form : Form) → IsQuery n line from to depart form → IsSpelledIn line form
query_spells n line from to depart form q = record { shape = q.shape; shape_is = q.reaches.departs.shape_is; expression = q.expression }

-- the value that was mapped
mapped : {A B : Type 0} (f : A → B) (o : Option A) (y : B) → option_map f o ≡ Some y → (x : A) × (o ≡ Some x) × (f x ≡ y)
mapped f None y e = absurd (none-some y e)
mapped f (Some x) y e = (x, refl, same_Some (f x) y e)

cut : (text : List ℕ) (parts : List ℕ × List ℕ) → at_space text ≡ Some parts → parts.1 ≡ behind_space text
cut text parts e =
    let it = mapped (λ (k : ℕ). (take k text, drop (k + 1) text)) (position (λ b. b == 32) text) parts e in
    ap (λ (x : List ℕ × List ℕ). x.1) (sym it.2) ∙ ap (behind_place text) (sym it.1)

fields_end : (line : List ℕ) (f : Fields) → fields_of line ≡ Some f → f.expr ≡ expression_text line
fields_end line f e =
    option_and_then_some _ (at_space line) f e (λ from first e.
    option_and_then_some _ (at_space from.1) f e (λ to second e.
    option_and_then_some _ (at_space to.1) f e (λ date third e.
    let time = mapped _ (at_space date.1) f e in
    ap (λ (x : Fields). x.expr) (sym time.2) ∙ cut date.1 time.0 time.1 ∙ ap behind_space (cut to.1 date third
    ∙ ap behind_space (cut from.1 to second ∙ ap behind_space (cut line from first))))))

shape_end : (line : List ℕ) (shape : Shape) → shape_of line ≡ Some shape → shape.expr ≡ expression_text line
shape_end line shape e = option_and_then_some shape_of_fields (fields_of line) shape e (λ f are e.
    option_and_then_some _ (endpoint_of f.from) shape (guarded (is_filled f.date && is_filled f.time) _ shape e) (λ from first e.
    let to = mapped _ (endpoint_of f.to) shape e in
    ap (λ (x : Shape). x.expr) (sym to.2) ∙ fields_end line f are))

-- the text of its expression is that
pub text_spells : (line : List ℕ) (form : Form) → IsSpelledIn line form → IsExpression (expression_text line) form
text_spells line form it = subst (λ text. IsExpression text form) (shape_end line it.shape it.shape_is) it.expression

-- what is made of the form that a text spells is made of each form that it spells
pub made_of_text : (text : List ℕ) (form : Form) (IsMade : Form → Type 0) → OutcomeIsUnique → IsExpression text form → IsMade form → IsMadeOfText text IsMade
made_of_text text form IsMade unique spells is = λ other too.
    let same : form ≡ other = (let e = unique text (Ok form) (Ok other) spells too in cc) in
    subst IsMade same is

pub known_of_text : (text : List ℕ) (form : Form) (IsMade : Form → Type 0) → IsExpression text form → ∥ IsMadeOfText text IsMade ∥₁ → ∥ IsMade form ∥₁
known_of_text text form IsMade spells known = ∥∥₁_map known (λ by. by form spells)
