-- The parts of an expression in memory, written out.
use Rattle.plan_base.proofs.Common.{◌≡◌, ℕ, suc, ◌-◌, ◌<◌, ◌≤◌, List, [], ◌∷◌, length, get_or, drop, map, Vec, sym, ap, ◌∙◌, drop-cons, arith, Global}
use Rattle.std.proofs.Math.Seq.{drop-length}
use Rattle.mode_expression.specs.{Expr, form_of, in_turn, one_of, declared.expr.Expr.Seq, declared.expr.Expr.Alt}
use Rattle.mode_expression.proofs.FormLemmas.{form_seq, form_alt}
use Rattle.automaton.specs.{written}

pub written_seq : (expr : Expr) (parts : Vec Expr Global) (items : List Expr) → expr ≡ Seq parts → items ≡ parts.items
    → written (in_turn (map form_of items)) ≡ written (form_of expr)
written_seq expr parts items is same =
    ap (λ xs. written (in_turn (map form_of xs))) same ∙ sym (ap written (form_seq parts)) ∙ sym (ap (λ e. written (form_of e)) is)

pub written_alt : (expr : Expr) (parts : Vec Expr Global) (items : List Expr) → expr ≡ Alt parts → items ≡ parts.items
    → written (one_of (map form_of items)) ≡ written (form_of expr)
written_alt expr parts items is same =
    ap (λ xs. written (one_of (map form_of xs))) same ∙ sym (ap written (form_alt parts)) ∙ sym (ap (λ e. written (form_of e)) is)

-- one more part from the end
pub drop_less : (parts : List Expr) (left : ℕ) (part : Expr) → 0 < left → left ≤ length parts → part ≡ get_or parts (left - 1) part
    → drop (left - 1) parts ≡ part ∷ drop left parts
drop_less parts left part some within is =
    let one : suc (left - 1) ≡ left = omega arith in
    drop-cons parts (left - 1) part (omega arith) ∙ ap (λ e. e ∷ drop (suc (left - 1)) parts) (sym is) ∙ ap (λ n. part ∷ drop n parts) one

pub drop_none : (parts : List Expr) → drop (length parts) parts ≡ []
drop_none parts = drop-length parts
