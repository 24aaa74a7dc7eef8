use Rattle.plan_base.proofs.Common.{◌-◌, map, IfOk, true, false, drop, None, refl, sym, ap, ◌∙◌, subst, add-one, IfOk-weaker}
use Rattle.mode_expression.specs.{form_of, in_turn, one_of}
use Rattle.automaton.specs.{written, plus, copies_in_turn, options, sequence, optional, repeat, inside.Adds, inside.built_of, inside.Built, inside.has}
use Rattle.automaton.proofs.{AddLemmas.adds_nothing, AddLemmas.adds_nowhere, AddLemmas.adds_sequence, AddLemmas.adds_choice, AddLemmas.adds_optional, AddLemmas.adds_plus, AddLemmas.adds_plus_dry, AddLemmas.adds_same, PartLemmas.written_seq, PartLemmas.written_alt, PartLemmas.drop_less, PartLemmas.drop_none}
use Rattle.automaton.proofs.builder.Builder.+build.Goals as goal

pub add-returns-in-Seq : goal.add-returns-in-Seq
add-returns-in-Seq t c =
    let same = written_seq c.args.expr.now c.in-Seq.parts c.deref.result.now c.in-Seq.is c.deref.ensures.value in
    subst (λ w. IfOk c.add_sequence.result (λ entered. Adds (built_of c.args.self.now) (built_of c.add_sequence.new.self) w (has c.args.after) (has entered))) same c.add_sequence.ensures

pub add-returns-in-Alt : goal.add-returns-in-Alt
add-returns-in-Alt t c =
    let same = written_alt c.args.expr.now c.in-Alt.parts c.deref-in-Alt.result.now c.in-Alt.is c.deref-in-Alt.ensures.value in
    subst (λ w. IfOk c.add_choice.result (λ entered. Adds (built_of c.args.self.now) (built_of c.add_choice.new.self) w (has c.args.after) (has entered))) same c.add_choice.ensures

pub add_choice-loop-left-init : goal.add_choice-loop-left-init
add_choice-loop-left-init t c =
    adds_same (built_of c.args.self.now) (built_of c.args.self.now) _ _ _ _ _ _
    (ap (λ parts. written (one_of (map form_of parts))) (sym (drop_none c.args.parts.now))) refl (sym c.empty-entered.ensures)
    (adds_nowhere (built_of c.args.self.now) (has c.args.after))

pub add_choice-loop-left-preserved : goal.add_choice-loop-left-preserved
add_choice-loop-left-preserved t c =
    let less = drop_less c.args.parts.now c.loop-left.left c.index-parts-left.result c.loop-left-test.true c.loop-left.auto.left c.index-parts-left.is in
    let rest = written (one_of (map form_of (drop c.loop-left.left c.args.parts.now))) in
    adds_same (built_of c.args.self.now) (built_of c.add.new.self) _ _ _ _ _ _
    (ap (λ parts. written (one_of (map form_of parts))) (sym less)) refl (sym c.or-entered.ensures)
    (adds_choice (written (form_of c.index-parts-left.result)) rest (built_of c.args.self.now) (built_of c.loop-left.self) (built_of c.add.new.self)
    (has c.args.after) (has c.loop-left.entered) (has c.in_ok-add.field-0) c.loop-left.invariant c.in_ok-add.ensures)

pub add_copies-loop-preserved : goal.add_copies-loop-preserved
add_copies-loop-preserved t c =
    let part = written (form_of c.args.part.now) in
    adds_same (built_of c.args.self.now) (built_of c.add.new.self) _ _ _ _ _ _ (ap (λ n. copies_in_turn n part) (sym (add-one c.loop.counter))) refl refl
    (adds_sequence part (copies_in_turn c.loop.counter part) (built_of c.args.self.now) (built_of c.loop.self) (built_of c.add.new.self)
    (has c.args.after) (has c.loop.next) (has c.in_ok-next.next) c.loop.invariant c.in_ok-next.ensures)

pub add_options-loop-preserved : goal.add_options-loop-preserved
add_options-loop-preserved t c =
    let part = written (form_of c.args.part.now) in
    adds_same (built_of c.args.self.now) (built_of c.add.new.self) _ _ _ _ _ _ (ap (λ n. options n part) (sym (add-one c.loop.counter))) refl (sym c.or-next.ensures)
    (adds_optional (sequence part (options c.loop.counter part)) (built_of c.args.self.now) (built_of c.add.new.self) (has c.args.after) (has c.in_ok-add.field-0)
    (adds_sequence part (options c.loop.counter part) (built_of c.args.self.now) (built_of c.loop.self) (built_of c.add.new.self)
    (has c.args.after) (has c.loop.next) (has c.in_ok-add.field-0) c.loop.invariant c.in_ok-add.ensures))

pub add_plus-returns-then-self : goal.add_plus-returns-then-self
add_plus-returns-then-self t c =
    let part = written (form_of c.args.part.now) in
    IfOk-weaker c.add.result _ _
    (λ entered adds. adds_plus_dry part (built_of c.args.self.now) (built_of c.add.new.self) (has c.args.after) (has entered) c.if-self.true adds)
    c.add.ensures

pub add_plus-returns : goal.add_plus-returns
add_plus-returns t c =
    let part = written (form_of c.args.part.now) in
    let old = built_of c.args.self.now in
    let tried = built_of c.add-2.new.self in
    let again : Built = record { at = old.at; dry = false; rows = tried.rows } in
    let dry : Adds (record { at = old.at; dry = true; rows = old.rows }) tried part (λ q. false) (has c.in_ok-first.first) =
    subst (λ S. Adds (record { at = old.at; dry = true; rows = old.rows }) tried part S (has c.in_ok-first.first)) c.empty.ensures c.in_ok-first.ensures in
    IfOk-weaker c.add-3.result _ _
    (λ entered adds.
    adds_plus part old tried (built_of c.add-3.new.self) (has c.args.after) (has c.in_ok-first.first) (has entered) c.if-self.false dry
    (subst (λ S. Adds again (built_of c.add-3.new.self) part S (has entered)) c.or.ensures adds))
    c.add-3.ensures

pub add_sequence-loop-left-init : goal.add_sequence-loop-left-init
add_sequence-loop-left-init t c =
    adds_same (built_of c.args.self.now) (built_of c.args.self.now) _ _ _ _ _ _
    (ap (λ parts. written (in_turn (map form_of parts))) (sym (drop_none c.args.parts.now))) refl refl
    (adds_nothing (built_of c.args.self.now) (has c.args.after))

pub add_sequence-loop-left-preserved : goal.add_sequence-loop-left-preserved
add_sequence-loop-left-preserved t c =
    let less = drop_less c.args.parts.now c.loop-left.left c.index-parts-left.result c.loop-left-test.true c.loop-left.auto.left c.index-parts-left.is in
    let rest = written (in_turn (map form_of (drop c.loop-left.left c.args.parts.now))) in
    adds_same (built_of c.args.self.now) (built_of c.add.new.self) _ _ _ _ _ _
    (ap (λ parts. written (in_turn (map form_of parts))) (sym less)) refl refl
    (adds_sequence (written (form_of c.index-parts-left.result)) rest (built_of c.args.self.now) (built_of c.loop-left.self) (built_of c.add.new.self)
    (has c.args.after) (has c.loop-left.next) (has c.in_ok-next.next) c.loop-left.invariant c.in_ok-next.ensures)

pub add_repeat-returns-then-least-eq0 : goal.add_repeat-returns-then-least-eq0
add_repeat-returns-then-least-eq0 t c =
    let part = written (form_of c.args.part.now) in
    let spelled = ap (λ n. repeat part n None) (sym c.if-least-eq0.true) ∙ ap (λ most. repeat part c.args.least most) (sym c.in-None.is) in
    let entered = c.in_ok-entered-in-None in
    adds_same (built_of c.args.self.now) (built_of c.add_plus.new.self) (optional (plus part)) _ _ _ _ _ spelled refl (sym c.or.ensures)
    (adds_optional (plus part) (built_of c.args.self.now) (built_of c.add_plus.new.self) (has c.args.after) (has entered.entered) entered.ensures)

pub add_repeat-returns-in_ok-next-in-Some : goal.add_repeat-returns-in_ok-next-in-Some
add_repeat-returns-in_ok-next-in-Some t c =
    let part = written (form_of c.args.part.now) in
    let most = c.in-Some.most in
    let spelled = ap (λ m. repeat part c.args.least m) (sym c.in-Some.is) in
    let next = c.in_ok-next-in-Some in
    let with_options = adds_same (built_of c.args.self.now) (built_of c.add_options.new.self) _ (options (most - c.args.least) part) _ (has c.args.after) _ (has next.next)
    (ap (λ n. options n part) c.saturating_sub.ensures) refl refl next.ensures in
    IfOk-weaker c.add_copies.result _ _
    (λ entered adds.
    adds_same (built_of c.args.self.now) (built_of c.add_copies.new.self) _ _ _ _ _ _ spelled refl refl
    (adds_sequence (copies_in_turn c.args.least part) (options (most - c.args.least) part) (built_of c.args.self.now) (built_of c.add_options.new.self)
    (built_of c.add_copies.new.self) (has c.args.after) (has next.next) (has entered) with_options adds))
    c.add_copies.ensures
