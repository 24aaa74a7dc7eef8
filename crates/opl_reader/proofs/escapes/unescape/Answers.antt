use Rattle.plan_base.proofs.Common.{sym, ◌∙◌, ap, Some}
use Rattle.opl_reader.proofs.EscapeLemmas.{step_done, unescaped_all, unescaped_open, unescaped_bad}
use Rattle.opl_reader.proofs.escapes.unescape.Goals as goal

pub returns-in_default-cut : goal.returns-in_default-cut
returns-in_default-cut c =
    rw (unescaped_open c.loop-plain.rest.now c.in-Some.plain.now c.in-Some.behind.now (sym c.in-Some.ensures.parts) (sym c.in_default-cut.ensures.parts)) at c.loop-plain.invariant

pub returns-in_default-character : goal.returns-in_default-character
returns-in_default-character c =
    rw (unescaped_bad c.loop-plain.rest.now c.in-Some.plain.now c.in-Some.behind.now c.in-Some-cut.digits.now c.in-Some-cut.after.now (sym c.in-Some.ensures.parts) (sym c.in-Some-cut.ensures.parts) (sym c.in_default-character.ensures)) at c.loop-plain.invariant

pub loop-plain-preserved : goal.loop-plain-preserved
loop-plain-preserved c =
    step_done c.loop-plain.bytes.items c.extend_from_slice.new.self.items _ c.loop-plain.rest.now c.in-Some.plain.now c.in-Some.behind.now c.in-Some-cut.digits.now c.in-Some-cut.after.now c.in-Some-character.character _
    (sym c.in-Some.ensures.parts) (sym c.in-Some-cut.ensures.parts) (sym c.in-Some-character.ensures) c.in_ok-extend_from_slice.ensures.items c.in_ok-push_character.ensures c.loop-plain.invariant

pub returns : goal.returns
returns c =
    let all = rw (unescaped_all c.loop-plain.rest.now (sym c.in_default.ensures.parts)) at c.loop-plain.invariant in
    ap Some (c.from.ensures ∙ c.in_ok-extend_from_slice-2.ensures.items) ∙ all
