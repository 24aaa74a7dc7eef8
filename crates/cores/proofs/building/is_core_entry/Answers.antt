use Rattle.plan_base.proofs.Common.{◌&&◌, ◌∙◌, ap, not, sym}
use Rattle.hierarchy.specs.{is_core}
use Rattle.cores.proofs.CoreLemmas.{core_test}
use Rattle.cores.proofs.building.is_core_entry.Goals as goal

pub returns-then-not-contracted : goal.returns-then-not-contracted
returns-then-not-contracted c =
    let order = c.args.hierarchy.now.order in
    let e = c.args.entry.now in
    ap not c.contracted-then-not-contracted.ensures ∙ core_test order e.to
    ∙ ap (λ b. b && is_core order e.to) (sym (ap not (sym c.contracted.ensures ∙ c.if-not-contracted.true)) ∙ core_test order e.from)
