use Rattle.plan_base.proofs.Common.{sym, subst}
use Rattle.product_search.specs.{declared.targets.Noted.Noted, inside.AreReached}
use Rattle.product_search.proofs.{NotingLemmas.reached_stays, targets.Noted.note_end.Goals.then-accepts, targets.Noted.note_end.Goals.else-accepts}
use Rattle.product_search.proofs.targets.Noted.note_end.Goals as goal

pub pass-requires : goal.pass-requires
pass-requires g c =
    subst (AreReached c.args.targets.now.nodes.items c.args.targets.now.places.items c.note.new.self.times.items) (sym c.note.ensures.passed)
    (reached_stays c.args.targets.now.nodes.items c.args.targets.now.places.items c.args.self.now.times.items c.note.new.self.times.items c.args.scan.node c.time.result
    c.args.self.now.passed c.note.ensures.noted c.requires.passed)

pub returns-clause-passed : goal.returns-clause-passed
returns-clause-passed g c =
    let P = λ (n : Noted). AreReached c.args.targets.now.nodes.items c.args.targets.now.places.items n.times.items n.passed in
    elim c.if-accepts.branch [ then-accepts w ↦ subst P (sym w.self-is) w.pass.ensures.passed | else-accepts w ↦ subst P (sym w.self-is) c.requires.passed ]
