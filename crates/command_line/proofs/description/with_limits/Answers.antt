use Rattle.std.proofs.Common.{[], ◌∷◌, ◌++◌, append_assoc, codes, subst, IfOk, List}
use Rattle.clap.specs.Words.{Rule}
use Rattle.command_line.specs.{IsToldToClap, option}
use Rattle.command_line.proofs.description.with_limits.Goals as goal

pub returns : goal.returns
returns c = λ s told.
    let labels = option (codes "labels") ∷ [] in
    subst (λ (rules : List Rule). IfOk c.with_places.result (λ p. IsToldToClap p (record s { rules = rules })))
    (append_assoc s.rules labels (option (codes "places") ∷ []))
    (c.with_places.ensures (record s { rules = s.rules ++ labels }) (c.in_ok-command.ensures s told))
