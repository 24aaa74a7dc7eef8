use Rattle.std.proofs.Common.{List, [], ◌∷◌, codes}
use Rattle.clap.specs.Words.{Shape, Text}
use Rattle.command_line.specs.{command_of, two, four, six}
use Rattle.command_line.proofs.description.matrix.Goals as goal

-- the command with these words
abbrev so_far : List Text → Shape
so_far words = command_of (codes "matrix") words []

pub returns : goal.returns
returns c =
    let three = c.in_ok-command-2.ensures (so_far two) c.in_ok-command.ensures in
    let fourth = c.in_ok-command-3.ensures (so_far (codes "first" ∷ codes "second" ∷ codes "third" ∷ [])) three in
    let fifth = c.in_ok-command-4.ensures (so_far four) fourth in
    let sixth = c.in_ok-command-5.ensures (so_far (codes "first" ∷ codes "second" ∷ codes "third" ∷ codes "fourth" ∷ codes "fifth" ∷ [])) fifth in
    c.with_places.ensures (command_of (codes "matrix") six (codes "hierarchy" ∷ [])) (c.in_ok-command-6.ensures (so_far six) sixth)
