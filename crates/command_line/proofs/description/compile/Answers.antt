use Rattle.std.proofs.Common.{List, [], ◌∷◌, codes}
use Rattle.clap.specs.Words.{Shape, Text, new_app}
use Rattle.command_line.specs.{command_of, single_word, two, four}
use Rattle.command_line.proofs.description.compile.Goals as goal

-- the command with these words and options
abbrev so_far : List Text → List Text → Shape
so_far words options = command_of (codes "compile") words options

abbrev three : List Text
three = codes "first" ∷ codes "second" ∷ codes "third" ∷ []

pub returns : goal.returns
returns c =
    let a = c.in_ok-command.ensures (new_app (codes "compile")).top c.named-command.ensures in
    let b = c.in_ok-command-2.ensures (so_far single_word []) a in
    let d = c.in_ok-command-3.ensures (so_far two []) b in
    let e = c.in_ok-command-4.ensures (so_far three []) d in
    let f = c.in_ok-command-5.ensures (so_far four []) e in
    c.with_option-2.ensures (so_far four (codes "format" ∷ [])) f
