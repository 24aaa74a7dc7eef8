-- The program as `clap` is told of it: its commands, and the words and options of each.
use Rattle.std.specs.Prelude.{◌≡◌, true, false, List, [], ◌∷◌, ◌++◌, fold, map, Some, codes}
use Rattle.clap.specs.Words.{App, Rule, Shape, Text, app_of, new_app, new_rule, with_subcommand}
use Rattle.clap.specs.declared.builder.action.ArgAction.TheVariants.{Set}
use Rattle.clap.specs.declared.builder.command.Command.{Command}
use Rattle.clap.specs.declared.builder.command.Command.TheViews.{out-Command as fields_of}

-- a word that must be given
abbrev pub word : Text → Rule
word id = record (new_rule id) { action = Some Set; value_names = 1; required = true }

-- an option with one value
abbrev pub option : Text → Rule
option name = record (new_rule name) { long = Some name; action = Some Set; value_names = 1 }

-- a command with these words, in this order, and these options
abbrev pub command_of : Text → List Text → List Text → Shape
command_of name words options = record (new_app name).top { rules = map word words ++ map option options }

-- one word; two; four; six
abbrev pub single_word : List Text
single_word = codes "first" ∷ []

abbrev pub two : List Text
two = codes "first" ∷ codes "second" ∷ []

abbrev pub four : List Text
four = codes "first" ∷ codes "second" ∷ codes "third" ∷ codes "fourth" ∷ []

abbrev pub six : List Text
six = codes "first" ∷ codes "second" ∷ codes "third" ∷ codes "fourth" ∷ codes "fifth" ∷ codes "sixth" ∷ []

-- the options that limit a search, and what is asked of it
abbrev pub limits : List Text
limits = codes "labels" ∷ codes "places" ∷ []

-- the commands that work on a map, a region as a whole, or a sample
abbrev pub region_commands : List Shape
region_commands =
    command_of (codes "compile") four (codes "format" ∷ codes "zone" ∷ [])
    ∷ command_of (codes "migrate") single_word (codes "format" ∷ [])
    ∷ command_of (codes "contract") single_word (codes "keep" ∷ [])
    ∷ command_of (codes "check") two []
    ∷ command_of (codes "sample") single_word []
    ∷ []

-- the commands that ask for journeys that arrive earliest
abbrev pub earliest_commands : List Shape
earliest_commands =
    command_of (codes "answer") two (codes "hierarchy" ∷ limits)
    ∷ command_of (codes "certify") two (codes "hierarchy" ∷ limits)
    ∷ command_of (codes "verify") two (codes "hierarchy" ∷ [])
    ∷ command_of (codes "few") two (codes "places" ∷ [])
    ∷ []

-- the commands that ask for journeys that depart latest
abbrev pub latest_commands : List Shape
latest_commands =
    command_of (codes "latest") two limits
    ∷ command_of (codes "certify-latest") two limits
    ∷ command_of (codes "verify-latest") two []
    ∷ []

-- the commands that ask for many journeys at once, or for many kinds of answers
abbrev pub many_commands : List Shape
many_commands =
    command_of (codes "profile") two (codes "window" ∷ codes "places" ∷ [])
    ∷ command_of (codes "matrix") six (codes "hierarchy" ∷ codes "places" ∷ [])
    ∷ command_of (codes "requests") two (codes "hierarchy" ∷ limits)
    ∷ []

-- the program, with these commands
abbrev pub modeplan : App
modeplan = fold with_subcommand (new_app (codes "modeplan")) (region_commands ++ earliest_commands ++ latest_commands ++ many_commands)

-- what `clap` is told of is this command, which has no command below it
abbrev pub IsToldToClap : Command → Shape → Type 0
IsToldToClap c s = (app_of c ≡ record { top = s; subs = [] }) × ((fields_of c).has_globals ≡ false)
