use Rattle.std.proofs.Common.{◌≡◌, true, List, [], Result, Ok, Err, IfOk, IfErr, map, refl, subst, string_bytes}
use Rattle.clap.specs.Simple.{App, HasMatchesOf, is_simple, subcommand_of, subcommand_rows_of}
use Rattle.clap.specs.Walk.{Text}
use Rattle.clap.specs.Kinds.{FailsBy, HasKind, Kinds}
use Rattle.clap.specs.Faults.{fault_of, is_simple_and_free}
use Rattle.clap.specs.declared.error.Error.{Error}
use Rattle.clap.specs.declared.parser.matches.ArgMatches.{ArgMatches}
use Rattle.clap.proofs.OnLiterals.{clap_on_literals}
use Rattle.command_line.specs.{modeplan}
use Rattle.command_line.proofs.matching.match_words.Goals as goal

simple : is_simple modeplan ≡ true
unfolding clap_on_literals
simple = refl

free : is_simple_and_free modeplan ≡ true
unfolding clap_on_literals
free = refl

found : (r : Result ArgMatches Error) (app : App) (words : List Text) → app ≡ modeplan → IfOk r (HasMatchesOf app words)
    → IfOk r (λ m. subcommand_rows_of m ≡ subcommand_of modeplan words)
found (Ok m) app words is has = ((subst (λ (a : App). HasMatchesOf a words m) is has) simple).1
found (Err e) app words is has = tt

fails : (r : Result ArgMatches Error) (app : App) (words : List Text) → app ≡ modeplan → (is_simple_and_free app ≡ true → FailsBy (fault_of app words) r)
    → FailsBy (fault_of modeplan words) r
fails r app words is by = (subst (λ (a : App). is_simple_and_free a ≡ true → FailsBy (fault_of a words) r) is by) free

no_fault : (r : Result ArgMatches Error) (kinds : Kinds) → FailsBy kinds r → IfOk r (λ _. kinds ≡ [])
no_fault (Ok m) kinds is = is
no_fault (Err e) kinds is = tt

fault : (r : Result ArgMatches Error) (kinds : Kinds) → FailsBy kinds r → IfErr r (HasKind kinds)
fault (Ok m) kinds is = tt
fault (Err e) kinds is = is

pub returns-clause-found : goal.returns-clause-found
returns-clause-found c =
    found c.try_get_matches_from.result _ (map string_bytes c.args.words.now) c.in_ok-program.ensures c.try_get_matches_from.ensures.matches

pub returns-clause-taken : goal.returns-clause-taken
returns-clause-taken c =
    no_fault c.try_get_matches_from.result _
    (fails c.try_get_matches_from.result _ (map string_bytes c.args.words.now) c.in_ok-program.ensures c.try_get_matches_from.ensures.kinds)

pub returns-clause-refused : goal.returns-clause-refused
returns-clause-refused c =
    fault c.try_get_matches_from.result _
    (fails c.try_get_matches_from.result _ (map string_bytes c.args.words.now) c.in_ok-program.ensures c.try_get_matches_from.ensures.kinds)
