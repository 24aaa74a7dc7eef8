-- Which command of the program words name, and that what this command takes the program takes.
use Rattle.std.proofs.Common.{◌≡◌, ◌∙◌, Bool, true, false, List, [], ◌∷◌, Some, refl, ap, ap₂, codes, find, fold, is_some, option_map}
use Rattle.std.specs.Option.{option_map_or}
use Rattle.clap.specs.Walk.{Held, Row, Text, Walk, answers_to, finished, nothing_held, settled, walk, walk_from, walked}
use Rattle.clap.specs.Simple.{Shape, built, entered, label_of, names_of, rows_at, subcommand_of}
use Rattle.clap.specs.Kinds.{Kinds, or_else}
use Rattle.clap.specs.Faults.{check_fault, defaults_fault, entered_fault, fault_of, level_fault, settle_fault, turn_fault, walk_fault}
use Rattle.clap.proofs.OnLiterals.{clap_on_literals}
use Rattle.command_line.specs.{limits, modeplan, single_word, two, four, six}
use Rattle.command_line.proofs.{PlainLemmas.leaf, WordSteps.Reads, WordSteps.no_more_faults, WordSteps.stops}

abbrev top : Shape
top = (built modeplan).top

-- the walk that met this name, and no word behind it
abbrev met_at : Text → Walk
met_at name = record (walk_from nothing_held) { stopped = Some (name, []) }

-- the name is that of the command s, as it is built
pub record IsBelow (name : Text) (s : Shape) : Type 0 where
  pub met : walked top.rules (names_of (built modeplan)) (walk_from nothing_held) name ≡ met_at name
  pub quiet : turn_fault top (names_of (built modeplan)) (walk_from nothing_held) name ≡ []
  pub is : find (λ t. answers_to name (label_of t)) (built modeplan).subs ≡ Some s

-- the program takes the words, and finds these rows for the command of this name
pub record IsFoundAt (words : List Text) (name : Text) (rows : List Row) : Type 0 where
  pub faultless : fault_of modeplan words ≡ []
  pub finds : subcommand_of modeplan words ≡ Some (name, rows)

module _ (name : Text) (s : Shape) (given : List Text) (rows : List Row) (below : IsBelow name s) (taken : Reads s given rows) where
  end : Walk
  end = walk top.rules (names_of (built modeplan)) nothing_held (name ∷ given)

  stopped : end.stopped ≡ Some (name, given)
  unfolding end
  stopped =
      ap (λ (w : Walk). (fold (walked top.rules (names_of (built modeplan))) w given).stopped) below.met
      ∙ (stops top.rules (names_of (built modeplan)) (met_at name) name [] given refl).0

  held : end.held ≡ nothing_held
  unfolding end
  held =
      ap (λ (w : Walk). (fold (walked top.rules (names_of (built modeplan))) w given).held) below.met
      ∙ (stops top.rules (names_of (built modeplan)) (met_at name) name [] given refl).1

  enters : entered (built modeplan) end.stopped ≡ Some (rows_at s given)
  enters = ap (entered (built modeplan)) stopped ∙ ap (option_map (λ t. rows_at t given)) below.is

  no_fault_below : entered_fault (built modeplan) end.stopped ≡ []
  no_fault_below =
      ap (entered_fault (built modeplan)) stopped ∙ ap (λ t. option_map_or (λ t. level_fault t [] nothing_held given false []) t []) below.is ∙ taken.faultless

  no_fault_above : walk_fault top (names_of (built modeplan)) (walk_from nothing_held) (name ∷ given) ≡ []
  unfolding walk_fault
  no_fault_above =
      ap₂ (λ (kinds : Kinds) (w : Walk). or_else kinds (walk_fault top (names_of (built modeplan)) w given)) below.quiet below.met
      ∙ no_more_faults top (names_of (built modeplan)) (met_at name) name [] given refl

  abbrev end_faults : Held → Bool → Kinds
  end_faults h has_subcommand =
      or_else (settle_fault top.rules top.args_override_self h)
      (or_else (defaults_fault (settled top.rules h).rows top.rules) (check_fault top (finished top.rules h) has_subcommand))

  no_fault_at_end : end_faults nothing_held true ≡ []
  unfolding clap_on_literals
  no_fault_at_end = refl

  pub found_at : (program : Text) → IsFoundAt (program ∷ name ∷ given) s.name rows
  unfolding end
  found_at program = record {
    faultless =
        ap₂ (λ (kinds more : Kinds). or_else kinds (or_else more (end_faults end.held (is_some (entered (built modeplan) end.stopped)))))
        no_fault_above no_fault_below
        ∙ ap₂ end_faults held (ap is_some enters) ∙ no_fault_at_end;
    finds = enters ∙ ap (λ (found : List Row). Some (s.name, found)) taken.finds;
  }

pub is_compile : IsBelow (codes "compile") (leaf (codes "compile") four (codes "format" ∷ codes "zone" ∷ []))
unfolding clap_on_literals
is_compile = record { met = refl; quiet = refl; is = refl }

pub is_migrate : IsBelow (codes "migrate") (leaf (codes "migrate") single_word (codes "format" ∷ []))
unfolding clap_on_literals
is_migrate = record { met = refl; quiet = refl; is = refl }

pub is_contract : IsBelow (codes "contract") (leaf (codes "contract") single_word (codes "keep" ∷ []))
unfolding clap_on_literals
is_contract = record { met = refl; quiet = refl; is = refl }

pub is_check : IsBelow (codes "check") (leaf (codes "check") two [])
unfolding clap_on_literals
is_check = record { met = refl; quiet = refl; is = refl }

pub is_sample : IsBelow (codes "sample") (leaf (codes "sample") single_word [])
unfolding clap_on_literals
is_sample = record { met = refl; quiet = refl; is = refl }

pub is_answer : IsBelow (codes "answer") (leaf (codes "answer") two (codes "hierarchy" ∷ limits))
unfolding clap_on_literals
is_answer = record { met = refl; quiet = refl; is = refl }

pub is_certify : IsBelow (codes "certify") (leaf (codes "certify") two (codes "hierarchy" ∷ limits))
unfolding clap_on_literals
is_certify = record { met = refl; quiet = refl; is = refl }

pub is_verify : IsBelow (codes "verify") (leaf (codes "verify") two (codes "hierarchy" ∷ []))
unfolding clap_on_literals
is_verify = record { met = refl; quiet = refl; is = refl }

pub is_few : IsBelow (codes "few") (leaf (codes "few") two (codes "places" ∷ []))
unfolding clap_on_literals
is_few = record { met = refl; quiet = refl; is = refl }

pub is_latest : IsBelow (codes "latest") (leaf (codes "latest") two limits)
unfolding clap_on_literals
is_latest = record { met = refl; quiet = refl; is = refl }

pub is_certify_latest : IsBelow (codes "certify-latest") (leaf (codes "certify-latest") two limits)
unfolding clap_on_literals
is_certify_latest = record { met = refl; quiet = refl; is = refl }

pub is_verify_latest : IsBelow (codes "verify-latest") (leaf (codes "verify-latest") two [])
unfolding clap_on_literals
is_verify_latest = record { met = refl; quiet = refl; is = refl }

pub is_profile : IsBelow (codes "profile") (leaf (codes "profile") two (codes "window" ∷ codes "places" ∷ []))
unfolding clap_on_literals
is_profile = record { met = refl; quiet = refl; is = refl }

pub is_matrix : IsBelow (codes "matrix") (leaf (codes "matrix") six (codes "hierarchy" ∷ codes "places" ∷ []))
unfolding clap_on_literals
is_matrix = record { met = refl; quiet = refl; is = refl }

pub is_requests : IsBelow (codes "requests") (leaf (codes "requests") two (codes "hierarchy" ∷ limits))
unfolding clap_on_literals
is_requests = record { met = refl; quiet = refl; is = refl }
