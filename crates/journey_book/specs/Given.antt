-- What the words behind a command say: plain ones, in order, and among them the options, each at most once.
use Rattle.std.specs.Prelude.{ℕ, ◌||◌, nat_lt, Bool, true, false, List, [], ◌∷◌, length, codes, Option, Some, None, is_some, option_and_then, option_map, if◌then◌else◌, bytes_eq}
pub use Rattle.journey_book.specs.{declared.given.GivenWords.GivenWords, declared.given.Plain.Plain}
use Rattle.journey_book.specs.declared.given.Plain.TheVariants as plain

-- plain words, the file that `--hierarchy` names, and whether `--fail` stands there
pub record Given : Type 0 where
  pub words : List (List ℕ)
  pub hierarchy : Option (List ℕ)
  pub fail : Bool

abbrev pub nothing_given : Given
nothing_given = record { words = []; hierarchy = None; fail = false }

-- a word is an option's, and so no plain word and no file; behind `--help` nothing is asked for
abbrev pub is_option : List ℕ → Bool
is_option word = bytes_eq word (codes "--fail") || bytes_eq word (codes "--hierarchy") || bytes_eq word (codes "--help")

abbrev pub with_fail : Given → Option Given
with_fail given = if given.fail then None else Some (record given { fail = true })

abbrev pub with_hierarchy : List ℕ → Given → Option Given
with_hierarchy file given =
    if is_option file then None
    else (if is_some given.hierarchy then None else Some (record given { hierarchy = Some file }))

-- no command has more than three plain words
abbrev pub with_plain : List ℕ → Given → Option Given
with_plain word given =
    if is_option word then None
    else (if nat_lt (length given.words) 3 then Some (record given { words = word ∷ given.words }) else None)

-- with this word in front
abbrev pub with_word : List ℕ → Given → Option Given
with_word word given = if bytes_eq word (codes "--fail") then with_fail given else with_plain word given

-- what words say, if they are those of any command; behind `--hierarchy` stands its file
abbrev pub given_by : List (List ℕ) → Option Given
given_by [] = Some nothing_given
given_by (word ∷ []) = with_word word nothing_given
given_by (word ∷ next ∷ rest) =
    if bytes_eq word (codes "--hierarchy") then option_and_then (with_hierarchy next) (given_by rest)
    else option_and_then (with_word word) (given_by (next ∷ rest))

-- ---- how the program holds them

abbrev pub given_words : Plain → List (List ℕ)
given_words plain.No = []
given_words (plain.One first) = first.now ∷ []
given_words (plain.Two first second) = first.now ∷ second.now ∷ []
given_words (plain.Three first second third) = first.now ∷ second.now ∷ third.now ∷ []

abbrev pub given_view : GivenWords → Given
given_view it = record {
  words = given_words it.plain;
  hierarchy = option_map (λ file. file.now) it.hierarchy;
  fail = it.fail;
}
