-- Words in the plain form: the program's name, a command's name, the words that it must be given, and then its options.
use Rattle.std.specs.Prelude.{◌≡◌, ⊤, Bool, true, not, nat_eq, List, [], ◌∷◌, ◌++◌, Option, None, Some}
use Rattle.clap.specs.Walk.{Text}

-- the word begins with no "-", or is "-" alone
abbrev pub is_plain_word : Text → Bool
is_plain_word (first ∷ second ∷ more) = not (nat_eq first 45)
is_plain_word _ = true

abbrev pub IsPlainWord : Text → Type 0
IsPlainWord word = is_plain_word word ≡ true

abbrev pub ArePlainWords : List Text → Type 0
ArePlainWords [] = ⊤
ArePlainWords (word ∷ words) = IsPlainWord word × ArePlainWords words

-- options with the values that are given for them
abbrev pub option_words : List (Text × Option Text) → List Text
option_words [] = []
option_words ((name, None) ∷ options) = option_words options
option_words ((name, Some value) ∷ options) = name ∷ value ∷ option_words options

abbrev pub option_values : List (Text × Option Text) → List Text
option_values [] = []
option_values ((name, None) ∷ options) = option_values options
option_values ((name, Some value) ∷ options) = value ∷ option_values options

-- the words are those, and all but the options' names are plain
pub record IsInForm (words : List Text) (name : Text) (given : List Text) (options : List (Text × Option Text)) : Type 0 where
  pub program : Text
  pub are : words ≡ program ∷ name ∷ given ++ option_words options
  pub plain : ArePlainWords (given ++ option_values options)
