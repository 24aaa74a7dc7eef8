-- What a command line of the book asks for, and which words ask for it.
use Rattle.std.specs.Prelude.{◌≡◌, ℕ, ◌&&◌, ◌||◌, nat_le, nat_eq, Bool, false, List, [], ◌∷◌, length, codes, find, Option, Some, None, option_and_then, option_map, if◌then◌else◌, bytes_eq}
use Rattle.std.specs.List.{list_all}
use Rattle.journey_book.specs.Given.{Given, given_by}
pub use Rattle.journey_book.specs.{declared.words.BookCommand.BookCommand, declared.words.Keeping.Keeping, declared.words.ReportAsked.ReportAsked, declared.words.ReportKind.ReportKind, declared.words.ReportKind.TheVariants.Recheck, declared.words.ReportKind.TheVariants.Review}
use Rattle.journey_book.specs.declared.words.BookCommand.TheVariants as command

-- a command with what it works on: names, and the paths of files; and whether it is to fail where a line of its
-- report is not well
pub data BookRequest : Type 0 where
  keep : (name region certificate : List ℕ) (hierarchy : Option (List ℕ)) → BookRequest
  drop : (name : List ℕ) → BookRequest
  list : BookRequest
  show : (name : List ℕ) → BookRequest
  report : (kind : ReportKind) (region : List ℕ) (hierarchy : Option (List ℕ)) (fail : Bool) → BookRequest

abbrev pub asked_keeping : Keeping → BookRequest
asked_keeping what = keep what.name.now what.region.now what.certificate.now (option_map (λ h. h.now) what.hierarchy)

abbrev pub asked_report : ReportAsked → BookRequest
asked_report asked = report asked.kind asked.region.now (option_map (λ h. h.now) asked.hierarchy) asked.fail

abbrev pub book_request_of : BookCommand → BookRequest
book_request_of (command.Keep what) = asked_keeping what
book_request_of (command.Drop name) = drop name.now
book_request_of command.List = list
book_request_of (command.Show name) = show name.now
book_request_of (command.Report asked) = asked_report asked

-- a small letter or a digit
abbrev pub is_letter_or_digit : ℕ → Bool
is_letter_or_digit b = (nat_le 97 b && nat_le b 122) || (nat_le 48 b && nat_le b 57)

abbrev pub begins_name : List ℕ → Bool
begins_name [] = false
begins_name (b ∷ rest) = is_letter_or_digit b

abbrev pub is_book_name_byte : ℕ → Bool
is_book_name_byte b = is_letter_or_digit b || nat_eq b 45 || nat_eq b 95

-- a name is 1 to 64 small letters, digits, `-` and `_`, and begins with a letter or a digit
abbrev pub is_book_name : List ℕ → Bool
is_book_name word = begins_name word && nat_le (length word) 64 && list_all is_book_name_byte word

-- ---- what each command asks for, by its plain words, the file behind `--hierarchy`, and whether `--fail` stands there

abbrev pub keep_by : List (List ℕ) → Option (List ℕ) → Bool → Option BookRequest
keep_by (name ∷ region ∷ certificate ∷ []) hierarchy false =
    if is_book_name name then Some (keep name region certificate hierarchy) else None
keep_by _ _ _ = None

abbrev pub drop_by : List (List ℕ) → Option (List ℕ) → Bool → Option BookRequest
drop_by (name ∷ []) None false = if is_book_name name then Some (drop name) else None
drop_by _ _ _ = None

abbrev pub list_by : List (List ℕ) → Option (List ℕ) → Bool → Option BookRequest
list_by [] None false = Some list
list_by _ _ _ = None

abbrev pub show_by : List (List ℕ) → Option (List ℕ) → Bool → Option BookRequest
show_by (name ∷ []) None false = if is_book_name name then Some (show name) else None
show_by _ _ _ = None

abbrev pub report_by : ReportKind → List (List ℕ) → Option (List ℕ) → Bool → Option BookRequest
report_by kind (region ∷ []) hierarchy fail = Some (report kind region hierarchy fail)
report_by kind _ _ _ = None

-- the commands by their names
abbrev pub book_commands : List (List ℕ × (List (List ℕ) → Option (List ℕ) → Bool → Option BookRequest))
book_commands =
    (codes "keep", keep_by)
    ∷ (codes "drop", drop_by)
    ∷ (codes "list", list_by)
    ∷ (codes "show", show_by)
    ∷ (codes "recheck", report_by Recheck)
    ∷ (codes "review", report_by Review)
    ∷ []

-- what a command of this name asks for, where this stands behind it
abbrev pub request_by : List ℕ → Given → Option BookRequest
request_by name given =
    option_and_then (λ command. command.1 given.words given.hierarchy given.fail)
    (find (λ command. bytes_eq command.0 name) book_commands)

-- ---- what words ask for

-- behind the program's name and the book's, which may be any, stand a command's name and its words
abbrev pub request_in_words : List (List ℕ) → Option BookRequest
request_in_words (program ∷ book ∷ name ∷ behind) = option_and_then (request_by name) (given_by behind)
request_in_words _ = None

-- the words ask for this
abbrev pub AsksOfBook : List (List ℕ) → BookRequest → Type 0
AsksOfBook words r = request_in_words words ≡ Some r

-- the words ask for nothing that there is
abbrev pub AreRefusedByBook : List (List ℕ) → Type 0
AreRefusedByBook words = (r : BookRequest) → AsksOfBook words r → ⊥
