-- What a command line asks for, and which words ask for it.
use Rattle.std.specs.Prelude.{◌≡◌, ℕ, ◌+◌, ◌*◌, ◌^◌, ◌==◌, ◌&&◌, nat_eq, nat_le, List, [], ◌∷◌, length, codes, find, Option, Some, None, option_and_then, option_map, if◌then◌else◌, bytes_eq}
use Rattle.std.specs.Result.{result_ok}
use Rattle.clap.specs.Words.{Row, fault_of, first_of, subcommand_of}
use Rattle.plain_texts.specs.{fixed_at, number_at}
use Rattle.service_days.specs.{DaysMeaning.DaysMeaning, below_sixty, days_made}
use Rattle.region_file.specs.{Format, Text, Binary}
use Rattle.command_line.specs.{modeplan, IsInForm}
pub use Rattle.command_words.specs.declared.command.Command.{Command}
use Rattle.command_words.specs.declared.command.Command.TheVariants as command

-- a command with what it works on: the names of files, query lines, days, formats and numbers
pub data Request : Type 0 where
  compile : (map feed : List ℕ) (days : DaysMeaning) (format : Format) → Request
  migrate : (region : List ℕ) (format : Format) → Request
  contract : (region : List ℕ) (keep : ℕ) → Request
  answer : (region queries : List ℕ) (hierarchy : Option (List ℕ)) (labels places : Option ℕ) → Request
  certify : (region query : List ℕ) (hierarchy : Option (List ℕ)) (labels places : Option ℕ) → Request
  verify : (region certificate : List ℕ) (hierarchy : Option (List ℕ)) → Request
  check : (region hierarchy : List ℕ) → Request
  sample : (size : ℕ) → Request
  latest : (region queries : List ℕ) (labels places : Option ℕ) → Request
  certify_latest : (region query : List ℕ) (labels places : Option ℕ) → Request
  verify_latest : (region certificate : List ℕ) → Request
  few : (region queries : List ℕ) (places : Option ℕ) → Request
  profile : (region queries : List ℕ) (window : ℕ) (places : Option ℕ) → Request
  matrix : (region origins destinations date time expr : List ℕ) (hierarchy : Option (List ℕ)) (places : Option ℕ) → Request
  requests : (region lines : List ℕ) (hierarchy : Option (List ℕ)) (labels places : Option ℕ) → Request

-- what a command of the program asks for
abbrev pub request_of : Command → Request
request_of (command.Compile map feed days format) = compile map.now feed.now days format
request_of (command.Migrate region format) = migrate region.now format
request_of (command.Contract region keep) = contract region.now keep
request_of (command.Answer over hierarchy limits) =
    answer over.region.now over.subject.now (option_map (λ h. h.now) hierarchy) limits.labels limits.places
request_of (command.Certify over hierarchy limits) =
    certify over.region.now over.subject.now (option_map (λ h. h.now) hierarchy) limits.labels limits.places
request_of (command.Verify over hierarchy) = verify over.region.now over.subject.now (option_map (λ h. h.now) hierarchy)
request_of (command.Check over) = check over.region.now over.subject.now
request_of (command.Sample size) = sample size
request_of (command.Latest over limits) = latest over.region.now over.subject.now limits.labels limits.places
request_of (command.CertifyLatest over limits) = certify_latest over.region.now over.subject.now limits.labels limits.places
request_of (command.VerifyLatest over) = verify_latest over.region.now over.subject.now
request_of (command.Few over places) = few over.region.now over.subject.now places
request_of (command.Profile over window places) = profile over.region.now over.subject.now window places
request_of (command.Matrix times) =
    matrix times.region.now times.origins.now times.destinations.now times.date.now times.time.now times.expr.now
    (option_map (λ h. h.now) times.hierarchy) times.places
request_of (command.Requests over hierarchy limits) =
    requests over.region.now over.subject.now (option_map (λ h. h.now) hierarchy) limits.labels limits.places

-- a number is 1 to 8 digits
abbrev pub small_number_of_word : List ℕ → Option ℕ
small_number_of_word word = if nat_le 1 (length word) && nat_le (length word) 8 then fixed_at word else None

-- a date is 8 digits
abbrev pub date_of_word : List ℕ → Option ℕ
date_of_word word = if nat_eq (length word) 8 then fixed_at word else None

-- the days that a date, a number and a zone rule, where there is one, give, if they give days
abbrev pub days_of : List ℕ → List ℕ → Option (List ℕ) → Option DaysMeaning
days_of date count rule = option_and_then (λ first. option_and_then (λ days. result_ok (days_made first days rule)) (small_number_of_word count)) (date_of_word date)

-- a format is named by its number
abbrev pub format_of : List ℕ → Option Format
format_of word = if bytes_eq word (codes "1") then Some Text else (if bytes_eq word (codes "2") then Some Binary else None)

-- the format that an option says, or this one where none does
abbrev pub format_or : Format → Option (List ℕ) → Option Format
format_or other None = Some other
format_or other (Some word) = format_of word

-- the days and the format of a region to be compiled, in format 1 where no option says another
abbrev pub days_and_format : List ℕ → List ℕ → Option (List ℕ) × Option (List ℕ) → Option (DaysMeaning × Format)
days_and_format date count said =
    option_and_then (λ format. option_map (λ days. (days, format)) (days_of date count said.1)) (format_or Text said.0)

-- how many nodes are to be kept: a number up to 16,777,216
abbrev pub keep_of : List ℕ → Option ℕ
keep_of word = option_and_then (λ keep. if nat_le keep 16777216 then Some keep else None) (small_number_of_word word)

-- and none where no option says it
abbrev pub keep_or_none : Option (List ℕ) → Option ℕ
keep_or_none None = Some 0
keep_or_none (Some word) = keep_of word

-- the size of a sample city: a number from 1 to 300
abbrev pub size_of_word : List ℕ → Option ℕ
size_of_word word = option_and_then (λ size. if nat_le 1 size && nat_le size 300 then Some size else None) (small_number_of_word word)

-- HH:MM:SS, in seconds
abbrev pub seconds_of : List ℕ → Option ℕ
seconds_of (a ∷ b ∷ c ∷ d ∷ e ∷ f ∷ g ∷ h ∷ []) =
    if (c == 58) && (f == 58) then
    option_and_then (λ hours. option_and_then (λ minutes. option_map (λ seconds. (hours * 60 + minutes) * 60 + seconds)
    (option_and_then below_sixty (fixed_at (g ∷ h ∷ [])))) (option_and_then below_sixty (fixed_at (d ∷ e ∷ [])))) (fixed_at (a ∷ b ∷ []))
    else None
seconds_of _ = None

-- how long a window is, in milliseconds: from 00:00:01 to 24:00:00
abbrev pub window_of : List ℕ → Option ℕ
window_of word = option_and_then (λ seconds. if nat_le 1 seconds && nat_le seconds 86400 then Some (seconds * 1000) else None) (seconds_of word)

-- and two hours where no option says it
abbrev pub window_or_two_hours : Option (List ℕ) → Option ℕ
window_or_two_hours None = Some 7200000
window_or_two_hours (Some word) = window_of word

-- the most labels that a search may be limited to, and the most places for letters that an expression may have
abbrev pub most_labels : ℕ
most_labels = 10 ^ 12

abbrev pub most_places : ℕ
most_places = 200

-- a limit is a decimal number from 1 to so many
abbrev pub limit_of_word : ℕ → List ℕ → Option ℕ
limit_of_word most word = option_and_then (λ n. if nat_le 1 n then Some n else None) (number_at (most + 1) word)

-- and none where no option says it
abbrev pub limit_or_none : ℕ → Option (List ℕ) → Option (Option ℕ)
limit_or_none most None = Some None
limit_or_none most (Some word) = option_map (λ n. Some n) (limit_of_word most word)

-- the limits of labels and of places
abbrev pub limits_of : Option (List ℕ) → Option (List ℕ) → Option (Option ℕ × Option ℕ)
limits_of labels places =
    option_and_then (λ l. option_map (λ p. (l, p)) (limit_or_none most_places places)) (limit_or_none most_labels labels)

-- ---- what a command asks for, by what was found for its words and options

-- its first two words
abbrev pub two_at : List Row → Option (List ℕ × List ℕ)
two_at rows = option_and_then (λ first. option_map (λ second. (first, second)) (first_of (codes "second") rows)) (first_of (codes "first") rows)

-- the days and the format of a region to be compiled
abbrev pub days_and_format_at : List Row → Option (DaysMeaning × Format)
days_and_format_at rows =
    option_and_then (λ date. option_and_then (λ count. days_and_format date count (first_of (codes "format") rows, first_of (codes "zone") rows))
    (first_of (codes "fourth") rows)) (first_of (codes "third") rows)

-- the limit of places; the limits of labels and of places
abbrev pub places_at : List Row → Option (Option ℕ)
places_at rows = limit_or_none most_places (first_of (codes "places") rows)

abbrev pub limits_at : List Row → Option (Option ℕ × Option ℕ)
limits_at rows = limits_of (first_of (codes "labels") rows) (first_of (codes "places") rows)

abbrev pub compile_at : List Row → Option Request
compile_at rows = option_and_then (λ two. option_map (λ it. compile two.0 two.1 it.0 it.1) (days_and_format_at rows)) (two_at rows)

-- a region is written in format 2 where no option says another
abbrev pub migrate_at : List Row → Option Request
migrate_at rows = option_and_then (λ region. option_map (λ format. migrate region format) (format_or Binary (first_of (codes "format") rows))) (first_of (codes "first") rows)

abbrev pub contract_at : List Row → Option Request
contract_at rows = option_and_then (λ region. option_map (λ keep. contract region keep) (keep_or_none (first_of (codes "keep") rows))) (first_of (codes "first") rows)

abbrev pub check_at : List Row → Option Request
check_at rows = option_map (λ two. check two.0 two.1) (two_at rows)

abbrev pub sample_at : List Row → Option Request
sample_at rows = option_and_then (λ word. option_map (λ size. sample size) (size_of_word word)) (first_of (codes "first") rows)

abbrev pub answer_at : List Row → Option Request
answer_at rows =
    option_and_then (λ two. option_map (λ most. answer two.0 two.1 (first_of (codes "hierarchy") rows) most.0 most.1) (limits_at rows)) (two_at rows)

abbrev pub certify_at : List Row → Option Request
certify_at rows =
    option_and_then (λ two. option_map (λ most. certify two.0 two.1 (first_of (codes "hierarchy") rows) most.0 most.1) (limits_at rows)) (two_at rows)

abbrev pub verify_at : List Row → Option Request
verify_at rows = option_map (λ two. verify two.0 two.1 (first_of (codes "hierarchy") rows)) (two_at rows)

abbrev pub few_at : List Row → Option Request
few_at rows = option_and_then (λ two. option_map (λ places. few two.0 two.1 places) (places_at rows)) (two_at rows)

abbrev pub latest_at : List Row → Option Request
latest_at rows = option_and_then (λ two. option_map (λ most. latest two.0 two.1 most.0 most.1) (limits_at rows)) (two_at rows)

abbrev pub certify_latest_at : List Row → Option Request
certify_latest_at rows = option_and_then (λ two. option_map (λ most. certify_latest two.0 two.1 most.0 most.1) (limits_at rows)) (two_at rows)

abbrev pub verify_latest_at : List Row → Option Request
verify_latest_at rows = option_map (λ two. verify_latest two.0 two.1) (two_at rows)

abbrev pub profile_at : List Row → Option Request
profile_at rows =
    option_and_then (λ two. option_and_then (λ window. option_map (λ places. profile two.0 two.1 window places)
    (places_at rows)) (window_or_two_hours (first_of (codes "window") rows))) (two_at rows)

-- the date, the time and the expression of a table of travel times
abbrev pub asking_at : List Row → Option (List ℕ × List ℕ × List ℕ)
asking_at rows =
    option_and_then (λ date. option_and_then (λ time. option_map (λ expr. (date, time, expr))
    (first_of (codes "sixth") rows)) (first_of (codes "fifth") rows)) (first_of (codes "fourth") rows)

abbrev pub matrix_at : List Row → Option Request
matrix_at rows =
    option_and_then (λ two. option_and_then (λ destinations. option_and_then (λ asking. option_map (λ places.
    matrix two.0 two.1 destinations asking.0 asking.1 asking.2 (first_of (codes "hierarchy") rows) places)
    (places_at rows)) (asking_at rows)) (first_of (codes "third") rows)) (two_at rows)

abbrev pub requests_at : List Row → Option Request
requests_at rows =
    option_and_then (λ two. option_map (λ most. requests two.0 two.1 (first_of (codes "hierarchy") rows) most.0 most.1) (limits_at rows)) (two_at rows)

-- the commands by their names
abbrev pub commands : List (List ℕ × (List Row → Option Request))
commands =
    (codes "compile", compile_at)
    ∷ (codes "migrate", migrate_at)
    ∷ (codes "contract", contract_at)
    ∷ (codes "check", check_at)
    ∷ (codes "sample", sample_at)
    ∷ (codes "answer", answer_at)
    ∷ (codes "certify", certify_at)
    ∷ (codes "verify", verify_at)
    ∷ (codes "few", few_at)
    ∷ (codes "latest", latest_at)
    ∷ (codes "certify-latest", certify_latest_at)
    ∷ (codes "verify-latest", verify_latest_at)
    ∷ (codes "profile", profile_at)
    ∷ (codes "matrix", matrix_at)
    ∷ (codes "requests", requests_at)
    ∷ []

-- what the command of this name asks for
abbrev pub request_at : List ℕ → List Row → Option Request
request_at name rows = option_and_then (λ command. command.1 rows) (find (λ command. bytes_eq command.0 name) commands)

-- ---- what words ask for

-- the words ask for this: `clap` takes them, and this is what the command asks for that it finds in them
pub record AsksFor (words : List (List ℕ)) (r : Request) : Type 0 where
  pub taken : fault_of modeplan words ≡ []
  pub asks : option_and_then (λ found. request_at found.0 found.1) (subcommand_of modeplan words) ≡ Some r

-- the words ask for nothing that there is
abbrev pub AreRefused : List (List ℕ) → Type 0
AreRefused words = (r : Request) → AsksFor words r → ⊥

-- the options that limit, with what is given for them
abbrev pub limits_said : Option (List ℕ) → Option (List ℕ) → List (List ℕ × Option (List ℕ))
limits_said labels places = (codes "--labels", labels) ∷ (codes "--places", places) ∷ []

-- the words that ask for it in the plain form: the program's name, which may be any, the command's name, its words, and then its options
abbrev pub IsPlainForm : List (List ℕ) → Request → Type 0
IsPlainForm words (compile map feed days format) =
    (date count : List ℕ) × (named rule : Option (List ℕ))
    × IsInForm words (codes "compile") (map ∷ feed ∷ date ∷ count ∷ []) ((codes "--format", named) ∷ (codes "--zone", rule) ∷ [])
    × (days_and_format date count (named, rule) ≡ Some (days, format))
IsPlainForm words (migrate region format) =
    (named : Option (List ℕ)) × IsInForm words (codes "migrate") (region ∷ []) ((codes "--format", named) ∷ []) × (format_or Binary named ≡ Some format)
IsPlainForm words (contract region keep) =
    (number : Option (List ℕ)) × IsInForm words (codes "contract") (region ∷ []) ((codes "--keep", number) ∷ []) × (keep_or_none number ≡ Some keep)
IsPlainForm words (answer region queries hierarchy labels places) =
    (l p : Option (List ℕ)) × IsInForm words (codes "answer") (region ∷ queries ∷ []) ((codes "--hierarchy", hierarchy) ∷ limits_said l p)
    × (limits_of l p ≡ Some (labels, places))
IsPlainForm words (certify region query hierarchy labels places) =
    (l p : Option (List ℕ)) × IsInForm words (codes "certify") (region ∷ query ∷ []) ((codes "--hierarchy", hierarchy) ∷ limits_said l p)
    × (limits_of l p ≡ Some (labels, places))
IsPlainForm words (verify region certificate hierarchy) = IsInForm words (codes "verify") (region ∷ certificate ∷ []) ((codes "--hierarchy", hierarchy) ∷ [])
IsPlainForm words (check region hierarchy) = IsInForm words (codes "check") (region ∷ hierarchy ∷ []) []
IsPlainForm words (sample size) = (word : List ℕ) × IsInForm words (codes "sample") (word ∷ []) [] × (size_of_word word ≡ Some size)
IsPlainForm words (latest region queries labels places) =
    (l p : Option (List ℕ)) × IsInForm words (codes "latest") (region ∷ queries ∷ []) (limits_said l p) × (limits_of l p ≡ Some (labels, places))
IsPlainForm words (certify_latest region query labels places) =
    (l p : Option (List ℕ)) × IsInForm words (codes "certify-latest") (region ∷ query ∷ []) (limits_said l p) × (limits_of l p ≡ Some (labels, places))
IsPlainForm words (verify_latest region certificate) = IsInForm words (codes "verify-latest") (region ∷ certificate ∷ []) []
IsPlainForm words (few region queries places) =
    (p : Option (List ℕ)) × IsInForm words (codes "few") (region ∷ queries ∷ []) ((codes "--places", p) ∷ []) × (limit_or_none most_places p ≡ Some places)
IsPlainForm words (profile region queries window places) =
    (said p : Option (List ℕ)) × IsInForm words (codes "profile") (region ∷ queries ∷ []) ((codes "--window", said) ∷ (codes "--places", p) ∷ [])
    × (window_or_two_hours said ≡ Some window) × (limit_or_none most_places p ≡ Some places)
IsPlainForm words (matrix region origins destinations date time expr hierarchy places) =
    (p : Option (List ℕ)) × IsInForm words (codes "matrix") (region ∷ origins ∷ destinations ∷ date ∷ time ∷ expr ∷ [])
    ((codes "--hierarchy", hierarchy) ∷ (codes "--places", p) ∷ []) × (limit_or_none most_places p ≡ Some places)
IsPlainForm words (requests region lines hierarchy labels places) =
    (l p : Option (List ℕ)) × IsInForm words (codes "requests") (region ∷ lines ∷ []) ((codes "--hierarchy", hierarchy) ∷ limits_said l p)
    × (limits_of l p ≡ Some (labels, places))
