-- Words in the plain form are taken, and found for what they are.
use Rattle.std.proofs.Common.{◌≡◌, ◌∙◌, ℕ, List, [], ◌∷◌, ◌++◌, Option, Some, None, refl, sym, append-nil, append_assoc, codes, map}
use Rattle.clap.specs.Walk.{Held, idle, arg_by_id, finished, option_word, Row, Text, Walk, nothing_held, walked}
use Rattle.clap.specs.Simple.{Shape, built_leaf, inherited, marked_built, with_leaf_noted}
use Rattle.clap.specs.Faults.{turn_fault}
use Rattle.clap.specs.declared.parser.matches.ValueSource.TheVariants.{CommandLine}
use Rattle.clap.specs.declared.builder.value_parser.Reading.TheVariants.{AsWritten}
use Rattle.clap.proofs.OnLiterals.{clap_on_literals}
use Rattle.command_line.specs.{command_of, limits, modeplan, single_word, two, four, six, ArePlainWords, IsPlainWord, option_values, option_words}
use Rattle.command_line.proofs.WordSteps.{Reads, Walks, between, end_fault, ends, name_more, reads, value_more, waits_for, word_more}

-- what is found for one value
abbrev pub found : Text → Text → Row
found id word = record { id = id; values = word ∷ []; count = None; source = Some CommandLine; reading = AsWritten }

-- the command below the program's, as it is built
abbrev pub leaf : Text → List Text → List Text → Shape
leaf name words options = built_leaf (inherited (with_leaf_noted (marked_built modeplan.top)) (command_of name words options))

-- these rows are held, and this value is yet to join them
abbrev holding : List Row → Text → List Text → Held
holding rows id values = record { rows = rows; pending = Some (id, values); skip = 0 }

-- ---- the words that must be given

one_word : (name : Text) (options : List Text) (a : Text) (rest : List Text) (end : Walk) → IsPlainWord a
    → Walks (leaf name single_word options) (between (holding [] (codes "first") (a ∷ [])) 2) rest end
    → Walks (leaf name single_word options) (between nothing_held 1) (a ∷ rest) end
unfolding clap_on_literals
one_word name options a rest end plain walks =
    word_more (leaf name single_word options) nothing_held (holding [] (codes "first") (a ∷ [])) 1 2 end a rest plain refl refl walks

-- the first two of a command's words
abbrev two_of : Text → Text → Held
two_of a b = holding (found (codes "first") a ∷ []) (codes "second") (b ∷ [])

two_words : (name : Text) (options : List Text) (a b : Text) (rest : List Text) (end : Walk) → IsPlainWord a → IsPlainWord b
    → Walks (leaf name two options) (between (two_of a b) 3) rest end
    → Walks (leaf name two options) (between nothing_held 1) (a ∷ b ∷ rest) end
unfolding clap_on_literals
two_words name options a b rest end plain_a plain_b walks =
    let s = leaf name two options in
    word_more s nothing_held (holding [] (codes "first") (a ∷ [])) 1 2 end a (b ∷ rest) plain_a refl refl
    (word_more s (holding [] (codes "first") (a ∷ [])) (two_of a b) 2 3 end b rest plain_b refl refl walks)

abbrev four_of : Text → Text → Text → Text → Held
four_of a b d e = holding (found (codes "first") a ∷ found (codes "second") b ∷ found (codes "third") d ∷ []) (codes "fourth") (e ∷ [])

four_words : (name : Text) (options : List Text) (a b d e : Text) (rest : List Text) (end : Walk) → ArePlainWords (a ∷ b ∷ d ∷ e ∷ [])
    → Walks (leaf name four options) (between (four_of a b d e) 5) rest end
    → Walks (leaf name four options) (between nothing_held 1) (a ∷ b ∷ d ∷ e ∷ rest) end
unfolding clap_on_literals
four_words name options a b d e rest end (plain_a, (plain_b, (plain_d, (plain_e, _)))) walks =
    let s = leaf name four options in
    let h = holding [] (codes "first") (a ∷ []) in
    let k = holding (found (codes "first") a ∷ found (codes "second") b ∷ []) (codes "third") (d ∷ []) in
    word_more s nothing_held h 1 2 end a (b ∷ d ∷ e ∷ rest) plain_a refl refl
    (word_more s h (two_of a b) 2 3 end b (d ∷ e ∷ rest) plain_b refl refl
    (word_more s (two_of a b) k 3 4 end d (e ∷ rest) plain_d refl refl
    (word_more s k (four_of a b d e) 4 5 end e rest plain_e refl refl walks)))

abbrev rows_of_four : Text → Text → Text → Text → List Row
rows_of_four a b d e = found (codes "first") a ∷ found (codes "second") b ∷ found (codes "third") d ∷ found (codes "fourth") e ∷ []

abbrev six_of : Text → Text → Text → Text → Text → Text → Held
six_of a b d e f g = holding (rows_of_four a b d e ++ found (codes "fifth") f ∷ []) (codes "sixth") (g ∷ [])

six_words : (name : Text) (options : List Text) (a b d e f g : Text) (rest : List Text) (end : Walk) → ArePlainWords (a ∷ b ∷ d ∷ e ∷ f ∷ g ∷ [])
    → Walks (leaf name six options) (between (six_of a b d e f g) 7) rest end
    → Walks (leaf name six options) (between nothing_held 1) (a ∷ b ∷ d ∷ e ∷ f ∷ g ∷ rest) end
unfolding clap_on_literals
six_words name options a b d e f g rest end (pa, (pb, (pd, (pe, (pf, (pg, _)))))) walks =
    let s = leaf name six options in
    let h = holding [] (codes "first") (a ∷ []) in
    let k = holding (found (codes "first") a ∷ found (codes "second") b ∷ []) (codes "third") (d ∷ []) in
    let l = holding (rows_of_four a b d e) (codes "fifth") (f ∷ []) in
    word_more s nothing_held h 1 2 end a (b ∷ d ∷ e ∷ f ∷ g ∷ rest) pa refl refl
    (word_more s h (two_of a b) 2 3 end b (d ∷ e ∷ f ∷ g ∷ rest) pb refl refl
    (word_more s (two_of a b) k 3 4 end d (e ∷ f ∷ g ∷ rest) pd refl refl
    (word_more s k (four_of a b d e) 4 5 end e (f ∷ g ∷ rest) pe refl refl
    (word_more s (four_of a b d e) l 5 6 end f (g ∷ rest) pf refl refl
    (word_more s l (six_of a b d e f g) 6 7 end g rest pg refl refl walks)))))

-- ---- all words, with their options

-- options with the values that are given for them, by the names that words have for them
abbrev pub dashed : List (Text × Option Text) → List (Text × Option Text)
dashed options = map (λ (option : Text × Option Text). (45 ∷ 45 ∷ option.0, option.1)) options

abbrev pub ids : List (Text × Option Text) → List Text
ids options = map (λ (option : Text × Option Text). option.0) options

-- what is found for options
abbrev pub found_options : List (Text × Option Text) → List Row
found_options [] = []
found_options ((id, None) ∷ options) = found_options options
found_options ((id, Some value) ∷ options) = found id value ∷ found_options options

-- the command takes an option of this id with the value v
abbrev TakesOption : Shape → ℕ → Held → List Row → Text → Text → Type 0
TakesOption s position before rows id v =
    (turn_fault s [] (between before position) (45 ∷ 45 ∷ id) ≡ [])
    × (walked s.rules [] (between before position) (45 ∷ 45 ∷ id) ≡ waits_for id (holding rows id []) position)
    × (option_word (arg_by_id s.rules id) id v (holding rows id []) ≡ (holding rows id (v ∷ []), idle))

-- the command takes each of these options or goes without it, in this order, and then nothing is missing
abbrev TakesOptions : Shape → ℕ → Held → List Row → List Text → Type 0
TakesOptions s position before rows [] = (end_fault s before ≡ []) × (finished s.rules before ≡ rows)
TakesOptions s position before rows (id ∷ more) =
    TakesOptions s position before rows more
    × ((v : Text) → TakesOption s position before rows id v × TakesOptions s position (holding rows id (v ∷ [])) (rows ++ found id v ∷ []) more)

-- the walk over all options ends well, and finds them
record Finds (s : Shape) (position : ℕ) (before : Held) (words : List Text) (rows : List Row) : Type 0 where
  end : Held
  walks : Walks s (between before position) words (between end position)
  faultless : end_fault s end ≡ []
  finds : finished s.rules end ≡ rows

finds_options : (s : Shape) (position : ℕ) (before : Held) (rows : List Row) (options : List (Text × Option Text))
    → ArePlainWords (option_values (dashed options)) → TakesOptions s position before rows (ids options)
    → Finds s position before (option_words (dashed options)) (rows ++ found_options options)
finds_options s position before rows [] plain takes = record {
  end = before;
  walks = ends s _;
  faultless = takes.0;
  finds = takes.1 ∙ sym (append-nil rows);
}
finds_options s position before rows ((id, None) ∷ options) plain takes = finds_options s position before rows options plain takes.0
finds_options s position before rows ((id, Some v) ∷ options) (plain, more) takes =
    let (taken, later) = takes.1 v in
    let rest = finds_options s position (holding rows id (v ∷ [])) (rows ++ found id v ∷ []) options more later in
    record {
      end = rest.end;
      walks =
          name_more s id before (holding rows id []) position _ (45 ∷ 45 ∷ id) _ taken.0 taken.1
          (value_more s id (holding rows id []) (holding rows id (v ∷ [])) position _ v _ plain taken.2 rest.walks);
      faultless = rest.faultless;
      finds = rest.finds ∙ append_assoc rows (found id v ∷ []) (found_options options);
    }

-- a command that takes its words takes them with its options, too
reads_options : (s : Shape) (position : ℕ) (before : Held) (rows : List Row) (given : List Text) (options : List (Text × Option Text))
    → ((rest : List Text) (end : Walk) → Walks s (between before position) rest end → Walks s (between nothing_held 1) (given ++ rest) end)
    → ArePlainWords (option_values (dashed options)) → TakesOptions s position before rows (ids options)
    → Reads s (given ++ option_words (dashed options)) (rows ++ found_options options)
reads_options s position before rows given options gives plain takes =
    let found = finds_options s position before rows options plain takes in
    reads s (given ++ option_words (dashed options)) found.end position _ (gives _ _ found.walks) found.faultless found.finds

-- ---- commands on one thing

abbrev pub TakesAfterOne : List Text → Type 0
TakesAfterOne options = (name a : Text) → TakesOptions (leaf name single_word options) 2 (holding [] (codes "first") (a ∷ [])) (found (codes "first") a ∷ []) options

pub after_one : TakesAfterOne []
unfolding clap_on_literals
after_one name a = (refl, refl)

pub format_after_one : TakesAfterOne (codes "format" ∷ [])
unfolding clap_on_literals
format_after_one name a = ((refl, refl), λ v. ((refl, refl, refl), (refl, refl)))

pub keep_after_one : TakesAfterOne (codes "keep" ∷ [])
unfolding clap_on_literals
keep_after_one name a = ((refl, refl), λ v. ((refl, refl, refl), (refl, refl)))

pub reads_one : (name a : Text) (options : List (Text × Option Text)) → TakesAfterOne (ids options)
    → ArePlainWords (a ∷ option_values (dashed options))
    → Reads (leaf name single_word (ids options)) (a ∷ option_words (dashed options)) (found (codes "first") a ∷ found_options options)
reads_one name a options takes (plain, more) =
    reads_options (leaf name single_word (ids options)) 2 (holding [] (codes "first") (a ∷ [])) (found (codes "first") a ∷ []) (a ∷ []) options
    (λ rest end. one_word name (ids options) a rest end plain) more (takes name a)

-- ---- commands on two things

abbrev pub rows_of_two : Text → Text → List Row
rows_of_two a b = found (codes "first") a ∷ found (codes "second") b ∷ []

abbrev pub TakesAfterTwo : List Text → Type 0
TakesAfterTwo options = (name a b : Text) → TakesOptions (leaf name two options) 3 (two_of a b) (rows_of_two a b) options

pub after_two : TakesAfterTwo []
unfolding clap_on_literals
after_two name a b = (refl, refl)

pub hierarchy_after_two : TakesAfterTwo (codes "hierarchy" ∷ [])
unfolding clap_on_literals
hierarchy_after_two name a b = ((refl, refl), λ v. ((refl, refl, refl), (refl, refl)))

pub places_after_two : TakesAfterTwo (codes "places" ∷ [])
unfolding clap_on_literals
places_after_two name a b = ((refl, refl), λ v. ((refl, refl, refl), (refl, refl)))

pub limits_after_two : TakesAfterTwo limits
unfolding clap_on_literals
limits_after_two name a b =
    (((refl, refl), λ p. ((refl, refl, refl), (refl, refl))), λ l. ((refl, refl, refl), ((refl, refl), λ p. ((refl, refl, refl), (refl, refl)))))

pub window_after_two : TakesAfterTwo (codes "window" ∷ codes "places" ∷ [])
unfolding clap_on_literals
window_after_two name a b =
    (((refl, refl), λ p. ((refl, refl, refl), (refl, refl))), λ w. ((refl, refl, refl), ((refl, refl), λ p. ((refl, refl, refl), (refl, refl)))))

pub all_after_two : TakesAfterTwo (codes "hierarchy" ∷ limits)
unfolding clap_on_literals
all_after_two name a b = (
  (((refl, refl), λ p. ((refl, refl, refl), (refl, refl))), λ l. ((refl, refl, refl), ((refl, refl), λ p. ((refl, refl, refl), (refl, refl))))),
  λ h. (
    (refl, refl, refl),
    (((refl, refl), λ p. ((refl, refl, refl), (refl, refl))), λ l. ((refl, refl, refl), ((refl, refl), λ p. ((refl, refl, refl), (refl, refl))))),
  ),
)

pub reads_two : (name a b : Text) (options : List (Text × Option Text)) → TakesAfterTwo (ids options)
    → ArePlainWords (a ∷ b ∷ option_values (dashed options))
    → Reads (leaf name two (ids options)) (a ∷ b ∷ option_words (dashed options)) (rows_of_two a b ++ found_options options)
reads_two name a b options takes (pa, (pb, more)) =
    reads_options (leaf name two (ids options)) 3 (two_of a b) (rows_of_two a b) (a ∷ b ∷ []) options
    (λ rest end. two_words name (ids options) a b rest end pa pb) more (takes name a b)

-- ---- the commands on more

abbrev pub rows_of_six : Text → Text → Text → Text → Text → Text → List Row
rows_of_six a b d e f g = rows_of_four a b d e ++ found (codes "fifth") f ∷ found (codes "sixth") g ∷ []

takes_after_four : (name a b d e : Text)
    → TakesOptions (leaf name four (codes "format" ∷ codes "zone" ∷ [])) 5 (four_of a b d e) (rows_of_four a b d e) (codes "format" ∷ codes "zone" ∷ [])
unfolding clap_on_literals
takes_after_four name a b d e =
    (((refl, refl), λ z. ((refl, refl, refl), (refl, refl))), λ f. ((refl, refl, refl), ((refl, refl), λ z. ((refl, refl, refl), (refl, refl)))))

pub reads_four : (name a b d e : Text) (format zone : Option Text)
    → ArePlainWords (a ∷ b ∷ d ∷ e ∷ option_values ((codes "--format", format) ∷ (codes "--zone", zone) ∷ []))
    → Reads (leaf name four (codes "format" ∷ codes "zone" ∷ []))
    (a ∷ b ∷ d ∷ e ∷ option_words ((codes "--format", format) ∷ (codes "--zone", zone) ∷ []))
    (rows_of_four a b d e ++ found_options ((codes "format", format) ∷ (codes "zone", zone) ∷ []))
reads_four name a b d e format zone (pa, (pb, (pd, (pe, more)))) =
    let options : List (Text × Option Text) = (codes "format", format) ∷ (codes "zone", zone) ∷ [] in
    reads_options (leaf name four (ids options)) 5 (four_of a b d e) (rows_of_four a b d e) (a ∷ b ∷ d ∷ e ∷ []) options
    (λ rest end. four_words name (ids options) a b d e rest end (pa, (pb, (pd, (pe, tt))))) more (takes_after_four name a b d e)

takes_after_six : (name a b d e f g : Text)
    → TakesOptions (leaf name six (codes "hierarchy" ∷ codes "places" ∷ [])) 7 (six_of a b d e f g) (rows_of_six a b d e f g)
    (codes "hierarchy" ∷ codes "places" ∷ [])
unfolding clap_on_literals
takes_after_six name a b d e f g =
    (((refl, refl), λ p. ((refl, refl, refl), (refl, refl))), λ h. ((refl, refl, refl), ((refl, refl), λ p. ((refl, refl, refl), (refl, refl)))))

pub reads_six : (name a b d e f g : Text) (hierarchy most : Option Text)
    → ArePlainWords (a ∷ b ∷ d ∷ e ∷ f ∷ g ∷ option_values ((codes "--hierarchy", hierarchy) ∷ (codes "--places", most) ∷ []))
    → Reads (leaf name six (codes "hierarchy" ∷ codes "places" ∷ []))
    (a ∷ b ∷ d ∷ e ∷ f ∷ g ∷ option_words ((codes "--hierarchy", hierarchy) ∷ (codes "--places", most) ∷ []))
    (rows_of_six a b d e f g ++ found_options ((codes "hierarchy", hierarchy) ∷ (codes "places", most) ∷ []))
reads_six name a b d e f g hierarchy most (pa, (pb, (pd, (pe, (pf, (pg, more)))))) =
    let options : List (Text × Option Text) = (codes "hierarchy", hierarchy) ∷ (codes "places", most) ∷ [] in
    reads_options (leaf name six (ids options)) 7 (six_of a b d e f g) (rows_of_six a b d e f g) (a ∷ b ∷ d ∷ e ∷ f ∷ g ∷ []) options
    (λ rest end. six_words name (ids options) a b d e f g rest end (pa, (pb, (pd, (pe, (pf, (pg, tt))))))) more (takes_after_six name a b d e f g)
