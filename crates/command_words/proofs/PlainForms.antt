-- Words in the plain form ask for what they say.
use Rattle.plan_base.proofs.Common.{◌≡◌, ◌∙◌, ℕ, List, [], ◌∷◌, ◌++◌, Option, Some, None, refl, ap, subst, sym, codes, option_map, option_and_then}
use Rattle.clap.specs.Words.{Row, Text, first_of}
use Rattle.service_days.specs.DaysMeaning.{DaysMeaning}
use Rattle.region_file.specs.{Format, Binary}
use Rattle.command_line.proofs.{NameLemmas.IsFoundAt, NameLemmas.found_at, NameLemmas.is_compile, NameLemmas.is_migrate, NameLemmas.is_contract, NameLemmas.is_check, NameLemmas.is_sample, NameLemmas.is_answer, NameLemmas.is_certify, NameLemmas.is_verify, NameLemmas.is_few, NameLemmas.is_latest, NameLemmas.is_certify_latest, NameLemmas.is_verify_latest, NameLemmas.is_profile, NameLemmas.is_matrix, NameLemmas.is_requests, PlainLemmas.found, PlainLemmas.found_options, PlainLemmas.rows_of_two, PlainLemmas.rows_of_six, PlainLemmas.reads_one, PlainLemmas.reads_two, PlainLemmas.reads_four, PlainLemmas.reads_six, PlainLemmas.after_one, PlainLemmas.format_after_one, PlainLemmas.keep_after_one, PlainLemmas.after_two, PlainLemmas.hierarchy_after_two, PlainLemmas.places_after_two, PlainLemmas.limits_after_two, PlainLemmas.window_after_two, PlainLemmas.all_after_two}
use Rattle.command_words.specs.{AsksFor, IsPlainForm, Request, compile, migrate, contract, answer, certify, verify, check, sample, latest, certify_latest, verify_latest, few, profile, matrix, requests, days_and_format, format_or, keep_or_none, limit_or_none, limits_at, limits_of, most_places, request_at, size_of_word, window_or_two_hours}

asks_for : (words : List Text) (program name : Text) (given : List Text) (rows : List Row) (r : Request) → words ≡ program ∷ name ∷ given
    → IsFoundAt (program ∷ name ∷ given) name rows → request_at name rows ≡ Some r → AsksFor words r
asks_for words program name given rows r are at is =
    subst (λ (ws : List Text). AsksFor ws r) (sym are) (record {
      taken = at.faultless;
      asks = ap (option_and_then (λ (it : Text × List Row). request_at it.0 it.1)) at.finds ∙ is;
    })

-- ---- what is found is what was said

-- what is found for the options that limit, and for those of a search
abbrev limits_found : Option Text → Option Text → List (Text × Option Text)
limits_found l p = (codes "labels", l) ∷ (codes "places", p) ∷ []

abbrev all_found : Option Text → Option Text → Option Text → List (Text × Option Text)
all_found h l p = (codes "hierarchy", h) ∷ limits_found l p

-- and for two words behind which they stand
abbrev over_limits : Text → Text → Option Text → Option Text → List Row
over_limits a b l p = rows_of_two a b ++ found_options (limits_found l p)

abbrev over_all : Text → Text → Option Text → Option Text → Option Text → List Row
over_all a b h l p = rows_of_two a b ++ found_options (all_found h l p)

-- this is found for the options of a search
abbrev Says : List Row → Option Text → Option Text → Option Text → Type 0
Says rows h l p = (first_of (codes "hierarchy") rows ≡ h) × (first_of (codes "labels") rows ≡ l) × (first_of (codes "places") rows ≡ p)

says_all : (a b : Text) (h l p : Option Text) → Says (over_all a b h l p) h l p
says_all a b None None None = (refl, refl, refl)
says_all a b None None (Some p) = (refl, refl, refl)
says_all a b None (Some l) None = (refl, refl, refl)
says_all a b None (Some l) (Some p) = (refl, refl, refl)
says_all a b (Some h) None None = (refl, refl, refl)
says_all a b (Some h) None (Some p) = (refl, refl, refl)
says_all a b (Some h) (Some l) None = (refl, refl, refl)
says_all a b (Some h) (Some l) (Some p) = (refl, refl, refl)

says_limits : (a b : Text) (l p : Option Text) → Says (over_limits a b l p) None l p
says_limits a b None None = (refl, refl, refl)
says_limits a b None (Some p) = (refl, refl, refl)
says_limits a b (Some l) None = (refl, refl, refl)
says_limits a b (Some l) (Some p) = (refl, refl, refl)

-- a command that asks by a hierarchy and limits asks by those that were said
within : (ask : Option Text → Option ℕ → Option ℕ → Request) (rows : List Row) (h l p : Option Text) (labels places : Option ℕ)
    → Says rows h l p → limits_of l p ≡ Some (labels, places)
    → option_map (λ most. ask (first_of (codes "hierarchy") rows) most.0 most.1) (limits_at rows) ≡ Some (ask h labels places)
within ask rows h l p labels places (is_h, is_l, is_p) is = rw (is_h, is_l, is_p, is) refl

verifies : (a b : Text) (said : Option Text)
    → request_at (codes "verify") (rows_of_two a b ++ found_options ((codes "hierarchy", said) ∷ [])) ≡ Some (verify a b said)
verifies a b None = refl
verifies a b (Some v) = refl

few_of : (a b : Text) (said : Option Text) (places : Option ℕ) → limit_or_none most_places said ≡ Some places
    → request_at (codes "few") (rows_of_two a b ++ found_options ((codes "places", said) ∷ [])) ≡ Some (few a b places)
few_of a b None places is = ap (option_map (λ p. few a b p)) is
few_of a b (Some v) places is = ap (option_map (λ p. few a b p)) is

migrates : (a : Text) (said : Option Text) (format : Format) → format_or Binary said ≡ Some format
    → request_at (codes "migrate") (found (codes "first") a ∷ found_options ((codes "format", said) ∷ [])) ≡ Some (migrate a format)
migrates a None format is = ap (option_map (λ f. migrate a f)) is
migrates a (Some v) format is = ap (option_map (λ f. migrate a f)) is

keeps : (a : Text) (said : Option Text) (keep : ℕ) → keep_or_none said ≡ Some keep
    → request_at (codes "contract") (found (codes "first") a ∷ found_options ((codes "keep", said) ∷ [])) ≡ Some (contract a keep)
keeps a None keep is = ap (option_map (λ k. contract a k)) is
keeps a (Some v) keep is = ap (option_map (λ k. contract a k)) is

samples : (word : Text) (size : ℕ) → size_of_word word ≡ Some size → request_at (codes "sample") (found (codes "first") word ∷ []) ≡ Some (sample size)
samples word size is = ap (option_map (λ n. sample n)) is

compiles : (a b d e : Text) (named rule : Option Text) (days : DaysMeaning) (format : Format) → days_and_format d e (named, rule) ≡ Some (days, format)
    → request_at (codes "compile") (found (codes "first") a ∷ found (codes "second") b ∷ found (codes "third") d ∷ found (codes "fourth") e
    ∷ found_options ((codes "format", named) ∷ (codes "zone", rule) ∷ [])) ≡ Some (compile a b days format)
compiles a b d e None None days format is = ap (option_map (λ (it : DaysMeaning × Format). compile a b it.0 it.1)) is
compiles a b d e None (Some z) days format is = ap (option_map (λ (it : DaysMeaning × Format). compile a b it.0 it.1)) is
compiles a b d e (Some v) None days format is = ap (option_map (λ (it : DaysMeaning × Format). compile a b it.0 it.1)) is
compiles a b d e (Some v) (Some z) days format is = ap (option_map (λ (it : DaysMeaning × Format). compile a b it.0 it.1)) is

-- departures are asked for by the window and the limit that were said
windowed : (a b : Text) (said most : Option Text) (window : ℕ) (places : Option ℕ) → window_or_two_hours said ≡ Some window
    → limit_or_none most_places most ≡ Some places
    → option_and_then (λ w. option_map (λ p. profile a b w p) (limit_or_none most_places most)) (window_or_two_hours said) ≡ Some (profile a b window places)
windowed a b said most window places is_w is_p = rw (is_w, is_p) refl

profiles : (a b : Text) (said most : Option Text) (window : ℕ) (places : Option ℕ) → window_or_two_hours said ≡ Some window
    → limit_or_none most_places most ≡ Some places
    → request_at (codes "profile") (rows_of_two a b ++ found_options ((codes "window", said) ∷ (codes "places", most) ∷ [])) ≡ Some (profile a b window places)
profiles a b None None = windowed a b None None
profiles a b None (Some p) = windowed a b None (Some p)
profiles a b (Some w) None = windowed a b (Some w) None
profiles a b (Some w) (Some p) = windowed a b (Some w) (Some p)

tables : (a b d e f g : Text) (said most : Option Text) (places : Option ℕ) → limit_or_none most_places most ≡ Some places
    → request_at (codes "matrix") (rows_of_six a b d e f g ++ found_options ((codes "hierarchy", said) ∷ (codes "places", most) ∷ []))
    ≡ Some (matrix a b d e f g said places)
tables a b d e f g None None places is = ap (option_map (λ p. matrix a b d e f g None p)) is
tables a b d e f g None (Some v) places is = ap (option_map (λ p. matrix a b d e f g None p)) is
tables a b d e f g (Some h) None places is = ap (option_map (λ p. matrix a b d e f g (Some h) p)) is
tables a b d e f g (Some h) (Some v) places is = ap (option_map (λ p. matrix a b d e f g (Some h) p)) is

pub plain_asks : (words : List Text) (r : Request) → IsPlainForm words r → AsksFor words r
plain_asks words (compile map feed days format) (date, count, named, rule, f, is) =
    asks_for words f.program (codes "compile") _ _ _ f.are
    (found_at _ _ _ _ is_compile (reads_four (codes "compile") map feed date count named rule f.plain) f.program)
    (compiles map feed date count named rule days format is)
plain_asks words (migrate region format) (named, f, is) =
    asks_for words f.program (codes "migrate") _ _ _ f.are
    (found_at _ _ _ _ is_migrate (reads_one (codes "migrate") region ((codes "format", named) ∷ []) format_after_one f.plain) f.program)
    (migrates region named format is)
plain_asks words (contract region keep) (number, f, is) =
    asks_for words f.program (codes "contract") _ _ _ f.are
    (found_at _ _ _ _ is_contract (reads_one (codes "contract") region ((codes "keep", number) ∷ []) keep_after_one f.plain) f.program)
    (keeps region number keep is)
plain_asks words (answer region queries hierarchy labels places) (l, p, f, is) =
    asks_for words f.program (codes "answer") _ _ _ f.are
    (found_at _ _ _ _ is_answer (reads_two (codes "answer") region queries (all_found hierarchy l p) all_after_two f.plain) f.program)
    (within (answer region queries) (over_all region queries hierarchy l p) hierarchy l p labels places (says_all region queries hierarchy l p) is)
plain_asks words (certify region query hierarchy labels places) (l, p, f, is) =
    asks_for words f.program (codes "certify") _ _ _ f.are
    (found_at _ _ _ _ is_certify (reads_two (codes "certify") region query (all_found hierarchy l p) all_after_two f.plain) f.program)
    (within (certify region query) (over_all region query hierarchy l p) hierarchy l p labels places (says_all region query hierarchy l p) is)
plain_asks words (verify region certificate hierarchy) f =
    asks_for words f.program (codes "verify") _ _ _ f.are
    (found_at _ _ _ _ is_verify
    (reads_two (codes "verify") region certificate ((codes "hierarchy", hierarchy) ∷ []) hierarchy_after_two f.plain) f.program)
    (verifies region certificate hierarchy)
plain_asks words (check region hierarchy) f =
    asks_for words f.program (codes "check") _ _ _ f.are
    (found_at _ _ _ _ is_check (reads_two (codes "check") region hierarchy [] after_two f.plain) f.program) refl
plain_asks words (sample size) (word, f, is) =
    asks_for words f.program (codes "sample") _ _ _ f.are
    (found_at _ _ _ _ is_sample (reads_one (codes "sample") word [] after_one f.plain) f.program) (samples word size is)
plain_asks words (latest region queries labels places) (l, p, f, is) =
    asks_for words f.program (codes "latest") _ _ _ f.are
    (found_at _ _ _ _ is_latest (reads_two (codes "latest") region queries (limits_found l p) limits_after_two f.plain) f.program)
    (within (λ h l p. latest region queries l p) (over_limits region queries l p) None l p labels places (says_limits region queries l p) is)
plain_asks words (certify_latest region query labels places) (l, p, f, is) =
    asks_for words f.program (codes "certify-latest") _ _ _ f.are
    (found_at _ _ _ _ is_certify_latest (reads_two (codes "certify-latest") region query (limits_found l p) limits_after_two f.plain) f.program)
    (within (λ h l p. certify_latest region query l p) (over_limits region query l p) None l p labels places (says_limits region query l p) is)
plain_asks words (verify_latest region certificate) f =
    asks_for words f.program (codes "verify-latest") _ _ _ f.are
    (found_at _ _ _ _ is_verify_latest (reads_two (codes "verify-latest") region certificate [] after_two f.plain) f.program) refl
plain_asks words (few region queries places) (p, f, is) =
    asks_for words f.program (codes "few") _ _ _ f.are
    (found_at _ _ _ _ is_few (reads_two (codes "few") region queries ((codes "places", p) ∷ []) places_after_two f.plain) f.program)
    (few_of region queries p places is)
plain_asks words (profile region queries window places) (said, p, f, is_w, is_p) =
    asks_for words f.program (codes "profile") _ _ _ f.are
    (found_at _ _ _ _ is_profile
    (reads_two (codes "profile") region queries ((codes "window", said) ∷ (codes "places", p) ∷ []) window_after_two f.plain) f.program)
    (profiles region queries said p window places is_w is_p)
plain_asks words (matrix region origins destinations date time expr hierarchy places) (p, f, is) =
    asks_for words f.program (codes "matrix") _ _ _ f.are
    (found_at _ _ _ _ is_matrix (reads_six (codes "matrix") region origins destinations date time expr hierarchy p f.plain) f.program)
    (tables region origins destinations date time expr hierarchy p places is)
plain_asks words (requests region lines hierarchy labels places) (l, p, f, is) =
    asks_for words f.program (codes "requests") _ _ _ f.are
    (found_at _ _ _ _ is_requests (reads_two (codes "requests") region lines (all_found hierarchy l p) all_after_two f.plain) f.program)
    (within (requests region lines) (over_all region lines hierarchy l p) hierarchy l p labels places (says_all region lines hierarchy l p) is)
