-- Words that ask for a sample city give it a size.
use Rattle.plan_base.proofs.Common.{◌≡◌, ℕ, ◌≤◌, Bool, true, false, ◌&&◌, cond, nat_le, if◌then◌else◌, List, [], ◌∷◌, Option, Some, None, refl, subst, leb-true, codes, ⊤, drop, find, option_and_then, option_map, bytes_eq}
use Rattle.clap.specs.Words.{Row, first_of, subcommand_of}
use Rattle.mode_network.proofs.RuleLemmas.{both}
use Rattle.region_file.specs.{Binary}
use Rattle.command_line.specs.{modeplan}
use Rattle.command_words.specs.{Request, AsksFor, small_number_of_word, size_of_word, format_or, keep_or_none, commands, request_at, two_at, days_and_format_at, compile_at, migrate_at, contract_at, check_at, sample_at, answer_at, certify_at, verify_at, few_at, latest_at, certify_latest_at, verify_latest_at, asking_at, limits_at, places_at, profile_at, matrix_at, requests_at, window_or_two_hours, compile, migrate, contract, answer, certify, verify, check, sample, latest, certify_latest, verify_latest, few, profile, matrix, requests}
use Rattle.planner_core.specs.inside.{HasSize}

in_range : (n size : ℕ) (fits : Bool) → nat_le 1 n && nat_le n 300 ≡ fits → (if fits then Some n else None) ≡ Some size → (1 ≤ size) × (size ≤ 300)
in_range n size true fits e =
    let same : n ≡ size = cc in
    let parts = both (nat_le 1 n) (nat_le n 300) fits in
    subst (λ (k : ℕ). (1 ≤ k) × (k ≤ 300)) same (leb-true 1 n parts.0, leb-true n 300 parts.1)
in_range n size false fits e = absurd (cc)

read_in_range : (number : Option ℕ) (size : ℕ) → option_and_then (λ n. if nat_le 1 n && nat_le n 300 then Some n else None) number ≡ Some size → (1 ≤ size) × (size ≤ 300)
read_in_range None size e = absurd (cc)
read_in_range (Some n) size e = in_range n size (nat_le 1 n && nat_le n 300) refl e

-- ---- what a command asks for has a size

abbrev GivesSize : Option Request → Type 0
GivesSize asked = (r : Request) → asked ≡ Some r → HasSize r

made : {A : Type 0} (f : A → Request) (o : Option A) → ((a : A) → o ≡ Some a → HasSize (f a)) → GivesSize (option_map f o)
made f None sizes r e = absurd (cc)
made f (Some a) sizes r e = let same : f a ≡ r = cc in subst HasSize same (sizes a refl)

made_of : {A : Type 0} (f : A → Option Request) (o : Option A) → ((a : A) → GivesSize (f a)) → GivesSize (option_and_then f o)
made_of f None sizes r e = absurd (cc)
made_of f (Some a) sizes r e = sizes a r e

compile_gives : (rows : List Row) → GivesSize (compile_at rows)
compile_gives rows =
    made_of (λ two. option_map (λ it. compile two.0 two.1 it.0 it.1) (days_and_format_at rows)) (two_at rows)
    (λ two. made (λ it. compile two.0 two.1 it.0 it.1) (days_and_format_at rows) (λ it is. tt))

migrate_gives : (rows : List Row) → GivesSize (migrate_at rows)
migrate_gives rows =
    made_of (λ region. option_map (λ format. migrate region format) (format_or Binary (first_of (codes "format") rows))) (first_of (codes "first") rows)
    (λ region. made (λ format. migrate region format) (format_or Binary (first_of (codes "format") rows)) (λ format is. tt))

contract_gives : (rows : List Row) → GivesSize (contract_at rows)
contract_gives rows =
    made_of (λ region. option_map (λ keep. contract region keep) (keep_or_none (first_of (codes "keep") rows))) (first_of (codes "first") rows)
    (λ region. made (λ keep. contract region keep) (keep_or_none (first_of (codes "keep") rows)) (λ keep is. tt))

check_gives : (rows : List Row) → GivesSize (check_at rows)
check_gives rows = made (λ two. check two.0 two.1) (two_at rows) (λ two is. tt)

sample_gives : (rows : List Row) → GivesSize (sample_at rows)
sample_gives rows =
    made_of (λ word. option_map (λ size. sample size) (size_of_word word)) (first_of (codes "first") rows)
    (λ word. made (λ size. sample size) (size_of_word word) (λ size is. read_in_range (small_number_of_word word) size is))

answer_gives : (rows : List Row) → GivesSize (answer_at rows)
answer_gives rows =
    made_of (λ two. option_map (λ most. answer two.0 two.1 (first_of (codes "hierarchy") rows) most.0 most.1) (limits_at rows)) (two_at rows)
    (λ two. made (λ most. answer two.0 two.1 (first_of (codes "hierarchy") rows) most.0 most.1) (limits_at rows) (λ it is. tt))

certify_gives : (rows : List Row) → GivesSize (certify_at rows)
certify_gives rows =
    made_of (λ two. option_map (λ most. certify two.0 two.1 (first_of (codes "hierarchy") rows) most.0 most.1) (limits_at rows)) (two_at rows)
    (λ two. made (λ most. certify two.0 two.1 (first_of (codes "hierarchy") rows) most.0 most.1) (limits_at rows) (λ it is. tt))

verify_gives : (rows : List Row) → GivesSize (verify_at rows)
verify_gives rows = made (λ two. verify two.0 two.1 (first_of (codes "hierarchy") rows)) (two_at rows) (λ two is. tt)

few_gives : (rows : List Row) → GivesSize (few_at rows)
few_gives rows =
    made_of (λ two. option_map (λ places. few two.0 two.1 places) (places_at rows)) (two_at rows)
    (λ two. made (λ places. few two.0 two.1 places) (places_at rows) (λ it is. tt))

latest_gives : (rows : List Row) → GivesSize (latest_at rows)
latest_gives rows =
    made_of (λ two. option_map (λ most. latest two.0 two.1 most.0 most.1) (limits_at rows)) (two_at rows)
    (λ two. made (λ most. latest two.0 two.1 most.0 most.1) (limits_at rows) (λ it is. tt))

certify_latest_gives : (rows : List Row) → GivesSize (certify_latest_at rows)
certify_latest_gives rows =
    made_of (λ two. option_map (λ most. certify_latest two.0 two.1 most.0 most.1) (limits_at rows)) (two_at rows)
    (λ two. made (λ most. certify_latest two.0 two.1 most.0 most.1) (limits_at rows) (λ it is. tt))

verify_latest_gives : (rows : List Row) → GivesSize (verify_latest_at rows)
verify_latest_gives rows = made (λ two. verify_latest two.0 two.1) (two_at rows) (λ two is. tt)

profile_gives : (rows : List Row) → GivesSize (profile_at rows)
profile_gives rows =
    made_of (λ two. option_and_then (λ window. option_map (λ places. profile two.0 two.1 window places) (places_at rows)) (window_or_two_hours (first_of (codes "window") rows))) (two_at rows)
    (λ two. made_of (λ window. option_map (λ places. profile two.0 two.1 window places) (places_at rows)) (window_or_two_hours (first_of (codes "window") rows))
    (λ window. made (λ places. profile two.0 two.1 window places) (places_at rows) (λ it is. tt)))

abbrev table_of : List Row → List ℕ × List ℕ → List ℕ → List ℕ × List ℕ × List ℕ → Option ℕ → Request
table_of rows two to asking places = matrix two.0 two.1 to asking.0 asking.1 asking.2 (first_of (codes "hierarchy") rows) places

matrix_gives : (rows : List Row) → GivesSize (matrix_at rows)
matrix_gives rows =
    made_of (λ two. option_and_then (λ to. option_and_then (λ asking. option_map (table_of rows two to asking) (places_at rows)) (asking_at rows)) (first_of (codes "third") rows)) (two_at rows)
    (λ two. made_of (λ to. option_and_then (λ asking. option_map (table_of rows two to asking) (places_at rows)) (asking_at rows)) (first_of (codes "third") rows)
    (λ to. made_of (λ asking. option_map (table_of rows two to asking) (places_at rows)) (asking_at rows)
    (λ asking. made (table_of rows two to asking) (places_at rows) (λ it is. tt))))

requests_gives : (rows : List Row) → GivesSize (requests_at rows)
requests_gives rows =
    made_of (λ two. option_map (λ most. requests two.0 two.1 (first_of (codes "hierarchy") rows) most.0 most.1) (limits_at rows)) (two_at rows)
    (λ two. made (λ most. requests two.0 two.1 (first_of (codes "hierarchy") rows) most.0 most.1) (limits_at rows) (λ it is. tt))

abbrev GiveSizes : List (List ℕ × (List Row → Option Request)) → Type 0
GiveSizes [] = ⊤
GiveSizes (command ∷ more) = ((rows : List Row) → GivesSize (command.1 rows)) × GiveSizes more

late_give : GiveSizes (drop 6 commands)
late_give = (certify_gives, (verify_gives, (few_gives, (latest_gives, (certify_latest_gives, (verify_latest_gives, (profile_gives, (matrix_gives, (requests_gives, tt)))))))))

all_give : GiveSizes commands
all_give = (compile_gives, (migrate_gives, (contract_gives, (check_gives, (sample_gives, (answer_gives, late_give))))))

-- ---- so too the one of a name

found_gives : (commands : List (List ℕ × (List Row → Option Request))) → GiveSizes commands → (name : List ℕ) (rows : List Row)
    → GivesSize (option_and_then (λ command. command.1 rows) (find (λ command. bytes_eq command.0 name) commands))
found_gives [] sizes name rows = λ r e. absurd (cc)
found_gives (command ∷ more) sizes name rows = go (bytes_eq command.0 name) (found_gives more sizes.1 name rows)
  where
    go : (b : Bool) → GivesSize (option_and_then (λ command. command.1 rows) (find (λ command. bytes_eq command.0 name) more))
        → GivesSize (option_and_then (λ command. command.1 rows) (cond b (Some command) (find (λ command. bytes_eq command.0 name) more)))
    go true rest = sizes.0 rows
    go false rest = rest

pub asked_size : (words : List (List ℕ)) (r : Request) → AsksFor words r → HasSize r
asked_size words r asks =
    made_of (λ found. request_at found.0 found.1) (subcommand_of modeplan words) (λ found. found_gives commands all_give found.0 found.1) r asks.asks
