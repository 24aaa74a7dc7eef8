-- What a line says, read word by word.
use Rattle.std.specs.Prelude.{ℕ, ◌^◌, List, [], ◌∷◌, length, take, drop, codes, Bool, true, false, Option, Some, None, option_and_then, option_map, ◌&&◌, if◌then◌else◌, bytes_eq}
use Rattle.plain_texts.specs.{words_of, number_at}
use Rattle.mode_network.specs.{Wait, Link, Stand, Ride, declared.steps.Step.TheVariants.Road}
use Rattle.search_laws.specs.{time_bound}
use Rattle.product_search.specs.{Label}
use Rattle.certificate.specs.declared.lines.Line.{Line}
use Rattle.certificate.specs.declared.lines.Line.TheVariants as line

infixl 10 ◌>>=◌
abbrev pub ◌>>=◌ : {A B : Type 0} → Option A → (A → Option B) → Option B
o >>= f = option_and_then f o

-- a number below 2 ^ 32
abbrev pub number_of_word : List ℕ → Option ℕ
number_of_word text = number_at (2 ^ 32) text

-- a number of at most 30 digits
abbrev pub time_of_word : List ℕ → Option ℕ
time_of_word text = number_at time_bound text

unfoldable pub label_of_words : List (List ℕ) → Option Label
label_of_words (node ∷ state ∷ at ∷ []) = do
  place ← number_of_word node
  automaton ← number_of_word state
  time ← time_of_word at
  Some (record { node = place; state = automaton; at = time })
label_of_words _ = None

-- a line of one word
abbrev pub bare : Line → List (List ℕ) → Option Line
bare l [] = Some l
bare l (field ∷ more) = None

-- a certificate, in the first format
abbrev pub is_head : List ℕ → List ℕ → Bool
is_head what version = bytes_eq what (codes "certificate") && bytes_eq version (codes "1")

unfoldable pub head_of_words : List (List ℕ) → Option Line
head_of_words (what ∷ version ∷ []) = if is_head what version then Some line.Head else None
head_of_words _ = None

-- whether the graph of this name is of phases
abbrev pub phases_of_word : List ℕ → Option Bool
phases_of_word graph =
    if bytes_eq graph (codes "plain") then Some false
    else (if bytes_eq graph (codes "phases") then Some true else None)

unfoldable pub graph_of_words : List (List ℕ) → Option Line
graph_of_words (graph ∷ []) = do
  phases ← phases_of_word graph
  Some (line.Graph phases)
graph_of_words _ = None

unfoldable pub arrive_of_words : List (List ℕ) → Option Line
arrive_of_words (at ∷ []) = do
  time ← time_of_word at
  Some (line.Arrive time)
arrive_of_words _ = None

unfoldable pub start_of_words : List (List ℕ) → Option Line
start_of_words (node ∷ at ∷ []) = do
  place ← number_of_word node
  time ← time_of_word at
  Some (line.Start place time)
start_of_words _ = None

unfoldable pub wait_of_words : List (List ℕ) → Option Line
wait_of_words (until ∷ []) = do
  time ← time_of_word until
  Some (line.Step (Wait time))
wait_of_words _ = None

-- the node that a road arc or a link is taken to
unfoldable pub to_of_words : List (List ℕ) → Option ℕ
to_of_words (to ∷ []) = number_of_word to
to_of_words _ = None

unfoldable pub ride_of_words : List (List ℕ) → Option Line
ride_of_words (trip ∷ day ∷ board ∷ alight ∷ []) = do
  run ← number_of_word trip
  date ← number_of_word day
  on ← number_of_word board
  off ← number_of_word alight
  Some (line.Step (Ride run date on off))
ride_of_words _ = None

unfoldable pub labels_of_words : List (List ℕ) → Option Line
labels_of_words (count ∷ []) = do
  number ← number_at (2 ^ 64) count
  Some (line.Labels number)
labels_of_words _ = None

unfoldable pub line_of_kind : List ℕ → List (List ℕ) → Option Line
line_of_kind kind fields =
    if bytes_eq kind (codes "road") then option_map (λ to. line.Step (Road to)) (to_of_words fields)
    else (if bytes_eq kind (codes "ride") then ride_of_words fields
    else (if bytes_eq kind (codes "link") then option_map (λ to. line.Step (Link to)) (to_of_words fields)
    else (if bytes_eq kind (codes "wait") then wait_of_words fields
    else (if bytes_eq kind (codes "stand") then bare (line.Step Stand) fields
    else (if bytes_eq kind (codes "modeplan") then head_of_words fields
    else (if bytes_eq kind (codes "graph") then graph_of_words fields
    else (if bytes_eq kind (codes "arrive") then arrive_of_words fields
    else (if bytes_eq kind (codes "none") then bare line.Nothing fields
    else (if bytes_eq kind (codes "start") then start_of_words fields
    else (if bytes_eq kind (codes "labels") then labels_of_words fields
    else (if bytes_eq kind (codes "end") then bare line.End fields else None)))))))))))

abbrev pub by_first_word : List (List ℕ) → Option Line
by_first_word [] = None
by_first_word (kind ∷ fields) = line_of_kind kind fields

abbrev pub label_or_kind : Option Label → List (List ℕ) → Option Line
label_or_kind (Some label) words = Some (line.Label label)
label_or_kind None words = by_first_word words

-- three numbers are a label, and any other line is what its first word says
unfoldable pub line_of_words : List (List ℕ) → Option Line
line_of_words words = label_or_kind (label_of_words words) words

abbrev pub query_word : List ℕ
query_word = codes "query "

-- what stands behind the word `query` and a space
unfoldable pub behind_query : List ℕ → Option (List ℕ)
behind_query text = if bytes_eq (take (length query_word) text) query_word then Some (drop (length query_word) text) else None

abbrev pub query_or_words : Option (List ℕ) → List ℕ → Option Line
query_or_words (Some bytes) text = Some (line.Query bytes)
query_or_words None text = line_of_words (words_of text)

-- the line that a text spells
unfoldable pub line_of : List ℕ → Option Line
line_of text = query_or_words (behind_query text) text
