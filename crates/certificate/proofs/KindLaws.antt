-- The two laws of a line by itself: what is read is spelled so, and what is spelled so is read.
use Rattle.plan_base.proofs.Common.{◌≡◌, ℕ, List, [], ◌∷◌, ◌++◌, length, take, drop, refl, ap, ap₂, sym, ◌∙◌, subst, ◌<◌, ◌+◌, ◌^◌, Bool, true, false, cond, arith, Option, Some, None, option_map, codes, decimal, ◌&&◌, bytes_eq, AllByRecursion, take-append-drop, bytes_eq-Decides, none-some, same_Some, cond_some, option_and_then_some}
use Rattle.plain_texts.specs.{IsWord, words_of, spaced, number_at}
use Rattle.plain_texts.proofs.{Decimal.first_digit, Decimal.number_takes, Decimal.number_again, Spaced.spaced-words_of, Spaced.words_of-spaced, Spaced.word_by_test, Spaced.decimal_is_word}
use Rattle.mode_network.specs.{Step, Wait, Link, Stand, Ride, declared.steps.Step.TheVariants.Road}
use Rattle.search_laws.specs.{time_bound}
use Rattle.product_search.specs.{Label}
use Rattle.certificate.specs.{Line, FitsLabel, FitsLine, FitsStep, IsTime, graph_name, label_words, spelled, step_words, words, arrive_of_words, bare, behind_query, by_first_word, graph_of_words, head_of_words, line_of_kind, label_of_words, label_or_kind, labels_of_words, line_of, line_of_words, phases_of_word, query_or_words, query_word, ride_of_words, start_of_words, time_of_word, to_of_words, wait_of_words, number_of_word}
use Rattle.certificate.specs.declared.lines.Line.TheVariants as line

pub mapped : {A B : Type 0} (f : A → B) (o : Option A) (y : B) → option_map f o ≡ Some y → (x : A) × (o ≡ Some x) × (f x ≡ y)
mapped f None y e = absurd (none-some y e)
mapped f (Some x) y e = (x, refl, same_Some (f x) y e)

-- numbers and times
word_takes : (text : List ℕ) (n : ℕ) → number_of_word text ≡ Some n → (n < 2 ^ 32) × (text ≡ decimal n)
word_takes text n e = number_takes text (2 ^ 32) n (omega arith) e

word_again : (n : ℕ) → n < 2 ^ 32 → number_of_word (decimal n) ≡ Some n
word_again n h = number_again (2 ^ 32) n (omega arith) h

pub time_takes : (text : List ℕ) (t : ℕ) → time_of_word text ≡ Some t → IsTime t × (text ≡ decimal t)
time_takes text t e = number_takes text time_bound t (omega arith) e

pub time_again : (t : ℕ) → IsTime t → time_of_word (decimal t) ≡ Some t
time_again t h = number_again time_bound t (omega arith) h

-- bytes that are equal to a literal
pub same_bytes : (xs ys : List ℕ) → bytes_eq xs ys ≡ true → xs ≡ ys
same_bytes xs ys e = (bytes_eq-Decides xs ys).0 e

-- labels
label_takes : (fields : List (List ℕ)) (l : Label) → label_of_words fields ≡ Some l → (label_words l ≡ fields) × FitsLabel l
unfolding label_of_words
label_takes [] l e = absurd (none-some l e)
label_takes (a ∷ []) l e = absurd (none-some l e)
label_takes (a ∷ b ∷ []) l e = absurd (none-some l e)
label_takes (a ∷ b ∷ c ∷ d ∷ more) l e = absurd (none-some l e)
label_takes (a ∷ b ∷ c ∷ []) l e =
    option_and_then_some _ (number_of_word a) l e (λ node is_node e.
    option_and_then_some _ (number_of_word b) l e (λ state is_state e.
    option_and_then_some _ (time_of_word c) l e (λ at is_at e.
    let place = word_takes a node is_node in
    let automaton = word_takes b state is_state in
    let time = time_takes c at is_at in
    let read : Label = record { node = node; state = state; at = at } in
    let same : label_words read ≡ a ∷ b ∷ c ∷ [] = cc (place.1, automaton.1, time.1) in
    subst (λ x. (label_words x ≡ a ∷ b ∷ c ∷ []) × FitsLabel x) (same_Some read l e) (same, record { node = place.0; state = automaton.0; at = time.0 }))))

label_again : (l : Label) → FitsLabel l → label_of_words (label_words l) ≡ Some l
unfolding label_of_words
label_again l h = rw (word_again l.node h.node, word_again l.state h.state, time_again l.at h.at) refl

-- The lines that begin with a word of their own: what stands behind it.
bare_takes : (l : Line) (fields : List (List ℕ)) (m : Line) → bare l fields ≡ Some m → (l ≡ m) × ([] ≡ fields)
bare_takes l [] m e = (same_Some l m e, refl)
bare_takes l (field ∷ more) m e = absurd (none-some m e)

if_both : (a b : Bool) (l m : Line) → cond (a && b) (Some l) None ≡ Some m → (a ≡ true) × (b ≡ true) × (l ≡ m)
if_both true true l m e = (refl, refl, same_Some l m e)
if_both true false l m e = absurd (none-some m e)
if_both false b l m e = absurd (none-some m e)

phases_takes : (graph : List ℕ) (phases : Bool) → phases_of_word graph ≡ Some phases → graph_name phases ≡ graph
phases_takes graph phases e = by_plain (bytes_eq graph (codes "plain")) refl e
  where
    by_phases : (t : Bool) → bytes_eq graph (codes "phases") ≡ t → cond t (Some true) None ≡ Some phases → graph_name phases ≡ graph
    by_phases true is e = ap graph_name (sym (same_Some true phases e)) ∙ sym (same_bytes graph (codes "phases") is)
    by_phases false is e = absurd (none-some phases e)

    by_plain : (t : Bool) → bytes_eq graph (codes "plain") ≡ t → cond t (Some false) (cond (bytes_eq graph (codes "phases")) (Some true) None) ≡ Some phases → graph_name phases ≡ graph
    by_plain true is e = ap graph_name (sym (same_Some false phases e)) ∙ sym (same_bytes graph (codes "plain") is)
    by_plain false is e = by_phases (bytes_eq graph (codes "phases")) refl e

head_takes : (fields : List (List ℕ)) (l : Line) → head_of_words fields ≡ Some l → (words l ≡ codes "modeplan" ∷ fields) × FitsLine l
unfolding head_of_words
head_takes [] l e = absurd (none-some l e)
head_takes (a ∷ []) l e = absurd (none-some l e)
head_takes (a ∷ b ∷ c ∷ more) l e = absurd (none-some l e)
head_takes (a ∷ b ∷ []) l e =
    let found = if_both (bytes_eq a (codes "certificate")) (bytes_eq b (codes "1")) line.Head l e in
    subst (λ x. (words x ≡ codes "modeplan" ∷ a ∷ b ∷ []) × FitsLine x) found.2
    (ap₂ (λ x y. codes "modeplan" ∷ x ∷ y ∷ []) (sym (same_bytes a (codes "certificate") found.0)) (sym (same_bytes b (codes "1") found.1)), tt)

graph_takes : (fields : List (List ℕ)) (l : Line) → graph_of_words fields ≡ Some l → (words l ≡ codes "graph" ∷ fields) × FitsLine l
unfolding graph_of_words
graph_takes [] l e = absurd (none-some l e)
graph_takes (a ∷ b ∷ more) l e = absurd (none-some l e)
graph_takes (a ∷ []) l e =
    option_and_then_some _ (phases_of_word a) l e (λ phases is e.
    subst (λ x. (words x ≡ codes "graph" ∷ a ∷ []) × FitsLine x) (same_Some (line.Graph phases) l e) (ap (λ w. codes "graph" ∷ w ∷ []) (phases_takes a phases is), tt))

arrive_takes : (fields : List (List ℕ)) (l : Line) → arrive_of_words fields ≡ Some l → (words l ≡ codes "arrive" ∷ fields) × FitsLine l
unfolding arrive_of_words
arrive_takes [] l e = absurd (none-some l e)
arrive_takes (a ∷ b ∷ more) l e = absurd (none-some l e)
arrive_takes (a ∷ []) l e =
    option_and_then_some _ (time_of_word a) l e (λ t is e.
    let time = time_takes a t is in
    subst (λ x. (words x ≡ codes "arrive" ∷ a ∷ []) × FitsLine x) (same_Some (line.Arrive t) l e) (ap (λ w. codes "arrive" ∷ w ∷ []) (sym time.1), time.0))

start_takes : (fields : List (List ℕ)) (l : Line) → start_of_words fields ≡ Some l → (words l ≡ codes "start" ∷ fields) × FitsLine l
unfolding start_of_words
start_takes [] l e = absurd (none-some l e)
start_takes (a ∷ []) l e = absurd (none-some l e)
start_takes (a ∷ b ∷ c ∷ more) l e = absurd (none-some l e)
start_takes (a ∷ b ∷ []) l e =
    option_and_then_some _ (number_of_word a) l e (λ node is_node e.
    option_and_then_some _ (time_of_word b) l e (λ t is_time e.
    let place = word_takes a node is_node in
    let time = time_takes b t is_time in
    subst (λ x. (words x ≡ codes "start" ∷ a ∷ b ∷ []) × FitsLine x) (same_Some (line.Start node t) l e) (ap₂ (λ x y. codes "start" ∷ x ∷ y ∷ []) (sym place.1) (sym time.1), (place.0, time.0))))

wait_takes : (fields : List (List ℕ)) (l : Line) → wait_of_words fields ≡ Some l → (words l ≡ codes "wait" ∷ fields) × FitsLine l
unfolding wait_of_words
wait_takes [] l e = absurd (none-some l e)
wait_takes (a ∷ b ∷ more) l e = absurd (none-some l e)
wait_takes (a ∷ []) l e =
    option_and_then_some _ (time_of_word a) l e (λ t is e.
    let time = time_takes a t is in
    subst (λ x. (words x ≡ codes "wait" ∷ a ∷ []) × FitsLine x) (same_Some (line.Step (Wait t)) l e) (ap (λ w. codes "wait" ∷ w ∷ []) (sym time.1), time.0))

to_takes : (fields : List (List ℕ)) (to : ℕ) → to_of_words fields ≡ Some to → (decimal to ∷ [] ≡ fields) × (to < 2 ^ 32)
unfolding to_of_words
to_takes [] to e = absurd (none-some to e)
to_takes (a ∷ b ∷ more) to e = absurd (none-some to e)
to_takes (a ∷ []) to e =
    let node = word_takes a to e in
    (ap (λ w. w ∷ []) (sym node.1), node.0)

ride_takes : (fields : List (List ℕ)) (l : Line) → ride_of_words fields ≡ Some l → (words l ≡ codes "ride" ∷ fields) × FitsLine l
unfolding ride_of_words
ride_takes [] l e = absurd (none-some l e)
ride_takes (a ∷ []) l e = absurd (none-some l e)
ride_takes (a ∷ b ∷ []) l e = absurd (none-some l e)
ride_takes (a ∷ b ∷ c ∷ []) l e = absurd (none-some l e)
ride_takes (a ∷ b ∷ c ∷ d ∷ f ∷ more) l e = absurd (none-some l e)
ride_takes (a ∷ b ∷ c ∷ d ∷ []) l e =
    option_and_then_some _ (number_of_word a) l e (λ trip is_trip e.
    option_and_then_some _ (number_of_word b) l e (λ day is_day e.
    option_and_then_some _ (number_of_word c) l e (λ board is_board e.
    option_and_then_some _ (number_of_word d) l e (λ alight is_alight e.
    let run = word_takes a trip is_trip in
    let date = word_takes b day is_day in
    let on = word_takes c board is_board in
    let off = word_takes d alight is_alight in
    let same : codes "ride" ∷ decimal trip ∷ decimal day ∷ decimal board ∷ decimal alight ∷ [] ≡ codes "ride" ∷ a ∷ b ∷ c ∷ d ∷ [] = cc (run.1, date.1, on.1, off.1) in
    subst (λ x. (words x ≡ codes "ride" ∷ a ∷ b ∷ c ∷ d ∷ []) × FitsLine x) (same_Some (line.Step (Ride trip day board alight)) l e)
    (same, record { trip = run.0; day = date.0; board = on.0; alight = off.0 })))))

labels_takes : (fields : List (List ℕ)) (l : Line) → labels_of_words fields ≡ Some l → (words l ≡ codes "labels" ∷ fields) × FitsLine l
unfolding labels_of_words
labels_takes [] l e = absurd (none-some l e)
labels_takes (a ∷ b ∷ more) l e = absurd (none-some l e)
labels_takes (a ∷ []) l e =
    option_and_then_some _ (number_at (2 ^ 64) a) l e (λ count is e.
    let number = number_takes a (2 ^ 64) count (omega arith) is in
    subst (λ x. (words x ≡ codes "labels" ∷ a ∷ []) × FitsLine x) (same_Some (line.Labels count) l e) (ap (λ w. codes "labels" ∷ w ∷ []) (sym number.1), number.0))

-- lines of any kind
by_kind : {P : Type 0} (kind literal : List ℕ) (x y : Option Line) (l : Line) → cond (bytes_eq kind literal) x y ≡ Some l → (literal ≡ kind → x ≡ Some l → P) → (y ≡ Some l → P) → P
by_kind {P} kind literal x y l e here later = by_test (bytes_eq kind literal) refl e
  where
    by_test : (t : Bool) → bytes_eq kind literal ≡ t → cond t x y ≡ Some l → P
    by_test true is e = here (sym (same_bytes kind literal is)) e
    by_test false is e = later e

kind_takes : (kind : List ℕ) (fields : List (List ℕ)) (l : Line) → line_of_kind kind fields ≡ Some l → (words l ≡ kind ∷ fields) × FitsLine l
unfolding line_of_kind
kind_takes kind fields l e =
    by_kind kind (codes "road") _ _ l e (λ is e. to_said Road (codes "road") (λ to. refl) (λ to h. h) is (mapped (λ to. line.Step (Road to)) (to_of_words fields) l e)) (λ e.
    by_kind kind (codes "ride") _ _ l e (λ is e. said (codes "ride") is (ride_takes fields l e)) (λ e.
    by_kind kind (codes "link") _ _ l e (λ is e. to_said Link (codes "link") (λ to. refl) (λ to h. h) is (mapped (λ to. line.Step (Link to)) (to_of_words fields) l e)) (λ e.
    by_kind kind (codes "wait") _ _ l e (λ is e. said (codes "wait") is (wait_takes fields l e)) (λ e.
    by_kind kind (codes "stand") _ _ l e (λ is e. bare_said (line.Step Stand) (codes "stand") refl tt is (bare_takes (line.Step Stand) fields l e)) (λ e.
    by_kind kind (codes "modeplan") _ _ l e (λ is e. said (codes "modeplan") is (head_takes fields l e)) (λ e.
    by_kind kind (codes "graph") _ _ l e (λ is e. said (codes "graph") is (graph_takes fields l e)) (λ e.
    by_kind kind (codes "arrive") _ _ l e (λ is e. said (codes "arrive") is (arrive_takes fields l e)) (λ e.
    by_kind kind (codes "none") _ _ l e (λ is e. bare_said line.Nothing (codes "none") refl tt is (bare_takes line.Nothing fields l e)) (λ e.
    by_kind kind (codes "start") _ _ l e (λ is e. said (codes "start") is (start_takes fields l e)) (λ e.
    by_kind kind (codes "labels") _ _ l e (λ is e. said (codes "labels") is (labels_takes fields l e)) (λ e.
    by_kind kind (codes "end") _ _ l e (λ is e. bare_said line.End (codes "end") refl tt is (bare_takes line.End fields l e)) (λ e. absurd (none-some l e)))))))))))))
  where
    said : (literal : List ℕ) → literal ≡ kind → (words l ≡ literal ∷ fields) × FitsLine l → (words l ≡ kind ∷ fields) × FitsLine l
    said literal is h = (h.0 ∙ ap (λ x. x ∷ fields) is, h.1)

    bare_said : (m : Line) (literal : List ℕ) → words m ≡ literal ∷ [] → FitsLine m → literal ≡ kind → (m ≡ l) × ([] ≡ fields) → (words l ≡ kind ∷ fields) × FitsLine l
    bare_said m literal spelled fits is h = subst (λ x. (words x ≡ kind ∷ fields) × FitsLine x) h.0 (spelled ∙ ap₂ (λ x y. x ∷ y) is h.1, fits)

    to_said : (step : ℕ → Step) (literal : List ℕ) → ((to : ℕ) → step_words (step to) ≡ literal ∷ decimal to ∷ []) → ((to : ℕ) → to < 2 ^ 32 → FitsStep (step to)) → literal ≡ kind → (to : ℕ) × (to_of_words fields ≡ Some to) × (line.Step (step to) ≡ l) → (words l ≡ kind ∷ fields) × FitsLine l
    to_said step literal spelled fits is found =
        let read = to_takes fields found.0 found.1 in
        subst (λ x. (words x ≡ kind ∷ fields) × FitsLine x) found.2 (spelled found.0 ∙ ap₂ (λ x y. x ∷ y) is read.0, fits found.0 read.1)

words_take : (text : List (List ℕ)) (l : Line) → line_of_words text ≡ Some l → (words l ≡ text) × FitsLine l
unfolding line_of_words
words_take text l e = by_label (label_of_words text) refl e
  where
    by_words : (text : List (List ℕ)) → by_first_word text ≡ Some l → (words l ≡ text) × FitsLine l
    by_words [] e = absurd (none-some l e)
    by_words (kind ∷ fields) e = kind_takes kind fields l e

    by_label : (o : Option Label) → label_of_words text ≡ o → label_or_kind o text ≡ Some l → (words l ≡ text) × FitsLine l
    by_label (Some label) is e = subst (λ x. (words x ≡ text) × FitsLine x) (same_Some (line.Label label) l e) (label_takes text label is)
    by_label None is e = by_words text e

query_takes : (text bytes : List ℕ) → behind_query text ≡ Some bytes → text ≡ query_word ++ bytes
unfolding behind_query
query_takes text bytes e =
    let found = cond_some (bytes_eq (take (length query_word) text) query_word) (drop (length query_word) text) bytes e in
    sym (take-append-drop (length query_word) text) ∙ ap (λ x. x ++ drop (length query_word) text) (same_bytes (take (length query_word) text) query_word found.0) ∙ ap (λ x. query_word ++ x) found.1

-- What is read is spelled so.
pub line_takes : (text : List ℕ) (l : Line) → line_of text ≡ Some l → (text ≡ spelled l) × FitsLine l
unfolding line_of spaced
line_takes text l e = by_query (behind_query text) refl e
  where
    by_query : (o : Option (List ℕ)) → behind_query text ≡ o → query_or_words o text ≡ Some l → (text ≡ spelled l) × FitsLine l
    by_query (Some bytes) is e = subst (λ x. (text ≡ spelled x) × FitsLine x) (same_Some (line.Query bytes) l e) (query_takes text bytes is, tt)
    by_query None is e =
        let said = words_take (words_of text) l e in
        (sym (spaced-words_of text) ∙ ap spaced (sym said.0), said.1)

-- all lines but the query line
abbrev pub IsInWords : Line → Type 0
IsInWords (line.Query bytes) = ⊥
IsInWords _ = Unit {0}

step_is_words : (step : Step) → FitsStep step → AllByRecursion IsWord (step_words step)
step_is_words (Wait until) h = (word_by_test (codes "wait") refl, (decimal_is_word until (omega (arith, h)), tt))
step_is_words (Road to) h = (word_by_test (codes "road") refl, (decimal_is_word to (omega (arith, h)), tt))
step_is_words (Link to) h = (word_by_test (codes "link") refl, (decimal_is_word to (omega (arith, h)), tt))
step_is_words Stand h = (word_by_test (codes "stand") refl, tt)
step_is_words (Ride trip day board alight) h =
    (word_by_test (codes "ride") refl, (decimal_is_word trip (omega (arith, h.trip)), (decimal_is_word day (omega (arith, h.day)), (decimal_is_word board (omega (arith, h.board)), (decimal_is_word alight (omega (arith, h.alight)), tt)))))

pub words_are_words : (l : Line) → IsInWords l → FitsLine l → AllByRecursion IsWord (words l)
words_are_words line.Head in_words h = (word_by_test (codes "modeplan") refl, (word_by_test (codes "certificate") refl, (word_by_test (codes "1") refl, tt)))
words_are_words (line.Query bytes) in_words h = absurd in_words
words_are_words (line.Graph true) in_words h = (word_by_test (codes "graph") refl, (word_by_test (codes "phases") refl, tt))
words_are_words (line.Graph false) in_words h = (word_by_test (codes "graph") refl, (word_by_test (codes "plain") refl, tt))
words_are_words (line.Arrive at) in_words h = (word_by_test (codes "arrive") refl, (decimal_is_word at (omega (arith, h)), tt))
words_are_words line.Nothing in_words h = (word_by_test (codes "none") refl, tt)
words_are_words (line.Start node at) in_words h = (word_by_test (codes "start") refl, (decimal_is_word node (omega (arith, h.0)), (decimal_is_word at (omega (arith, h.1)), tt)))
words_are_words (line.Step step) in_words h = step_is_words step h
words_are_words (line.Labels count) in_words h = (word_by_test (codes "labels") refl, (decimal_is_word count (omega (arith, h)), tt))
words_are_words (line.Label label) in_words h = (decimal_is_word label.node (omega (arith, h.node)), (decimal_is_word label.state (omega (arith, h.state)), (decimal_is_word label.at (omega (arith, h.at)), tt)))
words_are_words line.End in_words h = (word_by_test (codes "end") refl, tt)

step_again : (step : Step) → FitsStep step → line_of_words (step_words step) ≡ Some (line.Step step)
unfolding line_of_words label_of_words line_of_kind number_at wait_of_words to_of_words ride_of_words
step_again (Wait until) h = rw (time_again until h) refl
step_again (Road to) h = rw (word_again to h) refl
step_again (Link to) h = rw (word_again to h) refl
step_again Stand h = refl
step_again (Ride trip day board alight) h = rw (word_again trip h.trip, word_again day h.day, word_again board h.board, word_again alight h.alight) refl

said_again : (l : Line) → IsInWords l → FitsLine l → line_of_words (words l) ≡ Some l
unfolding line_of_words label_of_words line_of_kind number_at head_of_words graph_of_words arrive_of_words start_of_words labels_of_words
said_again line.Head in_words h = refl
said_again (line.Query bytes) in_words h = absurd in_words
said_again (line.Graph true) in_words h = refl
said_again (line.Graph false) in_words h = refl
said_again (line.Arrive at) in_words h = rw (time_again at h) refl
said_again line.Nothing in_words h = refl
said_again (line.Start node at) in_words h = rw (word_again node h.0, time_again at h.1) refl
said_again (line.Step step) in_words h = step_again step h
said_again (line.Labels count) in_words h = rw (number_again (2 ^ 64) count (omega arith) h) refl
said_again (line.Label label) in_words h = ap (λ o. label_or_kind o (label_words label)) (label_again label h)
said_again line.End in_words h = refl

words_cons : (l : Line) → IsInWords l → (kind : List ℕ) × (fields : List (List ℕ)) × (words l ≡ kind ∷ fields)
words_cons line.Head in_words = (_, _, refl)
words_cons (line.Query bytes) in_words = absurd in_words
words_cons (line.Graph phases) in_words = (_, _, refl)
words_cons (line.Arrive at) in_words = (_, _, refl)
words_cons line.Nothing in_words = (_, _, refl)
words_cons (line.Start node at) in_words = (_, _, refl)
words_cons (line.Step (Wait until)) in_words = (_, _, refl)
words_cons (line.Step (Road to)) in_words = (_, _, refl)
words_cons (line.Step (Link to)) in_words = (_, _, refl)
words_cons (line.Step Stand) in_words = (_, _, refl)
words_cons (line.Step (Ride trip day board alight)) in_words = (_, _, refl)
words_cons (line.Labels count) in_words = (_, _, refl)
words_cons (line.Label label) in_words = (_, _, refl)
words_cons line.End in_words = (_, _, refl)

words_again : (l : Line) → IsInWords l → FitsLine l → words_of (spaced (words l)) ≡ words l
words_again l in_words h =
    let parts = words_cons l in_words in
    let all : AllByRecursion IsWord (parts.0 ∷ parts.1) = subst (λ ws. AllByRecursion IsWord ws) parts.2 (words_are_words l in_words h) in
    subst (λ ws. words_of (spaced ws) ≡ ws) (sym parts.2) (words_of-spaced parts.0 parts.1 all)

-- Only the query line begins with the word of a query.
no_query_byte : (d : ℕ) (rest : List ℕ) → d < 10 → bytes_eq ((48 + d) ∷ rest) query_word ≡ false
no_query_byte d rest small = by_test (bytes_eq ((48 + d) ∷ rest) query_word) refl
  where
    by_test : (t : Bool) → bytes_eq ((48 + d) ∷ rest) query_word ≡ t → t ≡ false
    by_test false is = refl
    by_test true is = let first : 48 + d ≡ 113 = cc (same_bytes ((48 + d) ∷ rest) query_word is) in absurd (omega (arith, first, small))

no_query_at : (text : List ℕ) (d : ℕ) (rest : List ℕ) → d < 10 → text ≡ (48 + d) ∷ rest → behind_query text ≡ None
unfolding behind_query
no_query_at text d rest small is = ap behind_query is ∙ ap (λ t. cond t (Some (drop (length query_word) ((48 + d) ∷ rest))) None) (no_query_byte d (take 5 rest) small)

no_query : (l : Line) → IsInWords l → FitsLine l → behind_query (spelled l) ≡ None
unfolding behind_query spaced
no_query line.Head in_words h = refl
no_query (line.Query bytes) in_words h = absurd in_words
no_query (line.Graph phases) in_words h = refl
no_query (line.Arrive at) in_words h = refl
no_query line.Nothing in_words h = refl
no_query (line.Start node at) in_words h = refl
no_query (line.Step (Wait until)) in_words h = refl
no_query (line.Step (Road to)) in_words h = refl
no_query (line.Step (Link to)) in_words h = refl
no_query (line.Step Stand) in_words h = refl
no_query (line.Step (Ride trip day board alight)) in_words h = refl
no_query (line.Labels count) in_words h = refl
no_query (line.Label label) in_words h =
    let digit = first_digit label.node (omega (arith, h.node)) in
    no_query_at (spelled (line.Label label)) digit.0 (digit.1 ++ 32 ∷ (decimal label.state ++ 32 ∷ decimal label.at)) digit.2 (ap (λ x. x ++ 32 ∷ (decimal label.state ++ 32 ∷ decimal label.at)) digit.3)
no_query line.End in_words h = refl

query_again : (bytes : List ℕ) → behind_query (spelled (line.Query bytes)) ≡ Some bytes
unfolding behind_query spaced
query_again bytes = refl

in_words_again : (l : Line) → IsInWords l → FitsLine l → line_of (spelled l) ≡ Some l
unfolding line_of
in_words_again l in_words h = ap (λ o. query_or_words o (spelled l)) (no_query l in_words h) ∙ ap line_of_words (words_again l in_words h) ∙ said_again l in_words h

-- What is spelled so is read.
pub line_again : (l : Line) → FitsLine l → line_of (spelled l) ≡ Some l
unfolding line_of
line_again line.Head h = in_words_again line.Head tt h
line_again (line.Query bytes) h = ap (λ o. query_or_words o (spelled (line.Query bytes))) (query_again bytes)
line_again (line.Graph phases) h = in_words_again (line.Graph phases) tt h
line_again (line.Arrive at) h = in_words_again (line.Arrive at) tt h
line_again line.Nothing h = in_words_again line.Nothing tt h
line_again (line.Start node at) h = in_words_again (line.Start node at) tt h
line_again (line.Step step) h = in_words_again (line.Step step) tt h
line_again (line.Labels count) h = in_words_again (line.Labels count) tt h
line_again (line.Label label) h = in_words_again (line.Label label) tt h
line_again line.End h = in_words_again line.End tt h
