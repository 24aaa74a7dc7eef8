-- How `clap` goes over the words of a command that has no commands below it, where each word but the options' names is plain.
use Rattle.std.proofs.Common.{◌≡◌, ◌∙◌, ◌&&◌, ℕ, Bool, true, false, not, List, [], ◌∷◌, ◌++◌, Some, None, refl, ap, ap₂, sym, append-nil, append_assoc, fold, option_and_then, if◌then◌else◌, nat_eq, bytes_eq}
use Rattle.clap.specs.Lexer.{strip_byte, long_of, long_of_rest, short_of, short_of_rest}
use Rattle.clap.specs.Walk.{Held, Names, walked_from, after_step, Rule, Step, Text, Walk, idle, option, value, next, arg_by_id, arg_by_index, finished, long_or_other, nothing_held, option_word, rows_after, Row, settled, short_or_plain, to_positional, trailing, walked, word_met, plain_word, Waiting}
use Rattle.clap.specs.Simple.{Shape}
use Rattle.clap.specs.Kinds.{Kinds, or_else}
use Rattle.clap.specs.Faults.{check_fault, defaults_fault, flag_word_fault, level_fault, settle_fault, step_fault, turn_fault, walk_fault}
use Rattle.command_line.specs.{IsPlainWord}

-- ---- a plain word is no flag

no_dashes : (word : Text) → IsPlainWord word → bytes_eq word (45 ∷ 45 ∷ []) ≡ false
no_dashes [] plain = refl
no_dashes (x ∷ []) plain = go (nat_eq x 45)
  where
    go : (b : Bool) → (b && false) ≡ false
    go true = refl
    go false = refl
no_dashes (x ∷ y ∷ more) plain = go (nat_eq x 45) plain
  where
    go : (b : Bool) → not b ≡ true → (b && bytes_eq (y ∷ more) (45 ∷ [])) ≡ false
    go true e = cc
    go false e = refl

no_long : (word : Text) → IsPlainWord word → long_of word ≡ None
no_long [] plain = refl
no_long (x ∷ []) plain = go (nat_eq x 45)
  where
    go : (b : Bool) → option_and_then long_of_rest (option_and_then (strip_byte 45) (if b then Some [] else None)) ≡ None
    go true = refl
    go false = refl
no_long (x ∷ y ∷ more) plain = go (nat_eq x 45) plain
  where
    go : (b : Bool) → not b ≡ true → option_and_then long_of_rest (option_and_then (strip_byte 45) (if b then Some (y ∷ more) else None)) ≡ None
    go true e = absurd (cc)
    go false e = refl

no_short : (word : Text) → IsPlainWord word → short_of word ≡ None
no_short [] plain = refl
no_short (x ∷ []) plain = go (nat_eq x 45)
  where
    go : (b : Bool) → option_and_then short_of_rest (if b then Some [] else None) ≡ None
    go true = refl
    go false = refl
no_short (x ∷ y ∷ more) plain = go (nat_eq x 45) plain
  where
    go : (b : Bool) → not b ≡ true → option_and_then short_of_rest (if b then Some (y ∷ more) else None) ≡ None
    go true e = absurd (cc)
    go false e = refl

met_plain : (c : List Rule) (waiting : Waiting) (position : ℕ) (word : Text) (h : Held) → IsPlainWord word
    → long_or_other c waiting word (long_of word) h ≡ plain_word c waiting word h
met_plain c waiting position word h plain =
    ap (λ name. long_or_other c waiting word name h) (no_long word plain) ∙ ap (λ flags. short_or_plain c waiting word flags h) (no_short word plain)

-- ---- one word

-- where the walk stands, with nothing that waits for a value
abbrev pub between : Held → ℕ → Walk
between h position = record { held = h; waiting = idle; position = position; is_trailing = false; stopped = None }

-- and where this option waits for its value
abbrev pub waits_for : Text → Held → ℕ → Walk
waits_for id h position = record { held = h; waiting = option id; position = position; is_trailing = false; stopped = None }

idle_met : (c : List Rule) (position : ℕ) (word : Text) (h : Held) → IsPlainWord word → word_met c [] false idle position word h ≡ (h, value)
idle_met c position word h plain =
    ap (λ (b : Bool). if b then (h, trailing position) else long_or_other c idle word (long_of word) h) (no_dashes word plain)
    ∙ met_plain c idle position word h plain

option_met : (c : List Rule) (id : Text) (position : ℕ) (word : Text) (h : Held) → IsPlainWord word
    → word_met c [] false (option id) position word h ≡ ((option_word (arg_by_id c id) id word h).0, next (option_word (arg_by_id c id) id word h).1)
option_met c id position word h plain =
    ap (λ (b : Bool). if b then (h, trailing position) else long_or_other c (option id) word (long_of word) h) (no_dashes word plain)
    ∙ met_plain c (option id) position word h plain

no_word_fault : (s : Shape) (waiting : Waiting) (word : Text) (h : Held) → IsPlainWord word
    → (if bytes_eq word (45 ∷ 45 ∷ []) then [] else flag_word_fault s.rules s.args_override_self (long_of word) word h) ≡ []
no_word_fault s waiting word h plain =
    rw (no_dashes word plain, no_long word plain, no_short word plain) refl

-- ---- words

-- from where the walk stands, the words have no fault, and end there
pub record Walks (s : Shape) (from : Walk) (words : List Text) (end : Walk) : Type 0 where
  pub faultless : walk_fault s [] from words ≡ []
  pub reaches : fold (walked s.rules []) from words ≡ end

pub ends : (s : Shape) (end : Walk) → Walks s end [] end
unfolding walk_fault
ends s end = record { faultless = refl; reaches = refl }

one_more : (s : Shape) (from to end : Walk) (word : Text) (rest : List Text) → turn_fault s [] from word ≡ [] → walked s.rules [] from word ≡ to
    → Walks s to rest end → Walks s from (word ∷ rest) end
unfolding walk_fault
one_more s from to end word rest no_fault steps walks = record {
  faultless =
      ap₂ (λ (kinds : Kinds) (w : Walk). or_else kinds (walk_fault s [] w rest)) no_fault steps ∙ walks.faultless;
  reaches = ap (λ w. fold (walked s.rules []) w rest) steps ∙ walks.reaches;
}

-- a word that must be given
pub word_more : (s : Shape) (h later : Held) (position after : ℕ) (end : Walk) (word : Text) (rest : List Text) → IsPlainWord word
    → step_fault s position h value ≡ [] → to_positional s.rules (arg_by_index s.rules position) word (between h position) h ≡ between later after
    → Walks s (between later after) rest end → Walks s (between h position) (word ∷ rest) end
unfolding walked
word_more s h later position after end word rest plain no_fault goes walks =
    one_more s (between h position) (between later after) end word rest
    (ap₂ (λ (kinds : Kinds) (met : Held × Step). or_else kinds (step_fault s position met.0 met.1)) (no_word_fault s idle word h plain)
    (idle_met s.rules position word h plain) ∙ no_fault)
    (ap (λ (met : Held × Step). after_step s.rules word (between h position) met.0 met.1) (idle_met s.rules position word h plain) ∙ goes)
    walks

-- the value of an option
pub value_more : (s : Shape) (id : Text) (h later : Held) (position : ℕ) (end : Walk) (word : Text) (rest : List Text) → IsPlainWord word
    → option_word (arg_by_id s.rules id) id word h ≡ (later, idle) → Walks s (between later position) rest end
    → Walks s (waits_for id h position) (word ∷ rest) end
unfolding walked
value_more s id h later position end word rest plain goes walks =
    one_more s (waits_for id h position) (between later position) end word rest
    (ap₂ (λ (kinds : Kinds) (met : Held × Step). or_else kinds (step_fault s position met.0 met.1)) (no_word_fault s (option id) word h plain)
    (option_met s.rules id position word h plain))
    (ap (λ (met : Held × Step). after_step s.rules word (waits_for id h position) met.0 met.1) (option_met s.rules id position word h plain)
    ∙ ap (λ (held : Held × Waiting). record (waits_for id h position) { held = held.0; waiting = held.1 }) goes)
    walks

-- the name of an option
pub name_more : (s : Shape) (id : Text) (h later : Held) (position : ℕ) (end : Walk) (word : Text) (rest : List Text)
    → turn_fault s [] (between h position) word ≡ [] → walked s.rules [] (between h position) word ≡ waits_for id later position
    → Walks s (waits_for id later position) rest end → Walks s (between h position) (word ∷ rest) end
name_more s id h later position end word rest no_fault goes walks =
    one_more s (between h position) (waits_for id later position) end word rest no_fault goes walks

-- ---- all words

-- the command takes the words, and finds this
pub record Reads (s : Shape) (words : List Text) (rows : List Row) : Type 0 where
  pub faultless : level_fault s [] nothing_held words false [] ≡ []
  pub finds : rows_after s.rules [] words ≡ rows

-- what can be wrong after the last word
abbrev pub end_fault : Shape → Held → Kinds
end_fault s h =
    or_else (settle_fault s.rules s.args_override_self h) (or_else (defaults_fault (settled s.rules h).rows s.rules) (check_fault s (finished s.rules h) false))

pub reads : (s : Shape) (words : List Text) (h : Held) (position : ℕ) (rows : List Row) → Walks s (between nothing_held 1) words (between h position)
    → end_fault s h ≡ [] → finished s.rules h ≡ rows → Reads s words rows
reads s words h position rows walks no_fault finds = record {
  faultless =
      ap₂ (λ (kinds : Kinds) (w : Walk). or_else kinds (or_else [] (end_fault s w.held))) walks.faultless walks.reaches ∙ no_fault;
  finds = ap (λ (w : Walk). finished s.rules w.held) walks.reaches ∙ finds;
}

-- ---- the words behind a command's name

pub stops : (c : List Rule) (names : Names) (w : Walk) (name : Text) (before rest : List Text) → w.stopped ≡ Some (name, before)
    → ((fold (walked c names) w rest).stopped ≡ Some (name, before ++ rest)) × ((fold (walked c names) w rest).held ≡ w.held)
unfolding walked
stops c names w name before [] stopped = (stopped ∙ ap (λ (words : List Text). Some (name, words)) (sym (append-nil before)), refl)
stops c names w name before (word ∷ rest) stopped =
    let further : walked c names w word ≡ record w { stopped = Some (name, before ++ word ∷ []) } = ap (λ stop. walked_from c names stop w word) stopped in
    let more = stops c names (record w { stopped = Some (name, before ++ word ∷ []) }) name (before ++ word ∷ []) rest refl in (
      ap (λ (v : Walk). (fold (walked c names) v rest).stopped) further ∙ more.0
          ∙ ap (λ (words : List Text). Some (name, words)) (append_assoc before (word ∷ []) rest),
      ap (λ (v : Walk). (fold (walked c names) v rest).held) further ∙ more.1,
    )

pub no_more_faults : (s : Shape) (names : Names) (w : Walk) (name : Text) (before rest : List Text) → w.stopped ≡ Some (name, before) → walk_fault s names w rest ≡ []
unfolding walk_fault walked
no_more_faults s names w name before [] stopped = refl
no_more_faults s names w name before (word ∷ rest) stopped =
    let further : walked s.rules names w word ≡ record w { stopped = Some (name, before ++ word ∷ []) } = ap (λ stop. walked_from s.rules names stop w word) stopped in
    let quiet : turn_fault s names w word ≡ [] = rw stopped refl in
    ap₂ (λ (kinds : Kinds) (v : Walk). or_else kinds (walk_fault s names v rest)) quiet further
    ∙ no_more_faults s names (record w { stopped = Some (name, before ++ word ∷ []) }) name (before ++ word ∷ []) rest refl
