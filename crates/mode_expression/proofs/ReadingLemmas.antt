-- Reading a text gives its expression, or the first token that no sentence can go on with.
use Rattle.plan_base.proofs.Common.{◌≡◌, ℕ, suc, Bool, true, false, ◌&&◌, nat_le, List, [], ◌∷◌, ◌++◌, length, map, Option, Some, None, IfSome, Result, Ok, Err, option_and_then, refl, sym, ap, ◌∙◌, subst, append_assoc, append-nil, inl, inr, if◌then◌else◌, arith, nat_tests, map-append}
use Rattle.mode_expression.specs.{Token, Name, Number, Bar, Star, Plus, Question, OpenBrace, CloseBrace, Comma, Open, Close, letters, repeated, sequence, alternative, IsSentence, BeginsSentence, Placed, tokens_of, token, Spells, IsMisplaced, IsUnfinished, IsReadAs, reading_of, declared.place.Place.Place, declared.place.Place.TheVariants.NeedsAtom, declared.place.Place.TheVariants.AfterAtom, declared.place.Place.TheVariants.AfterItem, declared.place.Place.TheVariants.Least, declared.place.Place.TheVariants.AfterLeast, declared.place.Place.TheVariants.Most, declared.place.Place.TheVariants.AfterMost, Form.Form, inside.Frame, inside.Reading, inside.in_order_onto, inside.step, inside.step_atom, inside.step_item, inside.step_suffix, inside.step_least, inside.step_after_least, inside.step_most, inside.step_after_most, inside.repeat_last, inside.finish, inside.empty_reading, inside.read_from, inside.read_on, inside.ok_or_at}
use Rattle.mode_expression.proofs.MachineLemmas.{reading, accept, EndsItem, accept_close, finish_ends, accept_sentence, sentence_of_accepted}

-- the reading after these tokens, if each may stand there
abbrev run : Reading → List Token → Option Reading
run s [] = Some s
run s (token ∷ tokens) = option_and_then (λ after. run after tokens) (step s token)

accept-append : (xs : List Token) (s : Reading) (ys : List Token) → accept s (xs ++ ys) ≡ option_and_then (λ after. accept after ys) (run s xs)
accept-append [] s ys = refl
accept-append (x ∷ xs) s ys = along (step s x) (λ after. accept-append xs after ys)
  where
    along : (o : Option Reading)
        → ((after : Reading) → accept after (xs ++ ys) ≡ option_and_then (λ last. accept last ys) (run after xs))
        → option_and_then (λ after. accept after (xs ++ ys)) o
        ≡ option_and_then (λ after. accept after ys) (option_and_then (λ after. run after xs) o)
    along None later = refl
    along (Some after) later = later after

run-append : (xs : List Token) (s : Reading) (ys : List Token) → run s (xs ++ ys) ≡ option_and_then (λ after. run after ys) (run s xs)
run-append [] s ys = refl
run-append (x ∷ xs) s ys = along (step s x) (λ after. run-append xs after ys)
  where
    along : (o : Option Reading)
        → ((after : Reading) → run after (xs ++ ys) ≡ option_and_then (λ last. run last ys) (run after xs))
        → option_and_then (λ after. run after (xs ++ ys)) o
        ≡ option_and_then (λ after. run after ys) (option_and_then (λ after. run after xs) o)
    along None later = refl
    along (Some after) later = later after

abbrev HasPart : List Form → Type 0
HasPart [] = ⊥
HasPart (_ ∷ _) = Unit {0}

-- where an atom was read, it is there
abbrev IsProper : Place → List Form → Type 0
IsProper NeedsAtom parts = Unit {0}
IsProper _ parts = HasPart parts

abbrev StaysProper : Option Reading → Type 0
StaysProper after = IfSome after (λ s. IsProper s.place s.frame.parts)

module _ (outer : List Frame) (choices parts : List Form) where
  proper_atom : (place : Place) (token : Token) → StaysProper (step_atom (reading outer choices parts place) token)
  proper_atom place (Name bits) = tt
  proper_atom place Open = tt
  proper_atom place _ = tt

proper_item : (outer : List Frame) (choices parts : List Form) (place : Place) (token : Token) → StaysProper (step_item (reading outer choices parts place) token)
proper_item outer choices parts place Bar = tt
proper_item [] choices parts place Close = tt
proper_item (frame ∷ outer) choices parts place Close = tt
proper_item outer choices parts place token = proper_atom outer choices parts place token

module _ (outer : List Frame) (choices : List Form) (form : Form) (parts : List Form) where
  proper_suffix : (place : Place) (token : Token) → StaysProper (step_suffix (reading outer choices (form ∷ parts) place) token)
  proper_suffix place Star = tt
  proper_suffix place Plus = tt
  proper_suffix place Question = tt
  proper_suffix place OpenBrace = tt
  proper_suffix place token = proper_item outer choices (form ∷ parts) place token

  proper_least : (token : Token) → StaysProper (step_least (reading outer choices (form ∷ parts) Least) token)
  proper_least (Number n) = tt
  proper_least _ = tt

  proper_if : (b : Bool) (after : Option Reading) → StaysProper after → StaysProper (if b then after else None)
  proper_if true after proper = proper
  proper_if false after proper = tt

  proper_after_least : (n : ℕ) (token : Token) → StaysProper (step_after_least (reading outer choices (form ∷ parts) (AfterLeast n)) n token)
  proper_after_least n CloseBrace = proper_if (nat_le 1 n) (repeat_last (reading outer choices (form ∷ parts) (AfterLeast n)) n (Some n)) tt
  proper_after_least n Comma = tt
  proper_after_least n _ = tt

  proper_most : (m : ℕ) (token : Token) → StaysProper (step_most (reading outer choices (form ∷ parts) (Most m)) m token)
  proper_most m (Number n) = proper_if (nat_le 1 n && nat_le m n) (Some (reading outer choices (form ∷ parts) (AfterMost m n))) tt
  proper_most m _ = tt

  proper_after_most : (m n : ℕ) (token : Token) → StaysProper (step_after_most (reading outer choices (form ∷ parts) (AfterMost m n)) m n token)
  proper_after_most m n CloseBrace = tt
  proper_after_most m n _ = tt

proper_step : (token : Token) (outer : List Frame) (choices parts : List Form) (place : Place) → IsProper place parts
    → StaysProper (step (reading outer choices parts place) token)
proper_step token outer choices parts NeedsAtom proper = proper_atom outer choices parts NeedsAtom token
proper_step token outer choices parts AfterItem proper = proper_item outer choices parts AfterItem token
proper_step token outer choices [] AfterAtom proper = absurd proper
proper_step token outer choices [] Least proper = absurd proper
proper_step token outer choices [] (AfterLeast n) proper = absurd proper
proper_step token outer choices [] (Most m) proper = absurd proper
proper_step token outer choices [] (AfterMost m n) proper = absurd proper
proper_step token outer choices (form ∷ parts) AfterAtom proper = proper_suffix outer choices form parts AfterAtom token
proper_step token outer choices (form ∷ parts) Least proper = proper_least outer choices form parts token
proper_step token outer choices (form ∷ parts) (AfterLeast n) proper = proper_after_least outer choices form parts n token
proper_step token outer choices (form ∷ parts) (Most m) proper = proper_most outer choices form parts m token
proper_step token outer choices (form ∷ parts) (AfterMost m n) proper = proper_after_most outer choices form parts m n token

-- the tokens that close all groups
abbrev closes : List Frame → List Token
closes [] = []
closes (_ ∷ outer) = Close ∷ closes outer

accept_closes : (outer : List Frame) (choices parts : List Form) (place : Place) → EndsItem place
    → (form : Form) × (accept (reading outer choices parts place) (closes outer) ≡ Some form)
accept_closes [] choices parts place ends = (_, finish_ends choices parts place ends)
accept_closes (frame ∷ outer) choices parts place ends =
    let later = accept_closes outer frame.choices (alternative (in_order_onto choices (sequence (in_order_onto parts []) ∷ [])) ∷ frame.parts) AfterAtom tt in
    (later.0, accept_close frame.choices frame.parts outer choices parts place ends (closes outer) ∙ later.1)

-- tokens that make a sentence of what was read
abbrev completion : Place → List Frame → List Token
completion NeedsAtom outer = Name 1 ∷ closes outer
completion AfterAtom outer = closes outer
completion AfterItem outer = closes outer
completion Least outer = Number 1 ∷ CloseBrace ∷ closes outer
completion (AfterLeast n) outer = Comma ∷ Number (suc n) ∷ CloseBrace ∷ closes outer
completion (Most m) outer = Number (suc m) ∷ CloseBrace ∷ closes outer
completion (AfterMost m n) outer = CloseBrace ∷ closes outer

accept_completion : (outer : List Frame) (choices parts : List Form) (place : Place) → IsProper place parts
    → (form : Form) × (accept (reading outer choices parts place) (completion place outer) ≡ Some form)
accept_completion outer choices parts NeedsAtom proper = accept_closes outer choices (letters 1 ∷ parts) AfterAtom tt
accept_completion outer choices parts AfterAtom proper = accept_closes outer choices parts AfterAtom tt
accept_completion outer choices parts AfterItem proper = accept_closes outer choices parts AfterItem tt
accept_completion outer choices [] Least proper = absurd proper
accept_completion outer choices [] (AfterLeast n) proper = absurd proper
accept_completion outer choices [] (Most m) proper = absurd proper
accept_completion outer choices [] (AfterMost m n) proper = absurd proper
accept_completion outer choices (form ∷ parts) Least proper = accept_closes outer choices (repeated form 1 (Some 1) ∷ parts) AfterItem tt
accept_completion outer choices (form ∷ parts) (AfterLeast n) proper =
    let later = accept_closes outer choices (repeated form n (Some (suc n)) ∷ parts) AfterItem tt in
    let a : nat_le 1 (suc n) ≡ true = grind (arith, nat_tests) in
    let b : nat_le n (suc n) ≡ true = grind (arith, nat_tests) in
    (later.0, rw (a, b) later.1)
accept_completion outer choices (form ∷ parts) (Most m) proper =
    let later = accept_closes outer choices (repeated form m (Some (suc m)) ∷ parts) AfterItem tt in
    let a : nat_le 1 (suc m) ≡ true = grind (arith, nat_tests) in
    let b : nat_le m (suc m) ≡ true = grind (arith, nat_tests) in
    (later.0, rw (a, b) later.1)
accept_completion outer choices (form ∷ parts) (AfterMost m n) proper = accept_closes outer choices (repeated form m (Some n) ∷ parts) AfterItem tt

-- what was read begins a sentence
begins_of_run : (tokens : List Token) (s : Reading) → run empty_reading tokens ≡ Some s → IsProper s.place s.frame.parts → BeginsSentence tokens
begins_of_run tokens s ran proper =
    let done = accept_completion s.outer s.frame.choices s.frame.parts s.place proper in
    let rest = completion s.place s.outer in
    let accepted = accept-append tokens empty_reading rest ∙ ap (λ o. option_and_then (λ after. accept after rest) o) ran ∙ done.1 in
    (rest, done.0, sentence_of_accepted (tokens ++ rest) done.0 accepted)

-- what begins a sentence can be read
run_of_begins : (tokens : List Token) → BeginsSentence tokens → (s : Reading) × (run empty_reading tokens ≡ Some s)
run_of_begins tokens (rest, form, sentence) = inside (run empty_reading tokens) refl
  where
    inside : (o : Option Reading) → run empty_reading tokens ≡ o → (s : Reading) × (run empty_reading tokens ≡ Some s)
    inside (Some s) ran = (s, ran)
    inside None ran =
        let accepted = accept_sentence (tokens ++ rest) form sentence in
        let never = accept-append tokens empty_reading rest ∙ ap (λ o. option_and_then (λ after. accept after rest) o) ran in
        absurd (cc)

proper_run : (tokens : List Token) (s t : Reading) → IsProper s.place s.frame.parts → run s tokens ≡ Some t → IsProper t.place t.frame.parts
proper_run [] s t proper ran = let same : s ≡ t = cc in subst (λ r. IsProper r.place r.frame.parts) same proper
proper_run (x ∷ tokens) s t proper ran =
    inside (step s x) (proper_step x s.outer s.frame.choices s.frame.parts s.place proper) ran (λ after. proper_run tokens after t)
  where
    inside : (o : Option Reading) → StaysProper o → option_and_then (λ after. run after tokens) o ≡ Some t
        → ((after : Reading) → IsProper after.place after.frame.parts → run after tokens ≡ Some t → IsProper t.place t.frame.parts)
        → IsProper t.place t.frame.parts
    inside None stays never later = absurd (cc)
    inside (Some after) stays ran later = later after stays ran

run_one : (tokens : List Token) (s : Reading) (x : Token) → run empty_reading tokens ≡ Some s → run empty_reading (tokens ++ x ∷ []) ≡ option_and_then (λ after. Some after) (step s x)
run_one tokens s x ran = run-append tokens empty_reading (x ∷ []) ∙ ap (λ o. option_and_then (λ after. run after (x ∷ [])) o) ran

read_from-append : (end : ℕ) (before : List Placed) (s t : Reading) (more : List Placed) → run s (map token before) ≡ Some t
    → read_from end s (before ++ more) ≡ read_from end t more
read_from-append end [] s t more ran = let same : s ≡ t = cc in ap (λ r. read_from end r more) same
read_from-append end (x ∷ before) s t more ran =
    inside (step s x.token) ran (λ after. read_from-append end before after t more)
  where
    inside : (o : Option Reading) → option_and_then (λ after. run after (map token before)) o ≡ Some t
        → ((after : Reading) → run after (map token before) ≡ Some t → read_from end after (before ++ more) ≡ read_from end t more)
        → read_on x.at o (λ next. read_from end next (before ++ more)) ≡ read_from end t more
    inside None never later = absurd (cc)
    inside (Some after) ran later = later after ran

stuck : (tokens : List Token) (s : Reading) (x : Token) → run empty_reading tokens ≡ Some s → step s x ≡ None → BeginsSentence (tokens ++ x ∷ []) → ⊥
stuck tokens s x ran stops begins =
    let goes = run_of_begins (tokens ++ x ∷ []) begins in
    let one = run_one tokens s x ran ∙ ap (λ o. option_and_then (λ after. Some after) o) stops in
    cc

-- how the reading of a text goes on after a front of it
module _ (text : List ℕ) where
  read_rest : (rest before : List Placed) (s : Reading) → tokens_of text ≡ before ++ rest → run empty_reading (map token before) ≡ Some s
      → IsReadAs text (read_from (length text) s rest)
  read_rest [] before s split ran = inside (finish s) refl
    where
      all : map token (tokens_of text) ≡ map token before
      all = ap (λ ts. map token ts) (split ∙ append-nil before)

      accepted : accept empty_reading (map token (tokens_of text)) ≡ finish s
      accepted = ap (λ ts. accept empty_reading ts) (all ∙ sym (append-nil (map token before))) ∙ accept-append (map token before) empty_reading []
          ∙ ap (λ o. option_and_then (λ after. finish after) o) ran

      inside : (o : Option Form) → finish s ≡ o → IsReadAs text (ok_or_at (length text) o)
      inside (Some form) is = sentence_of_accepted (map token (tokens_of text)) form (accepted ∙ is)
      inside None is = inr (record {
        begins = begins_of_run (map token (tokens_of text)) s (ap (λ ts. run empty_reading ts) all ∙ ran) (proper_run (map token before) empty_reading s tt ran);
        none = λ form sentence. let yes = accept_sentence (map token (tokens_of text)) form sentence in let no = accepted ∙ is in cc;
        place = refl;
      })
  read_rest (x ∷ rest) before s split ran =
      inside (step s x.token) refl (λ after. read_rest rest (before ++ x ∷ []) after (split ∙ sym (append_assoc before (x ∷ []) rest)))
    where
      mapped : map token (before ++ x ∷ []) ≡ map token before ++ x.token ∷ []
      mapped = map-append token before (x ∷ [])

      inside : (o : Option Reading) → step s x.token ≡ o
          → ((after : Reading) → run empty_reading (map token (before ++ x ∷ [])) ≡ Some after → IsReadAs text (read_from (length text) after rest))
          → IsReadAs text (read_on x.at o (λ next. read_from (length text) next rest))
      inside None is later = inl (record {
        before = before;
        here = x;
        after = rest;
        split = split;
        begins = begins_of_run (map token before) s ran (proper_run (map token before) empty_reading s tt ran);
        ends = stuck (map token before) s x.token ran is;
        place = refl;
      })
      inside (Some after) is later =
          later after (ap (λ ts. run empty_reading ts) mapped ∙ run_one (map token before) s x.token ran ∙ ap (λ o. option_and_then (λ last. Some last) o) is)

  -- the reading is the one that the grammar asks for
  pub reading_is_right : IsReadAs text (reading_of text)
  reading_is_right = read_rest (tokens_of text) [] empty_reading refl refl

  misplaced_is_read : (at : ℕ) → IsMisplaced text at → reading_of text ≡ Err at
  misplaced_is_read at misplaced =
      let before = misplaced.before in
      let here = misplaced.here in
      let ran = run_of_begins (map token before) misplaced.begins in
      let split = ap (λ ts. read_from (length text) empty_reading ts) misplaced.split in
      let on = read_from-append (length text) before empty_reading ran.0 (here ∷ misplaced.after) ran.1 in
      split ∙ on ∙ inside ran.0 ran.1 (step ran.0 here.token) refl
    where
      inside : (s : Reading) → run empty_reading (map token misplaced.before) ≡ Some s → (o : Option Reading) → step s misplaced.here.token ≡ o
          → read_on misplaced.here.at o (λ next. read_from (length text) next misplaced.after) ≡ Err at
      inside s ran None is = ap (λ n. Err n) (sym misplaced.place)
      inside s ran (Some after) is =
          let one = run_one (map token misplaced.before) s misplaced.here.token ran ∙ ap (λ o. option_and_then (λ last. Some last) o) is in
          let proper = proper_run (map token misplaced.before ++ misplaced.here.token ∷ []) empty_reading after tt one in
          absurd (misplaced.ends (begins_of_run (map token misplaced.before ++ misplaced.here.token ∷ []) after one proper))

  unfinished_is_read : (at : ℕ) → IsUnfinished text at → reading_of text ≡ Err at
  unfinished_is_read at unfinished =
      let all = map token (tokens_of text) in
      let ran = run_of_begins all unfinished.begins in
      let on = read_from-append (length text) (tokens_of text) empty_reading ran.0 [] ran.1 in
      let accepted = ap (λ ts. accept empty_reading ts) (sym (append-nil all)) ∙ accept-append all empty_reading [] ∙ ap (λ o. option_and_then (λ after. finish after) o) ran.1 in
      ap (λ ts. read_from (length text) empty_reading ts) (sym (append-nil (tokens_of text))) ∙ on ∙ inside (finish ran.0) accepted
    where
      inside : (o : Option Form) → accept empty_reading (map token (tokens_of text)) ≡ o → ok_or_at (length text) o ≡ Err at
      inside None is = ap (λ n. Err n) (sym unfinished.place)
      inside (Some form) is = absurd (unfinished.none form (sentence_of_accepted (map token (tokens_of text)) form is))

  spelled_is_read : (form : Form) → Spells text form → reading_of text ≡ Ok form
  spelled_is_read form spells =
      let all = map token (tokens_of text) in
      let accepted = accept_sentence all form spells in
      let ran = run_of_begins all ([], form, subst (λ ts. IsSentence ts form) (sym (append-nil all)) spells) in
      let on = read_from-append (length text) (tokens_of text) empty_reading ran.0 [] ran.1 in
      let finished = sym (ap (λ ts. accept empty_reading ts) (sym (append-nil all)) ∙ accept-append all empty_reading [] ∙ ap (λ o. option_and_then (λ after. finish after) o) ran.1) ∙ accepted in
      ap (λ ts. read_from (length text) empty_reading ts) (sym (append-nil (tokens_of text))) ∙ on ∙ ap (λ o. ok_or_at (length text) o) finished

  -- and there is no other
  pub reading_is_unique : (result : Result Form ℕ) → IsReadAs text result → reading_of text ≡ result
  reading_is_unique (Ok form) spells = spelled_is_read form spells
  reading_is_unique (Err at) (inl misplaced) = misplaced_is_read at misplaced
  reading_is_unique (Err at) (inr unfinished) = unfinished_is_read at unfinished
