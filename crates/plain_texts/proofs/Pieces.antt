-- Lines of a text: how its pieces are taken off one by one, and how the text is made of them. Words of a line: how
-- they are found from the left.
use Rattle.std.proofs.Common.{◌≡◌, ℕ, List, [], ◌∷◌, ◌++◌, length, take, drop, get_or, refl, ap, sym, ◌∙◌, subst, ◌<◌, ◌≤◌, ◌+◌, arith, Bool, true, false, cond, append_assoc, length-take, get_or-take, ◌-◌, length-drop, get_or-drop, Option, Some, None, option_map, unwrap_or, nat_lt, position, MatchOption, slice_range, append-nil, drop-drop}
use Rattle.std.specs.List.{slice_split, onto_first, join_with_byte, position_or_len, before_first, after_first, AllByRecursion}
use Rattle.std.proofs.lemmas.Bool.Decides.{nat_tests}
use Rattle.std.proofs.lemmas.List.Splits.{slice_split_none, slice_split_at, slice_split_first, join_with_byte-slice_split}
use Rattle.std.proofs.lemmas.List.Sums.{split_at_first, fails_before_first, passes_at_first, position_or_len_is}
use Rattle.std.proofs.lemmas.Option.{none-some, same_Some, cond_some, some_pair_parts}
use Rattle.plain_texts.specs.{is_feed, is_space, words_of, pieces, lines_of_pieces, lines_of, IsLine, lines_text, next_line_of, around, split_line_of}

-- what next_line takes off
record Cut (text line rest : List ℕ) : Type 0 where
  within : position_or_len is_feed text < length text
  line_is : before_first is_feed text ≡ line
  rest_is : after_first is_feed text ≡ rest

cut : (text line rest : List ℕ) → next_line_of text ≡ Some (line, rest) → Cut text line rest
unfolding next_line_of
cut text line rest e = at_position (position is_feed text) refl e
  where
    at_position : (o : Option ℕ) → position is_feed text ≡ o → option_map (around text) o ≡ Some (line, rest) → Cut text line rest
    at_position None is e = absurd (none-some (line, rest) e)
    at_position (Some end) is e =
        let found = cond_some (nat_lt (position_or_len is_feed text) (length text)) (position_or_len is_feed text) end is in
        let parts = some_pair_parts (take end text) line (drop (end + 1) text) rest e in
        record { within = grind (arith, nat_tests, found.0); line_is = ap (λ k. take k text) found.1 ∙ parts.0; rest_is = ap (λ k. drop (k + 1) text) found.1 ∙ parts.1 }

not_cut : (text : List ℕ) → next_line_of text ≡ None → length text ≤ position_or_len is_feed text
unfolding next_line_of
not_cut text e = at_test (nat_lt (position_or_len is_feed text) (length text)) refl e
  where
    at_test : (t : Bool) → nat_lt (position_or_len is_feed text) (length text) ≡ t → option_map (around text) (cond t (Some (position_or_len is_feed text)) None) ≡ None → length text ≤ position_or_len is_feed text
    at_test true is e = absurd (none-some _ (sym e))
    at_test false is e = grind (arith, nat_tests)

-- The first line is the first piece.
pub pieces_some : (text line rest : List ℕ) → next_line_of text ≡ Some (line, rest) → pieces text ≡ line ∷ pieces rest
unfolding pieces
pieces_some text line rest e =
    let c = cut text line rest e in
    slice_split_first is_feed text 0 c.within ∙ ap (λ x. x ∷ slice_split is_feed (after_first is_feed text)) c.line_is ∙ ap (λ x. line ∷ slice_split is_feed x) c.rest_is

-- A text without a line feed is one piece.
pub pieces_none : (text : List ℕ) → next_line_of text ≡ None → pieces text ≡ text ∷ []
unfolding pieces
pieces_none text e =
    let past = not_cut text e in
    slice_split_none is_feed text (λ k d h. fails_before_first is_feed text k d (omega arith))

-- The text is the line, its line feed and the rest.
pub next_line_cut : (text line rest : List ℕ) → next_line_of text ≡ Some (line, rest) → text ≡ line ++ 10 ∷ rest
next_line_cut text line rest e =
    let c = cut text line rest e in
    let feed : get_or text (position_or_len is_feed text) 0 ≡ 10 = grind (arith, nat_tests, passes_at_first is_feed text 0 c.within) in
    split_at_first is_feed text 0 c.within ∙ rw (feed, c.line_is, c.rest_is) refl

pub next_line_is_line : (text line rest : List ℕ) → next_line_of text ≡ Some (line, rest) → IsLine line
next_line_is_line text line rest e =
    let c = cut text line rest e in
    subst IsLine c.line_is (λ k d h.
    let lt : k < position_or_len is_feed text = omega (arith, h, length-take (position_or_len is_feed text) text) in
    rw get_or-take (fails_before_first is_feed text k d lt))

-- A text has at least one piece.
onto_cons : (b : ℕ) (parts : List (List ℕ)) → (piece : List ℕ) × (more : List (List ℕ)) × (onto_first b parts ≡ piece ∷ more)
onto_cons b [] = (b ∷ [], [], refl)
onto_cons b (part ∷ parts) = (b ∷ part, parts, refl)

pub pieces_cons : (text : List ℕ) → (piece : List ℕ) × (more : List (List ℕ)) × (pieces text ≡ piece ∷ more)
unfolding pieces
pieces_cons [] = ([], [], refl)
pieces_cons (b ∷ bs) = at_test (is_feed b)
  where
    at_test : (t : Bool) → (piece : List ℕ) × (more : List (List ℕ)) × (cond t ([] ∷ slice_split is_feed bs) (onto_first b (slice_split is_feed bs)) ≡ piece ∷ more)
    at_test true = ([], slice_split is_feed bs, refl)
    at_test false = onto_cons b (slice_split is_feed bs)

-- a line with its line feed before a text is one piece more
pub pieces_line : (line rest : List ℕ) → IsLine line → pieces (line ++ 10 ∷ rest) ≡ line ∷ pieces rest
unfolding pieces
pieces_line line rest h = slice_split_at is_feed line 10 rest h refl

pub pieces_lines : (lines : List (List ℕ)) → AllByRecursion IsLine lines → pieces (lines_text lines) ≡ lines ++ [] ∷ []
unfolding pieces
pieces_lines [] h = refl
pieces_lines (line ∷ lines) h = ap pieces (append_assoc line (10 ∷ []) (lines_text lines)) ∙ pieces_line line (lines_text lines) h.0 ∙ ap (λ x. line ∷ x) (pieces_lines lines h.1)

joined_lines : (lines : List (List ℕ)) → join_with_byte 10 (lines ++ [] ∷ []) ≡ lines_text lines
joined_lines [] = refl
joined_lines (line ∷ []) = sym (append-nil (line ++ 10 ∷ []))
joined_lines (line ∷ next ∷ lines) = ap (λ x. line ++ 10 ∷ x) (joined_lines (next ∷ lines)) ∙ sym (append_assoc line (10 ∷ []) (lines_text (next ∷ lines)))

-- a text whose last piece is empty is its other pieces, one below the other
pub text_of_lines : (text : List ℕ) (lines : List (List ℕ)) → pieces text ≡ lines ++ [] ∷ [] → text ≡ lines_text lines
unfolding pieces
text_of_lines text lines e = sym (join_with_byte-slice_split 10 text) ∙ ap (join_with_byte 10) e ∙ joined_lines lines

-- The pieces of a text that goes on are not one empty piece.
pub pieces_more : (b : ℕ) (bs : List ℕ) → pieces (b ∷ bs) ≡ [] ∷ [] → ⊥
pieces_more b bs e = let none : b ∷ bs ≡ [] = text_of_lines (b ∷ bs) [] e in cc

-- The lines of a text, taken off one by one.
pub lines_some : (text line rest : List ℕ) → split_line_of text ≡ Some (line, rest) → lines_of text ≡ line ∷ lines_of rest
unfolding lines_of split_line_of pieces
lines_some [] line rest e = absurd (none-some (line, rest) e)
lines_some (b ∷ bs) line rest e = at_next (next_line_of (b ∷ bs)) refl (same_Some _ _ e)
  where
    at_next : (o : Option (List ℕ × List ℕ)) → next_line_of (b ∷ bs) ≡ o → unwrap_or o (b ∷ bs, []) ≡ (line, rest) → lines_of_pieces (pieces (b ∷ bs)) ≡ line ∷ lines_of_pieces (pieces rest)
    at_next None is e =
        let text_is : b ∷ bs ≡ line = ap (λ x. x.0) e in
        let rest_is : [] ≡ rest = ap (λ x. x.1) e in
        ap lines_of_pieces (pieces_none (b ∷ bs) is) ∙ ap (λ x. x ∷ []) text_is ∙ ap (λ x. line ∷ lines_of_pieces (pieces x)) rest_is
    at_next (Some x) is e =
        let others = pieces_cons rest in
        ap lines_of_pieces (pieces_some (b ∷ bs) line rest (is ∙ ap Some e)) ∙ ap (λ x. lines_of_pieces (line ∷ x)) others.2 ∙ ap (λ x. line ∷ lines_of_pieces x) (sym others.2)

pub lines_none : (text : List ℕ) → split_line_of text ≡ None → lines_of text ≡ []
unfolding lines_of split_line_of pieces
lines_none [] e = refl
lines_none (b ∷ bs) e = absurd (none-some _ (sym e))

lines_kept : (lines : List (List ℕ)) → lines_of_pieces (lines ++ [] ∷ []) ≡ lines
lines_kept [] = refl
lines_kept (line ∷ []) = refl
lines_kept (line ∷ next ∷ lines) = ap (λ x. line ∷ x) (lines_kept (next ∷ lines))

-- Lines that are written one below the other are read again.
pub lines_of-lines_text : (lines : List (List ℕ)) → AllByRecursion IsLine lines → lines_of (lines_text lines) ≡ lines
unfolding lines_of
lines_of-lines_text lines h = ap lines_of_pieces (pieces_lines lines h) ∙ lines_kept lines

not_cut_is_line : (text : List ℕ) → next_line_of text ≡ None → IsLine text
not_cut_is_line text e = let past = not_cut text e in λ k d h. fails_before_first is_feed text k d (omega arith)

-- What next_line and split_line answer, seen through references.
pub next_line_exact : {B : Type 0} (v : B → List ℕ) (text : List ℕ) (r : Option (B × B)) → option_map (λ x. (v x.0, v x.1)) r ≡ next_line_of text → MatchOption r (IsLine text) (λ x. IsLine (v x.0) × (text ≡ v x.0 ++ 10 ∷ v x.1))
next_line_exact v text None e = not_cut_is_line text (sym e)
next_line_exact v text (Some x) e = (next_line_is_line text (v x.0) (v x.1) (sym e), next_line_cut text (v x.0) (v x.1) (sym e))

pub split_line_exact : {B : Type 0} (v : B → List ℕ) (text : List ℕ) (r : Option (B × B)) → option_map (λ x. (v x.0, v x.1)) r ≡ split_line_of text → MatchOption r (lines_of text ≡ []) (λ x. lines_of text ≡ v x.0 ∷ lines_of (v x.1))
split_line_exact v text None e = lines_none text (sym e)
split_line_exact v text (Some x) e = lines_some text (v x.0) (v x.1) (sym e)

-- The first word of a line that has a space, and of one that has none.
word_some : (line : List ℕ) (end : ℕ) → position is_space line ≡ Some end → words_of line ≡ take end line ∷ words_of (drop (end + 1) line)
unfolding words_of
word_some line end e = at_test (nat_lt (position_or_len is_space line) (length line)) refl e
  where
    at_test : (t : Bool) → nat_lt (position_or_len is_space line) (length line) ≡ t → cond t (Some (position_or_len is_space line)) None ≡ Some end → words_of line ≡ take end line ∷ words_of (drop (end + 1) line)
    at_test false is e = absurd (none-some end e)
    at_test true is e =
        let here = same_Some _ end e in
        slice_split_first is_space line 0 (grind (arith, nat_tests)) ∙ ap (λ k. take k line ∷ slice_split is_space (drop (k + 1) line)) here

word_none : (line : List ℕ) → position is_space line ≡ None → words_of line ≡ line ∷ []
unfolding words_of
word_none line e = at_test (nat_lt (position_or_len is_space line) (length line)) refl e
  where
    at_test : (t : Bool) → nat_lt (position_or_len is_space line) (length line) ≡ t → cond t (Some (position_or_len is_space line)) None ≡ None → words_of line ≡ line ∷ []
    at_test true is e = absurd (none-some _ (sym e))
    at_test false is e =
        let past : length line ≤ position_or_len is_space line = grind (arith, nat_tests) in
        slice_split_none is_space line (λ k d h. fails_before_first is_space line k d (omega arith))

-- the words so far, and where the next one starts, which has no space up to here
pub record WordsSoFar (line : List ℕ) (words : List (List ℕ)) (start at : ℕ) : Type 0 where
  pub ordered : start ≤ at
  pub words_are : words ++ words_of (drop start line) ≡ words_of line
  pub spaceless : (k : ℕ) → start ≤ k → k < at → is_space (get_or line k 0) ≡ false

space_behind : (line : List ℕ) (start at : ℕ) → start ≤ at → at < length line → get_or line at 0 ≡ 32 → ((k : ℕ) → start ≤ k → k < at → is_space (get_or line k 0) ≡ false) → position is_space (drop start line) ≡ Some (at - start)
space_behind line start at ordered inside space none =
    let there : start + (at - start) ≡ at = omega arith in
    let tested : is_space (get_or line at 0) ≡ true = grind (arith, nat_tests) in
    let before : (k : ℕ) → k < at - start → is_space (get_or (drop start line) k 0) ≡ false = λ k h. rw get_or-drop (none (start + k) (omega arith) (omega arith)) in
    let long = length-drop start line in
    let found = position_or_len_is is_space (drop start line) (at - start) 0 (omega (arith, long)) before (λ _. rw (get_or-drop, there) tested) in
    let test : nat_lt (at - start) (length (drop start line)) ≡ true = grind (arith, nat_tests, long) in
    rw (found, test) refl

-- A space ends the word.
pub words_space : (line : List ℕ) (words : List (List ℕ)) (start at : ℕ) → WordsSoFar line words start at → at < length line → get_or line at 0 ≡ 32 → WordsSoFar line (words ++ slice_range line start at ∷ []) (at + 1) (at + 1)
words_space line words start at h inside space =
    let cut = word_some (drop start line) (at - start) (space_behind line start at h.ordered inside space h.spaceless) in
    let behind : drop (at - start + 1) (drop start line) ≡ drop (at + 1) line = drop-drop (at - start + 1) start line ∙ ap (λ n. drop n line) (omega arith) in
    record {
      ordered = omega arith;
      words_are = append_assoc words (slice_range line start at ∷ []) (words_of (drop (at + 1) line)) ∙ ap (λ x. words ++ x) (sym (cut ∙ ap (λ x. take (at - start) (drop start line) ∷ words_of x) behind)) ∙ h.words_are;
      spaceless = λ k low high. absurd (omega arith);
    }

-- Another byte is one of the word.
pub words_byte : (line : List ℕ) (words : List (List ℕ)) (start at : ℕ) → WordsSoFar line words start at → is_space (get_or line at 0) ≡ false → WordsSoFar line words start (at + 1)
words_byte line words start at h other = record { ordered = omega (arith, h.ordered); words_are = h.words_are; spaceless = λ k low high. by_place k low high (nat_lt k at) refl }
  where
    by_place : (k : ℕ) → start ≤ k → k < at + 1 → (t : Bool) → nat_lt k at ≡ t → is_space (get_or line k 0) ≡ false
    by_place k low high true e = h.spaceless k low (grind (arith, nat_tests))
    by_place k low high false e = let last : k ≡ at = grind (arith, nat_tests) in rw last other

-- The last word ends with the line.
pub words_end : (line : List ℕ) (words : List (List ℕ)) (start at : ℕ) → WordsSoFar line words start at → length line ≤ at → words ++ drop start line ∷ [] ≡ words_of line
words_end line words start at h end =
    let long = length-drop start line in
    let before : (k : ℕ) → k < length (drop start line) → is_space (get_or (drop start line) k 0) ≡ false = λ k low. rw get_or-drop (h.spaceless (start + k) (omega arith) (omega (arith, long, low))) in
    let none = position_or_len_is is_space (drop start line) (length (drop start line)) 0 (omega arith) before (λ h. absurd (omega arith)) in
    let test : nat_lt (length (drop start line)) (length (drop start line)) ≡ false = grind (arith, nat_tests) in
    ap (λ x. words ++ x) (sym (word_none (drop start line) (rw (none, test) refl))) ∙ h.words_are
