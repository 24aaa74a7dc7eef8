-- The lines of a text that begins with lines.
use Rattle.plan_base.proofs.Common.{◌≡◌, ℕ, ◌≤◌, ◌∙◌, List, [], ◌∷◌, ◌++◌, append_assoc, length, length-append, false, Option, Some, None, refl, ap, sym, arith, All, All-head, All-tail, All-append, slice_split_none}
use Rattle.plain_texts.specs.{is_feed, IsLine, lines_of, lines_of_pieces, lines_text, next_line_of, pieces}
use Rattle.plain_texts.proofs.Pieces.{next_line_exact, pieces_cons, pieces_line}

-- what has no line feed, one behind the other
pub line_join : (xs ys : List ℕ) → IsLine xs → IsLine ys → IsLine (xs ++ ys)
line_join xs ys = All-append (λ (b : ℕ). is_feed b ≡ false) xs ys

-- a line with its line feed before a text is one line more
lines_line : (line rest : List ℕ) → IsLine line → lines_of (line ++ 10 ∷ rest) ≡ line ∷ lines_of rest
unfolding lines_of
lines_line line rest is =
    let others = pieces_cons rest in
    ap lines_of_pieces (pieces_line line rest is) ∙ ap (λ (ps : List (List ℕ)). lines_of_pieces (line ∷ ps)) others.2 ∙ ap (λ (ps : List (List ℕ)). line ∷ lines_of_pieces ps) (sym others.2)

pub lines_before : (lines : List (List ℕ)) (rest : List ℕ) → All IsLine lines → lines_of (lines_text lines ++ rest) ≡ lines ++ lines_of rest
lines_before [] rest are = refl
lines_before (line ∷ lines) rest are =
    ap lines_of (append_assoc (line ++ 10 ∷ []) (lines_text lines) rest ∙ append_assoc line (10 ∷ []) (lines_text lines ++ rest))
    ∙ (lines_line line (lines_text lines ++ rest) (All-head IsLine line lines are) ∙ ap (λ (ls : List (List ℕ)). line ∷ ls) (lines_before lines rest (All-tail IsLine line lines are)))

-- a text without a line feed is one line, if it is not empty
pub lines_one : (b : ℕ) (rest : List ℕ) → IsLine (b ∷ rest) → lines_of (b ∷ rest) ≡ (b ∷ rest) ∷ []
unfolding lines_of pieces
lines_one b rest is = ap lines_of_pieces (slice_split_none is_feed (b ∷ rest) is)

pub lines_none : lines_of [] ≡ []
unfolding lines_of pieces
lines_none = refl

-- the first line of a text is at least as long as what of it has no line feed
pub first_long : (b : ℕ) (rest more : List ℕ) → IsLine (b ∷ rest) → (line : List ℕ) × (others : List (List ℕ)) × (lines_of ((b ∷ rest) ++ more) ≡ line ∷ others) × (length (b ∷ rest) ≤ length line)
first_long b rest more is = at_next (next_line_of more) refl
  where
    at_next : (o : Option (List ℕ × List ℕ)) → next_line_of more ≡ o
        → (line : List ℕ) × (others : List (List ℕ)) × (lines_of ((b ∷ rest) ++ more) ≡ line ∷ others) × (length (b ∷ rest) ≤ length line)
    at_next None e =
        let none : IsLine more = next_line_exact (λ (x : List ℕ). x) more None (sym e) in
        ((b ∷ rest) ++ more, [], lines_one b (rest ++ more) (line_join (b ∷ rest) more is none), omega (arith, length-append (b ∷ rest) more))
    at_next (Some (end, after)) e =
        let some = next_line_exact (λ (x : List ℕ). x) more (Some (end, after)) (sym e) in
        let line = (b ∷ rest) ++ end in (
          line,
          lines_of after,
          ap (λ (m : List ℕ). lines_of ((b ∷ rest) ++ m)) some.1 ∙ (ap lines_of (sym (append_assoc (b ∷ rest) end (10 ∷ after))) ∙ lines_line line after (line_join (b ∷ rest) end is some.0)),
          omega (arith, length-append (b ∷ rest) end),
        )
