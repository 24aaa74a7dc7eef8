-- What bytes do is what their lines do.
use Rattle.plan_base.proofs.Common.{◌≡◌, ℕ, List, [], ◌∷◌, map, refl, Ok, Err, Result}
use Rattle.plan_base.specs.{Caps}
use Rattle.plain_texts.specs.{pieces, lines_of, lines_of_pieces}
use Rattle.opl_reader.specs.{OplFault, Line, map_line_of, all_but_last, GatheredLists, with_line, last_line, ReaderState, on_ok, with_pieces, with_bytes}

-- lines are added one after another
abbrev pub with_lines : Caps → GatheredLists → List Line → Result GatheredLists OplFault
with_lines caps g [] = Ok g
with_lines caps g (line ∷ lines) = on_ok (with_line caps g line) (λ h. with_lines caps h lines)

-- what is held behind the last line feed
abbrev pub last_piece : List (List ℕ) → List ℕ
last_piece [] = []
last_piece (piece ∷ []) = piece
last_piece (piece ∷ next ∷ more) = last_piece (next ∷ more)

module _ (caps : Caps) where
  abbrev at_line : GatheredLists → List ℕ → ReaderState
  at_line g held = record { caps = caps; gathered = g; held = held }

  -- the lines that have ended are added, and the rest is held
  ended_pieces : (g : GatheredLists) (ps : List (List ℕ)) → with_pieces (at_line g []) ps ≡ on_ok (with_lines caps g (map map_line_of (all_but_last ps))) (λ h. Ok (at_line h (last_piece ps)))
  ended_pieces g [] = refl
  ended_pieces g (piece ∷ []) = refl
  ended_pieces g (piece ∷ next ∷ more) = by_line (with_line caps g (map_line_of piece)) (λ h. ended_pieces h (next ∷ more))
    where
      by_line : (r : Result GatheredLists OplFault)
          → ((h : GatheredLists) → with_pieces (at_line h []) (next ∷ more) ≡ on_ok (with_lines caps h (map map_line_of (all_but_last (next ∷ more)))) (λ k. Ok (at_line k (last_piece (next ∷ more)))))
          → on_ok (on_ok r (λ h. Ok (at_line h []))) (λ t. with_pieces t (next ∷ more))
          ≡ on_ok (on_ok r (λ h. with_lines caps h (map map_line_of (all_but_last (next ∷ more))))) (λ h. Ok (at_line h (last_piece (next ∷ more))))
      by_line (Ok h) rest = rest h
      by_line (Err fault) rest = refl

  pub ended_bytes : (g : GatheredLists) (bytes : List ℕ) → with_bytes (at_line g []) bytes ≡ on_ok (with_lines caps g (map map_line_of (all_but_last (pieces bytes)))) (λ h. Ok (at_line h (last_piece (pieces bytes))))
  unfolding with_bytes
  ended_bytes g bytes = ended_pieces g (pieces bytes)

  unchanged : {A : Type 0} (r : Result A OplFault) → r ≡ on_ok r (λ a. Ok a)
  unchanged (Ok a) = refl
  unchanged (Err fault) = refl

  -- with the last line too
  all_pieces : (g : GatheredLists) (ps : List (List ℕ)) → on_ok (with_pieces (at_line g []) ps) (λ t. last_line t.caps t.gathered t.held) ≡ with_lines caps g (map map_line_of (lines_of_pieces ps))
  all_pieces g [] = refl
  all_pieces g ([] ∷ []) = refl
  all_pieces g ((b ∷ bs) ∷ []) = unchanged (with_line caps g (map_line_of (b ∷ bs)))
  all_pieces g (piece ∷ next ∷ more) = by_line (with_line caps g (map_line_of piece)) (λ h. all_pieces h (next ∷ more))
    where
      by_line : (r : Result GatheredLists OplFault)
          → ((h : GatheredLists) → on_ok (with_pieces (at_line h []) (next ∷ more)) (λ t. last_line t.caps t.gathered t.held) ≡ with_lines caps h (map map_line_of (lines_of_pieces (next ∷ more))))
          → on_ok (on_ok (on_ok r (λ h. Ok (at_line h []))) (λ t. with_pieces t (next ∷ more))) (λ t. last_line t.caps t.gathered t.held)
          ≡ on_ok r (λ h. with_lines caps h (map map_line_of (lines_of_pieces (next ∷ more))))
      by_line (Ok h) rest = rest h
      by_line (Err fault) rest = refl

  pub all_bytes : (g : GatheredLists) (bytes : List ℕ) → on_ok (with_bytes (at_line g []) bytes) (λ t. last_line t.caps t.gathered t.held) ≡ with_lines caps g (map map_line_of (lines_of bytes))
  unfolding with_bytes lines_of
  all_bytes g bytes = all_pieces g (pieces bytes)
