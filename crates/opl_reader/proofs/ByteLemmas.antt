-- How bytes are taken, line by line.
use Rattle.plan_base.proofs.Common.{◌≡◌, ℕ, ◌<◌, List, [], ◌∷◌, length, refl, ap, ◌∙◌, arith, Some, None, Ok, Result, slice_split}
use Rattle.std.proofs.lemmas.List.Splits.{length-slice_split}
use Rattle.plain_texts.specs.{pieces, is_feed}
use Rattle.opl_reader.specs.{OplFault, BadLine, RepeatedObject, TooMany, OutOfMemory, is_byte, cut_of, IsFaultOf, ReaderState, on_ok, holding, with_end, with_pieces, with_bytes}
use Rattle.opl_reader.proofs.CutLemmas.{cut_some, cut_none}

-- a fault stays what follows
pub fault_goes_on : {A B : Type 0} (r : Result A OplFault) (f : A → Result B OplFault) (fault : OplFault) → IsFaultOf r fault → IsFaultOf (on_ok r f) fault
fault_goes_on r f (BadLine line) e = ap (λ r. on_ok r f) e
fault_goes_on r f (RepeatedObject line) e = ap (λ r. on_ok r f) e
fault_goes_on r f (TooMany kind) e = ap (λ r. on_ok r f) e
fault_goes_on r f OutOfMemory e = tt

-- a piece with others behind it ends a line
pub ends_line : (s : ReaderState) (piece : List ℕ) (ps : List (List ℕ)) → 0 < length ps → with_pieces s (piece ∷ ps) ≡ on_ok (with_end (holding s piece)) (λ t. with_pieces t ps)
ends_line s piece [] h = absurd (omega (arith, h))
ends_line s piece (next ∷ more) h = refl

pub some_pieces : (text : List ℕ) → 0 < length (pieces text)
unfolding pieces
some_pieces text = omega (arith, length-slice_split is_feed text)

-- the first line
pub line_first : (s : ReaderState) (text line behind : List ℕ) → cut_of 10 text ≡ Some (line, behind) → with_bytes s text ≡ on_ok (with_end (holding s line)) (λ t. with_bytes t behind)
unfolding with_bytes pieces
line_first s text line behind e = ap (with_pieces s) (cut_some 10 text line behind e) ∙ ends_line s line (slice_split (is_byte 10) behind) (omega (arith, length-slice_split (is_byte 10) behind))

-- no line ends
pub line_none : (s : ReaderState) (text : List ℕ) → cut_of 10 text ≡ None → with_bytes s text ≡ Ok (holding s text)
unfolding with_bytes pieces
line_none s text e = ap (with_pieces s) (cut_none 10 text e)
