-- Bytes may be taken in any pieces.
use Rattle.plan_base.proofs.Common.{◌≡◌, ℕ, List, [], ◌∷◌, ◌++◌, refl, sym, ap, ◌∙◌, Bool, true, false, append_assoc, Ok, Err, Result, slice_split, onto_first, append-nil}
use Rattle.std.proofs.lemmas.List.Splits.{slice_split-cons_yes, slice_split-cons_no}
use Rattle.plain_texts.specs.{pieces, is_feed}
use Rattle.opl_reader.specs.{OplFault, ReaderState, on_ok, holding, with_end, with_pieces, with_bytes}
use Rattle.opl_reader.proofs.ByteLemmas.{ends_line, some_pieces}

holding_nothing : (s : ReaderState) → holding s [] ≡ s
holding_nothing s = ap (λ held. record s { held = held }) (append-nil s.held)

holding_twice : (s : ReaderState) (x y : List ℕ) → holding (holding s x) y ≡ holding s (x ++ y)
holding_twice s x y = ap (λ held. record s { held = held }) (append_assoc s.held x y)

pub with_nothing : (s : ReaderState) → with_bytes s [] ≡ Ok s
unfolding with_bytes pieces
with_nothing s = ap Ok (holding_nothing s)

-- a line feed
with_feed : (s : ReaderState) (b : ℕ) (bs : List ℕ) → is_feed b ≡ true → with_bytes s (b ∷ bs) ≡ on_ok (with_end s) (λ t. with_bytes t bs)
unfolding with_bytes pieces
with_feed s b bs is =
    ap (with_pieces s) (slice_split-cons_yes is_feed b bs is) ∙ ends_line s [] (slice_split is_feed bs) (some_pieces bs)
    ∙ ap (λ t. on_ok (with_end t) (λ u. with_pieces u (slice_split is_feed bs))) (holding_nothing s)

-- a byte in front joins the first piece
onto_held : (s : ReaderState) (b : ℕ) (ps : List (List ℕ)) → with_pieces s (onto_first b ps) ≡ with_pieces (holding s (b ∷ [])) ps
onto_held s b [] = refl
onto_held s b (piece ∷ []) = ap Ok (sym (holding_twice s (b ∷ []) piece))
onto_held s b (piece ∷ next ∷ more) = ap (λ t. on_ok (with_end t) (λ u. with_pieces u (next ∷ more))) (sym (holding_twice s (b ∷ []) piece))

-- any other byte
with_byte : (s : ReaderState) (b : ℕ) (bs : List ℕ) → is_feed b ≡ false → with_bytes s (b ∷ bs) ≡ with_bytes (holding s (b ∷ [])) bs
unfolding with_bytes pieces
with_byte s b bs is = ap (with_pieces s) (slice_split-cons_no is_feed b bs is) ∙ onto_held s b (slice_split is_feed bs)

through : {A B C : Type 0} (r : Result A OplFault) (f : A → Result C OplFault) (g : A → Result B OplFault) (h : B → Result C OplFault)
    → ((a : A) → f a ≡ on_ok (g a) h) → on_ok r f ≡ on_ok (on_ok r g) h
through (Ok a) f g h same = same a
through (Err fault) f g h same = refl

-- taking all bytes is taking them one after another, however they are cut
pub with_both : (bytes more : List ℕ) (s : ReaderState) → with_bytes s (bytes ++ more) ≡ on_ok (with_bytes s bytes) (λ t. with_bytes t more)
with_both [] more s = ap (λ r. on_ok r (λ t. with_bytes t more)) (sym (with_nothing s))
with_both (b ∷ bs) more s = by_feed (is_feed b) refl (λ t. with_both bs more t)
  where
    by_feed : (t : Bool) → is_feed b ≡ t → ((t : ReaderState) → with_bytes t (bs ++ more) ≡ on_ok (with_bytes t bs) (λ u. with_bytes u more)) → with_bytes s (b ∷ (bs ++ more)) ≡ on_ok (with_bytes s (b ∷ bs)) (λ t. with_bytes t more)
    by_feed true is rest =
        with_feed s b (bs ++ more) is
        ∙ through (with_end s) (λ t. with_bytes t (bs ++ more)) (λ t. with_bytes t bs) (λ t. with_bytes t more) rest
        ∙ ap (λ r. on_ok r (λ t. with_bytes t more)) (sym (with_feed s b bs is))
    by_feed false is rest =
        with_byte s b (bs ++ more) is ∙ rest (holding s (b ∷ []))
        ∙ ap (λ r. on_ok r (λ t. with_bytes t more)) (sym (with_byte s b bs is))
