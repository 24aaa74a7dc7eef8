-- A cut at a byte is the first step of the cut at each such byte.
use Rattle.plan_base.proofs.Common.{◌≡◌, refl, sym, ℕ, List, [], ◌∷◌, length, take, drop, ap, ◌∙◌, ◌<◌, ◌≤◌, ◌+◌, arith, Bool, true, false, cond, Option, Some, None, option_map, nat_lt, position, slice_split, position_or_len, before_first, after_first, nat_tests, slice_split_none, slice_split_first, fails_before_first, none-some, cond_some, some_pair_parts}
use Rattle.plain_texts.specs.{around}
use Rattle.opl_reader.specs.{is_byte, cut_of}

pub cut_some : (byte : ℕ) (text before behind : List ℕ) → cut_of byte text ≡ Some (before, behind) → slice_split (is_byte byte) text ≡ before ∷ slice_split (is_byte byte) behind
unfolding cut_of
cut_some byte text before behind e = at_position (position (is_byte byte) text) refl e
  where
    at_position : (o : Option ℕ) → position (is_byte byte) text ≡ o → option_map (around text) o ≡ Some (before, behind) → slice_split (is_byte byte) text ≡ before ∷ slice_split (is_byte byte) behind
    at_position None is e = absurd (none-some (before, behind) e)
    at_position (Some end) is e =
        let found = cond_some (nat_lt (position_or_len (is_byte byte) text) (length text)) (position_or_len (is_byte byte) text) end is in
        let parts = some_pair_parts (take end text) before (drop (end + 1) text) behind e in
        let within : position_or_len (is_byte byte) text < length text = grind (arith, nat_tests, found.0) in
        let front : before_first (is_byte byte) text ≡ before = ap (λ k. take k text) found.1 ∙ parts.0 in
        let back : after_first (is_byte byte) text ≡ behind = ap (λ k. drop (k + 1) text) found.1 ∙ parts.1 in
        slice_split_first (is_byte byte) text 0 within ∙ ap (λ x. x ∷ slice_split (is_byte byte) (after_first (is_byte byte) text)) front ∙ ap (λ x. before ∷ slice_split (is_byte byte) x) back

pub cut_none : (byte : ℕ) (text : List ℕ) → cut_of byte text ≡ None → slice_split (is_byte byte) text ≡ text ∷ []
unfolding cut_of
cut_none byte text e = slice_split_none (is_byte byte) text (λ k d h. fails_before_first (is_byte byte) text k d (past h))
  where
    not_before : length text ≤ position_or_len (is_byte byte) text
    not_before = at_test (nat_lt (position_or_len (is_byte byte) text) (length text)) refl e
      where
        at_test : (t : Bool) → nat_lt (position_or_len (is_byte byte) text) (length text) ≡ t → option_map (around text) (cond t (Some (position_or_len (is_byte byte) text)) None) ≡ None → length text ≤ position_or_len (is_byte byte) text
        at_test true is e = absurd (none-some _ (sym e))
        at_test false is e = grind (arith, nat_tests)

    past : {k : ℕ} → k < length text → k < position_or_len (is_byte byte) text
    past h = omega (arith, h, not_before)
