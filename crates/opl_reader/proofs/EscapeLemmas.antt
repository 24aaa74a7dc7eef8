-- How a text is unescaped from its front on.
use Rattle.plan_base.proofs.Common.{◌≡◌, ℕ, List, ◌∷◌, ◌++◌, refl, sym, ap, ◌∙◌, append_assoc, Option, Some, None, option_map, slice_split}
use Rattle.std.proofs.Common.{encode_utf8}
use Rattle.opl_reader.specs.{◌>>=◌, is_byte, cut_of, character_at, by_turns, unescaped}
use Rattle.opl_reader.proofs.CutLemmas.{cut_some, cut_none}

two_cuts : (rest plain behind digits after : List ℕ) → cut_of 37 rest ≡ Some (plain, behind) → cut_of 37 behind ≡ Some (digits, after) → slice_split (is_byte 37) rest ≡ plain ∷ digits ∷ slice_split (is_byte 37) after
two_cuts rest plain behind digits after first second = cut_some 37 rest plain behind first ∙ ap (λ parts. plain ∷ parts) (cut_some 37 behind digits after second)

nothing_more : {A B : Type 0} (o : Option A) → ◌>>=◌ {A = A} {B = B} o (λ _. None) ≡ None
nothing_more None = refl
nothing_more (Some x) = refl

-- bytes and a character in front
pub unescaped_more : (rest plain behind digits after : List ℕ) (c : ℕ) → cut_of 37 rest ≡ Some (plain, behind) → cut_of 37 behind ≡ Some (digits, after) → character_at digits ≡ Some c
    → unescaped rest ≡ option_map (λ tail. plain ++ encode_utf8 c ++ tail) (unescaped after)
unfolding unescaped
unescaped_more rest plain behind digits after c first second is = rw (two_cuts rest plain behind digits after first second, is) (mapped (by_turns (slice_split (is_byte 37) after)))
  where
    mapped : (o : Option (List ℕ)) → (o >>= (λ tail. Some (plain ++ encode_utf8 c ++ tail))) ≡ option_map (λ tail. plain ++ encode_utf8 c ++ tail) o
    mapped None = refl
    mapped (Some tail) = refl

pub unescaped_all : (rest : List ℕ) → cut_of 37 rest ≡ None → unescaped rest ≡ Some rest
unfolding unescaped
unescaped_all rest none = rw (cut_none 37 rest none) refl

pub unescaped_open : (rest plain behind : List ℕ) → cut_of 37 rest ≡ Some (plain, behind) → cut_of 37 behind ≡ None → unescaped rest ≡ None
unfolding unescaped
unescaped_open rest plain behind first none = rw (cut_some 37 rest plain behind first, cut_none 37 behind none) (nothing_more (character_at behind))

pub unescaped_bad : (rest plain behind digits after : List ℕ) → cut_of 37 rest ≡ Some (plain, behind) → cut_of 37 behind ≡ Some (digits, after) → character_at digits ≡ None → unescaped rest ≡ None
unfolding unescaped
unescaped_bad rest plain behind digits after first second bad = rw (two_cuts rest plain behind digits after first second, bad) refl

-- The loop's step: bytes and a character go from the front of the rest to the end of what is done.
pub step_done : (done one two rest plain behind digits after : List ℕ) (c : ℕ) (whole : Option (List ℕ)) → cut_of 37 rest ≡ Some (plain, behind) → cut_of 37 behind ≡ Some (digits, after) → character_at digits ≡ Some c
    → one ≡ done ++ plain → two ≡ one ++ encode_utf8 c
    → option_map (λ tail. done ++ tail) (unescaped rest) ≡ whole → option_map (λ tail. two ++ tail) (unescaped after) ≡ whole
step_done done one two rest plain behind digits after c whole first second is e f so_far =
    rw (f, e) (mapped (unescaped after) ∙ sym (ap (option_map (λ tail. done ++ tail)) (unescaped_more rest plain behind digits after c first second is)) ∙ so_far)
  where
    mapped : (o : Option (List ℕ)) → option_map (λ tail. done ++ plain ++ encode_utf8 c ++ tail) o ≡ option_map (λ tail. done ++ tail) (option_map (λ tail. plain ++ encode_utf8 c ++ tail) o)
    mapped None = refl
    mapped (Some tail) = ap Some (simp append_assoc)
