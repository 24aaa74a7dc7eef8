-- The two laws of a line by itself: what is read is spelled so, and what is spelled so is read.
use Rattle.plan_base.proofs.Common.{◌≡◌, ℕ, List, [], ◌∷◌, refl, ap, ap₂, sym, ◌∙◌, subst, Bool, true, false, cond, arith, Option, Some, None, option_map, codes, decimal, ◌&&◌, bytes_eq, none-some, same_Some}
use Rattle.plain_texts.specs.{words_of, spaced, number_at}
use Rattle.plain_texts.proofs.Spaced.{spaced-words_of, words_of-spaced, word_by_test, decimal_is_word}
use Rattle.certificate.specs.{Line as UsualLine, behind_query, head_of_words, line_of_kind, label_of_words, line_of_words, query_or_words, time_of_word, IsTime}
use Rattle.certificate.specs.Kinds as usual
use Rattle.certificate.proofs.KindLaws.{mapped, same_bytes, time_takes, time_again, line_takes as usual_takes, line_again as usual_again}
use Rattle.late_certificate.specs.{Line, FitsLine, spelled, words, depart_of_words, line_of, own_of_words, usual_or_own}
use Rattle.late_certificate.specs.declared.lines.Line.TheVariants as line

-- ---- the lines that only a late certificate has

if_all : (a b c : Bool) (l m : Line) → cond (a && b && c) (Some l) None ≡ Some m → (a ≡ true) × (b ≡ true) × (c ≡ true) × (l ≡ m)
if_all true true true l m e = (refl, refl, refl, same_Some l m e)
if_all true true false l m e = absurd (none-some m e)
if_all true false c l m e = absurd (none-some m e)
if_all false b c l m e = absurd (none-some m e)

depart_takes : (kind at : List ℕ) (l : Line) → depart_of_words kind at ≡ Some l → (words l ≡ kind ∷ at ∷ []) × FitsLine l
depart_takes kind at l e = by_test (bytes_eq kind (codes "depart")) refl e
  where
    by_test : (t : Bool) → bytes_eq kind (codes "depart") ≡ t → cond t (option_map (λ time. line.Depart time) (time_of_word at)) None ≡ Some l → (words l ≡ kind ∷ at ∷ []) × FitsLine l
    by_test true is e =
        let found = mapped (λ time. line.Depart time) (time_of_word at) l e in
        let time = time_takes at found.0 found.1 in
        subst (λ (x : Line). (words x ≡ kind ∷ at ∷ []) × FitsLine x) found.2
        (ap₂ (λ x y. x ∷ y ∷ []) (sym (same_bytes kind (codes "depart") is)) (sym time.1), time.0)
    by_test false is e = absurd (none-some l e)

own_takes : (text : List (List ℕ)) (l : Line) → own_of_words text ≡ Some l → (words l ≡ text) × FitsLine l
unfolding own_of_words
own_takes [] l e = absurd (none-some l e)
own_takes (a ∷ []) l e = absurd (none-some l e)
own_takes (a ∷ b ∷ []) l e = depart_takes a b l e
own_takes (a ∷ b ∷ c ∷ []) l e =
    let is = if_all (bytes_eq a (codes "modeplan")) (bytes_eq b (codes "late")) (bytes_eq c (codes "1")) line.Head l e in
    let program = same_bytes a (codes "modeplan") is.0 in
    let what = same_bytes b (codes "late") is.1 in
    let version = same_bytes c (codes "1") is.2 in
    let same : words line.Head ≡ a ∷ b ∷ c ∷ [] = cc in
    subst (λ (x : Line). (words x ≡ a ∷ b ∷ c ∷ []) × FitsLine x) is.3 (same, tt)
own_takes (a ∷ b ∷ c ∷ d ∷ more) l e = absurd (none-some l e)

-- ---- lines of both kinds

-- What is read is spelled so.
pub line_takes : (text : List ℕ) (l : Line) → line_of text ≡ Some l → (text ≡ spelled l) × FitsLine l
unfolding line_of
line_takes text l e = by_usual (usual.line_of text) refl e
  where
    by_usual : (o : Option UsualLine) → usual.line_of text ≡ o → usual_or_own o text ≡ Some l → (text ≡ spelled l) × FitsLine l
    by_usual (Some said) is e = subst (λ (x : Line). (text ≡ spelled x) × FitsLine x) (same_Some (line.Usual said) l e) (usual_takes text said is)
    by_usual None is e =
        let own = own_takes (words_of text) l e in
        (sym (spaced-words_of text) ∙ ap spaced (sym own.0), own.1)

-- a line of its own is none that any certificate may have
no_usual : (l : Line) → behind_query (spelled l) ≡ None → words_of (spelled l) ≡ words l → line_of_words (words l) ≡ None → usual.line_of (spelled l) ≡ None
unfolding usual.line_of
no_usual l query split none = ap (λ o. query_or_words o (spelled l)) query ∙ ap line_of_words split ∙ none

own_again : (l : Line) → behind_query (spelled l) ≡ None → words_of (spelled l) ≡ words l → line_of_words (words l) ≡ None → own_of_words (words l) ≡ Some l → line_of (spelled l) ≡ Some l
unfolding line_of
own_again l query split none own = ap (λ o. usual_or_own o (spelled l)) (no_usual l query split none) ∙ ap own_of_words split ∙ own

head_again : line_of (spelled line.Head) ≡ Some line.Head
unfolding behind_query spaced line_of_words label_of_words line_of_kind head_of_words number_at own_of_words
head_again = own_again line.Head refl (words_of-spaced (codes "modeplan") (codes "late" ∷ codes "1" ∷ [])
    (word_by_test (codes "modeplan") refl, (word_by_test (codes "late") refl, (word_by_test (codes "1") refl, tt)))) refl refl

depart_again : (at : ℕ) → IsTime at → line_of (spelled (line.Depart at)) ≡ Some (line.Depart at)
unfolding behind_query spaced line_of_words label_of_words line_of_kind own_of_words
depart_again at h = own_again (line.Depart at) refl (words_of-spaced (codes "depart") (decimal at ∷ [])
    (word_by_test (codes "depart") refl, (decimal_is_word at (omega (arith, h)), tt))) refl (ap (option_map (λ time. line.Depart time)) (time_again at h))

-- What is spelled so is read.
pub line_again : (l : Line) → FitsLine l → line_of (spelled l) ≡ Some l
unfolding line_of
line_again line.Head h = head_again
line_again (line.Depart at) h = depart_again at h
line_again (line.Usual said) h = ap (λ o. usual_or_own o (spelled (line.Usual said))) (usual_again said h)
