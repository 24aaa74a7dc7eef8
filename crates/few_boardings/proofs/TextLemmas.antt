-- The text of a boardings list, row by row.
use Rattle.plan_base.proofs.Common.{◌≡◌, ℕ, ◌+◌, ◌<◌, List, [], ◌∷◌, ◌++◌, length, take, get_or, refl, sym, ap, ◌∙◌, subst, codes, decimal, append_assoc, append-nil, take_more}
use Rattle.plain_texts.specs.{with_feed}
use Rattle.mode_network.specs.NetworkLists.{NetworkLists}
use Rattle.journey.specs.{AddsText, IsJourneyText}
use Rattle.few_boardings.specs.{FewRow, AreBoardingsTold}

module _ (n : NetworkLists) where
  -- one row more
  told_more : (rows : List FewRow) (row : FewRow) (text more : List ℕ) → AreBoardingsTold n rows text → AreBoardingsTold n (row ∷ []) more → AreBoardingsTold n (rows ++ row ∷ []) (text ++ more)
  told_more [] row text more none told = subst (λ (t : List ℕ). AreBoardingsTold n (row ∷ []) (t ++ more)) (sym none) told
  told_more (first ∷ rows) row text more (own, rest, is, others, e) told =
      let front = with_feed (codes "boardings " ++ decimal first.boardings) ++ own in
      (own, rest ++ more, is, told_more rows row rest more others told, ap (λ (t : List ℕ). t ++ more) e ∙ append_assoc front rest more)

  pub nothing_told : (old : List ℕ) → AddsText (AreBoardingsTold n []) old old
  nothing_told old = record { text = []; is = refl; added = sym (append-nil old) }

  pub pushed : (rows : List FewRow) (i : ℕ) (row : FewRow) (start old new : List ℕ) → i < length rows → row ≡ get_or rows i row
      → AddsText (AreBoardingsTold n (take i rows)) start old → AddsText (AreBoardingsTold n (row ∷ [])) old new → AddsText (AreBoardingsTold n (take (i + 1) rows)) start new
  pushed rows i row start old new within is before after = record {
    text = before.text ++ after.text;
    is = subst (λ (rs : List FewRow). AreBoardingsTold n rs (before.text ++ after.text)) (sym (take_more rows i row within ∙ ap (λ (r : FewRow). take i rows ++ r ∷ []) (sym is)))
        (told_more (take i rows) row before.text after.text before.is after.is);
    added = after.added ∙ ap (λ (t : List ℕ). t ++ after.text) before.added ∙ append_assoc start before.text after.text;
  }

  -- a row: the number of its boardings on a line, and its journey
  pub row_told : (row : FewRow) (old one two three new : List ℕ) → one ≡ old ++ codes "boardings " → two ≡ one ++ decimal row.boardings → three ≡ two ++ 10 ∷ []
      → AddsText (IsJourneyText n row.journey) three new → AddsText (AreBoardingsTold n (row ∷ [])) old new
  row_told row old one two three new a b c journey = record {
    text = with_feed (codes "boardings " ++ decimal row.boardings) ++ journey.text ++ [];
    is = (journey.text, [], journey.is, refl, refl);
    added = journey.added ∙ ap (λ (t : List ℕ). t ++ journey.text) start ∙ append_assoc old (with_feed (codes "boardings " ++ decimal row.boardings)) journey.text
        ∙ ap (λ (t : List ℕ). old ++ t) (sym (append-nil (with_feed (codes "boardings " ++ decimal row.boardings) ++ journey.text)));
  }
    where
      start : three ≡ old ++ with_feed (codes "boardings " ++ decimal row.boardings)
      start = c ∙ ap (λ (t : List ℕ). t ++ 10 ∷ []) (b ∙ ap (λ (t : List ℕ). t ++ decimal row.boardings) a ∙ append_assoc old (codes "boardings ") (decimal row.boardings))
          ∙ append_assoc old (codes "boardings " ++ decimal row.boardings) (10 ∷ [])
