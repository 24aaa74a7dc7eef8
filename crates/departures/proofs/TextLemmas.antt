-- The text of a block, row by row.
use Rattle.plan_base.proofs.Common.{◌≡◌, ℕ, ◌+◌, ◌<◌, List, [], ◌∷◌, ◌++◌, length, take, get_or, Option, inr, refl, sym, ap, ◌∙◌, subst, append_assoc, append-nil, take_more}
use Rattle.mode_network.specs.NetworkLists.{NetworkLists}
use Rattle.journey.specs.{Asked, Asks, AddsText, IsFramed}
use Rattle.latest_departure.specs.{IsLateJourneyText}
use Rattle.departures.specs.{Row, IsWithout, AreRows, AreRowsTold, IsProfileText, IsProfileBlock}

module _ (n : NetworkLists) where
  -- one row more
  told_more : (rows : List Row) (row : Row) (text more : List ℕ) → AreRowsTold n rows text → AreRowsTold n (row ∷ []) more → AreRowsTold n (rows ++ row ∷ []) (text ++ more)
  told_more [] row text more none told = subst (λ (t : List ℕ). AreRowsTold n (row ∷ []) (t ++ more)) (sym none) told
  told_more (first ∷ rows) row text more (own, rest, is, others, e) told =
      (own, rest ++ more, is, told_more rows row rest more others told, ap (λ (t : List ℕ). t ++ more) e ∙ append_assoc own rest more)

  pub nothing_told : (old : List ℕ) → AddsText (AreRowsTold n []) old old
  nothing_told old = record { text = []; is = refl; added = sym (append-nil old) }

  pub pushed : (rows : List Row) (i : ℕ) (row : Row) (start old new : List ℕ) → i < length rows → row ≡ get_or rows i row
      → AddsText (AreRowsTold n (take i rows)) start old → AddsText (AreRowsTold n (row ∷ [])) old new → AddsText (AreRowsTold n (take (i + 1) rows)) start new
  pushed rows i row start old new within is before after = record {
    text = before.text ++ after.text;
    is = subst (λ (rs : List Row). AreRowsTold n rs (before.text ++ after.text)) (sym (take_more rows i row within ∙ ap (λ (r : Row). take i rows ++ r ∷ []) (sym is)))
        (told_more (take i rows) row before.text after.text before.is after.is);
    added = after.added ∙ ap (λ (t : List ℕ). t ++ after.text) before.added ∙ append_assoc start before.text after.text;
  }

  -- one row
  pub row_told : (row : Row) (old new : List ℕ) → AddsText (IsLateJourneyText n row.journey) old new → AddsText (AreRowsTold n (row ∷ [])) old new
  row_told row old new late = record {
    text = late.text ++ [];
    is = (late.text, [], late.is, refl, refl);
    added = late.added ∙ ap (λ (t : List ℕ). old ++ t) (sym (append-nil late.text));
  }

  -- what was found is right to tell
  pub right_block : (line : List ℕ) (q : Asked) (window : ℕ) → Asks n line q → (without : Option ℕ) (rows : List Row) (block : List ℕ) → IsWithout n q without → AreRows n q without window rows
      → IsFramed (IsProfileText n without rows) line block → IsProfileBlock n window line block
  right_block line q window asks without rows block without_is are tells = inr (record {
    asked = q;
    asks = asks;
    tells = record {
      text = tells.text;
      is_body = record { without = without; without_is = without_is; rows = rows; are = are; told = tells.is_body };
      block_is = tells.block_is;
    };
  })
