use Rattle.plan_base.proofs.Common.{◌≡◌, ℕ, List, sym, ◌∙◌, Result, Ok, Err, inl, inr, MatchResult, cases_Bool}
use Rattle.std.proofs.Common.{IsUtf8, is_ok}
use Rattle.std.specs.Str.{is_utf8}
use Rattle.std.proofs.lemmas.Str.{IsUtf8-from_is_utf8, is_utf8-from_IsUtf8}
use Rattle.gtfs_tables.proofs.texts.is_utf8.Goals as goal

tested : {A E : Type 0} (r : Result A E) (P : A → Type 0) (Q : E → Type 0) (bytes : List ℕ)
    → MatchResult r (λ a. P a × IsUtf8 bytes) (λ e. ¬ (IsUtf8 bytes) × Q e) → is_ok r ≡ is_utf8 bytes
tested (Ok a) P Q bytes h = sym (is_utf8-from_IsUtf8 bytes h.1)
tested (Err e) P Q bytes h = elim (cases_Bool (is_utf8 bytes)) [ inl is ↦ absurd (h.0 (IsUtf8-from_is_utf8 bytes is)) | inr not_ ↦ sym not_ ]

pub returns : goal.returns
returns c = c.is_ok.ensures.value ∙ tested c.from_utf8.result _ _ c.args.text.now c.from_utf8.ensures.cases
