-- The text of a late block.
use Rattle.plan_base.proofs.Common.{◌≡◌, ℕ, List, ◌++◌, append_assoc, Option, Some, None, ◌≢◌, inl, inr, refl, ap, ◌∙◌, IfSome, codes}
use Rattle.plain_texts.specs.{with_feed}
use Rattle.service_days.specs.{clock_text_of}
use Rattle.mode_network.specs.{NetworkLists.NetworkLists, Route}
use Rattle.journey.specs.{AddsText, Refused, QueryFault, OutOfMemory, IsRefusal, IsJourneyText, block_text, Asked, Asks, IsRefusedBlock, IsBlockText, IsPrintable}
use Rattle.latest_departure.specs.{IsToldResult, IsLate, IsLateJourneyText, IsAnswerBlock, IsLateBlock}

pub late_told : (n : NetworkLists) (j : Route) (old now new : List ℕ) → now ≡ old ++ with_feed (codes "depart " ++ clock_text_of n.days j.at) → AddsText (IsJourneyText n j) now new
    → AddsText (IsLateJourneyText n j) old new
late_told n j old now new departs own =
    let line = with_feed (codes "depart " ++ clock_text_of n.days j.at) in
    record {
      text = line ++ own.text;
      is = record { own = own.text; told = own.is; text_is = refl };
      added = own.added ∙ ap (λ (t : List ℕ). t ++ own.text) departs ∙ append_assoc old line own.text;
    }

-- the block of a line that is refused with a fault is a right one
pub refused_told : (n : NetworkLists) (line : List ℕ) (fault : QueryFault) → IsRefusal n line fault → (block : List ℕ) → (fault ≢ OutOfMemory) × IsBlockText n line (Refused fault) block
    → IsRefusedBlock n line block
refused_told n line fault (inl none) block (some, told) = absurd (some none)
refused_told n line fault (inr refused) block (some, told) = record { fault = fault; refused = refused; block_is = told.block_is ∙ ap (block_text line) told.is_body }

-- what is answered can be printed, and its block is right
pub late_printable : (n : NetworkLists) (q : Asked) (found : Option Route) → IsLate n q found → IfSome found (IsPrintable n)
late_printable n q None none = tt
late_printable n q (Some j) late = late.1

told_result : (n : NetworkLists) (q : Asked) (found : Option Route) → IsLate n q found → IsToldResult n q found
told_result n q None none = none
told_result n q (Some j) late = late.0

pub late_right : (n : NetworkLists) (line : List ℕ) (q : Asked) → Asks n line q → (found : Option Route) → IsLate n q found → (block : List ℕ) → IsAnswerBlock n line found block → IsLateBlock n line block
late_right n line q asks found late block tells = inr (record {
  asked = q;
  asks = asks;
  tells = record { text = tells.text; is_body = record { result = found; right = told_result n q found late; told = tells.is_body }; block_is = tells.block_is };
})
