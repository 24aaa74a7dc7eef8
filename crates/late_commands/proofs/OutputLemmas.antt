-- What a late certificate proves is right to say, and can be printed.
use Rattle.plan_base.proofs.Common.{ℕ, List, Option, Some, None, IfSome}
use Rattle.mode_network.specs.{NetworkLists.NetworkLists, IsNetwork, Route}
use Rattle.journey.specs.{IsPrintable, Asked}
use Rattle.journey.proofs.CopyLemmas.{copy_in_range}
use Rattle.latest_departure.specs.{IsAnswerBlock, LateClaim, LateHolds, IsValidLate, ProvesLate}
use Rattle.late_certificate.specs.{FitsLateResult, IsLateText}
use Rattle.late_commands.specs.{IsLateShown}

-- what a certificate claims can be printed
claimed_printable : (n : NetworkLists) → IsNetwork n → (q : Asked) (result : Option Route) → LateHolds n q result → FitsLateResult result → IfSome result (IsPrintable n)
claimed_printable n network q None holds fits = tt
claimed_printable n network q (Some j) in_time fits = record {
  node = copy_in_range n network q.from j.start in_time.starts_at_copy;
  times = fits;
  taken = record { end = _; arrival = _; letters = _; are = in_time.real.steps };
}

pub valid_printable : (n : NetworkLists) → IsNetwork n → (bytes : List ℕ) (c : LateClaim) → IsLateText bytes c → IsValidLate n c → IfSome c.result (IsPrintable n)
valid_printable n network bytes c text valid = claimed_printable n network valid.setting.asked c.result valid.holds text.fits.result

-- what a certificate proves is right to say
pub shown_block : (n : NetworkLists) (bytes : List ℕ) (c : LateClaim) (block : List ℕ) → IsLateText bytes c → IsValidLate n c → ProvesLate n c → IsAnswerBlock n c.line c.result block → IsLateShown n bytes block
shown_block n bytes c block text valid proves tells = record {
  claim = c;
  text = text;
  valid = valid;
  tells = tells;
  right = record {
    asked = proves.asked;
    asks = proves.asks;
    tells = record { text = tells.text; is_body = record { result = c.result; right = proves.right; told = tells.is_body }; block_is = tells.block_is };
  };
}
