-- What a certificate proves is right to say, and can be printed.
use Rattle.plan_base.proofs.Common.{ℕ, List, Option, Some, None}
use Rattle.mode_network.specs.{NetworkLists.NetworkLists, Route, IsNetwork}
use Rattle.journey.specs.{Asked, Asks, IsRightBody, IsBlockText, IsPrintableBody}
use Rattle.journey.proofs.CopyLemmas.{copy_in_range}
use Rattle.hierarchy.specs.{HierarchyLists}
use Rattle.certificate.specs.{Claim, IsCertText, FitsResult, IsValid, Proves, ResultHolds, IsBestResult}
use Rattle.answer_commands.specs.{IsShown, body_of}

-- what a certificate proves is right to say
proved_body : (n : NetworkLists) (line : List ℕ) (asked : Asked) → Asks n line asked → (result : Option (ℕ × Route)) → IsBestResult n asked result → IsRightBody n line (body_of result)
proved_body n line asked asks (Some claimed) best = (asked, asks, best.0)
proved_body n line asked asks None none = (asked, asks, none)

-- what a certificate claims can be printed
claimed_printable : (n : NetworkLists) → IsNetwork n → (asked : Asked) (result : Option (ℕ × Route)) → ResultHolds n asked result → FitsResult result → IsPrintableBody n (body_of result)
claimed_printable n network asked None holds fits = tt
claimed_printable n network asked (Some claimed) answers fits = record {
  node = copy_in_range n network asked.from (claimed.1).start answers.starts_at_copy;
  times = fits.1;
  taken = record { end = _; arrival = _; letters = _; are = answers.real.steps };
}

pub valid_printable : (n : NetworkLists) → IsNetwork n → (h : Option HierarchyLists) (bytes : List ℕ) (c : Claim) → IsCertText bytes c → IsValid n h c → IsPrintableBody n (body_of c.result)
valid_printable n network h bytes c text valid = claimed_printable n network valid.setting.asked c.result valid.holds text.fits.result

pub shown_block : (n : NetworkLists) (h : Option HierarchyLists) (bytes : List ℕ) (c : Claim) (block : List ℕ) → IsCertText bytes c → IsValid n h c → Proves n c → IsBlockText n c.line (body_of c.result) block → IsShown n h bytes block
shown_block n h bytes c block text valid proves tells = record {
  claim = c;
  text = text;
  valid = valid;
  tells = tells;
  right = record { body = body_of c.result; right = proved_body n c.line proves.asked proves.asks c.result proves.best; tells = tells };
}
