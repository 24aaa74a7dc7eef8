-- What `certify` writes within a limit on labels.
use Rattle.plan_base.proofs.Common.{◌≢◌, ℕ, ◌≤◌, ◌∙◌, inl, inr, List, length, Option, Some, None, ap, IfSome}
use Rattle.mode_network.specs.NetworkLists.{NetworkLists}
use Rattle.hierarchy.specs.{HierarchyLists}
use Rattle.product_search.specs.{Label}
use Rattle.journey.specs.{Refused, QueryFault, OutOfMemory, Asked, Asks, IsRefusedBlock, IsBlockText, IsRefusal, IsRefused, block_text}
use Rattle.planning.specs.{AreTheLabels}
use Rattle.answer_commands.specs.{IsCertificateFor, IsCertifiedWithin}

module _ (n : NetworkLists) (h : Option HierarchyLists) (line out : List ℕ) where
  -- a certificate whose labels are no more than the limit
  pub certificate_within : (limit : Option ℕ) (q : Asked) → Asks n line q → (labels : List Label) → AreTheLabels n h q labels → IfSome limit (λ most. length labels ≤ most)
      → IsCertificateFor n h line out → IsCertifiedWithin n h limit line out
  certificate_within None q asks labels are few certificate = inr certificate
  certificate_within (Some most) q asks labels are few certificate = inr (inr (q, asks, (labels, are, few)), inr certificate)

  by_limit : (limit : Option ℕ) (fault : QueryFault) → IsRefused n line fault → IsRefusedBlock n line out → IsCertifiedWithin n h limit line out
  by_limit None fault refused block = inl block
  by_limit (Some most) fault refused block = inr (inl (fault, refused), inl block)

  -- the block of a refusal, whatever the limit is
  pub refused_within : (limit : Option ℕ) (fault : QueryFault) → IsRefusal n line fault → fault ≢ OutOfMemory → IsBlockText n line (Refused fault) out → IsCertifiedWithin n h limit line out
  refused_within limit fault (inl lost) other tells = absurd (other lost)
  refused_within limit fault (inr refused) other tells =
      by_limit limit fault refused (record { fault = fault; refused = refused; block_is = tells.block_is ∙ ap (block_text line) tells.is_body })
