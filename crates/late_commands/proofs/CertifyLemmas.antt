-- What `certify-latest` writes within a limit on labels.
use Rattle.plan_base.proofs.Common.{◌≢◌, ℕ, ◌≤◌, ◌∙◌, inl, inr, List, length, Option, Some, None, ap, subst, IfSome}
use Rattle.mode_network.specs.NetworkLists.{NetworkLists}
use Rattle.journey.specs.{Refused, QueryFault, OutOfMemory, Asks, IsRefusedBlock, IsBlockText, IsRefusal, IsRefused, block_text}
use Rattle.latest_departure.specs.{LateClaim}
use Rattle.late_certificate.specs.{IsLateText, IsLateCertificateOf}
use Rattle.late_commands.specs.{IsLateCertifiedWithin}

module _ (n : NetworkLists) (line out : List ℕ) where
  -- a certificate whose labels are no more than the limit
  pub certificate_within : (limit : Option ℕ) (claim : LateClaim) → IsLateText out claim → IsLateCertificateOf n line claim → IfSome limit (λ most. length claim.labels ≤ most)
      → IsLateCertifiedWithin n limit line out
  certificate_within None claim is of few = inr (record { claim = claim; text = is; of = of })
  certificate_within (Some most) claim is of few =
      let asked = of.valid.setting.asked in
      let asks = subst (λ (l : List ℕ). Asks n l asked) of.line_is of.valid.setting.asks in
      inr (inr (asked, asks, (claim.labels, of.labelled, few)), inr (record { claim = claim; text = is; of = of }))

  by_limit : (limit : Option ℕ) (fault : QueryFault) → IsRefused n line fault → IsRefusedBlock n line out → IsLateCertifiedWithin n limit line out
  by_limit None fault refused block = inl block
  by_limit (Some most) fault refused block = inr (inl (fault, refused), inl block)

  -- the block of a refusal, whatever the limit is
  pub refused_within : (limit : Option ℕ) (fault : QueryFault) → IsRefusal n line fault → fault ≢ OutOfMemory → IsBlockText n line (Refused fault) out → IsLateCertifiedWithin n limit line out
  refused_within limit fault (inl lost) other tells = absurd (other lost)
  refused_within limit fault (inr refused) other tells =
      by_limit limit fault refused (record { fault = fault; refused = refused; block_is = tells.block_is ∙ ap (block_text line) tells.is_body })
