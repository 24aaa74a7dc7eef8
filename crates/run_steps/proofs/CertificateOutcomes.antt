-- What the steps of a run answer, put together to what the run says.
use Rattle.plan_base.proofs.Common.{ℕ, inl, inr, List, refl}
use Rattle.plan_base.specs.{ShelfMeaning, IsLater, HasRead, SinkMeaning, Stays}
use Rattle.run_steps.specs.{Outcome, Done, Usage, Missing, ReadFault, TooLong, WriteFault, BadRegion, BadFeed, Invalid, BadCertificate, BadHierarchy, Unsound, OutOfMemory, scene, most_bytes, CertificateKind, SaysVerified, IsUnverified}

module _ (kind : CertificateKind) (old new : ShelfMeaning) (before after : SinkMeaning) (name bytes : List ℕ) (read : HasRead old name most_bytes bytes) (later : IsLater old new) where
  -- the bytes were not verified
  pub certificate_fails : (outcome : Outcome) → IsUnverified kind bytes outcome → Stays before after → SaysVerified kind name (scene old before) (scene new after) outcome
  certificate_fails (BadCertificate line) bad same = inr (record { bytes = bytes; file = read; mid = new; later = later; says = inl (line, bad, (refl, same)) })
  certificate_fails (Invalid clause at) fails same = inr (record { bytes = bytes; file = read; mid = new; later = later; says = inr (inl (clause, at, fails, (refl, same))) })
  certificate_fails OutOfMemory none same = inl (none, same)
  certificate_fails Done none same = absurd none
  certificate_fails Usage none same = absurd none
  certificate_fails WriteFault none same = absurd none
  certificate_fails (Missing file) none same = absurd none
  certificate_fails (ReadFault file) none same = absurd none
  certificate_fails (TooLong file) none same = absurd none
  certificate_fails (BadRegion fault) none same = absurd none
  certificate_fails (BadFeed fault) none same = absurd none
  certificate_fails (BadHierarchy fault) none same = absurd none
  certificate_fails (Unsound clause at by) none same = absurd none
