use Rattle.plan_base.proofs.Common.{inl, inr, refl}
use Rattle.certificate.proofs.claimed.first_bad_end.Goals as goal

pub returns-then-not-is_timely : goal.returns-then-not-is_timely
returns-then-not-is_timely g c = λ letters after.
    inr (inl (refl, c.contains.ensures.0 c.if-not-contains.false, λ timely. let yes = c.is_timely.ensures.1 timely in cc))

pub returns-then-not-accepts : goal.returns-then-not-accepts
returns-then-not-accepts g c = λ letters after.
    inr (inr (
      refl,
      c.contains.ensures.0 c.if-not-contains.false,
      c.is_timely.ensures.0 c.if-not-is_timely.false,
      λ accepts. let yes = (c.accepts.ensures letters after).1 accepts in cc,
    ))

pub returns-else-not-accepts : goal.returns-else-not-accepts
returns-else-not-accepts g c = λ letters after.
    (c.contains.ensures.0 c.if-not-contains.false, c.is_timely.ensures.0 c.if-not-is_timely.false, (c.accepts.ensures letters after).0 c.if-not-accepts.false)
