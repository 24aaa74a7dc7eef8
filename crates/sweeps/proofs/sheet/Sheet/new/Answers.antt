use Rattle.plan_base.proofs.Common.{◌∙◌, ◌<◌, ℕ, List, inr, length, slice_index, subst, sym}
use Rattle.hierarchy.specs.{legs_from}
use Rattle.sweeps.specs.Layers.{LeadsElsewhere}
use Rattle.sweeps.specs.inside.{AreRowsOf, AreUpsAt}
use Rattle.sweeps.proofs.sheet.Sheet.new.Goals as goal

pub returns-clause-some : goal.returns-clause-some
returns-clause-some c =
    let h = c.args.h.now in
    let slope = rw c.in-Some.is at c.in_ok-slope.ensures.some in
    let ups = subst (λ (nodes : List ℕ). AreRowsOf (AreUpsAt h nodes) (length nodes) c.in-Some-2.ups) (c.places.ensures.nodes ∙ slope.nodes_are) (rw c.in-Some-2.is at c.in_ok-ups.ensures.some) in
    record {
      slope = slope;
      short = sym c.has_legs.ensures ∙ c.if-not-has_legs.false;
      ups = λ i lt. (ups.each i lt).are;
    }

pub returns-in_default-2-clause-none : goal.returns-in_default-2-clause-none
returns-in_default-2-clause-none c =
    let h = c.args.h.now in
    let slope = rw c.in-Some.is at c.in_ok-slope.ensures.some in
    inr (inr (subst (λ (nodes : List ℕ). (i : ℕ) × (i < length nodes) × LeadsElsewhere nodes i (legs_from h (slice_index nodes i))) (c.places.ensures.nodes ∙ slope.nodes_are)
    (rw c.in_default-2.is at c.in_ok-ups.ensures.none)))
