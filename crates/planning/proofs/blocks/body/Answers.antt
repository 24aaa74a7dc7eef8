use Rattle.plan_base.proofs.Common.{rules, Option, Bor, subst, inl, refl, option_map}
use Rattle.hierarchy.specs.declared.hierarchy.Hierarchy.{Hierarchy}
use Rattle.mode_network.specs.{Route}
use Rattle.journey.specs.{asked_by, IsRefused}
use Rattle.planning.specs.{IsPlan}
use Rattle.planning.proofs.LimitLemmas.{refused_within}
use Rattle.planning.proofs.blocks.body.Goals as goal

pub returns-clause-right : goal.returns-clause-right
returns-clause-right c =
    let plan = rw c.in-Ended.is at c.in_ok-best.ensures.journey in
    (asked_by c.in-Ok.query, c.in-Ok.ensures.query, subst (λ (j : Option Route). IsPlan c.args.network.now (asked_by c.in-Ok.query) j) c.in-None.is plan)

pub returns-in-Err : goal.returns-in-Err
returns-in-Err c =
    let n = c.args.network.now in
    let h = option_map (λ (x : Bor Hierarchy). x.now) c.args.hierarchy in
    let refused : IsRefused n c.args.line.now c.in-Err.fault = search rules in
    record {
      right = refused;
      boarded = tt;
      printable = search rules;
      settled = inl (c.in-Err.fault, refused, refl);
      few = refused_within n h c.args.limit c.args.line.now c.in-Err.fault refused;
      stopped = tt;
    }
