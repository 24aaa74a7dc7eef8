use Rattle.plan_base.proofs.Common.{◌≡◌, true, subst, sym, ◌∙◌, All}
use Rattle.region_build.specs.{copies_of, is_kept, lists_of}
use Rattle.region_build.proofs.LeavingLaws.{all_kept}
use Rattle.region_build.proofs.copies.push_copies.Goals as goal

pub push_each-requires-clause-kept : goal.push_each-requires-clause-kept
push_each-requires-clause-kept c =
    subst (All (λ leave. is_kept (lists_of c.args.source.now) leave ≡ true)) (sym (c.deref.ensures.value ∙ c.in_ok-leaves_into.ensures)) (all_kept (lists_of c.args.source.now))

pub returns : goal.returns
unfolding copies_of
returns c = rw (← c.in_ok-leaves_into.ensures, ← c.deref.ensures.value) c.push_each.ensures
