use Rattle.plan_base.proofs.Common.{◌≡◌, ℕ, ◌+◌, ◌<◌, ◌∙◌, nat_eq, Bool, true, false, length, get_or, refl, sym, ap, subst, arith, Contains, eqb-true, eqb-false, get_or_default, All-contains, dedup_is}
use Rattle.phase_graph.specs.{marks_in, inside.AreMarked, inside.IsFollowed}
use Rattle.phase_graph.proofs.MarkLemmas.{extends_contains, still_followed, are_marks, marked_in_order, marked_targets, none_marked}
use Rattle.phase_graph.proofs.marks.mark_nodes.Goals as goal

pub mark_targets-requires : goal.mark_targets-requires
mark_targets-requires c = record { marks = rw c.new-queue.ensures.items (none_marked c.args.nodes c.args.numbers.items c.requires.clear); none = c.new-queue.ensures.items }

pub loop-next-init : goal.loop-next-init
loop-next-init c = record {
  marking = record {
    are = c.in_ok-mark_targets.ensures.marks;
    each = marked_targets c.args.h.now c.args.targets.now c.mark_targets.new.queue.items c.in_ok-mark_targets.ensures.only;
  };
  started = c.in_ok-mark_targets.ensures.all;
  followed = λ j d lt. absurd (omega (arith, lt));
}

pub loop-next-preserved : goal.loop-next-preserved
loop-next-preserved c = record {
  marking = c.in_ok-follow.ensures.marking;
  started = λ k d lt low. extends_contains c.loop-next.queue.items c.follow.new.queue.items c.in_ok-follow.ensures.kept (get_or c.args.targets.now k d) (c.loop-next.invariant.started k d lt low);
  followed = λ j d lt. by_place j d lt (nat_eq j c.loop-next.next) refl;
} where
  by_place : (j d : ℕ) → j < c.loop-next.next + 1 → (b : Bool) → nat_eq j c.loop-next.next ≡ b → IsFollowed c.args.h.now c.follow.new.queue.items (get_or c.follow.new.queue.items j d)
  by_place j d lt false apart =
      let earlier : j < c.loop-next.next = omega (arith, lt, eqb-false j c.loop-next.next apart) in
      let there : j < length c.loop-next.queue.items = omega (arith, earlier, c.loop-next-test.true, c.len.ensures) in
      subst (IsFollowed c.args.h.now c.follow.new.queue.items) (sym (c.in_ok-follow.ensures.kept j d there).1)
      (λ k. still_followed c.args.h.now c.loop-next.queue.items c.follow.new.queue.items (get_or c.loop-next.queue.items j d) k
      (extends_contains c.loop-next.queue.items c.follow.new.queue.items c.in_ok-follow.ensures.kept) (c.loop-next.invariant.followed j d earlier k))
  by_place j d lt true same =
      let at = eqb-true j c.loop-next.next same in
      let there : c.loop-next.next < length c.loop-next.queue.items = omega (arith, c.loop-next-test.true, c.len.ensures) in
      let x_is : get_or c.follow.new.queue.items j d ≡ c.index-x.result.now =
      ap (λ i. get_or c.follow.new.queue.items i d) at ∙ (c.in_ok-follow.ensures.kept c.loop-next.next d there).1
      ∙ get_or_default c.loop-next.queue.items c.loop-next.next d c.index-x.result.now there ∙ sym c.index-x.ensures in
      subst (IsFollowed c.args.h.now c.follow.new.queue.items) (sym x_is) c.in_ok-follow.ensures.followed

pub returns : goal.returns
returns c = record {
  marks = are_marks c.args.h.now c.args.targets.now c.loop-next.queue.items c.args.nodes c.requires.below all_followed
      (λ v there. All-contains (λ u. u < c.args.nodes → Contains c.loop-next.queue.items u) c.args.targets.now v c.loop-next.invariant.started there)
      c.loop-next.numbers.items c.loop-next.invariant.marking;
  small = c.loop-next.invariant.marking.are.small;
  nodes = subst (AreMarked c.args.h.now (marks_in c.loop-next.numbers.items)) (sym (dedup_is _ _ _ c.dedup.ensures.filtered))
      (marked_in_order c.args.h.now c.args.nodes c.loop-next.numbers.items c.loop-next.queue.items _ c.loop-next.invariant.marking.are all_followed c.sort_unstable.ensures.permutation c.sort_unstable.ensures.sorted);
} where
  all_followed : (x : ℕ) → Contains c.loop-next.queue.items x → IsFollowed c.args.h.now c.loop-next.queue.items x
  all_followed x (i, lt, is) = subst (IsFollowed c.args.h.now c.loop-next.queue.items) is (c.loop-next.invariant.followed i x (omega (arith, lt, c.loop-next-test.false, c.len.ensures)))
