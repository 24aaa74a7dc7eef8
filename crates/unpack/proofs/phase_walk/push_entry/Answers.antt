use Rattle.plan_base.proofs.Common.{◌≡◌, ◌∙◌, ◌<◌, ◌++◌, ◌∷◌, [], List, Option, ap, sym, subst, option_to_list}
use Rattle.hierarchy.specs.{Entry}
use Rattle.unpack.proofs.PhaseLemmas.{IsUnpacking, work_of, unpacking_begins, unpacking_road, unpacking_parts, next_listed, less_by_road, less_by_parts}
use Rattle.unpack.proofs.phase_walk.push_entry.Goals as goal

pub loop-next-init : goal.loop-next-init
loop-next-init c =
    let e = c.args.entry in
    let old = c.args.steps.now.items in
    let alone : c.push.new.self.items ≡ e ∷ [] = c.in_ok-push.ensures.items ∙ ap (λ (s : List Entry). s ++ e ∷ []) c.requires.none in
    subst (λ (s : List Entry). IsUnpacking c.args.network.now c.args.hierarchy.now e old old s) (sym alone) (unpacking_begins c.args.network.now c.args.hierarchy.now e old c.requires.listed)

pub loop-next-smaller-in-Continue-branch-2 : goal.loop-next-smaller-in-Continue-branch-2
loop-next-smaller-in-Continue-branch-2 c =
    let n = c.args.network.now in
    let h = c.args.hierarchy.now in
    let e = c.args.entry in
    let old = c.args.steps.now.items in
    let next = c.in-Some.next in
    let rest = c.pop.new.self.items in
    let popped : c.loop-next.stack.items ≡ rest ++ next ∷ [] = c.pop.ensures.items ∙ ap (λ (o : Option Entry). rest ++ option_to_list o) c.in-Some.is in
    let far = subst (λ (s : List Entry). IsUnpacking n h e old c.loop-next.steps.items s) popped c.loop-next.invariant in
    subst (λ (s : List Entry). work_of rest < work_of s) (sym popped) (less_by_road n c.known.ensures h c.known-2.ensures c.requires.sound e old c.loop-next.steps.items rest next far)

pub loop-next-preserved-in-Continue-branch-2 : goal.loop-next-preserved-in-Continue-branch-2
loop-next-preserved-in-Continue-branch-2 c =
    let n = c.args.network.now in
    let h = c.args.hierarchy.now in
    let e = c.args.entry in
    let old = c.args.steps.now.items in
    let next = c.in-Some.next in
    let rest = c.pop.new.self.items in
    let popped : c.loop-next.stack.items ≡ rest ++ next ∷ [] = c.pop.ensures.items ∙ ap (λ (o : Option Entry). rest ++ option_to_list o) c.in-Some.is in
    let far = subst (λ (s : List Entry). IsUnpacking n h e old c.loop-next.steps.items s) popped c.loop-next.invariant in
    unpacking_road n c.known.ensures h c.known-2.ensures c.requires.sound e old c.loop-next.steps.items rest next far c.in-None.is c.push-in-None.new.self.items c.in_ok-push-in-None.ensures.items

pub push_parts-requires-clause-listed : goal.push_parts-requires-clause-listed
push_parts-requires-clause-listed c =
    let n = c.args.network.now in
    let h = c.args.hierarchy.now in
    let e = c.args.entry in
    let old = c.args.steps.now.items in
    let next = c.in-Some.next in
    let rest = c.pop.new.self.items in
    let popped : c.loop-next.stack.items ≡ rest ++ next ∷ [] = c.pop.ensures.items ∙ ap (λ (o : Option Entry). rest ++ option_to_list o) c.in-Some.is in
    let far = subst (λ (s : List Entry). IsUnpacking n h e old c.loop-next.steps.items s) popped c.loop-next.invariant in
    next_listed n c.known.ensures h c.known-2.ensures c.requires.sound e old c.loop-next.steps.items rest next far

pub loop-next-smaller : goal.loop-next-smaller
loop-next-smaller c =
    let n = c.args.network.now in
    let h = c.args.hierarchy.now in
    let e = c.args.entry in
    let old = c.args.steps.now.items in
    let next = c.in-Some.next in
    let rest = c.pop.new.self.items in
    let popped : c.loop-next.stack.items ≡ rest ++ next ∷ [] = c.pop.ensures.items ∙ ap (λ (o : Option Entry). rest ++ option_to_list o) c.in-Some.is in
    let far = subst (λ (s : List Entry). IsUnpacking n h e old c.loop-next.steps.items s) popped c.loop-next.invariant in
    subst (λ (s : List Entry). work_of c.push_parts.new.stack.items < work_of s) (sym popped)
    (less_by_parts n c.known.ensures h c.known-2.ensures c.requires.sound e old c.loop-next.steps.items rest next far c.in-Some-via.middle c.push_parts.new.stack.items c.in_ok-push_parts-in-Some-via.ensures)

pub loop-next-preserved : goal.loop-next-preserved
loop-next-preserved c =
    let n = c.args.network.now in
    let h = c.args.hierarchy.now in
    let e = c.args.entry in
    let old = c.args.steps.now.items in
    let next = c.in-Some.next in
    let rest = c.pop.new.self.items in
    let popped : c.loop-next.stack.items ≡ rest ++ next ∷ [] = c.pop.ensures.items ∙ ap (λ (o : Option Entry). rest ++ option_to_list o) c.in-Some.is in
    let far = subst (λ (s : List Entry). IsUnpacking n h e old c.loop-next.steps.items s) popped c.loop-next.invariant in
    unpacking_parts n c.known.ensures h c.known-2.ensures c.requires.sound e old c.loop-next.steps.items rest next far c.in-Some-via.middle c.push_parts.new.stack.items c.in_ok-push_parts-in-Some-via.ensures
