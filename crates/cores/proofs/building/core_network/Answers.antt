use Rattle.plan_base.proofs.Common.{IfNone, IfOk-weaker, IfSome, None, Option, Some, refl, sym, subst}
use Rattle.mode_network.specs.{AreParts}
use Rattle.cores.specs.inside.Parts.{AreRefused}
use Rattle.cores.proofs.CoreLemmas.{has_network, made_parts, no_network, parts_are}
use Rattle.cores.proofs.building.core_network.Goals as goal

pub network_of-requires : goal.network_of-requires
network_of-requires c =
    let n = c.args.network.now in
    let h = c.args.hierarchy.now in
    let arcs = rw c.in-Some.is at c.in_ok-arcs.ensures.some in
    subst AreParts (sym (made_parts n h c.known.ensures c.known-2.ensures c.requires _ c.in_ok-road_nodes.ensures c.new.ensures.items c.new-2.ensures.items c.new-3.ensures.items arcs
    c.new-4.ensures.items c.new-5.ensures.items)) (parts_are n h c.known.ensures c.known-2.ensures c.requires c.in_ok-one_day.field-0)

some_for : {X : Type 0} {P : Type 0} (Q : Type 0) → (P → Q) → (o : Option X) → IfSome o (λ x. P) → IfSome o (λ x. Q)
some_for Q so None why = tt
some_for Q so (Some x) why = so why

none_for : {X : Type 0} (P Q : Type 0) → (P → Q) → (o : Option X) → IfNone o P → IfNone o Q
none_for P Q so None why = so why
none_for P Q so (Some x) why = tt

pub returns-clause-none : goal.returns-clause-none
returns-clause-none c =
    let n = c.args.network.now in
    let h = c.args.hierarchy.now in
    let arcs = rw c.in-Some.is at c.in_ok-arcs.ensures.some in
    IfOk-weaker c.network_of.result _ _ (none_for _ _ (λ refused. no_network n h c.known.ensures c.known-2.ensures c.requires c.in_ok-one_day.field-0 refl refl
    (subst (AreRefused _) (made_parts n h c.known.ensures c.known-2.ensures c.requires _ c.in_ok-road_nodes.ensures c.new.ensures.items c.new-2.ensures.items c.new-3.ensures.items arcs
    c.new-4.ensures.items c.new-5.ensures.items) refused))) c.network_of.ensures.none

pub returns-clause-fits : goal.returns-clause-fits
returns-clause-fits c =
    let h = c.args.hierarchy.now in
    let arcs = rw c.in-Some.is at c.in_ok-arcs.ensures.some in
    IfOk-weaker c.network_of.result _ _ (some_for _ (has_network h _ arcs)) c.network_of.ensures.rules
