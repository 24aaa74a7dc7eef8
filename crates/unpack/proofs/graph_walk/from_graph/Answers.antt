use Rattle.plan_base.proofs.Common.{Result, Ok, Err, IfOk}
use Rattle.unpack.specs.{node_after, arrival_after}
use Rattle.unpack.proofs.PhaseLemmas.{plain_unpacked}
use Rattle.unpack.proofs.graph_walk.from_graph.Goals as goal

if_ok_both : {X Y : Type 0} (r : Result X Y) (P Q R : X → Type 0) → ((x : X) → P x → Q x → R x) → IfOk r P → IfOk r Q → IfOk r R
if_ok_both (Ok x) P Q R both p q = both x p q
if_ok_both (Err e) P Q R both p q = tt

pub returns-in-Plain-clause-unpacked : goal.returns-in-Plain-clause-unpacked
returns-in-Plain-clause-unpacked c =
    let plain = c.in-Plain.plain in
    let walk = c.args.walk.now in
    rw c.in-Plain.is
    (if_ok_both c.from_plain.result _ _ _
    (λ j real boarded. plain_unpacked plain.network.now plain.timetable.now j.start j.at (node_after walk.node walk.hops.items) (arrival_after walk.at walk.hops.items) j.steps walk.hops.items walk.node real boarded)
    c.from_plain.ensures.real c.from_plain.ensures.boarded)
