use Rattle.plan_base.proofs.Common.{◌≡◌, Ok, refl, arith}
use Rattle.hierarchy.specs.{HierarchyLists}
use Rattle.hierarchy_file.specs.{hierarchy_records}
use Rattle.hierarchy_file.proofs.WholeLaws.{rules_read}
use Rattle.hierarchy_file.proofs.decoding.records_of.Goals as goal

pub new-requires : goal.new-requires
unfolding hierarchy_records
new-requires c =
    let lists : HierarchyLists = record { order = c.read_nodes.new.nodes.items; entries = c.in_ok-entries.entries.items; witnesses = c.in_ok-witnesses.witnesses } in
    let read : hierarchy_records c.args.counts c.args.bytes.now ≡ Ok (lists, c.in_ok-witnesses.rest.now) = rw (c.in_ok-rest.ensures, c.in_ok-entries.ensures, c.in_ok-witnesses.ensures) refl in
    rules_read c.args.counts c.args.bytes.now (lists, c.in_ok-witnesses.rest.now) (λ i. omega (arith, c.type_inv.bytes i)) read
