use Rattle.plan_base.proofs.Common.{get_or_default}
use Rattle.hierarchy.specs.{entry_at, no_entry}
use Rattle.unpack.proofs.PhaseLemmas.{differs}
use Rattle.unpack.proofs.phase_walk.push_entry_at.Goals as goal

pub push_entry-requires-clause-listed : goal.push_entry-requires-clause-listed
push_entry-requires-clause-listed c =
    let h = c.args.phases.now.hierarchy.now in
    let e = entry_at h.entries c.args.place in
    rw (c.entries.ensures, c.hierarchy-hierarchy.ensures) (c.args.place, c.requires.place, get_or_default h.entries c.args.place e no_entry c.requires.place)

pub returns-clause-differ : goal.returns-clause-differ
returns-clause-differ c =
    let p = c.args.phases.now in
    let h = p.hierarchy.now in
    let e = entry_at h.entries c.args.place in
    let rules = rw c.hierarchy-hierarchy.ensures at c.known.ensures in
    differs p.plain.network.now p.plain.kept h rules p.sound e (c.args.place, c.requires.place, get_or_default h.entries c.args.place e no_entry c.requires.place)
