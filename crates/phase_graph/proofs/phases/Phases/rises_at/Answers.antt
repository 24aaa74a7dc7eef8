use Rattle.plan_base.proofs.Common.{get_or, sym, get_or_default, slice_get-get_or}
use Rattle.hierarchy.specs.{entry_at, no_entry}
use Rattle.phase_graph.proofs.phases.Phases.rises_at.Goals as goal

pub returns-else-down-clause-each : goal.returns-else-down-clause-each
returns-else-down-clause-each c k d lt =
    let h = c.args.self.now.hierarchy.now in
    let places = c.rise_places_from.result.now in
    let are = c.rise_places_from.ensures.are in
    let place = get_or places k d in
    let within = are.within k d lt in
    (within, (are.each place (entry_at h.entries place) (k, lt, sym (get_or_default places k d place lt)) (slice_get-get_or h.entries place no_entry within)).begins)
