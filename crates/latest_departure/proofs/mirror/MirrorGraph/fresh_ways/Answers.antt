use Rattle.plan_base.proofs.Common.{[], ◌++◌, List, ◌∙◌, ap, sym}
use Rattle.search_laws.specs.{Way, ways_past}
use Rattle.search_laws.proofs.{FreshLemmas.adds_all, FreshLemmas.adds_moving, WayLemmas.past_none}
use Rattle.latest_departure.specs.{mirrored}
use Rattle.latest_departure.proofs.mirror.MirrorGraph.fresh_ways.Goals as goal

pub returns : goal.returns
returns c =
    let g = mirrored c.args.self.now.backwards.now c.args.self.now.deadline in
    let visit = c.args.visit in
    let ways = ways_past g visit.node visit.at visit.letters 0 in
    let before = c.args.ways.now.items in
    adds_moving (λ _ _ _. []) visit c.args.given.now c.args.given.now ways before c.push_ways.new.ways.items
    (adds_all (λ _ _ _. []) visit.state c.args.given.now ways before c.push_ways.new.ways.items
    (c.in_ok-push_ways.ensures ∙ ap (λ (ws : List Way). before ++ ws) (sym (past_none g visit.node visit.at visit.letters))))
