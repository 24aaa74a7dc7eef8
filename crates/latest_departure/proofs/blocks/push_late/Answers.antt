use Rattle.plan_base.proofs.Common.{◌++◌, ◌∙◌, ap, codes}
use Rattle.plain_texts.specs.{with_feed}
use Rattle.service_days.specs.{clock_text_of}
use Rattle.mode_network.specs.{Route}
use Rattle.latest_departure.proofs.TextLemmas.{late_told}
use Rattle.latest_departure.proofs.blocks.push_late.Goals as goal

pub returns : goal.returns
returns c =
    let n = c.args.network.now in
    late_told n c.args.journey.now c.args.out.now.items c.push_departure.new.out.items c.push_journey.new.out.items
    (c.in_ok-push_departure.ensures ∙ ap (λ (j : Route). c.args.out.now.items ++ with_feed (codes "depart " ++ clock_text_of n.days j.at)) c.journey.view_is)
    c.in_ok-push_journey.ensures
