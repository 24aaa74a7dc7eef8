use Rattle.plan_base.proofs.Common.{List, subst, subst₂}
use Rattle.product_search.specs.{Label}
use Rattle.rounds.specs.inside.{asked_of, Turn, AreFirsts, AreSettled, AreLabelsOf}
use Rattle.rounds.proofs.ClosureLemmas.{are_reached_labels}
use Rattle.rounds.proofs.asked.Asked.labels.Goals as goal

pub returns : goal.returns
returns g c =
    let a = asked_of c.args.self.now in
    let firsts = c.in-Some.firsts.items in
    let turns = c.in_ok-turns.turns.items in
    let walks = c.in-Some-2.reached.walks.items in
    let rows = c.in-Some-2.reached.crossings.items in
    let labels = c.in_ok-labels.labels.items in
    let firsts_are : AreFirsts a firsts = rw c.in-Some.is at c.in_ok-firsts.ensures in
    let settled : AreSettled a c.deref-2.result.now c.deref-3.result.now walks rows = rw c.in-Some-2.is at c.in_ok-reached.ensures in
    are_reached_labels (record {
      network = c.known.ensures;
      rules = c.known-2.ensures;
      rounds = c.requires.is;
      lawful = g.met.L.Labels.lawful c.args.self.now.machine.now.labels;
      road = g.met.L.RoadLabels.road_law c.args.self.now.machine.now.labels;
      firsts_are = firsts_are;
      turns_are = c.in_ok-turns.ensures;
      settled = subst₂ (λ (xs : List Label) (ts : List Turn). AreSettled a xs ts walks rows) c.deref-2.ensures.value c.deref-3.ensures.value settled;
      labels_are = subst (λ (ts : List Turn). AreLabelsOf a firsts ts walks rows labels) c.deref-4.ensures.value c.in_ok-labels.ensures;
    })
