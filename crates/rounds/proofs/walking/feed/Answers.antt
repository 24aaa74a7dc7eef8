use Rattle.plan_base.proofs.Common.{◌≡◌, ◌∙◌, ◌<◌, ◌≤◌, ℕ, List, length, All, sym, ap, subst, arith, get_or, take_all, All-contains, Contains-get_or}
use Rattle.sweeps.specs.{time_at}
use Rattle.rounds.specs.Layers.{Gate}
use Rattle.rounds.specs.inside.{row_of, cell}
use Rattle.rounds.proofs.RowLemmas.{row_is}
use Rattle.rounds.proofs.WalkLemmas.{source_more, sources_fed}
use Rattle.rounds.proofs.walking.feed.Goals.{then-take_in, else-take_in}
use Rattle.rounds.proofs.walking.feed.Goals as goal

pub take_in-requires-clause-crossings : goal.take_in-requires-clause-crossings
take_in-requires-clause-crossings c =
    let sources = c.args.turn.now.sources.items in
    let crossings = c.args.crossings.now in
    let k = c.loop-source.source-index in
    let q = get_or c.deref-source-items.result.now k 0 in
    let is : q ≡ get_or sources k 0 = ap (λ (xs : List ℕ). get_or xs k 0) c.deref-source-items.ensures.value in
    let lt : k < length sources = omega (arith, c.loop-source-test.true, ap length c.deref-source-items.ensures.value) in
    let within : q < length crossings = subst (λ s. s < length crossings) (sym is) (All-contains (λ s. s < length crossings) sources (get_or sources k 0) c.requires.sources (Contains-get_or sources k 0 lt)) in
    let row = row_is crossings q c.index-crossings-source.result within c.index-crossings-source.is ∙ sym c.deref.ensures.value in
    subst (λ (xs : List ℕ). All (λ (gate : Gate). gate.crossing < length xs) c.args.gates.now) row (c.requires.crossings q within)

pub loop-source-preserved : goal.loop-source-preserved
loop-source-preserved c =
    let turn = c.args.turn.now in
    let gates = c.args.gates.now in
    let sources = turn.sources.items in
    let crossings = c.args.crossings.now in
    let k = c.loop-source.source-index in
    let q = get_or c.deref-source-items.result.now k 0 in
    let is : q ≡ get_or sources k 0 = ap (λ (xs : List ℕ). get_or xs k 0) c.deref-source-items.ensures.value in
    let lt : k < length sources = omega (arith, c.loop-source-test.true, ap length c.deref-source-items.ensures.value) in
    let within : q < length crossings = subst (λ s. s < length crossings) (sym is) (All-contains (λ s. s < length crossings) sources (get_or sources k 0) c.requires.sources (Contains-get_or sources k 0 lt)) in
    let from = c.deref.result.now in
    let row : from ≡ row_of crossings q = c.deref.ensures.value ∙ sym (row_is crossings q c.index-crossings-source.result within c.index-crossings-source.is) in
    let before = c.args.walk.now in
    let now = c.loop-source.walk in
    let next = c.take_in.new.walk in
    record {
      lowered = source_more turn gates crossings k q lt is from before now next row c.take_in.ensures.lowered c.loop-source.invariant.lowered;
      fed = sources_fed turn gates crossings k q lt is from before now next row c.take_in.ensures.lowered c.take_in.ensures.fed c.loop-source.invariant.fed;
      same = λ off. elim c.if-take_in.branch [
        | then-take_in w ↦ absurd (let is = w.sooner-is in cc)
        | else-take_in w ↦ c.take_in.ensures.same w.if-take_in.false ∙ c.loop-source.invariant.same (sym w.sooner-is ∙ off)
      ];
    }

pub returns-clause-fed : goal.returns-clause-fed
returns-clause-fed c =
    let sources = c.args.turn.now.sources.items in
    let fed = λ (s : ℕ). All (λ (x : Gate). time_at c.loop-source.walk x.place ≤ cell c.args.crossings.now s x.crossing) c.args.gates.now in
    subst (All fed) (take_all c.loop-source.source-index sources (omega (arith, c.loop-source-test.false, ap length c.deref-source-items.ensures.value))) c.loop-source.invariant.fed
