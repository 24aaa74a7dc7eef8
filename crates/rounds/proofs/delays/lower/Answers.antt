use Rattle.plan_base.proofs.Common.{◌≡◌, ◌∙◌, ◌<◌, ℕ, List, refl, sym, ap, subst, length, set, arith, get_or-set_same, get_or_default}
use Rattle.std.specs.Vec.{with_item}
use Rattle.sweeps.specs.{time_at}
use Rattle.rounds.specs.inside.{IsRowLowered}
use Rattle.rounds.proofs.RowLemmas.{row_is, row-set_same, row_set, row_weaker, lowered_row}
use Rattle.rounds.proofs.delays.lower.Goals as goal

pub index-requires : goal.index-requires
index-requires c =
    let row = c.index_mut-delays.result.now in
    omega (arith, ap length (row_is c.args.rows.now.items c.args.row row c.requires.row c.index_mut-delays.ensures.value), row.ok.0)

pub index_mut-requires : goal.index_mut-requires
index_mut-requires c =
    let row = c.index_mut-delays.result.now in
    omega (arith, ap length (row_is c.args.rows.now.items c.args.row row c.requires.row c.index_mut-delays.ensures.value), row.ok.0)

pub returns-then-delay-index-clause-lowered : goal.returns-then-delay-index-clause-lowered
returns-then-delay-index-clause-lowered c =
    let rows = c.args.rows.now.items in
    let row = c.index_mut-delays.result.now in
    let is = row_is rows c.args.row row c.requires.row c.index_mut-delays.ensures.value in
    let lt : c.args.place < length row.items = omega (arith, ap length is) in
    let was : c.index.result.now ≡ time_at row.items c.args.place = c.index.ensures ∙ get_or_default row.items c.args.place c.index.result.now 0 lt in
    lowered_row (λ k i t. (k ≡ c.args.row) × (i ≡ c.args.place) × (t ≡ c.args.delay)) rows c.args.row (with_item row c.args.place c.args.delay) c.requires.row
    (subst (λ (xs : List ℕ). IsRowLowered (λ i t. (c.args.row ≡ c.args.row) × (i ≡ c.args.place) × (t ≡ c.args.delay)) xs (set row.items c.args.place c.args.delay)) (sym is)
    (row_weaker (λ i t. (i ≡ c.args.place) × (t ≡ c.args.delay)) (λ i t. (c.args.row ≡ c.args.row) × (i ≡ c.args.place) × (t ≡ c.args.delay)) row.items (set row.items c.args.place c.args.delay)
    (λ i t p. (refl, p.0, p.1)) (row_set row.items c.args.place c.args.delay lt (omega (arith, c.if-delay-index.true)))))

pub returns-then-delay-index-clause-here : goal.returns-then-delay-index-clause-here
returns-then-delay-index-clause-here c =
    let rows = c.args.rows.now.items in
    let row = c.index_mut-delays.result.now in
    let is = row_is rows c.args.row row c.requires.row c.index_mut-delays.ensures.value in
    let lt : c.args.place < length row.items = omega (arith, ap length is) in
    let same = row-set_same rows c.args.row (with_item row c.args.place c.args.delay) c.requires.row in
    omega (arith, ap (λ xs. time_at xs c.args.place) same, get_or-set_same row.items c.args.place c.args.delay 0 lt)

pub returns-else-delay-index-clause-here : goal.returns-else-delay-index-clause-here
returns-else-delay-index-clause-here c =
    let rows = c.args.rows.now.items in
    let row = c.index_mut-delays.result.now in
    let is = row_is rows c.args.row row c.requires.row c.index_mut-delays.ensures.value in
    let lt : c.args.place < length row.items = omega (arith, ap length is) in
    let was : c.index.result.now ≡ time_at row.items c.args.place = c.index.ensures ∙ get_or_default row.items c.args.place c.index.result.now 0 lt in
    let same = row-set_same rows c.args.row row c.requires.row in
    omega (arith, ap (λ xs. time_at xs c.args.place) same, c.if-delay-index.false)
