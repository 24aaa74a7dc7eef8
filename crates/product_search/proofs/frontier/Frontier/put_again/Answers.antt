use Rattle.plan_base.proofs.Common.{◌≡◌, ◌∙◌, ℕ, ◌<◌, List, Some, get_or, length, refl, subst, ap, arith, slice_get, slice_get_read, slice_get_within, on_ok_weaker}
use Rattle.product_search.specs.{declared.row.Row.Row, inside.rows}
use Rattle.product_search.proofs.FrontierLemmas.{put_again, stale_left, same_element}
use Rattle.product_search.proofs.frontier.Frontier.put_again.Goals as goal

known : (rs xs : List Row) (k : ℕ) (r : Row) → xs ≡ rs → k < length xs → r ≡ get_or xs k r → slice_get rs k ≡ Some r
known rs xs k r same lt at = subst (λ ys. slice_get ys k ≡ Some r) same (slice_get_read xs (length xs) k r refl lt at)

pub returns-then-row-item : goal.returns-then-row-item
returns-then-row-item c =
    let found = rw c.in-Some.is at c.get.ensures.lookup in
    let here = known (rows c.args.self.now) c.deref.result.now c.args.item.row c.in-Some.row.now c.deref.ensures.value (omega (arith, found.3)) found.1 in
    on_ok_weaker c.push.result (put_again c.args.self.now c.push.new.self c.args.item c.in-Some.row.now c.requires here c.if-row-item.true) c.push.ensures

pub returns-else-row-item : goal.returns-else-row-item
returns-else-row-item c =
    let found = rw c.in-Some.is at c.get.ensures.lookup in
    let here = known (rows c.args.self.now) c.deref.result.now c.args.item.row c.in-Some.row.now c.deref.ensures.value (omega (arith, found.3)) found.1 in
    stale_left c.args.self.now c.args.item c.requires
    (λ r also way. c.if-row-item.false (ap (λ (y : Row). y.way) (same_element Row (rows c.args.self.now) c.args.item.row c.in-Some.row.now r here also) ∙ way))

pub returns-in_default : goal.returns-in_default
returns-in_default c =
    let found = rw c.in_default.is at c.get.ensures.lookup in
    stale_left c.args.self.now c.args.item c.requires
    (λ r known way. absurd (omega (arith, found.3, ap length c.deref.ensures.value, slice_get_within (rows c.args.self.now) c.args.item.row r known)))
