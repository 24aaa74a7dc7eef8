use Rattle.plan_base.proofs.Common.{◌≡◌, ◌+◌, length, slice_index, refl, sym, ◌∙◌, ap, arith, ◌++◌, ◌∷◌, [], with_item, length_push, get_or-set_same, get_or-set_other, on_ok_weaker}
use Rattle.product_search.specs.{declared.row.Row.Row, declared.frontier.Frontier.Frontier, inside.rows, inside.ways, inside.IsIndexed}
use Rattle.product_search.proofs.FrontierLemmas.{TakesWay, Changes, changes_push, indexed_push, offers_taken, reached_taken, right_taken}
use Rattle.product_search.proofs.frontier.Frontier.add.Goals as goal

pub returns : goal.returns
returns c =
    let old = c.args.self.now in
    let v = c.args.node in
    let q = c.args.state in
    let way = c.args.way in
    let n = c.in_ok-number.number in
    let chain = c.place-chain.result in
    let x : Row = record { node = v; state = q; next = c.head-next.result; way = c.in_ok-link.link; delay = way.delay } in
    let new : Frontier = record old { rows = c.push.new.self; ways = c.push-2.new.self; first = with_item c.grow.new.first chain (n + 1); queue = c.push-3.new.self } in
    let end : n ≡ length (rows old) = c.in_ok-number.ensures.count ∙ c.len.ensures ∙ old.rows.ok.0 in
    let last : x.way ≡ length (ways old) = c.in_ok-link.ensures.count ∙ c.len-2.ensures ∙ old.ways.ok.0 in
    let size : length (rows new) ≡ n + 1 = (let more = ap length c.in_ok-push.ensures.items in omega (arith, more, length_push (rows old) x, end)) in
    let changes : Changes (rows old) (rows new) n x = rw end (rw c.in_ok-push.ensures.items (changes_push (rows old) x c.requires.nowhere)) in
    let takes : TakesWay old new n v q x way = record {
      base = refl;
      until = refl;
      changes = changes;
      node = refl;
      state = refl;
      added = c.in_ok-push-2.ensures.items ∙ ap (λ w. ways old ++ w ∷ []) c.taken_by.ensures;
      last = last;
      delay = refl;
      soon = c.requires.soon;
      few = omega (arith, size, c.in_ok-number.ensures.small);
      few_ways = omega (arith, last, c.in_ok-link.ensures.small);
    } in
    let indexed : IsIndexed old.chains.count (rows new) new.first.items =
    indexed_push (rows old) (rows new) n x changes old.chains.count old.first.items c.requires.right.indexed new.first.items end size
    (c.head-next.ensures ∙ ap (slice_index old.first.items) c.place-chain.ensures)
    (ap (slice_index new.first.items) (sym c.place-chain.ensures) ∙ get_or-set_same c.grow.new.first.items chain (n + 1) 0 c.in_ok-grow.ensures.long)
    (λ b other. get_or-set_other c.grow.new.first.items chain b (n + 1) 0 (λ e. other (e ∙ c.place-chain.ensures)) ∙ c.in_ok-grow.ensures.same b) in
    record {
      right = on_ok_weaker c.push-3.result (λ puts. right_taken old new n v q x way takes puts c.requires.right indexed) c.push-3.ensures;
      offers = on_ok_weaker c.push-3.result (λ puts. offers_taken old new n v q x way takes puts) c.push-3.ensures;
      reached = on_ok_weaker c.push-3.result (λ puts. reached_taken old new n v q x way takes) c.push-3.ensures;
    }
