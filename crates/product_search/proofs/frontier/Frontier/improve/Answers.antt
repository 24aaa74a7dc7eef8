use Rattle.plan_base.proofs.Common.{◌≡◌, ◌<◌, length, refl, sym, ◌∙◌, ap, arith, ◌++◌, ◌∷◌, [], Some, slice_get, with_item, length-set, slice_get_read, slice_get_within, on_ok_weaker}
use Rattle.product_search.specs.{declared.row.Row.Row, declared.frontier.Frontier.Frontier, inside.rows, inside.ways}
use Rattle.product_search.proofs.FrontierLemmas.{TakesWay, Changes, changes_set, indexed_set, offers_taken, reached_taken, right_taken, same_element}
use Rattle.product_search.proofs.frontier.Frontier.improve.Goals as goal

pub returns : goal.returns
returns c =
    let old = c.args.self.now in
    let v = c.args.node in
    let q = c.args.state in
    let n = c.args.number in
    let way = c.args.way in
    let row = c.index_mut-row.result.now in
    let x : Row = record row { way = c.in_ok-link.link; delay = way.delay } in
    let new : Frontier = record old { rows = with_item old.rows n x; ways = c.push.new.self; queue = c.push-2.new.self } in
    let last : x.way ≡ length (ways old) = c.in_ok-link.ensures.count ∙ c.len.ensures ∙ old.ways.ok.0 in
    let within : n < length (rows old) = slice_get_within (rows old) n c.requires.there.row c.requires.there.known in
    let known : slice_get (rows old) n ≡ Some row = slice_get_read (rows old) (length (rows old)) n row refl within c.index_mut-row.ensures.value in
    let there : c.requires.there.row ≡ row = same_element Row (rows old) n c.requires.there.row row c.requires.there.known known in
    let read = slice_get_read (rows old) (length (rows old)) n c.index.result.now refl within c.index.ensures in
    let same = ap (λ (y : Row). y.delay) (same_element Row (rows old) n c.index.result.now row read known) in
    let size : length (rows new) ≡ length (rows old) = length-set (rows old) n x in
    let changes : Changes (rows old) (rows new) n x =
    changes_set (rows old) n x row c.requires.right.apart known (record { node = refl; state = refl; delay = omega arith }) in
    let takes : TakesWay old new n v q x way = record {
      base = refl;
      until = refl;
      changes = changes;
      node = sym (ap (λ (y : Row). y.node) there) ∙ c.requires.there.node;
      state = sym (ap (λ (y : Row). y.state) there) ∙ c.requires.there.state;
      added = c.in_ok-push.ensures.items ∙ ap (λ w. ways old ++ w ∷ []) c.taken_by.ensures;
      last = last;
      delay = refl;
      soon = c.requires.soon;
      few = omega (arith, size, c.requires.right.few);
      few_ways = omega (arith, last, c.in_ok-link.ensures.small);
    } in
    let indexed = indexed_set (rows old) (rows new) n x changes old.chains.count old.first.items c.requires.right.indexed row known refl size in
    record {
      right = on_ok_weaker c.push-2.result (λ puts. right_taken old new n v q x way takes puts c.requires.right indexed) c.push-2.ensures;
      offers = on_ok_weaker c.push-2.result (λ puts. offers_taken old new n v q x way takes puts) c.push-2.ensures;
      reached = on_ok_weaker c.push-2.result (λ puts. reached_taken old new n v q x way takes) c.push-2.ensures;
    }
