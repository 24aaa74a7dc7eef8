use Rattle.plan_base.proofs.Common.{◌≡◌, ◌∙◌, ℕ, Option, ap, arith, length-append}
use Rattle.plan_base.specs.{Mode}
use Rattle.mode_network.specs.{NodeRow, mode_at, arcs_begun_below, node_row}
use Rattle.mode_network.proofs.{IndexLemmas.count_below_is, KeyLemmas.rows_more}
use Rattle.mode_network.proofs.indexes.rows.Goals as goal

-- a row of these parts
abbrev made : Option Mode → ℕ → ℕ → NodeRow
made mode arcs links = record { mode = mode; arcs = arcs; links = links }

pub loop-v-preserved : goal.loop-v-preserved
loop-v-preserved c =
    let v = c.loop-v.v in
    let roads = c.args.roads.now in
    let arcs = c.args.arcs.now in
    let links = c.args.links.now in
    let arc = c.skip_below-arc.ensures in
    let link = c.skip_below-link.ensures in
    let pushed = c.in_ok-push.ensures.items in
    let row_is : made c.mode_at.result c.skip_below-arc.result c.skip_below-link.result ≡ node_row roads arcs links v =
    ap (λ mode. made mode c.skip_below-arc.result c.skip_below-link.result) c.mode_at.ensures
    ∙ ap (λ n. made (mode_at roads v) n c.skip_below-link.result) (count_below_is arcs v c.skip_below-arc.result c.requires.arcs_ascend arc.within arc.below arc.next)
    ∙ ap (made (mode_at roads v) (arcs_begun_below arcs v)) (count_below_is links v c.skip_below-link.result c.requires.links_ascend link.within link.below link.next) in
    record {
      arc_within = arc.within;
      arcs_below = λ k d low h. omega (arith, arc.below k d low h);
      link_within = link.within;
      links_below = λ k d low h. omega (arith, link.below k d low h);
      so_far = rw pushed (omega (arith, length-append {A = NodeRow}, c.loop-v.invariant.so_far));
      are = rw pushed (rows_more (node_row roads arcs links) c.loop-v.rows.items v _ c.loop-v.invariant.so_far c.loop-v.invariant.are row_is);
    }
