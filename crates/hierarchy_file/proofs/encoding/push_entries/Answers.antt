use Rattle.plan_base.proofs.Common.{◌++◌, ◌∙◌, ◌<◌, ◌^◌, ap, sym, take, get_or, None, flat_map, take_more, flat_map_more, All-more}
use Rattle.hierarchy.specs.{Entry}
use Rattle.hierarchy_file.specs.{entry_text}
use Rattle.hierarchy_file.proofs.encoding.push_entries.Goals as goal

nothing : Entry
nothing = record { from = 0; to = 0; weight = 0; via = None }

pub loop-entry-preserved : goal.loop-entry-preserved
unfolding nothing
loop-entry-preserved c =
    let all = c.args.entries.now in
    let i = c.loop-entry.entry-index in
    let x = get_or all i nothing in
    record {
      text = c.in_ok-push_entry.ensures.text ∙ ap (λ o. o ++ entry_text x) c.loop-entry.invariant.text
          ∙ flat_map_more entry_text c.args.out.now.items (take i all) x
          ∙ ap (λ xs. c.args.out.now.items ++ flat_map entry_text xs) (sym (take_more all i nothing c.loop-entry-test.true));
      fit = All-more (λ (entry : Entry). entry.weight < 2 ^ 64) all i nothing c.loop-entry-test.true c.loop-entry.invariant.fit c.in_ok-push_entry.ensures.fit;
    }
