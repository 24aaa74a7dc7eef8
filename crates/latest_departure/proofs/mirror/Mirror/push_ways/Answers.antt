use Rattle.plan_base.proofs.Common.{◌≡◌, ◌+◌, ◌<◌, ◌^◌, ◌++◌, ◌∙◌, List, length, get_or, ap, sym, subst, arith, sum_by, get_or_default, sum_by_more}
use Rattle.std.proofs.lemmas.List.Sums.{sum_by_more_le}
use Rattle.search_laws.specs.{ways_from}
use Rattle.latest_departure.specs.{Entry, mirrored, LeadsInto, entry_count, source_of, no_source_entry}
use Rattle.latest_departure.proofs.{RowLemmas.entry_leads, WayLemmas.entry_pushed, WayLemmas.row_done}
use Rattle.latest_departure.proofs.mirror.Mirror.push_ways.Goals as goal

pub push_source-requires-clause-leads : goal.push_source-requires-clause-leads
push_source-requires-clause-leads c =
    let b = c.args.self.now.backwards.now in
    let k = c.known.ensures in
    let place = c.loop-entry.entry-index in
    let within = subst (λ (row : List Entry). place < length row) c.row-entry-items.ensures c.loop-entry-test.true in
    subst (λ (row : List Entry). LeadsInto b.network b.table c.args.visit.node (source_of (get_or row place no_source_entry))) (sym c.row-entry-items.ensures)
    (entry_leads b.network b.table b.entries b.places k.sources c.args.visit.node c.requires.node place no_source_entry within)

pub push_source-requires-clause-few : goal.push_source-requires-clause-few
push_source-requires-clause-few c =
    let items = c.row-entry-items.result.now in
    let more = sum_by_more_le entry_count items c.loop-entry.entry-index no_source_entry c.loop-entry-test.true in
    let few : sum_by entry_count items < 2 ^ 64 = subst (λ (row : List Entry). sum_by entry_count row < 2 ^ 64) (sym c.row-entry-items.ensures) (c.known.ensures.few c.args.visit.node c.requires.node) in
    let so_far = c.loop-entry.invariant.place in
    omega arith

pub overflow_add-place : goal.overflow_add-place
overflow_add-place c =
    let items = c.row-entry-items.result.now in
    let more = sum_by_more_le entry_count items c.loop-entry.entry-index no_source_entry c.loop-entry-test.true in
    let few : sum_by entry_count items < 2 ^ 64 = subst (λ (row : List Entry). sum_by entry_count row < 2 ^ 64) (sym c.row-entry-items.ensures) (c.known.ensures.few c.args.visit.node c.requires.node) in
    let so_far = c.loop-entry.invariant.place in
    let own = c.count_of-place.ensures.value in
    omega arith

pub loop-entry-preserved : goal.loop-entry-preserved
loop-entry-preserved c =
    let b = c.args.self.now.backwards.now in
    let items = c.row-entry-items.result.now in
    let entry = get_or items c.loop-entry.entry-index no_source_entry in
    let is = get_or_default items c.loop-entry.entry-index no_source_entry entry c.loop-entry-test.true in
    let own : c.count_of-place.result ≡ entry_count entry = c.count_of-place.ensures.value in
    let next = entry_pushed b c.args.self.now.deadline c.args.visit.node c.args.visit.at c.args.visit.letters items c.row-entry-items.ensures c.loop-entry.entry-index c.loop-entry.place entry
    c.args.ways.now.items c.loop-entry.ways.items c.push_source.new.ways.items c.loop-entry-test.true is c.loop-entry.invariant.place c.loop-entry.invariant.ways c.in_ok-push_source.ensures in
    record {
      place = ap (λ k. c.loop-entry.place + k) own ∙ ap (λ k. k + entry_count entry) c.loop-entry.invariant.place ∙ sym (sum_by_more entry_count items c.loop-entry.entry-index no_source_entry c.loop-entry-test.true);
      ways = subst (λ k. c.push_source.new.ways.items ≡ c.args.ways.now.items ++ ways_from (mirrored b c.args.self.now.deadline) c.args.visit.node c.args.visit.at c.args.visit.letters 0 (c.loop-entry.place + k)) (sym own) next;
    }

pub returns : goal.returns
returns c =
    let past = c.loop-entry-test.false in
    row_done c.args.self.now.backwards.now c.args.self.now.deadline c.args.visit.node c.args.visit.at c.args.visit.letters c.row-entry-items.result.now c.row-entry-items.ensures
    c.loop-entry.entry-index c.loop-entry.place c.args.ways.now.items c.loop-entry.ways.items (omega arith) c.loop-entry.invariant.place c.loop-entry.invariant.ways
