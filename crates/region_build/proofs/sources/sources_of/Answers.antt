use Rattle.plan_base.proofs.Common.{List, ℕ, ◌∷◌, ◌-◌, ◌∙◌, ap, arith, drop, length, rules, subst, sym, take}
use Rattle.gtfs_tables.specs.{CallRow, FrequencyRow}
use Rattle.region_build.specs.{trip_of_call, trip_of_frequency, AreDaysOf}
use Rattle.region_build.proofs.{GroupLaws.ascend_from_sorted, ServiceLaws.days_are, SourceLaws.all_told, SourceLaws.first_and_rest, SourceLaws.one_more}
use Rattle.region_build.proofs.sources.sources_of.Goals as goal

pub loop-rest-init : goal.loop-rest-init
loop-rest-init c = record {
  so_far = search rules;
  count = search rules;
  calls_ascend = ascend_from_sorted trip_of_call (λ (call : CallRow). call.sequence) c.args.calls.now c.requires.calls.ascend;
  frequencies_ascend = ascend_from_sorted trip_of_frequency (λ (frequency : FrequencyRow). frequency.row) c.args.frequencies.now c.requires.frequencies.ascend;
  calls_same = search rules;
  frequencies_same = search rules;
  know = search rules;
}

pub loop-rest-preserved : goal.loop-rest-preserved
loop-rest-preserved c =
    let rest = c.loop-rest.rest.now in
    let split = first_and_rest rest c.trip-item.result (omega arith) ∙ ap (λ trip. trip ∷ take (length rest - 1) (drop 1 rest)) (sym c.trip-item.is) in
    let counted = ap length split in
    let runs = subst (λ (id : List ℕ). AreDaysOf c.args.feed.now c.args.days.now id c.in_ok-runs.runs) c.as_bytes.ensures
    (days_are c.args.feed.now c.args.days.now _ _ _ _ c.in_ok-runs.runs c.in_ok-services.ensures c.in_ok-runs.ensures.runs) in
    record {
      so_far = one_more c.args.feed.now c.args.days.now c.args.calls.now c.args.frequencies.now c.args.feed.now.trips c.loop-rest.place c.loop-rest.rest.now _ c.trip-item.result _ _ _ _ _
          split c.in_ok-push.ensures.items
          (c.split_rows.ensures.own ∙ c.loop-rest.invariant.calls_same c.loop-rest.place (omega arith)) (c.split_rows-in-len1-up.ensures.own ∙ c.loop-rest.invariant.frequencies_same c.loop-rest.place (omega arith))
          (c.source_of.ensures c.args.days.now runs) c.loop-rest.invariant.so_far;
      count = omega (arith, counted, c.loop-rest.invariant.count);
      calls_ascend = c.split_rows.ensures.ascend;
      frequencies_ascend = c.split_rows-in-len1-up.ensures.ascend;
      calls_same = λ k high. c.split_rows.ensures.later k high ∙ c.loop-rest.invariant.calls_same k (omega arith);
      frequencies_same = λ k high. c.split_rows-in-len1-up.ensures.later k high ∙ c.loop-rest.invariant.frequencies_same k (omega arith);
      know = c.in_ok-runs.ensures.known;
    }

pub returns : goal.returns
returns c = record {
  calls = c.args.calls.now;
  calls_are = c.requires.calls;
  frequencies = c.args.frequencies.now;
  frequencies_are = c.requires.frequencies;
  each = all_told c.args.feed.now c.args.days.now c.args.calls.now c.args.frequencies.now c.args.feed.now.trips c.loop-rest.place c.loop-rest.rest.now c.loop-rest.sources.items c.in_default.len_below c.loop-rest.invariant.so_far;
}
