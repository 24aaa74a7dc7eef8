use Rattle.plan_base.proofs.Common.{◌∙◌, inr, ap}
use Rattle.csv.specs.Reading.{builder_config, builder_is_flexible, builder_trim, builder_names_headers, strip_bom}
use Rattle.csv.specs.Machine.{ends_at_end}
use Rattle.gtfs_tables.proofs.records.Rows.new.Goals as goal

pub invariant_of-result : goal.invariant_of-result
invariant_of-result c =
    let from = c.from_reader-reader.ensures in
    let built = c.flexible.ensures in
    let named = c.has_headers.ensures in
    let fresh = c.new.ensures in
    rw c.into_byte_records.ensures.rdr (record {
      config = from.config ∙ ap builder_config built ∙ ap builder_config named ∙ fresh.config;
      untrimmed = from.trim ∙ ap builder_trim built ∙ ap builder_trim named ∙ fresh.trim;
      flexible = from.flexible ∙ ap builder_is_flexible built;
      left = c.into_byte_records.ensures.left;
      ready = inr (inr (from.has_headers ∙ ap builder_names_headers built ∙ ap builder_names_headers named, from.headers));
      between = ap ends_at_end from.state;
      bytes = strip_bom c.args.text.now;
      source = from.source;
    })
