use Rattle.plan_base.proofs.Common.{◌∙◌, sym, ap, bytes_eq}
use Rattle.csv.specs.Records.{fields_of}
use Rattle.csv.proofs.RecordFacts.{field-get, field-there}
use Rattle.gtfs_tables.proofs.columns.has_name.Goals as goal

pub unreachable-requires : goal.unreachable-requires
unreachable-requires c = field-there (fields_of c.args.header.now) c.args.place c.requires (sym c.in-None.ensures.value)

pub returns : goal.returns
returns c = c.eq.ensures ∙ ap (bytes_eq c.args.name.now) (sym (field-get (fields_of c.args.header.now) c.args.place c.in-Some.field.now (sym c.in-Some.ensures.value)))
