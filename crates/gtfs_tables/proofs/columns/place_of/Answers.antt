use Rattle.plan_base.proofs.Common.{◌∙◌, sym, ap, [], arith, bytes_eq, position}
use Rattle.csv.specs.Records.{fields_of}
use Rattle.gtfs_tables.specs.{place_of_column}
use Rattle.gtfs_tables.proofs.ColumnLemmas.{first_place, no_place}
use Rattle.gtfs_tables.proofs.columns.place_of.Goals as goal

pub returns-then-has_name : goal.returns-then-has_name
unfolding place_of_column
returns-then-has_name c =
    let fields = fields_of c.args.header.now in
    let here = sym c.has_name.ensures ∙ c.if-has_name.true in
    sym (ap (λ name. position (bytes_eq name) fields) (sym (c.as_bytes-name.ensures.value ∙ c.name.ensures))
    ∙ first_place (bytes_eq c.as_bytes-name.result.now) fields c.loop-place.place [] (omega arith) c.loop-place.invariant here)

pub returns : goal.returns
unfolding place_of_column
returns c =
    let fields = fields_of c.args.header.now in
    sym (ap (λ name. position (bytes_eq name) fields) (sym (c.as_bytes-name.ensures.value ∙ c.name.ensures))
    ∙ no_place (bytes_eq c.as_bytes-name.result.now) fields c.loop-place.place [] (omega arith) c.loop-place.invariant)
