use Rattle.plan_base.proofs.Common.{sym, ap, ◌∙◌, refl, Some, Err, unwrap_or}
use Rattle.gtfs_tables.specs.{MixedZones, agencies, is_first}
use Rattle.gtfs_tables.proofs.{AgencyLemmas.first_stays, AgencyLemmas.same_zone, AgencyLemmas.without_key, TableLemmas.faultless_row, TableLemmas.mixed}
use Rattle.gtfs_tables.proofs.agencies.ZonesTakesRows.take.Goals as goal

pub returns-then-not-branch-clause-row : goal.returns-then-not-branch-clause-row
returns-then-not-branch-clause-row c earlier kept =
    let zone = c.in_ok-zone.zone.now in
    let other = same_zone earlier zone ∙ ap (λ first. is_first first zone) (sym kept) ∙ sym c.in_ok-agree.ensures.same ∙ c.if-not-branch.true in
    mixed agencies earlier c.args.row.now zone c.in_ok-zone.ensures (without_key earlier zone) refl other ∙ ap (λ n. Err (MixedZones n)) (sym c.number.ensures)

pub returns-clause-row : goal.returns-clause-row
returns-clause-row c earlier kept =
    let zone = c.in_ok-zone.zone.now in
    let same = same_zone earlier zone ∙ ap (λ first. is_first first zone) (sym kept) ∙ sym c.in_ok-agree.ensures.same ∙ c.if-not-branch.false in
    record {
      said = zone;
      is = faultless_row agencies earlier c.args.row.now zone c.in_ok-zone.ensures (without_key earlier zone) refl same tt;
      kept = c.in_ok-agree.ensures.first c.if-not-branch.false ∙ ap (λ first. Some (unwrap_or first zone)) kept ∙ first_stays earlier zone;
    }
