-- Stops have the ids of their rows.
use Rattle.plan_base.proofs.Common.{◌≡◌, map, refl, sym, ap, Option, None, Some, option_map, option_to_list, none-some, same_Some}
use Rattle.plan_base.specs.{Place}
use Rattle.gtfs_tables.specs.{StopRow, Location, stop_of}

pub has_id_of : (location : Location) (stop : StopRow) → stop_of location ≡ Some stop → stop.id ≡ location.id
has_id_of location stop e = by_place location.place e
  where
    by_place : (o : Option Place) → option_map (λ (place : Place). (let row : StopRow = record { row = location.row; id = location.id; place = place } in row)) o ≡ Some stop → stop.id ≡ location.id
    by_place None e = absurd (none-some stop e)
    by_place (Some place) e = ap (λ (stop : StopRow). stop.id) (sym (same_Some _ stop e))

-- the id of a row is listed where the row is that of a stop
pub listed_id : (location : Location) → option_to_list (option_map (λ (place : Place). location.id) location.place) ≡ map (λ (stop : StopRow). stop.id) (option_to_list (stop_of location))
listed_id location = by_place location.place
  where
    by_place : (o : Option Place) → option_to_list (option_map (λ (place : Place). location.id) o) ≡ map (λ (stop : StopRow). stop.id) (option_to_list (option_map (λ (place : Place). (let row : StopRow = record { row = location.row; id = location.id; place = place } in row)) o))
    by_place None = refl
    by_place (Some place) = refl
