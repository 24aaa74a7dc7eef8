use Rattle.plan_base.proofs.Common.{ap₂, ◌∙◌, ◌++◌, sym, subst, FitsSigned, w32}
use Rattle.file_records.specs.{signed_bytes}
use Rattle.region_file.proofs.{PushLaws.two, FrontLaws.lat_again, FrontLaws.lat_fits, FrontLaws.lon_again, FrontLaws.lon_fits}
use Rattle.region_file.proofs.writing.push_place.Goals as goal

pub push_narrow-requires : goal.push_narrow-requires
push_narrow-requires c = subst (λ z. FitsSigned w32 z) (sym (lat_again c.args.place)) (lat_fits c.args.place).0

pub push_narrow-requires-2 : goal.push_narrow-requires-2
push_narrow-requires-2 c = subst (λ z. FitsSigned w32 z) (sym (lon_again c.args.place)) (lon_fits c.args.place).0

pub returns : goal.returns
returns c =
    two _ _ _ _ _ c.in_ok-push_narrow.ensures c.in_ok-push_narrow-2.ensures
    ∙ ap₂ (λ lat lon. c.args.out.now.items ++ (signed_bytes w32 lat ++ signed_bytes w32 lon)) (lat_again c.args.place) (lon_again c.args.place)
