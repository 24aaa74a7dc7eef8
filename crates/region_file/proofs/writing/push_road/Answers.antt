use Rattle.plan_base.proofs.Common.{ap, ◌∙◌, ◌++◌, ◌∷◌, [], w64, to_z-of_z}
use Rattle.plan_base.specs.{number_of_mode}
use Rattle.file_records.specs.{signed_bytes}
use Rattle.region_file.specs.{place_bytes}
use Rattle.region_file.proofs.PushLaws.{two}
use Rattle.region_file.proofs.writing.push_road.Goals as goal

pub returns : goal.returns
returns c =
    two _ _ _ _ _ (c.in_ok-push.ensures.items ∙ ap (λ n. c.args.out.now.items ++ (n ∷ [])) c.number.ensures) c.in_ok-push_switch.ensures
    ∙ ap (λ id. c.args.out.now.items ++ (number_of_mode c.args.mode ∷ (signed_bytes w64 id ++ place_bytes c.args.place))) (to_z-of_z w64 c.args.id c.ranges.id)
