use Rattle.plan_base.proofs.Common.{[], sym, ◌∙◌, get_or_from_slice_get}
use Rattle.plan_base.specs.{letter_names, number_of_mode}
use Rattle.region_file.proofs.printing.mode_name.Goals as goal

pub returns : goal.returns
returns c = c.as_bytes.ensures.value ∙ sym (get_or_from_slice_get letter_names (number_of_mode c.args.mode) _ [] c.name.ensures)
