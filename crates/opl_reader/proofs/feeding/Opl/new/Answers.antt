use Rattle.plan_base.proofs.Common.{refl, ap, ◌∙◌, sym, Ok}
use Rattle.opl_reader.specs.{fresh}
use Rattle.opl_reader.proofs.AppendLemmas.{with_nothing}
use Rattle.opl_reader.proofs.feeding.Opl.new.Goals as goal

pub returns : goal.returns
returns c = record { faultless = refl; state = with_nothing (fresh c.args.caps) ∙ ap Ok (sym c.new.ensures) }
