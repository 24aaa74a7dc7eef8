use Rattle.plan_base.proofs.Common.{Bor, option_map}
use Rattle.hierarchy.specs.declared.hierarchy.Hierarchy.{Hierarchy}
use Rattle.answer_commands.proofs.BlockLemmas.{valid_printable, shown_block}
use Rattle.answer_commands.proofs.verifying.BestCertificatesCertificates.shown.Goals as goal

pub claimed_block-requires : goal.claimed_block-requires
claimed_block-requires c =
    let h = option_map (λ (x : Bor Hierarchy). x.now) c.args.self.now.hierarchy in
    valid_printable c.args.self.now.network.now c.known.ensures h c.args.bytes.now c.in_ok-certificate.certificate c.in_ok-certificate.ensures.text c.in_ok-certificate.ensures.valid

pub returns-clause-ok : goal.returns-clause-ok
returns-clause-ok c =
    let h = option_map (λ (x : Bor Hierarchy). x.now) c.args.self.now.hierarchy in
    let shown = c.in_ok-certificate.ensures in
    shown_block c.args.self.now.network.now h c.args.bytes.now c.in_ok-certificate.certificate c.in_ok-block.block.items shown.text shown.valid shown.proves c.in_ok-block.ensures
