use Rattle.plan_base.proofs.Common.{sym, ap, ◌∙◌, Ok}
use Rattle.opl_reader.specs.{state_of}
use Rattle.opl_reader.proofs.ReadingLemmas.{none_at_ok, takes, takes_faultless, takes_fault}
use Rattle.opl_reader.proofs.feeding.Opl.feed.Goals as goal

pub returns-clause-taken : goal.returns-clause-taken
returns-clause-taken c = λ caps bytes h.
    takes caps bytes c.args.piece.now (state_of c.self.inside.reader) (state_of c.take-taken.new.self) c.err-self-inside.result (h.state ∙ ap (λ o. Ok o.state) (sym c.self.view_is))
    c.take-taken.result c.take-taken.ensures.ok (none_at_ok c.take-taken.result c.err-self-inside.result c.err-self-inside.ensures.value)

pub returns-clause-faultless : goal.returns-clause-faultless
returns-clause-faultless c = λ caps bytes h.
    takes_faultless caps bytes c.args.piece.now (state_of c.self.inside.reader) (state_of c.take-taken.new.self) c.err-self-inside.result (h.state ∙ ap (λ o. Ok o.state) (sym c.self.view_is))
    c.take-taken.result c.take-taken.ensures.ok

pub returns-clause-fault : goal.returns-clause-fault
returns-clause-fault c = λ caps bytes h.
    takes_fault caps bytes c.args.piece.now (state_of c.self.inside.reader) (state_of c.take-taken.new.self) c.err-self-inside.result (h.state ∙ ap (λ o. Ok o.state) (sym c.self.view_is))
    c.take-taken.result c.take-taken.ensures.fault
