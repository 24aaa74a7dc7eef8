use Rattle.plan_base.proofs.Common.{inr, sym, subst, err_from_is_err_and}
use Rattle.plan_base.specs.{HasRead}
use Rattle.plan_base.proofs.MoreWritten.{stays_so}
use Rattle.run_steps.specs.{most_bytes, TellsValid}
use Rattle.run_steps.proofs.{Steps.text_fails, CertificateOutcomes.certificate_fails}
use Rattle.run_steps.proofs.certificates.write_verified.Goals as goal

pub returns-in_err-text : goal.returns-in_err-text
returns-in_err-text g c =
    let p = err_from_is_err_and c.from_residual-in_err-text.result c.from_residual-in_err-text.ensures.1 in
    let old = g.F.Shelf.meaning c.args.ports.now.shelf in
    let out = g.O.Sink.meaning c.args.ports.now.out in
    rw (p.1, p.2)
    (certificate_fails (g.C.Certificates.kind c.args.certificates.now) old (g.F.Shelf.meaning c.read_file.new.shelf) out out c.args.path.now c.deref.result.now
    (subst (HasRead old c.args.path.now most_bytes) (sym c.deref.ensures.value) c.in_ok-bytes.ensures.ok) c.in_ok-bytes.ensures.later _ c.in_err-text.ensures.err (stays_so out))

pub returns-in_err-write_text : goal.returns-in_err-write_text
returns-in_err-write_text g c =
    let p = err_from_is_err_and c.from_residual-in_err-write_text.result c.from_residual-in_err-write_text.ensures.1 in
    let before = g.O.Sink.meaning c.args.ports.now.out in
    let after = g.O.Sink.meaning c.write_text.new.out in
    let old = g.F.Shelf.meaning c.args.ports.now.shelf in
    let new = g.F.Shelf.meaning c.read_file.new.shelf in
    rw (p.1, p.2)
    (inr (record {
      bytes = c.deref.result.now;
      file = subst (HasRead old c.args.path.now most_bytes) (sym c.deref.ensures.value) c.in_ok-bytes.ensures.ok;
      mid = new;
      later = c.in_ok-bytes.ensures.later;
      says = inr (inr (text_fails new new before after (TellsValid ((g.C.Certificates.kind c.args.certificates.now).Shows c.deref.result.now)) c.in_ok-text.text.items c.in_ok-text.ensures.ok _
          (rw (← c.deref-2.ensures.value) c.in_err-write_text.ensures.err)));
    }))

pub returns : goal.returns
returns g c =
    let new = g.F.Shelf.meaning c.read_file.new.shelf in
    inr (record {
      bytes = c.deref.result.now;
      file = subst (HasRead (g.F.Shelf.meaning c.args.ports.now.shelf) c.args.path.now most_bytes) (sym c.deref.ensures.value) c.in_ok-bytes.ensures.ok;
      mid = new;
      later = c.in_ok-bytes.ensures.later;
      says = inr (inr (record { out = c.in_ok-text.text.items; is = c.in_ok-text.ensures.ok; appended = rw (← c.deref-2.ensures.value) c.in_ok-write_text.ensures.ok }));
    })
