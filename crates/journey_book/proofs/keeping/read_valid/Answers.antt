use Rattle.plan_base.proofs.Common.{inl, inr, err_from_is_err_and}
use Rattle.journey_book.proofs.keeping.read_valid.Goals as goal

pub returns-in_err-bytes-clause-err : goal.returns-in_err-bytes-clause-err
returns-in_err-bytes-clause-err g c =
    let p = err_from_is_err_and c.from_residual.result c.from_residual.ensures.1 in
    rw (p.1, p.2) (inl c.in_err-bytes.ensures.err)

pub returns-in-Ok-clause-ok : goal.returns-in-Ok-clause-ok
returns-in-Ok-clause-ok g c = record {
  file = c.in_ok-bytes.ensures.ok;
  later = c.in_ok-bytes.ensures.later;
  valid = (c.in-Ok.field-0, rw c.as_slice-text.ensures.value at c.in-Ok.ensures.text, c.in-Ok.ensures.valid);
}

pub returns-in-Err-clause-err : goal.returns-in-Err-clause-err
returns-in-Err-clause-err g c = inr (record {
  bytes = c.in_ok-bytes.bytes.items;
  file = c.in_ok-bytes.ensures.ok;
  later = c.in_ok-bytes.ensures.later;
  fails = rw c.as_slice-text.ensures.value at c.in-Err.ensures.err;
})
