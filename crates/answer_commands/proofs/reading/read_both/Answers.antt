use Rattle.plan_base.proofs.Common.{ℕ, inl, inr, List, Bor, err_from_is_err_and, option_map}
use Rattle.hierarchy_commands.proofs.OutcomeLemmas.{found_sound}
use Rattle.answer_commands.proofs.reading.read_both.Goals as goal

pub returns-in_err-network-clause-err : goal.returns-in_err-network-clause-err
returns-in_err-network-clause-err g c =
    let p = err_from_is_err_and c.from_residual.result c.from_residual.ensures.1 in
    rw (p.1, p.2) (inl c.in_err-network.ensures.err)

pub returns-in_err-hierarchy-clause-err : goal.returns-in_err-hierarchy-clause-err
returns-in_err-hierarchy-clause-err g c =
    let p = err_from_is_err_and c.from_residual-in_err-hierarchy.result c.from_residual-in_err-hierarchy.ensures.1 in
    rw (p.1, p.2)
    (inr (record {
      n = c.in_ok-network.network;
      has = c.in_ok-network.ensures.ok;
      mid = g.F.Shelf.meaning c.read_region.new.shelf;
      later = c.in_ok-network.ensures.later;
      lacks = c.in_err-hierarchy.ensures.err;
    }))

pub returns-clause-ok : goal.returns-clause-ok
returns-clause-ok g c = record {
  has = c.in_ok-network.ensures.ok;
  mid = g.F.Shelf.meaning c.read_region.new.shelf;
  later = c.in_ok-network.ensures.later;
  found = c.in_ok-hierarchy.ensures.ok;
}

pub returns-clause-sound : goal.returns-clause-sound
returns-clause-sound g c =
    found_sound (g.F.Shelf.meaning c.read_region.new.shelf) (g.F.Shelf.meaning c.read_if_named.new.shelf) c.in_ok-network.network (option_map (λ (x : Bor (List ℕ)). x.now) c.args.hierarchy)
    c.in_ok-hierarchy.hierarchy c.in_ok-hierarchy.ensures.ok
