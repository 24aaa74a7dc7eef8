use Rattle.plan_base.proofs.Common.{◌∙◌, ◌++◌, ◌∷◌, [], List, ap}
use Rattle.hierarchy.specs.{Entry}
use Rattle.unpack.proofs.PhaseLemmas.{has_first, has_second, parts_weigh}
use Rattle.unpack.proofs.phase_walk.push_parts.Goals as goal

pub unreachable-requires : goal.unreachable-requires
unreachable-requires c =
    has_first c.args.network.now c.known.ensures c.args.hierarchy.now c.known-2.ensures c.requires.sound c.args.entry c.args.middle c.requires.listed c.requires.via (rw c.in_default.is at c.entry.ensures)

pub unreachable-requires-in_default-entry : goal.unreachable-requires-in_default-entry
unreachable-requires-in_default-entry c =
    has_second c.args.network.now c.known.ensures c.args.hierarchy.now c.known-2.ensures c.requires.sound c.args.entry c.args.middle c.requires.listed c.requires.via (rw c.in_default-entry.is at c.entry-2.ensures)

pub returns : goal.returns
returns c =
    let first = c.in-Some.first.now in
    let second = c.in-Some-entry.second.now in
    let one = rw c.in-Some.is at c.entry.ensures in
    let two = rw c.in-Some-entry.is at c.entry-2.ensures in
    record {
      first = first;
      second = second;
      first_listed = one.listed;
      second_listed = two.listed;
      first_from = one.from;
      first_to = one.to;
      second_from = two.from;
      second_to = two.to;
      weigh = parts_weigh c.args.network.now c.known.ensures c.args.hierarchy.now c.known-2.ensures c.requires.sound c.args.entry c.args.middle first second c.requires.listed c.requires.via one two;
      list = c.in_ok-push-2.ensures.items ∙ ap (λ (s : List Entry). s ++ first ∷ []) c.in_ok-push.ensures.items;
    }
