use Rattle.plan_base.proofs.Common.{◌∙◌, sym}
use Rattle.rounds.proofs.rounds.Rounds.new.Goals as goal

pub returns-clause-is : goal.returns-clause-is
returns-clause-is c =
    let crossings = c.in_ok-crossings.ensures in
    let lines = c.in_ok-lines.ensures in
    let layers = c.in_ok-layers.ensures in
    let graph = c.in_ok-graph.ensures in
    record {
      sound = c.requires.sound;
      short = sym c.has_legs.ensures ∙ c.if-not-has_legs.false;
      in_use = graph.is;
      network_is = graph.network;
      hierarchy_is = graph.hierarchy;
      crossings = rw c.in-Some-2.is at crossings.core;
      quiet = rw c.in-Some-2.is at crossings.quiet;
      longest = c.in-Some.ensures;
      many = rw c.in-Some-5.is at layers.many;
      layers = rw (c.in-Some-5.is, c.deref-4.ensures.value) at layers.layers;
      table = c.timetable-timetable.ensures.keeps;
      timetable_of = c.timetable-timetable.ensures.of;
      lines = rw (c.in-Some-4.is, c.deref-2.ensures.value) at lines;
    }
