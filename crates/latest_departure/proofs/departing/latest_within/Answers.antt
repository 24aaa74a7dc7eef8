use Rattle.kept_automata.proofs.TextLemmas.{query_spells}
use Rattle.latest_departure.proofs.departing.latest_within.Goals as goal

pub late_over-requires-clause-spelled : goal.late_over-requires-clause-spelled
late_over-requires-clause-spelled c = query_spells c.args.backwards.now.network _ _ _ _ _ c.requires.asks
