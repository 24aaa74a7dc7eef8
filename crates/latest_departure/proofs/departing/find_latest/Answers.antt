use Rattle.kept_automata.proofs.TextLemmas.{query_spells}
use Rattle.latest_departure.proofs.departing.find_latest.Goals as goal

pub best_at-requires-clause-spelled : goal.best_at-requires-clause-spelled
best_at-requires-clause-spelled c = query_spells c.args.backwards.now.network _ _ _ _ _ c.requires.asks
