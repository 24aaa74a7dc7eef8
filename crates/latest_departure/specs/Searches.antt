-- What the search for a deadline holds.
use Rattle.std.specs.Prelude.{◌≡◌, ◌<◌, ◌≤◌, ◌^◌}
use Rattle.journey.specs.{Asked}
pub use Rattle.latest_departure.specs.declared.search.LateSearch.{LateSearch}
use Rattle.latest_departure.specs.{Late.deadline, Late.first_moment, Latest.span, Latest.ReadsFromEnds, Latest.AreSwappedEnds, BackLists.BackLists, Meanings.reversed_meaning}

-- it goes over this table, for what is asked
pub record IsSearchFor (b : BackLists) (q : Asked) (s : LateSearch) : Type 0 where
  pub backwards : s.mirror.backwards.now ≡ b
  pub by : s.mirror.deadline ≡ deadline q
  pub small : deadline q < 2 ^ 57
  pub not_before : first_moment b.network ≤ deadline q
  pub back_to : s.span ≡ span b.network q
  pub reads : ReadsFromEnds q (reversed_meaning s.expressed.made.machine.labels.inner)
  pub ends : AreSwappedEnds b.network q s.starts.items s.targets.items
