-- The verdict on a journey that is claimed.
use Rattle.mode_network.specs.{NetworkLists.NetworkLists, Route}
use Rattle.journey.specs.{Asked}
use Rattle.certificate.specs.{IsAsClaimed}
use Rattle.latest_departure.specs.{IsInTime}
use Rattle.late_certificate.specs.{goal_of}

-- a journey that is in time is as that is claimed
pub in_time_as_claimed : (n : NetworkLists) (q : Asked) (j : Route) → IsInTime n q j → IsAsClaimed n q (goal_of n q) j
in_time_as_claimed n q j is = record {
  starts = record { at_copy = is.starts_at_copy; not_before = is.not_before };
  end = is.end;
  time = is.arrival;
  word = is.word;
  real = is.real;
  ends_at_copy = is.ends_at_copy;
  timely = is.by_deadline;
  denoted = is.denoted;
}
