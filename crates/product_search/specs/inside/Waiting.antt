-- What is reached, and who waits in the queue.
use Rattle.std.specs.Prelude.{◌≡◌, ℕ, ◌≤◌, suc, ◌+◌, ◌*◌, ◌/◌, ◌-◌, ◌<◌, ◌^◌, ◌⊎◌, List, [], length, slice_index, slice_get, Some, nat_lt, if◌then◌else◌, bit_and}
use Rattle.product_search.specs.{inside.Queued.Queued, inside.Queued.IsQueue, inside.Queued.queue_len, declared.queue.Item.Item, declared.row.Reached.Reached, declared.row.Row.Row, declared.row.Taken.Taken, declared.frontier.Scan.Scan, declared.frontier.Frontier.Frontier}

abbrev pub rows : Frontier → List Row
rows f = f.rows.items

abbrev pub ways : Frontier → List Taken
ways f = f.ways.items

-- ---- product states

-- the row with that number is the one of v and q
pub record IsAt (rs : List Row) (v q k : ℕ) : Type 0 where
  pub row : Row
  pub known : slice_get rs k ≡ Some row
  pub node : row.node ≡ v
  pub state : row.state ≡ q

abbrev pub IsNowhere : List Row → ℕ → ℕ → Type 0
IsNowhere rs v q = (k : ℕ) → IsAt rs v q k → ⊥

-- no two rows are of one product state
abbrev pub IsApart : List Row → Type 0
IsApart rs = (v q j k : ℕ) → IsAt rs v q j → IsAt rs v q k → j ≡ k

-- ---- chains

-- the chain of v and q, where each node has so many, among which its states are shared out
abbrev pub chain_of : ℕ → ℕ → ℕ → ℕ
chain_of count v q = v * count + bit_and (q + q / 4) (count - 1)

abbrev pub chain_in : ℕ → Row → ℕ
chain_in count r = chain_of count r.node r.state

-- c stands for the last row of a chain below a number: it is its number and 1, or 0
pub record IsLast (count : ℕ) (rs : List Row) (chain below c : ℕ) : Type 0 where
  pub none_after : (k : ℕ) (r : Row) → slice_get rs k ≡ Some r → c ≤ k → k < below → chain_in count r ≡ chain → ⊥
  pub there : (k : ℕ) → c ≡ suc k → (k < below) × (r : Row) × (slice_get rs k ≡ Some r) × (chain_in count r ≡ chain)

-- no chain has an entry
abbrev pub IsClear : List ℕ → Type 0
IsClear first = (chain : ℕ) → slice_index first chain ≡ 0

-- where the table has a number for a chain, some row from i on is of that chain
abbrev pub HasChainsFrom : ℕ → List Row → List ℕ → ℕ → Type 0
HasChainsFrom count rs first i = (chain k : ℕ) → slice_index first chain ≡ suc k
    → (j : ℕ) × (i ≤ j) × (r : Row) × (slice_get rs j ≡ Some r) × (chain_in count r ≡ chain)

-- the rows of each chain are linked, from the last one to the first
pub record IsIndexed (count : ℕ) (rs : List Row) (first : List ℕ) : Type 0 where
  pub first_of : (chain : ℕ) → IsLast count rs chain (length rs) (slice_index first chain)
  pub next : (k : ℕ) (r : Row) → slice_get rs k ≡ Some r → IsLast count rs (chain_in count r) k r.next

-- ---- times

-- the delay of a time, up to the greatest one
abbrev pub delay_at : ℕ → ℕ → ℕ
delay_at base t = if nat_lt (t - base) (2 ^ 64 - 1) then t - base else 2 ^ 64 - 1

-- the time is before the end of what is wanted, if there is one
abbrev pub IsWanted : Frontier → ℕ → Type 0
IsWanted f t = (f.until ≡ 2 ^ 64 - 1) ⊎ (t < f.base + f.until)

-- v and q are reached by t
pub record IsReachedBy (f : Frontier) (v q t : ℕ) : Type 0 where
  pub number : ℕ
  pub row : Row
  pub known : slice_get (rows f) number ≡ Some row
  pub node : row.node ≡ v
  pub state : row.state ≡ q
  pub by : f.base + row.delay ≤ t

-- ---- frontiers

-- the last way to the product state of the row k is this one
pub record IsLastWay (f : Frontier) (k : ℕ) (r : Row) (w : Taken) : Type 0 where
  pub known : slice_get (ways f) r.way ≡ Some w
  pub row : w.row ≡ k
  pub delay : w.delay ≡ r.delay

-- the row k waits in the queue, with its last way
abbrev pub Waits : Frontier → ℕ → Row → Type 0
Waits f k r = Queued f.queue r.delay (record { row = k; way = r.way })

-- the rows are apart and found, each has its last way, and they and the ways are few
pub record IsFrontier (f : Frontier) : Type 0 where
  pub queue : IsQueue f.queue
  pub apart : IsApart (rows f)
  pub indexed : IsIndexed f.chains.count (rows f) f.first.items
  pub last_ways : (k : ℕ) (r : Row) → slice_get (rows f) k ≡ Some r → (w : Taken) × IsLastWay f k r w
  pub soon : (k : ℕ) (r : Row) → slice_get (rows f) k ≡ Some r → r.delay < 2 ^ 64 - 1
  pub few : length (rows f) < 2 ^ 32
  pub few_ways : length (ways f) < 2 ^ 32

-- the way to the row k
abbrev pub taken_as : Reached → ℕ → Taken
taken_as way k = record { delay = way.delay; arc = way.arc; parent = way.parent; row = k }

-- ---- turns

-- nothing has changed but the queue
pub record IsSameBut (old new : Frontier) : Type 0 where
  pub base : new.base ≡ old.base
  pub until : new.until ≡ old.until
  pub rows : rows new ≡ rows old
  pub ways : ways new ≡ ways old

-- items are moved in the queue, and each row that waits does so still
pub record Rearranges (old new : Frontier) : Type 0 where
  pub same : IsSameBut old new
  pub right : IsFrontier new
  pub stay : (k : ℕ) (r : Row) → slice_get (rows old) k ≡ Some r → Waits old k r → Waits new k r
  pub no_more : queue_len new.queue ≤ queue_len old.queue

-- the lot in turn has some, or nobody waits for a delay that is wanted
abbrev pub IsReady : Frontier → Type 0
IsReady f = f.queue.current.items ≡ [] → (k : ℕ) (r : Row) → Waits f k r → f.until ≤ r.delay

-- x is put in again, unless its row has another last way
pub record PutsAgain (old new : Frontier) (x : Item) : Type 0 where
  pub same : IsSameBut old new
  pub right : IsFrontier new
  pub current : new.queue.current ≡ old.queue.current
  pub stay : (k : ℕ) (r : Row) → Waits old k r → Waits new k r
  pub there : (r : Row) → slice_get (rows old) x.row ≡ Some r → r.way ≡ x.way → Waits new x.row r
  pub no_more : queue_len new.queue ≤ queue_len old.queue + 1

-- x is given out of the queue
pub record GivesItem (old new : Frontier) (x : Item) : Type 0 where
  pub same : IsSameBut old new
  pub right : IsFrontier new
  pub others : (k : ℕ) (r : Row) → slice_get (rows old) k ≡ Some r → Waits old k r → ((k ≡ x.row) × (r.way ≡ x.way)) ⊎ Waits new k r
  pub fewer : queue_len new.queue < queue_len old.queue

-- s is the row of the item, with its last way, which is that of the item, and is wanted
pub record IsScanOf (f : Frontier) (x : Item) (s : Scan) : Type 0 where
  pub row : Row
  pub known : slice_get (rows f) x.row ≡ Some row
  pub way : row.way ≡ x.way
  pub node : s.node ≡ row.node
  pub state : s.state ≡ row.state
  pub delay : s.delay ≡ row.delay
  pub link : s.link ≡ suc row.way
  pub early : s.delay < f.until

-- the row of the item has another last way, or is not wanted
abbrev pub IsPassedOver : Frontier → Item → Type 0
IsPassedOver f x = (r : Row) → slice_get (rows f) x.row ≡ Some r → r.way ≡ x.way → f.until ≤ r.delay

-- s is taken from the queue, to be explored by its last way; of the others that wait for a delay that is wanted each does so still
pub record Takes (old new : Frontier) (s : Scan) : Type 0 where
  pub same : IsSameBut old new
  pub right : IsFrontier new
  pub number : ℕ
  pub row : Row
  pub known : slice_get (rows old) number ≡ Some row
  pub node : s.node ≡ row.node
  pub state : s.state ≡ row.state
  pub delay : s.delay ≡ row.delay
  pub link : s.link ≡ suc row.way
  pub early : s.delay < old.until
  pub others : (k : ℕ) (r : Row) → slice_get (rows old) k ≡ Some r → Waits old k r → (k ≡ number) ⊎ Waits new k r ⊎ (old.until ≤ r.delay)
  pub fewer : queue_len new.queue < queue_len old.queue

-- nobody waits for a delay that is wanted
pub record TakesNone (old new : Frontier) : Type 0 where
  pub same : IsSameBut old new
  pub right : IsFrontier new
  pub none : (k : ℕ) (r : Row) → slice_get (rows old) k ≡ Some r → Waits old k r → old.until ≤ r.delay
