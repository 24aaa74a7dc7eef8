-- What the queue of a frontier holds.
use Rattle.std.specs.Prelude.{◌≡◌, ℕ, zero, suc, ◌+◌, ◌*◌, ◌^◌, ◌<◌, ◌≤◌, ◌⊎◌, List, [], ◌∷◌, All, Contains, length, sum_by, Vec}
use Rattle.std.specs.declared.alloc.Global.{Global}
use Rattle.product_search.specs.{declared.queue.Item.Item, declared.queue.LateItem.LateItem, declared.queue.Queue.Queue}

-- the delay with which the bucket at a place begins: the first one has all that is before the second
abbrev pub begin_at : ℕ → ℕ → ℕ → ℕ
begin_at start bits zero = 0
begin_at start bits (suc k) = start + suc k * 2 ^ bits

abbrev pub begin_of : Queue → ℕ → ℕ
begin_of q k = begin_at q.start q.bits k

-- what the bucket at a place has: those past the end have none
abbrev pub bucket_of : List (Vec Item Global) → ℕ → List Item
bucket_of [] k = []
bucket_of (b ∷ bs) zero = b.items
bucket_of (b ∷ bs) (suc k) = bucket_of bs k

-- ---- where it waits for the delay t, or longer: each bucket has delays from its begin on

-- in what is left of the bucket in turn
abbrev pub IsInTurn : Queue → ℕ → Item → Type 0
IsInTurn q t x = Contains q.current.items x × (begin_of q q.turn ≤ t)

-- in a bucket
abbrev pub IsBucketed : Queue → ℕ → Item → Type 0
IsBucketed q t x = (k : ℕ) × Contains (bucket_of q.buckets.items k) x × (begin_of q k ≤ t)

-- among those of a later round
abbrev pub IsLater : Queue → ℕ → Item → Type 0
IsLater q t x = (d : ℕ) × Contains q.later.items (record { delay = d; item = x }) × (d ≤ t)

-- the item is in the queue, at a place for no later delay than t
abbrev pub Queued : Queue → ℕ → Item → Type 0
Queued q t x = IsInTurn q t x ⊎ IsBucketed q t x ⊎ IsLater q t x

-- ---- how many

abbrev pub bucketed_len : List (Vec Item Global) → ℕ
bucketed_len bs = sum_by (λ b. length b.items) bs

abbrev pub queue_len : Queue → ℕ
queue_len q = length q.current.items + bucketed_len q.buckets.items + length q.later.items

-- ---- queues

-- the buckets are few and not too wide, and those before the one in turn have none
pub record AreBuckets (q : Queue) : Type 0 where
  pub narrow : q.bits ≤ 54
  pub narrow_next : q.next_bits ≤ 54
  pub few : length q.buckets.items ≤ 2 ^ 10
  pub in_round : q.turn ≤ 2 ^ 10
  pub passed : (k : ℕ) → k < q.turn → bucket_of q.buckets.items k ≡ []

-- it is past the last bucket of the round
abbrev pub IsPast : Queue → LateItem → Type 0
IsPast q x = q.start + 2 ^ 10 * 2 ^ q.bits ≤ x.delay

-- what waits for a later round does so for delays past this one
pub record IsQueue (q : Queue) : Type 0 where
  pub right : AreBuckets q
  pub later : All (IsPast q) q.later.items

abbrev pub IsEmptyQueue : Queue → Type 0
IsEmptyQueue q = (t : ℕ) (x : Item) → Queued q t x → ⊥

-- ---- from one to the next

-- x is taken in, to wait for the delay t
pub record TakesIn (old new : Queue) (t : ℕ) (x : Item) : Type 0 where
  pub right : IsQueue new
  pub current : new.current ≡ old.current
  pub stays : (u : ℕ) (y : Item) → Queued old u y → Queued new u y
  pub there : Queued new t x
  pub more : queue_len new ≡ queue_len old + 1

-- x is given out
pub record Gives (old new : Queue) (x : Item) : Type 0 where
  pub stays : (u : ℕ) (y : Item) → Queued old u y → (y ≡ x) ⊎ Queued new u y
  pub fewer : queue_len new + 1 ≡ queue_len old

-- x is put into the bucket at a place
pub record PutsAt (old new : Queue) (place : ℕ) (x : Item) : Type 0 where
  pub right : AreBuckets new
  pub start : new.start ≡ old.start
  pub bits : new.bits ≡ old.bits
  pub current : new.current ≡ old.current
  pub later : new.later ≡ old.later
  pub stays : (u : ℕ) (y : Item) → Queued old u y → Queued new u y
  pub there : (u : ℕ) → begin_of old place ≤ u → Queued new u x
  pub more : queue_len new ≡ queue_len old + 1

-- what a bucket had waits later for the delay d, but for what is left of it
pub record PutsLater (d : ℕ) (bucket left : List Item) (old new : List LateItem) : Type 0 where
  pub stays : (x : LateItem) → Contains old x → Contains new x
  pub there : (y : Item) → Contains bucket y → Contains left y ⊎ Contains new (record { delay = d; item = y })
  pub as_many : length new + length left ≡ length old + length bucket

-- items are moved, and none goes out
pub record Moves (old new : Queue) : Type 0 where
  pub current : new.current.items ≡ old.current.items
  pub stays : (u : ℕ) (y : Item) → Queued old u y → Queued new u y
  pub as_many : queue_len new ≡ queue_len old

-- the bucket in turn has some, or nothing waits for a delay before `until`
pub record Turns (old new : Queue) (until : ℕ) : Type 0 where
  pub right : IsQueue new
  pub stays : (u : ℕ) (y : Item) → Queued old u y → Queued new u y
  pub as_many : queue_len new ≡ queue_len old
  pub none : new.current.items ≡ [] → (u : ℕ) (y : Item) → Queued new u y → until ≤ u

-- the lot in turn goes out, and nothing else does
pub record Narrows (old new : Queue) (lot : List Item) : Type 0 where
  pub right : IsQueue new
  pub current : new.current.items ≡ []
  pub stays : (u : ℕ) (y : Item) → Queued old u y → Contains lot y ⊎ Queued new u y
  pub as_many : queue_len new + length lot ≡ queue_len old
