-- What rounds keep: cells only get lower.
use Rattle.plan_base.proofs.Common.{◌≡◌, ℕ, ◌<◌, ◌≤◌, List, length, subst, sym, arith, Option, Some, None, IfSome}
use Rattle.product_search.specs.{Label}
use Rattle.rounds.specs.inside.{row_of, cell, never, HaveShape, AreLowered, AskedMeaning, Turn, AreWalksReached, AreWalksClosed, AreWalkedBelow, AreCrossingsReached, AreVisiting, IsVisited, IsRiddenAlong, AreRiding, HaveCrossed, HaveWalked, HaveRoom, AreSettled}
use Rattle.rounds.specs.declared.asked.Reached.{Reached}
use Rattle.rounds.proofs.VisitLemmas.{Rows, IsAny, visited_stays}

module _ (a : AskedMeaning) (labels : List Label) where
  -- labels that have delays keep them
  pub crossed_kept : (old new : Rows) → AreLowered IsAny old new → HaveCrossed a labels old → HaveCrossed a labels new
  crossed_kept old new lowered crossed x j has lt node =
      let was = crossed x j has lt node in
      (omega (arith, was.0, lowered.no_later x.state j), omega (arith, was.1, lowered.no_later x.state j))

  pub walked_kept : (turns : List Turn) (old new : Rows) → AreLowered IsAny old new → HaveWalked a labels turns old → HaveWalked a labels turns new
  walked_kept turns old new lowered walked x k i turn layer has is is_layer source lt node =
      let was = walked x k i turn layer has is is_layer source lt node in
      (omega (arith, was.0, lowered.no_later k i), omega (arith, was.1, lowered.no_later k i))

module _ (a : AskedMeaning) where
  -- what was visited stays so
  pub visiting_kept : (old new visits : Rows) → AreLowered IsAny old new → AreCrossingsReached a new → AreVisiting a old visits → AreVisiting a new visits
  visiting_kept old new visits lowered reached was = record {
    reached = reached;
    shape = was.shape;
    visited = record {
      no_later = λ q j state within. omega (arith, lowered.no_later q j, was.visited.no_later q j state within);
      visited = λ q j state within some. visited_stays a IsAny old new lowered q j (cell visits q j) (was.visited.visited q j state within some);
    };
  }

  -- at first nothing is
  pub visiting_begins : (rows visits : Rows) → AreCrossingsReached a rows → ((q j : ℕ) → q < a.labels.states → j < length a.rounds.crossings.items → cell rows q j ≤ never)
      → HaveShape a.labels.states (length a.rounds.crossings.items) visits → ((q j : ℕ) → q < a.labels.states → j < length a.rounds.crossings.items → cell visits q j ≡ never)
      → AreVisiting a rows visits
  visiting_begins rows visits reached few shape none = record {
    reached = reached;
    shape = shape;
    visited = record {
      no_later = λ q j state within. omega (arith, few q j state within, none q j state within);
      visited = λ q j state within some. absurd (omega (arith, some, none q j state within));
    };
  }

  -- all that is kept from round to round
  pub record AreUnderWay (firsts : List Label) (turns : List Turn) (walks rows visits rides : Rows) : Type 0 where
    pub walks_reached : AreWalksReached a turns walks
    pub walks_closed : AreWalksClosed a turns walks
    pub visiting : AreVisiting a rows visits
    pub riding : AreRiding a rows rides
    pub crossed : HaveCrossed a firsts rows
    pub walked : HaveWalked a firsts turns walks

  -- one round more: walks, links, and then rides
  pub round_more : (firsts : List Label) (turns : List Turn) (before walks old mid next rows visits rides : Rows) → HaveCrossed a firsts old → HaveWalked a firsts turns before
      → AreLowered IsAny before walks → AreWalksReached a turns walks → AreWalksClosed a turns walks → AreLowered IsAny old mid → AreLowered IsAny mid next → AreVisiting a next visits
      → AreLowered IsAny next rows → AreRiding a rows rides → AreUnderWay firsts turns walks rows visits rides
  round_more firsts turns before walks old mid next rows visits rides crossed walked on reached closed first then visiting last riding = record {
    walks_reached = reached;
    walks_closed = closed;
    visiting = visiting_kept next rows visits last riding.reached visiting;
    riding = riding;
    crossed = crossed_kept a firsts next rows last (crossed_kept a firsts mid next then (crossed_kept a firsts old mid first crossed));
    walked = walked_kept a firsts turns before walks on walked;
  }

  -- where nothing changes any more all is settled
  pub settled : (firsts : List Label) (turns : List Turn) (walks rows visits rides : Rows) → AreUnderWay firsts turns walks rows visits rides → AreWalkedBelow a turns walks rows (length turns)
      → ((q j : ℕ) → q < a.labels.states → j < length a.rounds.crossings.items → cell rows q j < never → cell visits q j ≡ cell rows q j) → ((q : ℕ) → q < a.labels.states → row_of rides q ≡ row_of rows q) → HaveRoom a.rounds.longest walks
      → AreSettled a firsts turns walks rows
  settled firsts turns walks rows visits rides way closed now ridden room = record {
    walks_reached = way.walks_reached;
    crossings_reached = way.visiting.reached;
    crossed = way.crossed;
    walked = way.walked;
    closed = closed;
    visited = λ q j state within some. (let same = now q j state within some in subst (IsVisited a rows q j) same (way.visiting.visited.visited q j state within (omega (arith, same, some))));
    ridden = λ q p line state is. subst (IsRiddenAlong a rows q p line.crossings.items) (ridden q state) (way.riding.ridden q p line state is);
    room = room;
  }

  -- what is reached is settled, if there is room
  pub where_room : (firsts : List Label) (turns : List Turn) (o : Option Reached) (all : Reached) → (HaveRoom a.rounds.longest all.walks.items → AreSettled a firsts turns all.walks.items all.crossings.items)
      → IfSome o (λ r. (r ≡ all) × HaveRoom a.rounds.longest all.walks.items) → IfSome o (λ r. AreSettled a firsts turns r.walks.items r.crossings.items)
  where_room firsts turns None all settles room = tt
  where_room firsts turns (Some r) all settles (same, room) = subst (λ (x : Reached). AreSettled a firsts turns x.walks.items x.crossings.items) (sym same) (settles room)
