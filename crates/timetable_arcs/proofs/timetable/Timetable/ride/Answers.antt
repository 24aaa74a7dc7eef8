use Rattle.plan_base.proofs.Common.{◌≡◌, ◌<◌, ◌-◌, ◌∙◌, ap, sym, subst, length, nat_le, [], ℕ, Some, get_or, rules, of_calls, arith, slice_get, always_returns_same}
use Rattle.timetable_arcs.specs.{Board, TableLists, rides_at, rides_end, inside.lists_of}
use Rattle.timetable_arcs.proofs.{RideLemmas.no_board, RideLemmas.ride_to, ReadLemmas.read_at, ReadLemmas.readable}
use Rattle.timetable_arcs.proofs.timetable.Timetable.ride.Goals as goal

pub overflow_sub-board : goal.overflow_sub-board
overflow_sub-board c =
    let read = readable (lists_of c.self.inside) c.self.invariant.rules c.self.inside.places.items c.self.invariant.places c.args.stop c.args.i c.partition_point-place.result
    (subst (λ (t : TableLists). c.args.i < length (rides_at t c.args.stop)) (sym c.self.view_is) c.requires.ride) c.self.inside.boards.items c.self.invariant.boards
    (subst (λ (t : TableLists). c.args.stop < t.stops) (sym c.self.view_is) c.requires.stop) c.index-held.result.now c.index-held.ensures c.boards-boards.result.now c.boards-boards.ensures
    c.partition_point-place.ensures.bound (c.partition_point-place.ensures.partitioned (λ (b : Board). nat_le b.before c.args.i) (always_returns_same _ _ _ (λ a r f k. search (rules, of_calls)))) in
    read.some

pub bounds-boards-place : goal.bounds-boards-place
bounds-boards-place c =
    let read = readable (lists_of c.self.inside) c.self.invariant.rules c.self.inside.places.items c.self.invariant.places c.args.stop c.args.i c.partition_point-place.result
    (subst (λ (t : TableLists). c.args.i < length (rides_at t c.args.stop)) (sym c.self.view_is) c.requires.ride) c.self.inside.boards.items c.self.invariant.boards
    (subst (λ (t : TableLists). c.args.stop < t.stops) (sym c.self.view_is) c.requires.stop) c.index-held.result.now c.index-held.ensures c.boards-boards.result.now c.boards-boards.ensures
    c.partition_point-place.ensures.bound (c.partition_point-place.ensures.partitioned (λ (b : Board). nat_le b.before c.args.i) (always_returns_same _ _ _ (λ a r f k. search (rules, of_calls)))) in
    read.within

pub overflow_sub-left : goal.overflow_sub-left
overflow_sub-left c =
    let read = readable (lists_of c.self.inside) c.self.invariant.rules c.self.inside.places.items c.self.invariant.places c.args.stop c.args.i c.partition_point-place.result
    (subst (λ (t : TableLists). c.args.i < length (rides_at t c.args.stop)) (sym c.self.view_is) c.requires.ride) c.self.inside.boards.items c.self.invariant.boards
    (subst (λ (t : TableLists). c.args.stop < t.stops) (sym c.self.view_is) c.requires.stop) c.index-held.result.now c.index-held.ensures c.boards-boards.result.now c.boards-boards.ensures
    c.partition_point-place.ensures.bound (c.partition_point-place.ensures.partitioned (λ (b : Board). nat_le b.before c.args.i) (always_returns_same _ _ _ (λ a r f k. search (rules, of_calls)))) in
    let end : c.end_of.result ≡ rides_end c.boards-boards.result.now c.index-held.result.now.rides c.partition_point-place.result = c.end_of.ensures ∙ ap (λ (n : ℕ). rides_end c.boards-boards.result.now n c.partition_point-place.result) c.rides.ensures in
    rw end read.not_past

pub index-requires : goal.index-requires
index-requires c =
    let read = readable (lists_of c.self.inside) c.self.invariant.rules c.self.inside.places.items c.self.invariant.places c.args.stop c.args.i c.partition_point-place.result
    (subst (λ (t : TableLists). c.args.i < length (rides_at t c.args.stop)) (sym c.self.view_is) c.requires.ride) c.self.inside.boards.items c.self.invariant.boards
    (subst (λ (t : TableLists). c.args.stop < t.stops) (sym c.self.view_is) c.requires.stop) c.index-held.result.now c.index-held.ensures c.boards-boards.result.now c.boards-boards.ensures
    c.partition_point-place.ensures.bound (c.partition_point-place.ensures.partitioned (λ (b : Board). nat_le b.before c.args.i) (always_returns_same _ _ _ (λ a r f k. search (rules, of_calls)))) in
    omega (arith, read.pattern, c.self.inside.places.ok.0)

pub overflow_sub-result : goal.overflow_sub-result
overflow_sub-result c =
    let read = readable (lists_of c.self.inside) c.self.invariant.rules c.self.inside.places.items c.self.invariant.places c.args.stop c.args.i c.partition_point-place.result
    (subst (λ (t : TableLists). c.args.i < length (rides_at t c.args.stop)) (sym c.self.view_is) c.requires.ride) c.self.inside.boards.items c.self.invariant.boards
    (subst (λ (t : TableLists). c.args.stop < t.stops) (sym c.self.view_is) c.requires.stop) c.index-held.result.now c.index-held.ensures c.boards-boards.result.now c.boards-boards.ensures
    c.partition_point-place.ensures.bound (c.partition_point-place.ensures.partitioned (λ (b : Board). nat_le b.before c.args.i) (always_returns_same _ _ _ (λ a r f k. search (rules, of_calls)))) in
    let end : c.end_of.result ≡ rides_end c.boards-boards.result.now c.index-held.result.now.rides c.partition_point-place.result = c.end_of.ensures ∙ ap (λ (n : ℕ). rides_end c.boards-boards.result.now n c.partition_point-place.result) c.rides.ensures in
    let places : c.as_slice-places.result.now ≡ get_or c.self.inside.places.items (get_or c.boards-boards.result.now (c.partition_point-place.result - 1) no_board).pattern [] = read_at c.self.inside.places.items _ _ _ [] read.pattern c.index.ensures c.as_slice-places.ensures in
    rw (end, places) read.left

pub bounds-places-places : goal.bounds-places-places
bounds-places-places c =
    let read = readable (lists_of c.self.inside) c.self.invariant.rules c.self.inside.places.items c.self.invariant.places c.args.stop c.args.i c.partition_point-place.result
    (subst (λ (t : TableLists). c.args.i < length (rides_at t c.args.stop)) (sym c.self.view_is) c.requires.ride) c.self.inside.boards.items c.self.invariant.boards
    (subst (λ (t : TableLists). c.args.stop < t.stops) (sym c.self.view_is) c.requires.stop) c.index-held.result.now c.index-held.ensures c.boards-boards.result.now c.boards-boards.ensures
    c.partition_point-place.ensures.bound (c.partition_point-place.ensures.partitioned (λ (b : Board). nat_le b.before c.args.i) (always_returns_same _ _ _ (λ a r f k. search (rules, of_calls)))) in
    let end : c.end_of.result ≡ rides_end c.boards-boards.result.now c.index-held.result.now.rides c.partition_point-place.result = c.end_of.ensures ∙ ap (λ (n : ℕ). rides_end c.boards-boards.result.now n c.partition_point-place.result) c.rides.ensures in
    let places : c.as_slice-places.result.now ≡ get_or c.self.inside.places.items (get_or c.boards-boards.result.now (c.partition_point-place.result - 1) no_board).pattern [] = read_at c.self.inside.places.items _ _ _ [] read.pattern c.index.ensures c.as_slice-places.ensures in
    rw (end, places) read.short

pub returns : goal.returns
returns c =
    let read = readable (lists_of c.self.inside) c.self.invariant.rules c.self.inside.places.items c.self.invariant.places c.args.stop c.args.i c.partition_point-place.result
    (subst (λ (t : TableLists). c.args.i < length (rides_at t c.args.stop)) (sym c.self.view_is) c.requires.ride) c.self.inside.boards.items c.self.invariant.boards
    (subst (λ (t : TableLists). c.args.stop < t.stops) (sym c.self.view_is) c.requires.stop) c.index-held.result.now c.index-held.ensures c.boards-boards.result.now c.boards-boards.ensures
    c.partition_point-place.ensures.bound (c.partition_point-place.ensures.partitioned (λ (b : Board). nat_le b.before c.args.i) (always_returns_same _ _ _ (λ a r f k. search (rules, of_calls)))) in
    let end : c.end_of.result ≡ rides_end c.boards-boards.result.now c.index-held.result.now.rides c.partition_point-place.result = c.end_of.ensures ∙ ap (λ (n : ℕ). rides_end c.boards-boards.result.now n c.partition_point-place.result) c.rides.ensures in
    let places : c.as_slice-places.result.now ≡ get_or c.self.inside.places.items (get_or c.boards-boards.result.now (c.partition_point-place.result - 1) no_board).pattern [] = read_at c.self.inside.places.items _ _ _ [] read.pattern c.index.ensures c.as_slice-places.ensures in
    subst (λ (t : TableLists). slice_get (rides_at t c.args.stop) c.args.i ≡ Some (ride_to (get_or c.boards-boards.result.now (c.partition_point-place.result - 1) no_board).pattern (get_or c.boards-boards.result.now (c.partition_point-place.result - 1) no_board).call (get_or c.as_slice-places.result.now (length c.as_slice-places.result.now - (c.end_of.result - c.args.i)) 0))) c.self.view_is
    (rw (end, places) read.is)
