use Rattle.plan_base.proofs.Common.{ℕ, List, inr, err_from_is_err_and}
use Rattle.plan_base.specs.{Caps}
use Rattle.plan_base.proofs.MoreWritten.{stays_so}
use Rattle.service_days.specs.DaysMeaning.{DaysMeaning}
use Rattle.opl_reader.specs.ObjectLists.{ObjectLists}
use Rattle.gtfs_tables.specs.FeedLists.{FeedLists}
use Rattle.region_file.specs.{Format}
use Rattle.run_steps.specs.{Saying, WritesText}
use Rattle.compile_commands.specs.{OnFeed, OnBuild, IsRegionFile}
use Rattle.compile_commands.proofs.Steps.{map_fails, on_map, feed_fails, on_feed, build_fails}
use Rattle.compile_commands.proofs.compiling.compile.Goals as goal

-- what the rest of a run says, once the map and the feed are read
abbrev behind_feed : Caps → DaysMeaning → Format → ObjectLists → FeedLists → Saying
behind_feed caps days format objects tables = OnBuild caps objects tables days (λ n. WritesText (IsRegionFile caps format n))

abbrev behind_map : Caps → List ℕ → DaysMeaning → Format → ObjectLists → Saying
behind_map caps feed days format objects = OnFeed caps feed (behind_feed caps days format objects)

pub returns-in_err-objects : goal.returns-in_err-objects
returns-in_err-objects g c =
    let p = err_from_is_err_and c.from_residual.result c.from_residual.ensures.1 in
    let out = g.O.Sink.meaning c.args.ports.now.out in
    let new = g.F.Shelf.meaning c.read_map.new.shelf in
    rw (p.1, p.2)
    (map_fails c.args.caps.now (g.F.Shelf.meaning c.args.ports.now.shelf) new new out out c.args.map.now
    (behind_map c.args.caps.now c.args.feed.now c.args.days c.args.format) _ c.in_err-objects.ensures.err (stays_so out))

pub returns-in_err-tables : goal.returns-in_err-tables
returns-in_err-tables g c =
    let p = err_from_is_err_and c.from_residual-in_err-tables.result c.from_residual-in_err-tables.ensures.1 in
    let out = g.O.Sink.meaning c.args.ports.now.out in
    let caps = c.args.caps.now in
    let mid = g.F.Shelf.meaning c.read_map.new.shelf in
    let new = g.F.Shelf.meaning c.read_feed_in.new.shelf in
    let objects = c.in_ok-objects.objects in
    rw (p.1, p.2)
    (on_map caps (g.F.Shelf.meaning c.args.ports.now.shelf) mid new out out c.args.map.now
    (behind_map caps c.args.feed.now c.args.days c.args.format) objects c.in_ok-objects.ensures.ok c.in_ok-objects.ensures.later _
    (feed_fails caps mid new new out out c.args.feed.now (behind_feed caps c.args.days c.args.format objects) _ c.in_err-tables.ensures.err (stays_so out)))

pub returns-in_err-region : goal.returns-in_err-region
returns-in_err-region g c =
    let p = err_from_is_err_and c.from_residual-in_err-region.result c.from_residual-in_err-region.ensures.1 in
    let out = g.O.Sink.meaning c.args.ports.now.out in
    let caps = c.args.caps.now in
    let mid = g.F.Shelf.meaning c.read_map.new.shelf in
    let new = g.F.Shelf.meaning c.read_feed_in.new.shelf in
    let objects = c.in_ok-objects.objects in
    let tables = c.in_ok-tables.tables in
    rw (p.1, p.2)
    (on_map caps (g.F.Shelf.meaning c.args.ports.now.shelf) mid new out out c.args.map.now
    (behind_map caps c.args.feed.now c.args.days c.args.format) objects c.in_ok-objects.ensures.ok c.in_ok-objects.ensures.later _
    (on_feed caps mid new new out out c.args.feed.now (behind_feed caps c.args.days c.args.format objects) tables c.in_ok-tables.ensures.ok c.in_ok-tables.ensures.later _
    (build_fails caps new new out out objects tables c.args.days (λ n. WritesText (IsRegionFile caps c.args.format n)) _ c.in_err-region.ensures.err (stays_so out))))

pub returns : goal.returns
returns g c =
    let before = g.O.Sink.meaning c.args.ports.now.out in
    let after = g.O.Sink.meaning c.write_compiled.new.out in
    let caps = c.args.caps.now in
    let mid = g.F.Shelf.meaning c.read_map.new.shelf in
    let new = g.F.Shelf.meaning c.read_feed_in.new.shelf in
    let objects = c.in_ok-objects.objects in
    let tables = c.in_ok-tables.tables in
    on_map caps (g.F.Shelf.meaning c.args.ports.now.shelf) mid new before after c.args.map.now
    (behind_map caps c.args.feed.now c.args.days c.args.format) objects c.in_ok-objects.ensures.ok c.in_ok-objects.ensures.later _
    (on_feed caps mid new new before after c.args.feed.now (behind_feed caps c.args.days c.args.format objects) tables c.in_ok-tables.ensures.ok c.in_ok-tables.ensures.later _
    (inr (inr (c.in_ok-region.region.network, c.in_ok-region.ensures.ok, c.write_compiled.ensures caps new new c.in_ok-region.ensures.faultless))))
