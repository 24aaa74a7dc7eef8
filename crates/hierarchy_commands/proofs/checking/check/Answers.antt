use Rattle.plan_base.proofs.Common.{refl, err_from_is_err_and, ◌≡◌, codes}
use Rattle.plan_base.proofs.MoreWritten.{stays_so}
use Rattle.plain_texts.specs.{with_feed}
use Rattle.hierarchy.specs.{HierarchyLists}
use Rattle.run_steps.specs.{Saying, WritesText}
use Rattle.run_steps.proofs.Steps.{on_region, text_fails}
use Rattle.hierarchy_commands.proofs.OutcomeLemmas.{hierarchy_fails, on_hierarchy}
use Rattle.hierarchy_commands.proofs.checking.check.Goals as goal

-- what is written of a hierarchy that is sound
abbrev told : HierarchyLists → Saying
told h = WritesText (λ out. out ≡ with_feed (codes "sound"))

pub returns-in_err-read_hierarchy : goal.returns-in_err-read_hierarchy
returns-in_err-read_hierarchy g c =
    let p = err_from_is_err_and c.from_residual-in_err-read_hierarchy.result c.from_residual-in_err-read_hierarchy.ensures.1 in
    let out = g.O.Sink.meaning c.args.ports.now.out in
    let mid = g.F.Shelf.meaning c.read_region.new.shelf in
    let new = g.F.Shelf.meaning c.read_hierarchy.new.shelf in
    rw (p.1, p.2)
    (on_region (g.F.Shelf.meaning c.args.ports.now.shelf) mid new out out c.args.region.now
    c.args.caps.now _ c.in_ok-network.network c.in_ok-network.ensures.ok c.in_ok-network.ensures.later _
    (hierarchy_fails mid new new out out c.args.hierarchy.now c.in_ok-network.network told _ c.in_err-read_hierarchy.ensures.err (stays_so out)))

pub returns-in_err-write_text : goal.returns-in_err-write_text
returns-in_err-write_text g c =
    let p = err_from_is_err_and c.from_residual-in_err-write_text.result c.from_residual-in_err-write_text.ensures.1 in
    let before = g.O.Sink.meaning c.args.ports.now.out in
    let after = g.O.Sink.meaning c.write_text.new.out in
    let mid = g.F.Shelf.meaning c.read_region.new.shelf in
    let new = g.F.Shelf.meaning c.read_hierarchy.new.shelf in
    rw (p.1, p.2)
    (on_region (g.F.Shelf.meaning c.args.ports.now.shelf) mid new before after c.args.region.now
    c.args.caps.now _ c.in_ok-network.network c.in_ok-network.ensures.ok c.in_ok-network.ensures.later _
    (on_hierarchy mid new new before after c.args.hierarchy.now c.in_ok-network.network told c.in_ok-read_hierarchy.field-0 c.in_ok-read_hierarchy.ensures.ok _
    (text_fails new new before after (λ out. out ≡ with_feed (codes "sound")) (with_feed (codes "sound")) refl _ c.in_err-write_text.ensures.err)))

pub returns : goal.returns
returns g c =
    let before = g.O.Sink.meaning c.args.ports.now.out in
    let after = g.O.Sink.meaning c.write_text.new.out in
    let mid = g.F.Shelf.meaning c.read_region.new.shelf in
    let new = g.F.Shelf.meaning c.read_hierarchy.new.shelf in
    on_region (g.F.Shelf.meaning c.args.ports.now.shelf) mid new before after c.args.region.now
    c.args.caps.now _ c.in_ok-network.network c.in_ok-network.ensures.ok c.in_ok-network.ensures.later _
    (on_hierarchy mid new new before after c.args.hierarchy.now c.in_ok-network.network told c.in_ok-read_hierarchy.field-0 c.in_ok-read_hierarchy.ensures.ok _
    (record { out = with_feed (codes "sound"); is = refl; appended = c.in_ok-write_text.ensures.ok }))
