use Rattle.plan_base.proofs.Common.{◌∙◌, ℕ, List, ◌<◌, length, refl, sym, subst, All, Vec, Global, All-contains}
use Rattle.witness.specs.{Edge}
use Rattle.contractor.specs.{declared.layer.Layer.Layer, inside.FitsRows, inside.AreSides, inside.IsCut}
use Rattle.contractor.proofs.CutLemmas.{nodes_fit, edges_fit, first_are, second_are, cut_layer}
use Rattle.contractor.proofs.cutting.cut.Goals as goal

pub sides_of-requires : goal.sides_of-requires
sides_of-requires c =
    let old = c.args.layer.now in
    let fit = nodes_fit old.order.items c.args.x old c.deref-2.result.now c.requires.layer (c.deref-2.ensures.value ∙ c.take_nodes-before.ensures.nodes_are) in
    subst (λ (rows : List (Vec Edge Global)). All (λ u. u < length rows) c.deref-2.result.now) (sym c.deref.ensures.value) fit

pub cut_rows-requires : goal.cut_rows-requires
cut_rows-requires c =
    let old = c.args.layer.now in
    nodes_fit old.order.items c.args.x old c.deref-3.result.now c.requires.layer (c.deref-3.ensures.value ∙ c.take_nodes-before.ensures.nodes_are)

pub cut_into-requires : goal.cut_into-requires
cut_into-requires c =
    let old = c.args.layer.now in
    let fit = edges_fit old.order.items c.args.x old c.deref-3.result.now c.cut_rows.new.rows.items c.deref-4.result.now c.requires.layer c.cut_rows.ensures (c.deref-4.ensures.value ∙ c.take_row-second.ensures.row_is) in
    subst (λ k. All (λ (e : Edge). e.to < k) c.deref-4.result.now) (sym (c.take_nodes-before.ensures.count ∙ c.requires.layer.count)) fit

pub returns-clause-layer : goal.returns-clause-layer
returns-clause-layer c =
    let old = c.args.layer.now in
    let cut = subst (λ (us : List ℕ). IsCut c.args.x us old.rows.items c.cut_rows.new.rows.items) c.deref-3.ensures.value c.cut_rows.ensures in
    cut_layer old.order.items c.args.x old _ c.requires.layer c.requires.core c.cut_rows.new.rows.items c.take_nodes-before.new.into.items c.take_nodes-before.result.items c.take_row-second.result.items
    c.take_nodes-before.ensures cut c.take_row-second.ensures c.cut_into.ensures refl (λ e there. (All-contains (FitsRows (length old.rows.items)) old.entries.items e c.requires.layer.fit there).differ)

pub returns-clause-first : goal.returns-clause-first
returns-clause-first c =
    let old = c.args.layer.now in
    let cut = subst (λ (us : List ℕ). IsCut c.args.x us old.rows.items c.cut_rows.new.rows.items) c.deref-3.ensures.value c.cut_rows.ensures in
    let sides = subst (λ (us : List ℕ). AreSides c.deref.result.now c.args.x us c.in_ok-first.first.items) c.deref-2.ensures.value c.in_ok-first.ensures in
    let new : Layer = record { order = old.order; entries = old.entries; witnesses = old.witnesses; rows = c.take_row-second.new.rows; into = c.cut_into.new.into } in
    first_are old.order.items c.args.x old new c.requires.layer c.requires.core c.cut_rows.new.rows.items c.take_nodes-before.new.into.items c.take_nodes-before.result.items c.take_row-second.result.items
    c.take_nodes-before.ensures cut c.take_row-second.ensures c.cut_into.ensures refl
    c.in_ok-first.first.items (subst (λ (rows : List (Vec Edge Global)). AreSides rows c.args.x c.take_nodes-before.result.items c.in_ok-first.first.items) c.deref.ensures.value sides)

pub returns-clause-second : goal.returns-clause-second
returns-clause-second c =
    let old = c.args.layer.now in
    let cut = subst (λ (us : List ℕ). IsCut c.args.x us old.rows.items c.cut_rows.new.rows.items) c.deref-3.ensures.value c.cut_rows.ensures in
    let new : Layer = record { order = old.order; entries = old.entries; witnesses = old.witnesses; rows = c.take_row-second.new.rows; into = c.cut_into.new.into } in
    second_are old.order.items c.args.x old new c.requires.layer c.requires.core c.cut_rows.new.rows.items c.take_nodes-before.new.into.items c.take_nodes-before.result.items c.take_row-second.result.items
    c.take_nodes-before.ensures cut c.take_row-second.ensures c.cut_into.ensures refl (λ e there. (All-contains (FitsRows (length old.rows.items)) old.entries.items e c.requires.layer.fit there).differ)
