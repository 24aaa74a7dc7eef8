use Rattle.plan_base.proofs.Common.{◌++◌, ◌∷◌, []}
use Rattle.contractor.specs.inside.{shortcut_of}
use Rattle.contractor.proofs.PutLemmas.{edge_put, put_is, put_layer, placeable}
use Rattle.contractor.proofs.layer.put.Goals as goal

pub place-requires : goal.place-requires
place-requires c = placeable (c.args.layer.now.order.items ++ c.args.x ∷ []) c.args.layer.now c.requires.layer (shortcut_of c.args.x c.args.way) c.requires.fits.from c.requires.fits.to

pub returns-clause-put : goal.returns-clause-put
returns-clause-put c =
    let p = c.in_ok-place.ensures in
    put_is (c.args.layer.now.order.items ++ c.args.x ∷ []) c.args.layer.now c.requires.layer (shortcut_of c.args.x c.args.way) p.number c.requires.from c.requires.to c.place.new.layer p.entered

pub returns-clause-layer : goal.returns-clause-layer
returns-clause-layer c =
    let p = c.in_ok-place.ensures in
    let f = c.requires.fits in
    put_layer (c.args.layer.now.order.items ++ c.args.x ∷ []) c.args.layer.now c.requires.layer (shortcut_of c.args.x c.args.way) p.number c.requires.from c.requires.to c.place.new.layer p.entered
    (record { differ = f.differ; from = f.from; to = f.to; positive = f.positive; light = f.light }) p.listed

pub returns-clause-rows : goal.returns-clause-rows
returns-clause-rows c =
    let p = c.in_ok-place.ensures in
    edge_put c.args.layer.now.rows.items c.place.new.layer.rows.items c.args.way.from c.args.way.to p.number c.args.way.sum p.listed
