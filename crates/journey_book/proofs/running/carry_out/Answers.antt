use Rattle.journey_book.proofs.running.carry_out.Goals as goal

pub returns-in-Drop : goal.returns-in-Drop
returns-in-Drop g c = rw (c.in-Drop.is) (c.drop_name.ensures (g.F.Shelf.meaning c.args.ports.now.shelf) (g.O.Sink.meaning c.args.ports.now.out))

pub returns-in-List : goal.returns-in-List
returns-in-List g c = rw (c.in-List.is) (c.list.ensures (g.F.Shelf.meaning c.args.ports.now.shelf))

pub returns-in-Show : goal.returns-in-Show
returns-in-Show g c = rw (c.in-Show.is) (c.show.ensures (g.F.Shelf.meaning c.args.ports.now.shelf))

pub returns-in-Keep : goal.returns-in-Keep
returns-in-Keep g c = rw (c.in-Keep.is) c.keep.ensures
