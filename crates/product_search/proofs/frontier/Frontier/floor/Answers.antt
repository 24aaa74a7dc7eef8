use Rattle.product_search.proofs.frontier.Frontier.floor.Goals as goal

pub returns : goal.returns
returns c k r waits = c.floor.ensures r.delay (record { row = k; way = r.way }) waits
