-- Behind the road arcs of a road node what has a letter stands still, in the network by least times too.
use Rattle.plan_base.proofs.Common.{◌≡◌, ℕ, ◌≤◌, ◌∙◌, Option, Some, None, false, inl, inr, List, refl, sym, ap, false≢true}
use Rattle.search_laws.specs.{is_open, StandsStill}
use Rattle.timetable_arcs.specs.{TableLists}
use Rattle.mode_network.specs.{NetworkLists.NetworkLists, letter_at}
use Rattle.plain_graph.specs.{plain_arc, count_from, arrival}
use Rattle.plain_graph.proofs.PlaceTies.{link_or_stand, past_roads_stand}
use Rattle.departures.specs.{FastestCall, least_arrival, least_meaning}

pub least_stand : (n : NetworkLists) (t : TableLists) (runs : List (List FastestCall)) (v time leaving : ℕ) → is_open leaving (letter_at n.roads v) ≡ false → (k at c : ℕ) → count_from n.arcs v ≤ k
    → (least_meaning n t runs).arrive v k time ≡ Some at → ((least_meaning n t runs).arc_at v k).letter ≡ Some c
    → StandsStill v time leaving (record { place = k; arc = (least_meaning n t runs).arc_at v k; at = at })
least_stand n t runs v time leaving closed k at c from arrives is = past_roads_stand n t v time leaving closed k at c from (by_mode (letter_at n.roads v) refl) is where
  by_mode : (o : Option ℕ) → letter_at n.roads v ≡ o → arrival t time (plain_arc n t v k) ≡ Some at
  by_mode None e = absurd (false≢true (sym closed ∙ ap (is_open leaving) e))
  by_mode (Some mode) e = elim (link_or_stand n t v mode e k from) [
    | inl (x, link) ↦ ap (arrival t time) link ∙ sym (ap (least_arrival runs time) link) ∙ arrives
    | inr stand ↦ ap (arrival t time) stand ∙ sym (ap (least_arrival runs time) stand) ∙ arrives
  ]
