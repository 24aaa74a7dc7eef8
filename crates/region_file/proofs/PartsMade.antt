-- The lines of a region text make the parts of a network.
use Rattle.plan_base.proofs.Common.{◌≡◌, ℕ, List, [], ◌∷◌, ◌++◌, length, get_or, refl, sym, subst, ◌<◌, ◌≤◌, arith, length-append, ◌⊎◌, inl, inr, fold, AllByRecursion, cases_lt, get_or_append_left, All-nil, All-push, get_or-append_seam}
use Rattle.mode_network.specs.{Arc, Node, Road, Stop, Switch, AreParts, IsRoad, IsStop, IsSwitch, NetworkLists.NetworkLists}
use Rattle.plan_base.specs.{Place}
use Rattle.region_file.specs.{Line, FitsLine, nothing, put}
use Rattle.region_file.specs.declared.lines.Line.TheVariants as line

stops_push : (stops : List Node) (place : Place) → ((k : ℕ) (d : Node) → k < length stops → IsStop k (get_or stops k d).key) → (k : ℕ) (d : Node) → k < length (stops ++ record { key = Stop (length stops); place = place } ∷ []) → IsStop k (get_or (stops ++ record { key = Stop (length stops); place = place } ∷ []) k d).key
stops_push stops place h k d lt = by_place (cases_lt k (length stops))
  where
    by_place : (k < length stops) ⊎ (length stops ≤ k) → IsStop k (get_or (stops ++ record { key = Stop (length stops); place = place } ∷ []) k d).key
    by_place (inl before) = subst (λ (x : Node). IsStop k x.key) (sym (get_or_append_left stops (record { key = Stop (length stops); place = place } ∷ []) d k before)) (h k d before)
    by_place (inr here) =
        let is : length stops ≡ k = omega (arith, here, lt, length-append stops (record { key = Stop (length stops); place = place } ∷ [])) in
        subst (λ i. IsStop i (get_or (stops ++ record { key = Stop (length stops); place = place } ∷ []) i d).key) is
        (subst (λ (x : Node). IsStop (length stops) x.key) (sym (get_or-append_seam stops (record { key = Stop (length stops); place = place }) [] d)) refl)

put_keeps : (n : NetworkLists) (l : Line) → AreParts n → FitsLine l → AreParts (put n l)
put_keeps n (line.Days days) h fits = record { roads_are = h.roads_are; stops_are = h.stops_are; switches_are = h.switches_are; one_name_each = h.one_name_each; arcs_last = h.arcs_last; links_last = h.links_last }
put_keeps n (line.Road mode id place) h fits = record {
  roads_are = All-push (λ (node : Node). IsRoad node.key) n.roads (record { key = Road mode id; place = place }) h.roads_are fits;
  stops_are = h.stops_are;
  switches_are = h.switches_are;
  one_name_each = h.one_name_each;
  arcs_last = h.arcs_last;
  links_last = h.links_last;
}
put_keeps n (line.Stop name place) h fits = record {
  roads_are = h.roads_are;
  stops_are = stops_push n.stops place h.stops_are;
  switches_are = h.switches_are;
  one_name_each = omega (arith, h.one_name_each, length-append n.stop_names (name ∷ []), length-append n.stops (record { key = Stop (length n.stops); place = place } ∷ []));
  arcs_last = h.arcs_last;
  links_last = h.links_last;
}
put_keeps n (line.Switch id place) h fits = record {
  roads_are = h.roads_are;
  stops_are = h.stops_are;
  switches_are = All-push (λ (node : Node). IsSwitch node.key) n.switches (record { key = Switch id; place = place }) h.switches_are fits;
  one_name_each = h.one_name_each;
  arcs_last = h.arcs_last;
  links_last = h.links_last;
}
put_keeps n (line.Arc arc) h fits = record {
  roads_are = h.roads_are;
  stops_are = h.stops_are;
  switches_are = h.switches_are;
  one_name_each = h.one_name_each;
  arcs_last = All-push (λ (arc : Arc). 0 < arc.ms) n.arcs arc h.arcs_last fits.some;
  links_last = h.links_last;
}
put_keeps n (line.Link arc) h fits = record {
  roads_are = h.roads_are;
  stops_are = h.stops_are;
  switches_are = h.switches_are;
  one_name_each = h.one_name_each;
  arcs_last = h.arcs_last;
  links_last = All-push (λ (arc : Arc). 0 < arc.ms) n.links arc h.links_last fits.some;
}
put_keeps n (line.Trip letter days calls name) h fits = record { roads_are = h.roads_are; stops_are = h.stops_are; switches_are = h.switches_are; one_name_each = h.one_name_each; arcs_last = h.arcs_last; links_last = h.links_last }
put_keeps n (line.Call call) h fits = record { roads_are = h.roads_are; stops_are = h.stops_are; switches_are = h.switches_are; one_name_each = h.one_name_each; arcs_last = h.arcs_last; links_last = h.links_last }
put_keeps n line.End h fits = h

all_kept : (ls : List Line) (n : NetworkLists) → AreParts n → AllByRecursion FitsLine ls → AreParts (fold put n ls)
all_kept [] n h fits = h
all_kept (l ∷ ls) n h fits = all_kept ls (put n l) (put_keeps n l h fits.0) fits.1

pub are_parts : (ls : List Line) → AllByRecursion FitsLine ls → AreParts (fold put nothing ls)
are_parts ls fits = all_kept ls nothing (record {
  roads_are = All-nil (λ (node : Node). IsRoad node.key);
  stops_are = λ k d lt. absurd (omega (arith, lt));
  switches_are = All-nil (λ (node : Node). IsSwitch node.key);
  one_name_each = refl;
  arcs_last = All-nil (λ (arc : Arc). 0 < arc.ms);
  links_last = All-nil (λ (arc : Arc). 0 < arc.ms);
}) fits
