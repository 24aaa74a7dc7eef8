-- The road arcs under an entry.
use Rattle.plan_base.proofs.Common.{◌≡◌, ℕ, zero, suc, ◌<◌, ◌≤◌, List, [], ◌∷◌, ◌++◌, Some, None, length, refl, arith, Option, Contains, All-contains}
use Rattle.mode_network.specs.{NetworkLists.NetworkLists, Leads}
use Rattle.hierarchy.specs.{Entry, Hop, AreHops, total, HierarchyLists, height_in, HasEntry, IsSound, IsMade, IsMadeBy}
use Rattle.hierarchy.proofs.{HopLemmas.hops_then, HopLemmas.total-append, HeightLemmas.height_most}

-- road arcs lead from u to v and take together as long as the entry weighs
pub record Roads (n : NetworkLists) (u v a : ℕ) : Type 0 where
  pub hops : List Hop
  pub walk : AreHops (Leads n.arcs) u hops v
  pub weighs : total hops ≡ a

-- a middle node, if there is one, is lower than k
abbrev IsLow : HierarchyLists → ℕ → Option ℕ → Type 0
IsLow h k None = Unit {0}
IsLow h k (Some m) = height_in h.order m < k

is_lower : (h : HierarchyLists) (j k : ℕ) (via : Option ℕ) → j ≤ k → IsLow h j via → IsLow h k via
is_lower h j k None le low = tt
is_lower h j k (Some m) le low = omega arith

module _ (n : NetworkLists) (h : HierarchyLists) (sound : IsSound n h) where
  made : (e : Entry) → Contains h.entries e → IsMadeBy n h e e.via
  made e listed = All-contains (IsMade n h) h.entries e sound.made listed

  -- the middle node of an entry is lower than its ends
  low_from : (e : Entry) (via : Option ℕ) → IsMadeBy n h e via → IsLow h (height_in h.order e.from) via
  low_from e None is = tt
  low_from e (Some m) is = is.below_from

  low_to : (e : Entry) (via : Option ℕ) → IsMadeBy n h e via → IsLow h (height_in h.order e.to) via
  low_to e None is = tt
  low_to e (Some m) is = is.below_to

  abbrev entry_of : ℕ → ℕ → ℕ → Option ℕ → Entry
  entry_of u v weight via = record { from = u; to = v; weight = weight; via = via }

  roads : (k : ℕ) (u v a : ℕ) (via : Option ℕ) → Contains h.entries (entry_of u v a via) → IsLow h k via → Roads n u v a
  roads zero u v a None listed low = record { hops = record { to = v; weight = a } ∷ []; walk = (made (entry_of u v a None) listed, refl); weighs = omega arith }
  roads (suc k) u v a None listed low = record { hops = record { to = v; weight = a } ∷ []; walk = (made (entry_of u v a None) listed, refl); weighs = omega arith }
  roads zero u v a (Some m) listed low = absurd (omega arith)
  roads (suc k) u v a (Some m) listed low =
      let middle = made (entry_of u v a (Some m)) listed in
      let first = middle.is_first in
      let second = middle.is_second in
      let p = roads k u m middle.first first.0 first.1 (is_lower h (height_in h.order m) k first.0 (omega arith) (low_to (entry_of u m middle.first first.0) first.0 (made (entry_of u m middle.first first.0) first.1))) in
      let q = roads k m v middle.second second.0 second.1 (is_lower h (height_in h.order m) k second.0 (omega arith) (low_from (entry_of m v middle.second second.0) second.0 (made (entry_of m v middle.second second.0) second.1))) in
      record {
        hops = p.hops ++ q.hops;
        walk = hops_then (Leads n.arcs) p.hops q.hops u m v p.walk q.walk;
        weighs = (let sum = middle.sum in omega (arith, total-append p.hops q.hops, p.weighs, q.weighs));
      }

  pub roads_under : (u v a : ℕ) → HasEntry h.entries u v a → Roads n u v a
  roads_under u v a (via, listed) =
      roads (length h.order) u v a via listed
      (is_lower h (height_in h.order u) (length h.order) via (height_most h.order u) (low_from (entry_of u v a via) via (made (entry_of u v a via) listed)))
