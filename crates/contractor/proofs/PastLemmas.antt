-- Walks past a node, where the ways by it are bridged that stand before another.
use Rattle.plan_base.proofs.Common.{◌≡◌, ◌≢◌, ℕ, ◌+◌, ◌<◌, ◌≤◌, ◌⊎◌, inl, inr, List, [], ◌∷◌, ◌++◌, ◌∙◌, refl, sym, subst, arith, cases_lt, cases_eq}
use Rattle.mode_network.specs.{NetworkLists.NetworkLists, Leads}
use Rattle.hierarchy.specs.{Hop, AreHops, AreAll, total, HierarchyLists, IsCore, HasEntry, HasLighter, IsSound}
use Rattle.hierarchy.proofs.{HopLemmas.hops_then, HopLemmas.total-append, SoundLemmas.fits, DistanceLemmas.core_walk}
use Rattle.contractor.specs.inside.{IsLive}
use Rattle.contractor.proofs.LiveLemmas.{HasLiveWalk, core_more}

module _ (n : NetworkLists) (h : HierarchyLists) (x : ℕ) (h2 : HierarchyLists) (sound : IsSound n h) (order : h2.order ≡ h.order ++ x ∷ []) (lighter : (u v w : ℕ) → HasEntry h.entries u v w → HasLighter h2.entries u v w) where
  left : (v : ℕ) → v ≢ x → IsCore h.order v → IsCore h2.order v
  left v differ core = subst (λ o. IsCore o v) (sym order) (core_more h.order x v differ core)

  one_hop : (u v w : ℕ) → HasEntry h.entries u v w → IsCore h.order u → u ≢ x → IsCore h.order v → v ≢ x → HasLiveWalk h2 u v w
  one_hop u v w has core_u u_is core_v v_is =
      let l = lighter u v w has in
      record { hops = record { to = v; weight = l.0 } ∷ []; walk = (record { entry = l.1; core_from = left u u_is core_u; core_to = left v v_is core_v }, refl); within = (let le = l.2 in omega arith) }

  joined : (u m v a b : ℕ) → HasLiveWalk h2 u m a → HasLiveWalk h2 m v b → HasLiveWalk h2 u v (a + b)
  joined u m v a b p q = record {
    hops = p.hops ++ q.hops;
    walk = hops_then (IsLive h2) p.hops q.hops u m v p.walk q.walk;
    within = omega (arith, total-append p.hops q.hops, p.within, q.within);
  }

  slack : (u v a b : ℕ) → a ≤ b → HasLiveWalk h2 u v a → HasLiveWalk h2 u v b
  slack u v a b le p = record { hops = p.hops; walk = p.walk; within = (let w = p.within in omega arith) }

  -- x leads on to a node, and a walk over what is left from there to the end
  record LeadsOn (v limit : ℕ) : Type 0 where
    to : ℕ
    weight : ℕ
    rest : ℕ
    entry : HasEntry h.entries x to weight
    core : IsCore h.order to
    walk : HasLiveWalk h2 to v rest
    within : weight + rest ≤ limit

  -- a walk over what is left leads to a node, and that to x, which leads on
  record LeadsBy (u v limit : ℕ) : Type 0 where
    from : ℕ
    weight : ℕ
    before : ℕ
    after : ℕ
    walk : HasLiveWalk h2 u from before
    entry : HasEntry h.entries from x weight
    core : IsCore h.order from
    on : LeadsOn v after
    within : before + weight + after ≤ limit

  -- what a walk from u is: up to the first time at x, and from the last time on
  record Parts (u v limit : ℕ) : Type 0 where
    at : u ≡ x → LeadsOn v limit
    apart : u ≢ x → HasLiveWalk h2 u v limit ⊎ LeadsBy u v limit

  more_parts : (u : ℕ) (y : Hop) (v limit : ℕ) → HasEntry h.entries u y.to y.weight → IsCore h.order y.to → IsCore h.order u → (y.to ≡ x) ⊎ (y.to ≡ x → ⊥) → Parts y.to v limit → Parts u v (y.weight + limit)
  more_parts u y v limit entry core_y core_u (inl same) parts = record {
    at = λ is. absurd ((fits n h sound u y.to y.weight entry).differ (is ∙ sym same));
    apart = λ other. inr (record {
      from = u;
      weight = y.weight;
      before = 0;
      after = limit;
      walk = record { hops = []; walk = refl; within = omega arith };
      entry = subst (λ z. HasEntry h.entries u z y.weight) same entry;
      core = core_u;
      on = parts.at same;
      within = omega arith;
    });
  }
  more_parts u y v limit entry core_y core_u (inr y_is) parts = record {
    at = λ is. elim (parts.apart y_is) [
      | inl live ↦ record { to = y.to; weight = y.weight; rest = limit; entry = subst (λ z. HasEntry h.entries z y.to y.weight) is entry; core = core_y; walk = live; within = omega arith }
      | inr by ↦ (let on = by.on in let a = by.within in let b = on.within in
          record { to = on.to; weight = on.weight; rest = on.rest; entry = on.entry; core = on.core; walk = on.walk; within = omega arith })
    ];
    apart = λ other. elim (parts.apart y_is) [
      | inl live ↦ inl (joined u y.to v y.weight limit (one_hop u y.to y.weight entry core_u other core_y y_is) live)
      | inr by ↦ inr (record {
        from = by.from;
        weight = by.weight;
        before = y.weight + by.before;
        after = by.after;
        walk = joined u y.to by.from y.weight by.before (one_hop u y.to y.weight entry core_u other core_y y_is) by.walk;
        entry = by.entry;
        core = by.core;
        on = by.on;
        within = (let a = by.within in omega arith);
      })
    ];
  }

  parts : (p : List Hop) (u v : ℕ) → AreHops (HasEntry h.entries) u p v → AreAll (IsCore h.order) p → IsCore h.order u → v ≢ x → Parts u v (total p)
  parts [] u v walk core core_u v_is = record { at = λ is. absurd (v_is (walk ∙ is)); apart = λ other. inl (record { hops = []; walk = walk; within = omega arith }) }
  parts (y ∷ p) u v (entry, walk) (core_y, core) core_u v_is = more_parts u y v (total p) entry core_y core_u (cases_eq y.to x) (parts p y.to v walk core core_y v_is)

  -- a way by x from u, whose first entry weighs so much, and s in all; those that stand before it are bridged
  module _ (u first s : ℕ) (to_x : HasEntry h.entries u x first) (core_u : IsCore h.order u) (u_is : u ≢ x)
      (past : (p q a b : ℕ) → IsCore h.order p → IsCore h.order q → HasEntry h.entries p x a → HasEntry h.entries x q b → p ≢ q → (a < first) ⊎ ((p ≡ u) × (a + b < s)) → HasLiveWalk h2 p q (a + b)) where
    -- over x from one node to another, or not at all
    over : (p q a b : ℕ) → IsCore h.order p → IsCore h.order q → HasEntry h.entries p x a → HasEntry h.entries x q b → (a < first) ⊎ ((p ≡ u) × (a + b < s)) → HasLiveWalk h2 p q (a + b)
    over p q a b core_p core_q one two earlier = elim (cases_eq p q) [
      | inl same ↦ record { hops = []; walk = sym same; within = omega arith }
      | inr differ ↦ past p q a b core_p core_q one two differ earlier
    ]

    by_parts : (v limit : ℕ) → limit < s → HasLiveWalk h2 u v limit ⊎ LeadsBy u v limit → HasLiveWalk h2 u v limit
    by_parts v limit lt (inl live) = live
    by_parts v limit lt (inr by) =
        let on = by.on in
        let a = by.within in
        let b = on.within in
        elim (cases_lt (by.before + by.weight) first) [
          | inl less ↦ slack u v (by.before + (by.weight + on.weight + on.rest)) limit (omega arith)
              (joined u by.from v by.before (by.weight + on.weight + on.rest) by.walk
              (joined by.from on.to v (by.weight + on.weight) on.rest (over by.from on.to by.weight on.weight by.core on.core by.entry on.entry (inl (omega arith))) on.walk))
          | inr more ↦ slack u v (first + on.weight + on.rest) limit (omega arith)
              (joined u on.to v (first + on.weight) on.rest (over u on.to first on.weight core_u on.core to_x on.entry (inr (refl, omega arith))) on.walk)
        ]

    -- where no walk over what is left weighs at most s, no roads weigh less
    pub true_sum : (v : ℕ) → IsCore h.order v → v ≢ x → ((hops : List Hop) → AreHops (IsLive h2) u hops v → s < total hops)
        → (roads : List Hop) → AreHops (Leads n.arcs) u roads v → s ≤ total roads
    true_sum v core_v v_is none roads walk =
        let c = core_walk n h sound u v roads core_u core_v walk in
        elim (cases_lt (total c.hops) s) [
          | inr le ↦ (let within = c.within in omega arith)
          | inl lt ↦ (let p = by_parts v (total c.hops) lt ((parts c.hops u v c.walk c.core core_u v_is).apart u_is) in
              let more = none p.hops p.walk in
              let within = p.within in
              absurd (omega arith))
        ]
