-- An entry put in.
use Rattle.plan_base.proofs.Common.{◌≡◌, ◌≢◌, ℕ, ◌<◌, ◌≤◌, ◌^◌, ◌⊎◌, inl, inr, Bool, not, nat_eq, List, [], ◌∷◌, ◌∙◌, length, get_or, Some, refl, sym, ap, subst, arith, Contains, Vec, filter, slice_get, Global, cases_eq, cases_order, ne_eqb, eqb-false, not-true, not_from_false, All-contains, Contains-append_left, Contains-push, Contains-push_cases, Contains-get_or, slice_get-get_or, slice_get_within, get_or_from_slice_get}
use Rattle.hierarchy.specs.{Entry, IsCore}
use Rattle.witness.specs.{Edge, row_at, inside.IsEdgePut}
use Rattle.contractor.specs.{declared.layer.Layer.Layer, inside.IsPut, inside.HaveOtherEnds, inside.IsLayer, inside.StandsForEntry, inside.IsInRows, inside.FitsRows, inside.IsReplaced, inside.IsAdded, inside.IsEntered, inside.IsEdgeListed, inside.IsPlaceable, inside.into_at, inside.edge_of}
use Rattle.witness.proofs.ListLemmas.{slice_get-set_same, slice_get-set_other}
use Rattle.contractor.proofs.ListLemmas.{filter_keeps, filter_was, place_of, contains_place, slice_get_push_left, slice_get_push_last, slice_get_push_cases, slice_get_set_cases}

-- whether it took another's place or was added: what stands where
record Entered (e : Entry) (number : ℕ) (old new : List Entry) (old_into new_into : List (Vec ℕ Global)) : Type 0 where
  here : slice_get new number ≡ Some e
  was : (k : ℕ) (f : Entry) → slice_get new k ≡ Some f → ((k ≡ number) × (f ≡ e)) ⊎ ((k ≢ number) × (slice_get old k ≡ Some f))
  still : (k : ℕ) (f : Entry) → slice_get old k ≡ Some f → k ≢ number → slice_get new k ≡ Some f
  same : (k : ℕ) (f : Entry) → slice_get old k ≡ Some f → k ≡ number → (f.from ≡ e.from) × (f.to ≡ e.to)
  others : (k : ℕ) (f : Entry) → slice_get old k ≡ Some f → k ≢ number → f.from ≡ e.from → f.to ≡ e.to → ⊥
  count : length new_into ≡ length old_into
  kept : (v u : ℕ) → Contains (into_at old_into v) u → Contains (into_at new_into v) u
  back : Contains (into_at new_into e.to) e.from
  fit : (v u : ℕ) → Contains (into_at new_into v) u → Contains (into_at old_into v) u ⊎ (u ≡ e.from)

module _ (order : List ℕ) (old : Layer) (layer : IsLayer order old) (e : Entry) (number : ℕ) (core_from : IsCore order e.from) (core_to : IsCore order e.to) where
  abbrev row : List Edge
  row = row_at old.rows.items e.from

  replaced : (new : List Entry) (into : List (Vec ℕ Global)) → IsReplaced row e number old.entries.items new old.into.items into → Entered e number old.entries.items new old.into.items into
  replaced new into r = record {
    here = subst (λ es. slice_get es number ≡ Some e) (sym r.entries) (slice_get-set_same old.entries.items number e inside);
    was = λ k f at. slice_get_set_cases old.entries.items number e k f (subst (λ es. slice_get es k ≡ Some f) r.entries at) inside;
    still = λ k f at differ. ap (λ es. slice_get es k) r.entries ∙ slice_get-set_other old.entries.items number k e differ ∙ at;
    same = λ k f at is. (let one : f ≡ l.entry = get_or_same k f at is in (ap (λ (y : Entry). y.from) one ∙ l.from, ap (λ (y : Entry). y.to) one ∙ sym (ap (λ (y : Edge). y.to) l.is)));
    others = λ k f at differ from to. elim (cases_order k number) [
      | inl is ↦ differ is
      | inr apart ↦ elim apart [
        | inl lower ↦ layer.apart k number f lower inside (ap (λ (y : Entry). y.from) (read k f f at) ∙ from ∙ sym l.from ∙ sym (ap (λ (y : Entry). y.from) (read number l.entry f l.at)))
            (ap (λ (y : Entry). y.to) (read k f f at) ∙ to ∙ ap (λ (y : Edge). y.to) l.is ∙ sym (ap (λ (y : Entry). y.to) (read number l.entry f l.at)))
        | inr higher ↦ layer.apart number k f higher (slice_get_within old.entries.items k f at) (ap (λ (y : Entry). y.from) (read number l.entry f l.at) ∙ l.from ∙ sym from ∙ sym (ap (λ (y : Entry). y.from) (read k f f at)))
            (ap (λ (y : Entry). y.to) (read number l.entry f l.at) ∙ sym (ap (λ (y : Edge). y.to) l.is) ∙ sym to ∙ sym (ap (λ (y : Entry). y.to) (read k f f at)))
      ]
    ];
    count = ap length r.into;
    kept = λ v u there. subst (λ i. Contains (into_at i v) u) (sym r.into) there;
    back = subst (λ i. Contains (into_at i e.to) e.from) (sym r.into) (subst (λ y. Contains (into_at old.into.items y) e.from) (sym (ap (λ (y : Edge). y.to) l.is)) (subst (λ y. Contains (into_at old.into.items l.entry.to) y) l.from (layer.all number l.entry l.at l.core_from l.core_to).back));
    fit = λ v u there. inl (subst (λ i. Contains (into_at i v) u) r.into there);
  } where
    edge : Edge
    edge = record { to = e.to; entry = number; weight = r.there.0 }

    l : StandsForEntry order old.entries.items e.from edge
    l = layer.listed e.from edge r.there.1

    inside : number < length old.entries.items
    inside = slice_get_within old.entries.items number l.entry l.at

    read : (k : ℕ) (f d : Entry) → slice_get old.entries.items k ≡ Some f → get_or old.entries.items k d ≡ f
    read k f d at = get_or_from_slice_get old.entries.items k f d at

    get_or_same : (k : ℕ) (f : Entry) → slice_get old.entries.items k ≡ Some f → k ≡ number → f ≡ l.entry
    get_or_same k f at is = sym (read k f f at) ∙ ap (λ j. get_or old.entries.items j f) is ∙ read number l.entry f l.at

  added : (new : List Entry) (into : List (Vec ℕ Global)) → IsAdded row e number old.entries.items new old.into.items into → Entered e number old.entries.items new old.into.items into
  added new into r = record {
    here = subst (λ k. slice_get new k ≡ Some e) (sym r.number_is) (subst (λ es. slice_get es (length old.entries.items) ≡ Some e) (sym r.entries) (slice_get_push_last old.entries.items e));
    was = λ k f at. subst (λ j. ((k ≡ j) × (f ≡ e)) ⊎ ((k ≢ j) × (slice_get old.entries.items k ≡ Some f))) (sym r.number_is) (slice_get_push_cases old.entries.items e k f (subst (λ es. slice_get es k ≡ Some f) r.entries at));
    still = λ k f at differ. subst (λ es. slice_get es k ≡ Some f) (sym r.entries) (slice_get_push_left old.entries.items e k f at);
    same = λ k f at is. absurd (let lt = slice_get_within old.entries.items k f at in let last = r.number_is in omega arith);
    others = λ k f at differ from to. (let in_rows = layer.all k f at (subst (IsCore order) (sym from) core_from) (subst (IsCore order) (sym to) core_to) in
        All-contains (λ (y : Edge). y.to ≢ e.to) row (edge_of k f) r.none (subst (λ v. Contains (row_at old.rows.items v) (edge_of k f)) from in_rows.out) to);
    count = r.into.count;
    kept = λ v u there. elim (cases_eq v e.to) [
      | inl is ↦ subst (λ w. Contains (into_at into w) u) (sym is) (subst (λ us. Contains us u) (sym r.into.here) (Contains-append_left (into_at old.into.items e.to) (e.from ∷ []) u (subst (λ w. Contains (into_at old.into.items w) u) is there)))
      | inr other ↦ subst (λ us. Contains us u) (sym (r.into.others v other)) there
    ];
    back = subst (λ us. Contains us e.from) (sym r.into.here) (Contains-push (into_at old.into.items e.to) e.from);
    fit = λ v u there. elim (cases_eq v e.to) [
      | inl is ↦ elim (Contains-push_cases (into_at old.into.items e.to) e.from u (subst (λ us. Contains us u) r.into.here (subst (λ w. Contains (into_at into w) u) is there))) [
        | inl was ↦ inl (subst (λ w. Contains (into_at old.into.items w) u) (sym is) was)
        | inr here ↦ inr (sym here)
      ]
      | inr other ↦ inl (subst (λ us. Contains us u) (r.into.others v other) there)
    ];
  }

  entered : (new : List Entry) (into : List (Vec ℕ Global)) → IsEntered row e number old.entries.items new old.into.items into → Entered e number old.entries.items new old.into.items into
  entered new into (inl r) = replaced new into r
  entered new into (inr r) = added new into r

  module _ (new : Layer) (is : IsEntered row e number old.entries.items new.entries.items old.into.items new.into.items) where
    abbrev in_ : Entered e number old.entries.items new.entries.items old.into.items new.into.items
    in_ = entered new.entries.items new.into.items is

    pub put_is : IsPut old.entries.items new.entries.items e
    put_is = record {
      there = contains_place new.entries.items number e in_.here;
      made = λ f there. (let at = place_of new.entries.items f there in elim (in_.was at.0 f at.1) [
        | inl now ↦ inl now.1
        | inr was ↦ inr (contains_place old.entries.items at.0 f was.1)
      ]);
      kept = λ f there. (let at = place_of old.entries.items f there in elim (cases_eq at.0 number) [
        | inl now ↦ inr (in_.same at.0 f at.1 now)
        | inr other ↦ inl (contains_place new.entries.items at.0 f (in_.still at.0 f at.1 other))
      ]);
    }

    module _ (fits : FitsRows (length old.rows.items) e) (listed : IsEdgeListed e.from (edge_of number e) old.rows.items new.rows.items) where
      abbrev elsewhere : Edge → Bool
      elsewhere y = not (nat_eq y.to e.to)

      each : (k : ℕ) (f : Entry) → slice_get new.entries.items k ≡ Some f → FitsRows (length old.rows.items) f
      each k f at = elim (in_.was k f at) [
        | inl now ↦ subst (FitsRows (length old.rows.items)) (sym now.1) fits
        | inr was ↦ All-contains (FitsRows (length old.rows.items)) old.entries.items f layer.fit (contains_place old.entries.items k f was.1)
      ]

      pair : (i j : ℕ) (f g : Entry) → i < j → slice_get new.entries.items i ≡ Some f → slice_get new.entries.items j ≡ Some g → HaveOtherEnds f g
      pair i j f g lt at_i at_j from to = elim (in_.was i f at_i) [
        | inl first ↦ elim (in_.was j g at_j) [
          | inl second ↦ (let a = first.0 in let b = second.0 in omega arith)
          | inr second ↦ in_.others j g second.1 second.0 (sym from ∙ ap (λ (y : Entry). y.from) first.1) (sym to ∙ ap (λ (y : Entry). y.to) first.1)
        ]
        | inr first ↦ elim (in_.was j g at_j) [
          | inl second ↦ in_.others i f first.1 first.0 (from ∙ ap (λ (y : Entry). y.from) second.1) (to ∙ ap (λ (y : Entry). y.to) second.1)
          | inr second ↦ layer.apart i j f lt (slice_get_within old.entries.items j g second.1)
              (ap (λ (y : Entry). y.from) (get_or_from_slice_get old.entries.items i f f first.1) ∙ from ∙ sym (ap (λ (y : Entry). y.from) (get_or_from_slice_get old.entries.items j g f second.1)))
              (ap (λ (y : Entry). y.to) (get_or_from_slice_get old.entries.items i f f first.1) ∙ to ∙ sym (ap (λ (y : Entry). y.to) (get_or_from_slice_get old.entries.items j g f second.1)))
        ]
      ]

      moved : (u : ℕ) (y : Edge) (l : StandsForEntry order old.entries.items u y) → y.entry ≢ number → StandsForEntry order new.entries.items u y
      moved u y l other = record { entry = l.entry; at = in_.still y.entry l.entry l.at other; from = l.from; is = l.is; core_from = l.core_from; core_to = l.core_to }

      in_row : (y : Edge) → Contains (row_at new.rows.items e.from) y → StandsForEntry order new.entries.items e.from y
      in_row y there = elim (Contains-push_cases (filter elsewhere row) (edge_of number e) y (subst (λ ys. Contains ys y) listed.here there)) [
        | inl before ↦ (let kept = filter_was elsewhere row y before in
            let l = layer.listed e.from y kept.0 in
            moved e.from y l (λ now. eqb-false y.to e.to (not-true (nat_eq y.to e.to) kept.1) (ap (λ (z : Edge). z.to) l.is ∙ (in_.same y.entry l.entry l.at now).1)))
        | inr here ↦ subst (StandsForEntry order new.entries.items e.from) here (record { entry = e; at = in_.here; from = refl; is = refl; core_from = core_from; core_to = core_to })
      ]

      pub put_layer : IsLayer order new
      put_layer = record {
        few = subst (λ k. k ≤ 2 ^ 24) (sym listed.count) layer.few;
        count = in_.count ∙ layer.count ∙ sym listed.count;
        fit = λ k d low. subst (λ m. FitsRows m (get_or new.entries.items k d)) (sym listed.count) (each k (get_or new.entries.items k d) (slice_get-get_or new.entries.items k d low));
        apart = λ i j d lt low. pair i j (get_or new.entries.items i d) (get_or new.entries.items j d) lt (slice_get-get_or new.entries.items i d (omega arith)) (slice_get-get_or new.entries.items j d low);
        listed = λ u y there. elim (cases_eq u e.from) [
          | inl here ↦ subst (λ w. StandsForEntry order new.entries.items w y) (sym here) (in_row y (subst (λ w. Contains (row_at new.rows.items w) y) here there))
          | inr other ↦ (let l = layer.listed u y (subst (λ ys. Contains ys y) (listed.others u other) there) in
              moved u y l (λ now. other (sym l.from ∙ (in_.same y.entry l.entry l.at now).0)))
        ];
        all = λ k f at from to. elim (in_.was k f at) [
          | inl now ↦ subst (λ (z : Entry). IsInRows new.rows.items new.into.items k z) (sym now.1) (subst (λ j. IsInRows new.rows.items new.into.items j e) (sym now.0)
              (record { out = subst (λ ys. Contains ys (edge_of number e)) (sym listed.here) (Contains-push (filter elsewhere row) (edge_of number e)); back = in_.back }))
          | inr was ↦ (let i = layer.all k f was.1 from to in record { out = stays k f was.1 was.0 i.out; back = in_.kept f.to f.from i.back })
        ];
        into_fit = λ v u there. elim (in_.fit v u there) [
          | inl was ↦ subst (λ m. u < m) (sym listed.count) (layer.into_fit v u was)
          | inr here ↦ subst (λ m. u < m) (sym listed.count) (subst (λ w. w < length old.rows.items) (sym here) fits.from)
        ];
      } where
        stays : (k : ℕ) (f : Entry) → slice_get old.entries.items k ≡ Some f → k ≢ number → Contains (row_at old.rows.items f.from) (edge_of k f) → Contains (row_at new.rows.items f.from) (edge_of k f)
        stays k f at differ there = elim (cases_eq f.from e.from) [
          | inr other ↦ subst (λ ys. Contains ys (edge_of k f)) (sym (listed.others f.from other)) there
          | inl here ↦ subst (λ w. Contains (row_at new.rows.items w) (edge_of k f)) (sym here) (subst (λ ys. Contains ys (edge_of k f)) (sym listed.here)
              (Contains-append_left (filter elsewhere row) (edge_of number e ∷ []) (edge_of k f)
              (filter_keeps elsewhere row (edge_of k f) (subst (λ w. Contains (row_at old.rows.items w) (edge_of k f)) here there)
              (not_from_false (nat_eq f.to e.to) (ne_eqb f.to e.to (λ to. in_.others k f at differ here to))))))
        ]

-- the rows have the edge now, and no other between its ends
pub edge_put : (old new : List (Vec Edge Global)) (u v number weight : ℕ) → IsEdgeListed u (record { to = v; entry = number; weight = weight }) old new → IsEdgePut old new u v weight
edge_put old new u v number weight listed = record {
  count = listed.count;
  there = (number, subst (λ ys. Contains ys edge) (sym listed.here) (Contains-push (filter elsewhere (row_at old u)) edge));
  kept = λ a b w has. elim (cases_eq a u) [
    | inr other ↦ inl (has.0, subst (λ ys. Contains ys (edge_to b has.0 w)) (sym (listed.others a other)) has.1)
    | inl here ↦ elim (cases_eq b v) [
      | inl same ↦ inr (here, same)
      | inr differ ↦ inl (
        has.0,
        subst (λ z. Contains (row_at new z) (edge_to b has.0 w)) (sym here) (subst (λ ys. Contains ys (edge_to b has.0 w)) (sym listed.here)
            (Contains-append_left (filter elsewhere (row_at old u)) (edge ∷ []) (edge_to b has.0 w)
            (filter_keeps elsewhere (row_at old u) (edge_to b has.0 w) (subst (λ z. Contains (row_at old z) (edge_to b has.0 w)) here has.1) (not_from_false (nat_eq b v) (ne_eqb b v differ))))),
      )
    ]
  ];
  made = λ a b w has. elim (cases_eq a u) [
    | inr other ↦ inl (has.0, subst (λ ys. Contains ys (edge_to b has.0 w)) (listed.others a other) has.1)
    | inl here ↦ elim (Contains-push_cases (filter elsewhere (row_at old u)) edge (edge_to b has.0 w) (subst (λ ys. Contains ys (edge_to b has.0 w)) listed.here (subst (λ z. Contains (row_at new z) (edge_to b has.0 w)) here has.1))) [
      | inl before ↦ inl (has.0, subst (λ z. Contains (row_at old z) (edge_to b has.0 w)) (sym here) (filter_was elsewhere (row_at old u) (edge_to b has.0 w) before).0)
      | inr it ↦ inr (here, sym (ap (λ (y : Edge). y.to) it), sym (ap (λ (y : Edge). y.weight) it))
    ]
  ];
} where
  edge_to : ℕ → ℕ → ℕ → Edge
  edge_to b number w = record { to = b; entry = number; weight = w }

  edge : Edge
  edge = edge_to v number weight

  elsewhere : Edge → Bool
  elsewhere y = not (nat_eq y.to v)

pub placeable : (order : List ℕ) (layer : Layer) → IsLayer order layer → (e : Entry) → e.from < length layer.rows.items → e.to < length layer.rows.items → IsPlaceable layer e
placeable order layer is e from to = record {
  from = from;
  to = subst (λ k. e.to < k) (sym is.count) to;
  numbers = λ k d low. (let edge = get_or (row_at layer.rows.items e.from) k d in
      let l = is.listed e.from edge (Contains-get_or (row_at layer.rows.items e.from) k d low) in
      slice_get_within layer.entries.items edge.entry l.entry l.at);
}
