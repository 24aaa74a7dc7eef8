-- A node cut out of what is left.
use Rattle.plan_base.proofs.Common.{◌≡◌, ◌≢◌, ℕ, ◌+◌, ◌<◌, ◌≤◌, ◌^◌, inl, inr, Bool, true, not, nat_eq, List, [], ◌∷◌, ◌++◌, ◌∙◌, length, take, get_or, set, Some, refl, sym, ap, subst, arith, All, AllPairs, Contains, Vec, filter, slice_get, Global, cases_eq, ne_eqb, eqb-false, not-true, not_from_false, length-set, take_more, All-contains, All-more, All-weaker, Contains-append_left, Contains-push, Contains-push_cases, Contains-get_or, All-contains_itself}
use Rattle.hierarchy.specs.{Entry, IsCore, HasEntry}
use Rattle.witness.specs.{Edge, row_at}
use Rattle.contractor.specs.{declared.way.Side.Side, declared.layer.Layer.Layer, inside.IsLayer, inside.IsCut, inside.IsLessInto, inside.AreSides, inside.AreSidesOf, inside.AreFirst, inside.AreSecond, inside.IsRowTaken, inside.AreNodesTaken, inside.FitsRows, inside.into_at, inside.side_of, inside.edge_of, inside.HaveOtherEnds}
use Rattle.contractor.proofs.{ListLemmas.filter_keeps, ListLemmas.filter_was, ListLemmas.take_more_cases, ListLemmas.none_in, ListLemmas.place_of, ListLemmas.contains_place, RowLemmas.row_set, RowLemmas.row_kept, RowLemmas.into_set, RowLemmas.into_kept, LiveLemmas.core_more, LiveLemmas.core_less}

is_other : (a x : ℕ) → a ≢ x → not (nat_eq a x) ≡ true
is_other a x differ = not_from_false (nat_eq a x) (ne_eqb a x differ)

other_is : (a x : ℕ) → not (nat_eq a x) ≡ true → a ≢ x
other_is a x test = eqb-false a x (not-true (nat_eq a x) test)

abbrev leads_elsewhere : ℕ → Edge → Bool
leads_elsewhere x e = not (nat_eq e.to x)

-- ---- rows

pub cut_more : (x : ℕ) (before : List ℕ) (i u : ℕ) (old rows : List (Vec Edge Global)) (row : Vec Edge Global) → i < length before → get_or before i 0 ≡ u → u < length rows
    → row.items ≡ filter (λ (e : Edge). not (nat_eq e.to x)) (row_at rows u) → IsCut x (take i before) old rows → IsCut x (take (i + 1) before) old (set rows u row)
cut_more x before i u old rows row lt at inside is cut = record {
  count = length-set rows u row ∙ cut.count;
  kept = λ v e there differ. elim (cases_eq v u) [
    | inl same ↦ subst (λ w. Contains (row_at (set rows u row) w) e) (sym same) (subst (λ es. Contains es e) (sym here)
        (filter_keeps (leads_elsewhere x) (row_at rows u) e (subst (λ w. Contains (row_at rows w) e) same (cut.kept v e there differ)) (is_other e.to x differ)))
    | inr other ↦ subst (λ es. Contains es e) (sym (row_kept rows u v row other)) (cut.kept v e there differ)
  ];
  was = λ v e there. elim (cases_eq v u) [
    | inl same ↦ cut.was v e (subst (λ w. Contains (row_at rows w) e) (sym same) (filtered v e same there).0)
    | inr other ↦ cut.was v e (subst (λ es. Contains es e) (row_kept rows u v row other) there)
  ];
  gone = λ v e listed there. elim (cases_eq v u) [
    | inl same ↦ other_is e.to x (filtered v e same there).1
    | inr other ↦ elim (take_more_cases before i 0 v lt listed) [
      | inl earlier ↦ cut.gone v e earlier (subst (λ es. Contains es e) (row_kept rows u v row other) there)
      | inr now ↦ absurd (other (sym now ∙ at))
    ]
  ];
} where
  here : row_at (set rows u row) u ≡ filter (leads_elsewhere x) (row_at rows u)
  here = row_set rows u row inside ∙ is

  filtered : (v : ℕ) (e : Edge) → v ≡ u → Contains (row_at (set rows u row) v) e → Contains (row_at rows u) e × (not (nat_eq e.to x) ≡ true)
  filtered v e same there = filter_was (leads_elsewhere x) (row_at rows u) e (subst (λ es. Contains es e) here (subst (λ w. Contains (row_at (set rows u row) w) e) same there))

pub less_more : (x v : ℕ) (old into : List (Vec ℕ Global)) (nodes : Vec ℕ Global) → v < length into → nodes.items ≡ filter (λ (u : ℕ). not (nat_eq u x)) (into_at into v) → IsLessInto x old into → IsLessInto x old (set into v nodes)
less_more x v old into nodes inside is less = record {
  count = length-set into v nodes ∙ less.count;
  kept = λ w u there differ. elim (cases_eq w v) [
    | inl same ↦ subst (λ y. Contains (into_at (set into v nodes) y) u) (sym same) (subst (λ us. Contains us u) (sym here)
        (filter_keeps (λ (a : ℕ). not (nat_eq a x)) (into_at into v) u (subst (λ y. Contains (into_at into y) u) same (less.kept w u there differ)) (is_other u x differ)))
    | inr other ↦ subst (λ us. Contains us u) (sym (into_kept into v w nodes other)) (less.kept w u there differ)
  ];
  was = λ w u there. elim (cases_eq w v) [
    | inl same ↦ less.was w u (subst (λ y. Contains (into_at into y) u) (sym same)
        (filter_was (λ (a : ℕ). not (nat_eq a x)) (into_at into v) u (subst (λ us. Contains us u) here (subst (λ y. Contains (into_at (set into v nodes) y) u) same there))).0)
    | inr other ↦ less.was w u (subst (λ us. Contains us u) (into_kept into v w nodes other) there)
  ];
} where
  here : into_at (set into v nodes) v ≡ filter (λ (a : ℕ). not (nat_eq a x)) (into_at into v)
  here = into_set into v nodes inside ∙ is

-- ---- sides

pub side_more : (u x : ℕ) (row : List Edge) (old sides new : List Side) (i : ℕ) (d : Edge) → i < length row → (get_or row i d).to ≡ x → new ≡ sides ++ side_of u (get_or row i d).weight ∷ []
    → AreSidesOf u x (take i row) old sides → AreSidesOf u x (take (i + 1) row) old new
side_more u x row old sides new i d lt leads pushed are = record {
  kept = λ k e low. still (get_or old k e) (are.kept k e low);
  each = λ s there. elim (Contains-push_cases sides side s (subst (λ ss. Contains ss s) pushed there)) [
    | inl before ↦ elim (are.each s before) [
      | inl was ↦ inl was
      | inr it ↦ inr (it.0, it.1, subst (λ es. Contains es (record { to = x; entry = it.1; weight = s.weight })) (sym more) (Contains-append_left (take i row) (edge ∷ []) _ it.2))
    ]
    | inr here ↦ inr (
      ap (λ (z : Side). z.node) (sym here),
      edge.entry,
      subst (λ (z : Side). Contains (take (i + 1) row) (record { to = x; entry = edge.entry; weight = z.weight })) here
          (subst (λ y. Contains (take (i + 1) row) (record { to = y; entry = edge.entry; weight = edge.weight })) leads (subst (λ es. Contains es edge) (sym more) (Contains-push (take i row) edge))),
    )
  ];
  all = All-more (λ (e : Edge). e.to ≡ x → Contains new (side_of u e.weight)) row i d lt
      (All-weaker (λ (e : Edge). e.to ≡ x → Contains sides (side_of u e.weight)) (λ (e : Edge). e.to ≡ x → Contains new (side_of u e.weight)) (λ e h same. still (side_of u e.weight) (h same)) (take i row) are.all)
      (λ same. subst (λ ss. Contains ss side) (sym pushed) (Contains-push sides side));
} where
  edge : Edge
  edge = get_or row i d

  side : Side
  side = side_of u edge.weight

  more : take (i + 1) row ≡ take i row ++ edge ∷ []
  more = take_more row i d lt

  still : (s : Side) → Contains sides s → Contains new s
  still s there = subst (λ ss. Contains ss s) (sym pushed) (Contains-append_left sides (side ∷ []) s there)

pub side_passed : (u x : ℕ) (row : List Edge) (old sides : List Side) (i : ℕ) (d : Edge) → i < length row → (get_or row i d).to ≢ x → AreSidesOf u x (take i row) old sides → AreSidesOf u x (take (i + 1) row) old sides
side_passed u x row old sides i d lt differ are = record {
  kept = are.kept;
  each = λ s there. elim (are.each s there) [
    | inl was ↦ inl was
    | inr it ↦ inr (it.0, it.1, subst (λ es. Contains es (record { to = x; entry = it.1; weight = s.weight })) (sym (take_more row i d lt)) (Contains-append_left (take i row) (get_or row i d ∷ []) _ it.2))
  ];
  all = All-more (λ (e : Edge). e.to ≡ x → Contains sides (side_of u e.weight)) row i d lt are.all (λ same. absurd (differ same));
}

pub sides_begin : (u x : ℕ) (sides : List Side) → AreSidesOf u x [] sides sides
sides_begin u x sides = record { kept = All-contains_itself sides; each = λ s t. inl t; all = λ k d low. absurd (omega arith) }

pub sides_more : (rows : List (Vec Edge Global)) (x : ℕ) (before : List ℕ) (i u : ℕ) (sides new : List Side) (row : List Edge) → i < length before → get_or before i 0 ≡ u → row ≡ row_at rows u
    → AreSidesOf u x row sides new → AreSides rows x (take i before) sides → AreSides rows x (take (i + 1) before) new
sides_more rows x before i u sides new row lt at is of far = record {
  each = λ s there. elim (of.each s there) [
    | inl was ↦ far.each s was
    | inr it ↦ (it.1, subst (λ w. Contains (row_at rows w) (record { to = x; entry = it.1; weight = s.weight })) (sym it.0) (subst (λ es. Contains es (record { to = x; entry = it.1; weight = s.weight })) is it.2))
  ];
  all = λ v e listed there leads. elim (take_more_cases before i 0 v lt listed) [
    | inl earlier ↦ All-contains (Contains new) sides (side_of v e.weight) of.kept (far.all v e earlier there leads)
    | inr now ↦ (let same : v ≡ u = sym now ∙ at in
        subst (λ w. Contains new (side_of w e.weight)) (sym same)
        (All-contains (λ (y : Edge). y.to ≡ x → Contains new (side_of u y.weight)) row e of.all (subst (λ es. Contains es e) (sym is) (subst (λ w. Contains (row_at rows w) e) same there)) leads))
  ];
}

-- ---- the whole

module _ (order : List ℕ) (x : ℕ) (old new : Layer) (layer : IsLayer order old) (core : IsCore order x) (rows : List (Vec Edge Global)) (into : List (Vec ℕ Global)) (before : List ℕ) (second : List Edge)
    (nodes : AreNodesTaken x old.into.items into before) (cut : IsCut x before old.rows.items rows) (taken : IsRowTaken x rows new.rows.items second) (less : IsLessInto x into new.into.items) (entries : new.entries.items ≡ old.entries.items) where
  -- an entry as the rows list it
  entry_listed : (u : ℕ) (e : Edge) → Contains (row_at old.rows.items u) e → HasEntry old.entries.items u e.to e.weight × IsCore order u × IsCore order e.to
  entry_listed u e there =
      let l = layer.listed u e there in
      let entry = l.entry in
      let to : e.to ≡ entry.to = ap (λ (y : Edge). y.to) l.is in
      let weight : e.weight ≡ entry.weight = ap (λ (y : Edge). y.weight) l.is in
      let has : HasEntry old.entries.items u e.to e.weight = (
        entry.via,
        subst (λ w. Contains old.entries.items (record { from = u; to = e.to; weight = w; via = entry.via })) (sym weight)
            (subst (λ y. Contains old.entries.items (record { from = u; to = y; weight = entry.weight; via = entry.via })) (sym to)
            (subst (λ y. Contains old.entries.items (record { from = y; to = entry.to; weight = entry.weight; via = entry.via })) l.from (contains_place old.entries.items e.entry entry l.at))),
      ) in
      (has, subst (IsCore order) l.from l.core_from, subst (IsCore order) (sym to) l.core_to)

  pub first_are : (sides : List Side) → AreSides old.rows.items x before sides → AreFirst order old.entries.items x sides
  first_are sides are = record {
    each = λ s there. (let it = are.each s there in let l = entry_listed s.node (record { to = x; entry = it.0; weight = s.weight }) it.1 in (l.0, l.1));
    all = λ u a core_u (via, listed). (let e : Entry = record { from = u; to = x; weight = a; via = via } in
        let at = place_of old.entries.items e listed in
        let in_rows = layer.all at.0 e at.1 core_u core in
        are.all u (edge_of at.0 e) (subst (λ us. Contains us u) (sym nodes.nodes_are) in_rows.back) in_rows.out refl);
  }

  -- no entry leads from x to itself
  module _ (differ : (e : Entry) → Contains old.entries.items e → e.from ≢ e.to) where
    own_row : (e : Edge) → Contains (row_at old.rows.items x) e → e.to ≢ x
    own_row e there same =
        let l = layer.listed x e there in
        let entry = l.entry in
        differ entry (contains_place old.entries.items e.entry entry l.at) (l.from ∙ sym same ∙ ap (λ (y : Edge). y.to) l.is)

    pub second_are : AreSecond order old.entries.items x second
    second_are = record {
      each = λ e there. (let l = entry_listed x e (cut.was x e (subst (λ es. Contains es e) taken.row_is there)) in (l.0, l.2));
      all = λ v b core_v (via, listed). (let e : Entry = record { from = x; to = v; weight = b; via = via } in
          let at = place_of old.entries.items e listed in
          let in_rows = layer.all at.0 e at.1 core core_v in
          (at.0, subst (λ es. Contains es (edge_of at.0 e)) (sym taken.row_is) (cut.kept x (edge_of at.0 e) in_rows.out (λ same. differ e listed (sym same)))));
    }

    -- what a row lists still
    still : (u : ℕ) (e : Edge) → Contains (row_at new.rows.items u) e → (u ≢ x) × (e.to ≢ x) × Contains (row_at old.rows.items u) e
    still u e there = elim (cases_eq u x) [
      | inl same ↦ absurd (none_in e (subst (λ es. Contains es e) taken.empty (subst (λ w. Contains (row_at new.rows.items w) e) same there)))
      | inr other ↦ (let in_rows = subst (λ es. Contains es e) (taken.others u other) there in
          let was = cut.was u e in_rows in
          (other, (λ leads. cut.gone u e (led u e was leads) in_rows leads), was))
    ] where
      led : (u : ℕ) (e : Edge) → Contains (row_at old.rows.items u) e → e.to ≡ x → Contains before u
      led u e was leads =
          let l = layer.listed u e was in
          let entry = l.entry in
          let to : entry.to ≡ x = sym (ap (λ (y : Edge). y.to) l.is) ∙ leads in
          let back = (layer.all e.entry entry l.at l.core_from l.core_to).back in
          subst (λ us. Contains us u) (sym nodes.nodes_are) (subst (λ y. Contains (into_at old.into.items y) u) to (subst (λ y. Contains (into_at old.into.items entry.to) y) l.from back))

    pub cut_layer : IsLayer (order ++ x ∷ []) new
    cut_layer = record {
      few = subst (λ k. k ≤ 2 ^ 24) (sym count) layer.few;
      count = less.count ∙ nodes.count ∙ layer.count ∙ sym count;
      fit = subst (λ k. All (FitsRows k) new.entries.items) (sym count) (subst (λ es. All (FitsRows (length old.rows.items)) es) (sym entries) layer.fit);
      apart = subst (λ es. AllPairs HaveOtherEnds es) (sym entries) layer.apart;
      listed = λ u e there. (let s = still u e there in let l = layer.listed u e s.2 in
          record {
            entry = l.entry;
            at = subst (λ es. slice_get es e.entry ≡ Some l.entry) (sym entries) l.at;
            from = l.from;
            is = l.is;
            core_from = core_more order x l.entry.from (λ same. s.0 (sym l.from ∙ same)) l.core_from;
            core_to = core_more order x l.entry.to (λ same. s.1 (ap (λ (y : Edge). y.to) l.is ∙ same)) l.core_to;
          });
      all = λ k e at core_from core_to. (let a = core_less order x e.from core core_from in let b = core_less order x e.to core core_to in
          let was = layer.all k e (subst (λ es. slice_get es k ≡ Some e) entries at) a.0 b.0 in
          record {
            out = subst (λ es. Contains es (edge_of k e)) (sym (taken.others e.from a.1)) (cut.kept e.from (edge_of k e) was.out b.1);
            back = less.kept e.to e.from (subst (λ us. Contains us e.from) (sym (nodes.others e.to b.1)) was.back) a.1;
          });
      into_fit = λ v u there. subst (λ k. u < k) (sym count) (into_still v u (less.was v u there));
    } where
      count : length new.rows.items ≡ length old.rows.items
      count = taken.count ∙ cut.count

      into_still : (v u : ℕ) → Contains (into_at into v) u → u < length old.rows.items
      into_still v u there = elim (cases_eq v x) [
        | inl same ↦ absurd (none_in u (subst (λ us. Contains us u) nodes.empty (subst (λ w. Contains (into_at into w) u) same there)))
        | inr other ↦ layer.into_fit v u (subst (λ us. Contains us u) (nodes.others v other) there)
      ]

-- ---- what the steps ask for

pub nodes_fit : (order : List ℕ) (x : ℕ) (old : Layer) (before : List ℕ) → IsLayer order old → before ≡ into_at old.into.items x → All (λ u. u < length old.rows.items) before
nodes_fit order x old before layer are k d low = layer.into_fit x (get_or before k d) (subst (λ us. Contains us (get_or before k d)) are (Contains-get_or before k d low))

pub edges_fit : (order : List ℕ) (x : ℕ) (old : Layer) (before : List ℕ) (rows : List (Vec Edge Global)) (second : List Edge) → IsLayer order old → IsCut x before old.rows.items rows → second ≡ row_at rows x
    → All (λ (e : Edge). e.to < length old.rows.items) second
edges_fit order x old before rows second layer cut are k d low =
    let e = get_or second k d in
    let l = layer.listed x e (cut.was x e (subst (λ es. Contains es e) are (Contains-get_or second k d low))) in
    let entry = l.entry in
    subst (λ v. v < length old.rows.items) (sym (ap (λ (y : Edge). y.to) l.is)) (All-contains (FitsRows (length old.rows.items)) old.entries.items entry layer.fit (contains_place old.entries.items e.entry entry l.at)).to
