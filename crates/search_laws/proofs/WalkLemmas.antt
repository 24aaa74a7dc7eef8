-- Laws of walks and of their words, for those who search or check.
use Rattle.plan_base.proofs.Common.{◌≡◌, ℕ, ◌≤◌, List, [], ◌∷◌, ◌++◌, Some, None, refl, sym, ◌∙◌, ap, subst, append_assoc, append-nil, arith, Option, option_to_list}
use Rattle.search_laws.specs.{GraphMeaning, HasArc, IsLawfulGraph, LabelsMeaning, Reads, Follows, AllAfter, WalkStep, wait, arc, IsWalk, word_from}

-- ---- arcs

-- an arc taken earlier arrives too, and no later
pub earlier_of : (g : GraphMeaning) → IsLawfulGraph g → (v i s t b : ℕ) → HasArc g v i → s ≤ t → g.arrive v i t ≡ Some b
    → (a : ℕ) × (g.arrive v i s ≡ Some a) × (a ≤ b)
earlier_of g lawful v i s t b has le eq = go (g.arrive v i s) refl where
  go : (o : Option ℕ) → g.arrive v i s ≡ o → (a : ℕ) × (g.arrive v i s ≡ Some a) × (a ≤ b)
  go None e = let none : g.arrive v i t ≡ None = lawful.stays_none v i s t has le e in cc
  go (Some a) e = (a, e, lawful.rises v i s t a b has le e eq)

-- ---- words

-- reading a letter, or none, and then a word
pub split_read : (l : LabelsMeaning) (letter : Option ℕ) (q r : ℕ) (word : List ℕ) → Reads l q (option_to_list letter ++ word) r
    → (p : ℕ) × Follows l q letter p × Reads l p word r
split_read l None q r word reads = (q, refl, reads)
split_read l (Some c) q r word reads = reads

pub join_read : (l : LabelsMeaning) (letter : Option ℕ) (q p r : ℕ) (word : List ℕ) → Follows l q letter p → Reads l p word r
    → Reads l q (option_to_list letter ++ word) r
join_read l None q p r word follows reads = subst (λ x. Reads l x word r) follows reads
join_read l (Some c) q p r word follows reads = (p, follows, reads)

-- one word, and then another
pub reads_more : (l : LabelsMeaning) (word more : List ℕ) (q p r : ℕ) → Reads l q word p → Reads l p more r → Reads l q (word ++ more) r
reads_more l [] more q p r reads next = subst (λ x. Reads l x more r) reads next
reads_more l (c ∷ word) more q p r (m, has, reads) next = (m, has, reads_more l word more m p r reads next)

-- the letter of one arc, or none
pub reads_one : (l : LabelsMeaning) (letter : Option ℕ) (q r : ℕ) → Follows l q letter r → Reads l q (option_to_list letter) r
reads_one l None q r follows = follows
reads_one l (Some c) q r follows = (r, follows, refl)

-- what holds of all states after a letter holds of each
pub one_after : (l : LabelsMeaning) (letter : Option ℕ) (q r : ℕ) (P : ℕ → Type 0) → AllAfter l q letter P → Follows l q letter r → P r
one_after l None q r P all follows = subst P (sym follows) all
one_after l (Some c) q r P all (i, m) = subst P m.to (all i m.place m.letter)

-- ---- walks

-- a walk arrives no earlier than it leaves
pub walk_rises : (g : GraphMeaning) → IsLawfulGraph g → (steps : List WalkStep) (v t v2 t2 : ℕ) → IsWalk g v t steps v2 t2 → t ≤ t2
walk_rises g lawful [] v t v2 t2 (ev, et) = omega arith
walk_rises g lawful (wait w ∷ steps) v t v2 t2 (le, walk) = omega (arith, le, walk_rises g lawful steps v w v2 t2 walk)
walk_rises g lawful (arc i ∷ steps) v t v2 t2 (u, has, e, walk) =
    omega (arith, lawful.not_before v i t u has e, walk_rises g lawful steps (g.arc_at v i).to u v2 t2 walk)

-- a walk with one arc more at its end
pub walk_more : (g : GraphMeaning) (steps : List WalkStep) (v t v1 t1 i u : ℕ) → IsWalk g v t steps v1 t1 → HasArc g v1 i
    → g.arrive v1 i t1 ≡ Some u → IsWalk g v t (steps ++ arc i ∷ []) (g.arc_at v1 i).to u
walk_more g [] v t v1 t1 i u (ev, et) has e =
    (u, subst (λ x. HasArc g x i) ev has, subst (λ x. g.arrive x i t ≡ Some u) ev (subst (λ x. g.arrive v1 i x ≡ Some u) et e), (ap (λ x. (g.arc_at x i).to) ev, refl))
walk_more g (wait w ∷ steps) v t v1 t1 i u (le, walk) has e = (le, walk_more g steps v w v1 t1 i u walk has e)
walk_more g (arc j ∷ steps) v t v1 t1 i u (m, hasj, ej, walk) has e =
    (m, hasj, ej, walk_more g steps (g.arc_at v j).to m v1 t1 i u walk has e)

-- its word has the letter of that arc more
pub word_more : (g : GraphMeaning) (steps : List WalkStep) (v t v1 t1 i : ℕ) → IsWalk g v t steps v1 t1
    → word_from g v (steps ++ arc i ∷ []) ≡ word_from g v steps ++ option_to_list (g.arc_at v1 i).letter
word_more g [] v t v1 t1 i (ev, et) = append-nil _ ∙ ap (λ x. option_to_list (g.arc_at x i).letter) (sym ev)
word_more g (wait w ∷ steps) v t v1 t1 i (le, walk) = word_more g steps v w v1 t1 i walk
word_more g (arc j ∷ steps) v t v1 t1 i (m, hasj, ej, walk) =
    let first : List ℕ = option_to_list (g.arc_at v j).letter in
    ap (λ x. first ++ x) (word_more g steps (g.arc_at v j).to m v1 t1 i walk)
    ∙ sym (append_assoc first (word_from g (g.arc_at v j).to steps) (option_to_list (g.arc_at v1 i).letter))

-- Known product states stay known along a walk that ends by t2: if the one that it starts in is known by then, and
-- the arcs from known ones lead to known ones, so is the one that it ends in.
module _ (g : GraphMeaning) (lawful : IsLawfulGraph g) (l : LabelsMeaning) (t2 : ℕ) (Known : ℕ → ℕ → ℕ → Type 0)
    (closed : (v q s i a : ℕ) → Known v q s → HasArc g v i → g.arrive v i s ≡ Some a → s ≤ t2 → a ≤ t2
    → AllAfter l q (g.arc_at v i).letter (λ r. (b : ℕ) × (b ≤ a) × Known (g.arc_at v i).to r b)) where
  pub walk_known : (steps : List WalkStep) (v q t v2 r : ℕ) → IsWalk g v t steps v2 t2 → Reads l q (word_from g v steps) r
      → (s : ℕ) × (s ≤ t) × Known v q s → (b : ℕ) × (b ≤ t2) × Known v2 r b
  walk_known [] v q t v2 r (ev, et) reads (s, le, known) =
      (s, (omega arith), subst (λ x. Known x r s) (sym ev) (subst (λ x. Known v x s) (sym reads) known))
  walk_known (wait w ∷ steps) v q t v2 r (later, walk) reads (s, le, known) =
      walk_known steps v q w v2 r walk reads (s, (omega arith), known)
  walk_known (arc i ∷ steps) v q t v2 r (u, has, e, walk) reads (s, le, known) =
      let earlier = earlier_of g lawful v i s t u has le e in
      let split = split_read l (g.arc_at v i).letter q r (word_from g (g.arc_at v i).to steps) reads in
      let rises : u ≤ t2 = walk_rises g lawful steps (g.arc_at v i).to u v2 t2 walk in
      let first : t ≤ u = lawful.not_before v i t u has e in
      let all = closed v q s i earlier.0 known has earlier.1 (omega arith) (omega (arith, earlier.2)) in
      let next = one_after l (g.arc_at v i).letter q split.0 (λ x. (b : ℕ) × (b ≤ earlier.0) × Known (g.arc_at v i).to x b) all split.1 in
      walk_known steps (g.arc_at v i).to split.0 u v2 r walk split.2 (next.0, (omega (arith, next.1, earlier.2)), next.2)
