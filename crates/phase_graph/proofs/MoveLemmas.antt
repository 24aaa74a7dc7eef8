-- Road parts as moves of the phase graph.
use Rattle.plan_base.proofs.Common.{◌≡◌, ℕ, ◌+◌, ◌<◌, ◌⊎◌, inl, inr, Bool, true, false, List, [], ◌∷◌, ◌++◌, Some, length, refl, sym, ap, subst, ◌∙◌, append_assoc, arith, Contains, option_to_list}
use Rattle.search_laws.specs.{collapse}
use Rattle.mode_network.specs.{NetworkLists.NetworkLists, letter_at}
use Rattle.mode_network.proofs.RuleLemmas.{letter_of}
use Rattle.hierarchy.specs.{Hop, AreHops, total, IsDescent, HierarchyLists, height_in, IsContracted, IsCore, HasEntry, IsSound}
use Rattle.hierarchy.proofs.{HeightLemmas.height_most, Shapes.IsShaped, SoundLemmas.fits}
use Rattle.phase_graph.specs.{PhaseMove, rise, fall, stand, IsMarked, AreMoves}
use Rattle.phase_graph.proofs.WordLemmas.{same_letter, again}

-- moves, and then more
pub moves_then : (n : NetworkLists) (h : HierarchyLists) (targets : List ℕ) (first second : List PhaseMove) (v : ℕ) (down : Bool) (t m : ℕ) (there : Bool) (s w : ℕ) (end : Bool) (u : ℕ) (a b : List ℕ)
    → AreMoves n h targets v down t first m there s a → AreMoves n h targets m there s second w end u b → AreMoves n h targets v down t (first ++ second) w end u (a ++ b)
moves_then n h targets [] second v down t m there s w end u a b (em, ed, es, ea) next =
    subst (λ ls. AreMoves n h targets v down t second w end u (ls ++ b)) (sym ea)
    (subst (λ x. AreMoves n h targets x down t second w end u b) em (subst (λ d. AreMoves n h targets m d t second w end u b) ed (subst (λ x. AreMoves n h targets m there x second w end u b) es next)))
moves_then n h targets (move ∷ first) second v down t m there s w end u a b (v1, d1, t1, letter, more, is, walk, ea) next = (
  v1,
  d1,
  t1,
  letter,
  more ++ b,
  is,
  moves_then n h targets first second v1 d1 t1 m there s w end u more b walk next,
  ap (λ ls. ls ++ b) ea ∙ append_assoc (option_to_list letter) more b,
)

module _ (n : NetworkLists) (h : HierarchyLists) (sound : IsSound n h) (targets : List ℕ) where
  -- the modes of both ends of an entry are one
  pub same_mode : (u v a m : ℕ) → HasEntry h.entries u v a → letter_at n.roads u ≡ Some m → letter_at n.roads v ≡ Some m
  same_mode u v a m e is = let f = fits n h sound u v a e in (letter_of n.roads v _ f.to_mode) ∙ sym (letter_of n.roads u _ f.from_mode) ∙ is

  -- moves of one mode that lead somewhere: their letters, after the mode's, are told already
  pub record Descended (m v : ℕ) (down : Bool) (t end at : ℕ) : Type 0 where
    pub moves : List PhaseMove
    pub end_down : Bool
    pub letters : List ℕ
    pub walk : AreMoves n h targets v down t moves end end_down at letters
    pub at_target : end_down ≡ true → IsContracted h.order end
    pub told : (word : List ℕ) → collapse (m ∷ (letters ++ word)) ≡ collapse (m ∷ word)

  pub descend : (m : ℕ) → m < 3 → (hops : List Hop) (v : ℕ) (down : Bool) (t end : ℕ) → AreHops (HasEntry h.entries) v hops end → IsDescent (height_in h.order) v hops → letter_at n.roads v ≡ Some m
      → Contains targets end → (down ≡ true → IsContracted h.order v) → Descended m v down t end (t + total hops)
  descend m road [] v down t end walk falls mode at_end low = record {
    moves = [];
    end_down = down;
    letters = [];
    walk = (walk, refl, (omega arith), refl);
    at_target = λ is. subst (IsContracted h.order) (sym walk) (low is);
    told = λ word. refl;
  }
  descend m road (hop ∷ hops) v down t end (entry, walk) (lower, falls) mode at_end low =
      let most = height_most h.order v in
      let there : IsContracted h.order hop.to = omega arith in
      let more = descend m road hops hop.to true (t + hop.weight) end walk falls (same_mode v hop.to hop.weight m entry mode) at_end (λ is. there) in
      let marked : IsMarked h targets hop.to = record { end = end; hops = hops; ends_there = at_end; chain = walk; falls = falls } in
      let sum : (t + hop.weight) + total hops ≡ t + (hop.weight + total hops) = omega arith in
      record {
        moves = fall hop ∷ more.moves;
        end_down = more.end_down;
        letters = m ∷ more.letters;
        walk = (
          hop.to,
          true,
          t + hop.weight,
          Some m,
          more.letters,
          (entry, lower, marked, refl, refl, refl, sym mode),
          subst (λ s. AreMoves n h targets hop.to true (t + hop.weight) more.moves end more.end_down s more.letters) sum more.walk,
          refl,
        );
        at_target = more.at_target;
        told = λ word. again m (more.letters ++ word) road ∙ more.told word;
      }

  -- moves of a road part, which tells its mode
  pub record Parted (m v t end at : ℕ) : Type 0 where
    pub moves : List PhaseMove
    pub down : Bool
    pub letters : List ℕ
    pub walk : AreMoves n h targets v false t moves end down at letters
    pub at_target : down ≡ true → IsContracted h.order end
    pub once : (word : List ℕ) → collapse (letters ++ word) ≡ collapse (m ∷ word)

  -- a move up or along the core, and then a part
  risen : (m : ℕ) → m < 3 → (v t : ℕ) (hop : Hop) (end at : ℕ) → letter_at n.roads v ≡ Some m → HasEntry h.entries v hop.to hop.weight
      → (height_in h.order v < height_in h.order hop.to) ⊎ (IsCore h.order v × IsCore h.order hop.to) → Parted m hop.to (t + hop.weight) end at → Parted m v t end at
  risen m road v t hop end at mode entry up more = record {
    moves = rise hop ∷ more.moves;
    down = more.down;
    letters = m ∷ more.letters;
    walk = (hop.to, false, t + hop.weight, Some m, more.letters, (refl, entry, up, refl, refl, refl, sym mode), more.walk, refl);
    at_target = more.at_target;
    once = λ word. same_letter m (more.letters ++ word) (m ∷ word) (more.once word) ∙ again m word road;
  }

  -- the last part, which ends at a target
  pub last_part : (m : ℕ) → m < 3 → (hops : List Hop) (v t end : ℕ) → AreHops (HasEntry h.entries) v hops end → IsShaped (height_in h.order) (length h.order) v hops → letter_at n.roads v ≡ Some m
      → Contains targets end → Parted m v t end (t + total hops)
  last_part m road [] v t end walk shaped mode at_end = record {
    moves = stand ∷ [];
    down = false;
    letters = m ∷ [];
    walk = (v, false, t, Some m, [], (m, mode, refl, refl, refl, refl), (walk, refl, (omega arith), refl), refl);
    at_target = λ is. absurd cc;
    once = λ word. refl;
  }
  last_part m road (hop ∷ hops) v t end (entry, walk) shaped mode at_end =
      by_shape shaped (λ onward. last_part m road hops hop.to (t + hop.weight) end walk onward (same_mode v hop.to hop.weight m entry mode) at_end)
    where
      sum : (t + hop.weight) + total hops ≡ t + (hop.weight + total hops)
      sum = omega arith

      by_shape : ((height_in h.order v < height_in h.order hop.to) × IsShaped (height_in h.order) (length h.order) hop.to hops)
          ⊎ ((height_in h.order v ≡ length h.order) × (height_in h.order hop.to ≡ length h.order) × IsShaped (height_in h.order) (length h.order) hop.to hops)
          ⊎ IsDescent (height_in h.order) v (hop ∷ hops)
          → (IsShaped (height_in h.order) (length h.order) hop.to hops → Parted m hop.to (t + hop.weight) end ((t + hop.weight) + total hops))
          → Parted m v t end (t + (hop.weight + total hops))
      by_shape (inl (up, onward)) next = subst (Parted m v t end) sum (risen m road v t hop end ((t + hop.weight) + total hops) mode entry (inl up) (next onward))
      by_shape (inr (inl (here, there, onward))) next = subst (Parted m v t end) sum (risen m road v t hop end ((t + hop.weight) + total hops) mode entry (inr (here, there)) (next onward))
      by_shape (inr (inr falls)) next =
          let down = descend m road (hop ∷ hops) v false t end (entry, walk) falls mode at_end (λ is. absurd cc) in
          record {
            moves = stand ∷ down.moves;
            down = down.end_down;
            letters = m ∷ down.letters;
            walk = (v, false, t, Some m, down.letters, (m, mode, refl, refl, refl, refl), down.walk, refl);
            at_target = down.at_target;
            once = down.told;
          }

  -- a descent ends lower than it starts
  ends_lower : (hop : Hop) (hops : List Hop) (v end : ℕ) → AreHops (HasEntry h.entries) v (hop ∷ hops) end → IsDescent (height_in h.order) v (hop ∷ hops) → height_in h.order end < height_in h.order v
  ends_lower hop [] v end (entry, walk) (lower, falls) = subst (λ x. height_in h.order x < height_in h.order v) (sym walk) lower
  ends_lower hop (next ∷ hops) v end (entry, walk) (lower, falls) = let onward = ends_lower next hops hop.to end walk falls in omega arith

  -- moves of a part that ends in the core
  pub record Crossed (m v t end at : ℕ) : Type 0 where
    pub moves : List PhaseMove
    pub letters : List ℕ
    pub walk : AreMoves n h targets v false t moves end false at letters
    pub once : (word : List ℕ) → collapse (letters ++ word) ≡ collapse (m ∷ word)

  risen_on : (m : ℕ) → m < 3 → (v t : ℕ) (hop : Hop) (end at : ℕ) → letter_at n.roads v ≡ Some m → HasEntry h.entries v hop.to hop.weight
      → (height_in h.order v < height_in h.order hop.to) ⊎ (IsCore h.order v × IsCore h.order hop.to) → Crossed m hop.to (t + hop.weight) end at → Crossed m v t end at
  risen_on m road v t hop end at mode entry up more = record {
    moves = rise hop ∷ more.moves;
    letters = m ∷ more.letters;
    walk = (hop.to, false, t + hop.weight, Some m, more.letters, (refl, entry, up, refl, refl, refl, sym mode), more.walk, refl);
    once = λ word. same_letter m (more.letters ++ word) (m ∷ word) (more.once word) ∙ again m word road;
  }

  pub core_part : (m : ℕ) → m < 3 → (hops : List Hop) (v t end : ℕ) → AreHops (HasEntry h.entries) v hops end → IsShaped (height_in h.order) (length h.order) v hops → letter_at n.roads v ≡ Some m
      → IsCore h.order end → Crossed m v t end (t + total hops)
  core_part m road [] v t end walk shaped mode core = record {
    moves = stand ∷ [];
    letters = m ∷ [];
    walk = (v, false, t, Some m, [], (m, mode, refl, refl, refl, refl), (walk, refl, (omega arith), refl), refl);
    once = λ word. refl;
  }
  core_part m road (hop ∷ hops) v t end (entry, walk) shaped mode core =
      by_shape shaped (λ onward. core_part m road hops hop.to (t + hop.weight) end walk onward (same_mode v hop.to hop.weight m entry mode) core)
    where
      sum : (t + hop.weight) + total hops ≡ t + (hop.weight + total hops)
      sum = omega arith

      by_shape : ((height_in h.order v < height_in h.order hop.to) × IsShaped (height_in h.order) (length h.order) hop.to hops)
          ⊎ ((height_in h.order v ≡ length h.order) × (height_in h.order hop.to ≡ length h.order) × IsShaped (height_in h.order) (length h.order) hop.to hops)
          ⊎ IsDescent (height_in h.order) v (hop ∷ hops)
          → (IsShaped (height_in h.order) (length h.order) hop.to hops → Crossed m hop.to (t + hop.weight) end ((t + hop.weight) + total hops))
          → Crossed m v t end (t + (hop.weight + total hops))
      by_shape (inl (up, onward)) next = subst (Crossed m v t end) sum (risen_on m road v t hop end ((t + hop.weight) + total hops) mode entry (inl up) (next onward))
      by_shape (inr (inl (here, there, onward))) next = subst (Crossed m v t end) sum (risen_on m road v t hop end ((t + hop.weight) + total hops) mode entry (inr (here, there)) (next onward))
      by_shape (inr (inr falls)) next =
          let most = height_most h.order v in
          let low = ends_lower hop hops v end (entry, walk) falls in
          absurd (omega arith)
