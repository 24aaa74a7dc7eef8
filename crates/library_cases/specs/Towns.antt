-- A graph and an automaton that are drawn from a number: each arc runs at the multiples of some period, up to some last time.
use Rattle.std.specs.Prelude.{◌≡◌, ℕ, ◌+◌, ◌*◌, ◌/◌, ◌%◌, ◌^◌, ◌<◌, ◌≤◌, ◌-◌, Bool, true, false, cond, Some, None, nat_lt, ◌==◌, ◌||◌, refl, Option, IfSome}
use Rattle.std.proofs.Common.{sym, ◌∙◌, ap, subst, arith}
use Rattle.std.proofs.lemmas.Bool.{ltb-true, lt-ltb}
use Rattle.std.proofs.lemmas.Nat.{le-div, div-add-mod'}
use Rattle.std.proofs.Math.Nat.{div-mul-le_self, mul-le-mul_right, mod-lt}
use Rattle.search_laws.specs.{IsLetter, GraphMeaning, IsLawfulGraph, LabelsMeaning, IsLawfulLabels}

abbrev pub square : ℕ → ℕ
square x = x * x

abbrev pub drawn : ℕ → ℕ → ℕ → ℕ → ℕ → ℕ
drawn seed v i salt below = square ((seed * 271 + v * 97 + i * 31 + salt * 7 + 1) % 1009) % 1013 % below

abbrev pub letter_drawn : ℕ → Option ℕ
letter_drawn n = cond (n == 0) None (Some n)

-- the next multiple of the period, and the ride after it, if that is not past the last time
abbrev pub timetabled : ℕ → ℕ → ℕ → ℕ → Option ℕ
timetabled every last ms t = cond (nat_lt last t) None (Some ((t + (every - 1)) / every * every + ms))

abbrev pub town : ℕ → ℕ → GraphMeaning
town seed nodes = record {
  nodes = nodes;
  arcs = λ v. 3;
  arc_at = λ v i. record { to = drawn seed v i 1 nodes; letter = letter_drawn (drawn seed v i 2 4) };
  arrive = λ v i t. timetabled (drawn seed v i 3 7 + 1) (drawn seed v i 4 40) (drawn seed v i 5 6) t;
}

abbrev pub rules : ℕ → ℕ → LabelsMeaning
rules seed states = record {
  states = states;
  is_start = λ q. (q == 0) || (drawn seed q 0 6 3 == 0);
  moves = λ q. 2;
  move_at = λ q j. record { letters = 2 * drawn seed q j 7 8; to = drawn seed q j 8 states };
  accepts = λ q. drawn seed q 0 9 2 == 0;
}

drawn_below : (seed v i salt below : ℕ) → 0 < below → drawn seed v i salt below < below
drawn_below seed v i salt below some = mod-lt (square ((seed * 271 + v * 97 + i * 31 + salt * 7 + 1) % 1009) % 1013) some

-- ---- the next multiple

next : ℕ → ℕ → ℕ
next every t = (t + (every - 1)) / every * every

next_late : (every t : ℕ) → 0 < every → t ≤ next every t
unfolding next
next_late every t some = omega (arith, div-add-mod' (t + (every - 1)) every, mod-lt (t + (every - 1)) some)

next_early : (every t : ℕ) → 0 < every → next every t ≤ t + (every - 1)
unfolding next
next_early every t some = div-mul-le_self (t + (every - 1)) every

next_rises : (every s t : ℕ) → 0 < every → s ≤ t → next every s ≤ next every t
unfolding next
next_rises every s t some le = mul-le-mul_right every
    (le-div ((s + (every - 1)) / every) (t + (every - 1)) every some (omega (arith, div-mul-le_self (s + (every - 1)) every)))

timed_parts : (every last ms t u : ℕ) → timetabled every last ms t ≡ Some u → (nat_lt last t ≡ false) × (u ≡ next every t + ms)
unfolding next
timed_parts every last ms t u is = go (nat_lt last t) refl where
  go : (b : Bool) → nat_lt last t ≡ b → (nat_lt last t ≡ false) × (u ≡ (t + (every - 1)) / every * every + ms)
  go true e = (let h : None ≡ Some u = sym (ap (λ b. cond b None (Some ((t + (every - 1)) / every * every + ms))) e) ∙ is in cc)
  go false e = (let h : Some ((t + (every - 1)) / every * every + ms) ≡ Some u = sym (ap (λ b. cond b None (Some ((t + (every - 1)) / every * every + ms))) e) ∙ is in
      let same : u ≡ (t + (every - 1)) / every * every + ms = cc in (e, same))

timed_none : (every last ms s t : ℕ) → s ≤ t → timetabled every last ms s ≡ None → timetabled every last ms t ≡ None
timed_none every last ms s t le none = go (nat_lt last s) refl where
  go : (b : Bool) → nat_lt last s ≡ b → timetabled every last ms t ≡ None
  go true e = ap (λ b. cond b None (Some ((t + (every - 1)) / every * every + ms))) (lt-ltb last t (omega (arith, ltb-true last s e)))
  go false e = (let h : None ≡ Some ((s + (every - 1)) / every * every + ms) = sym none ∙ ap (λ b. cond b None (Some ((s + (every - 1)) / every * every + ms))) e in cc)

letter_small : (n : ℕ) → n < 4 → IfSome (letter_drawn n) IsLetter
letter_small n lt = go (n == 0) refl where
  go : (b : Bool) → (n == 0) ≡ b → IfSome (cond (n == 0) None (Some n)) IsLetter
  go true e = subst (λ b. IfSome (cond b None (Some n)) IsLetter) (sym e) tt
  go false e = subst (λ b. IfSome (cond b None (Some n)) IsLetter) (sym e) (omega arith)

-- ---- the laws

pub town_lawful : (seed nodes : ℕ) → 0 < nodes → nodes ≤ 2 ^ 25 → IsLawfulGraph (town seed nodes)
town_lawful seed nodes some few = record {
  few_nodes = few;
  to_in_range = λ v i has. drawn_below seed v i 1 nodes some;
  letter_in_range = λ v i has. letter_small (drawn seed v i 2 4) (drawn_below seed v i 2 4 (omega arith));
  not_before = λ v i t u has is.
      (let p = timed_parts (drawn seed v i 3 7 + 1) (drawn seed v i 4 40) (drawn seed v i 5 6) t u is in
      omega (arith, p.1, next_late (drawn seed v i 3 7 + 1) t (omega arith)));
  not_late = λ v i t u has is.
      (let p = timed_parts (drawn seed v i 3 7 + 1) (drawn seed v i 4 40) (drawn seed v i 5 6) t u is in
      omega (arith, p.1, next_early (drawn seed v i 3 7 + 1) t (omega arith), drawn_below seed v i 3 7 (omega arith), drawn_below seed v i 5 6 (omega arith)));
  rises = λ v i s t a b has le is also.
      (let p = timed_parts (drawn seed v i 3 7 + 1) (drawn seed v i 4 40) (drawn seed v i 5 6) s a is in
      let r = timed_parts (drawn seed v i 3 7 + 1) (drawn seed v i 4 40) (drawn seed v i 5 6) t b also in
      omega (arith, p.1, r.1, next_rises (drawn seed v i 3 7 + 1) s t (omega arith) le));
  stays_none = λ v i s t has le none. timed_none (drawn seed v i 3 7 + 1) (drawn seed v i 4 40) (drawn seed v i 5 6) s t le none;
}

pub rules_lawful : (seed states : ℕ) → 0 < states → states ≤ 2 ^ 16 → IsLawfulLabels (rules seed states)
rules_lawful seed states some few = record {
  few_states = few;
  few_moves = λ q lt. omega arith;
  to_in_range = λ q i lt in_range. drawn_below seed q i 8 states some;
  letters_in_range = λ q i lt in_range. omega (arith, drawn_below seed q i 7 8 (omega arith));
}
