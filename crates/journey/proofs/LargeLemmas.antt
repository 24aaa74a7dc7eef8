-- The places of a query line's expression are so many and no other number.
use Rattle.plan_base.proofs.Common.{◌≡◌, ◌≢◌, ◌∙◌, inl, inr, ℕ, ◌^◌, ◌<◌, ◌≤◌, min, List, Option, Some, None, Ok, Err, sym, ap, subst, arith}
use Rattle.mode_expression.specs.{IsUsable, places}
use Rattle.mode_network.specs.NetworkLists.{NetworkLists}
use Rattle.journey.specs.{Asked, Asks, IsLarge, IsSmall, IsRefusal, IsRefused, QueryFault, OutOfMemory}
use Rattle.journey.proofs.ReadingLemmas.{reading_is_unique}

-- a line that asks with as many places as another, which is small, is small
pub same_size : (n : NetworkLists) (most : Option ℕ) (line other : List ℕ) (p q : Asked) → Asks n line p → Asks n other q → q.form ≡ p.form → IsSmall n most line → IsSmall n most other
same_size n None line other p q asks asks_other same small = λ count large. large
same_size n (Some most) line other p q asks asks_other same small = λ count (r, asks_r, count_is, more).
    let one = reading_is_unique n other (Ok r) (Ok q) asks_r asks_other in
    let form : r.form ≡ p.form = cc in
    small count (p, asks, count_is ∙ ap places form, more)

module _ (n : NetworkLists) (line : List ℕ) where
  -- a line that is refused is small
  pub refused_small : (most : Option ℕ) (fault : QueryFault) → IsRefused n line fault → IsSmall n most line
  refused_small None fault refused = λ count large. large
  refused_small (Some most) fault refused = λ count (r, asks, count_is, more). let one = reading_is_unique n line (Ok r) (Err fault) asks refused in cc

  -- and so is one that was not read, but not for want of memory
  pub unread_small : (most : Option ℕ) (fault : QueryFault) → IsRefusal n line fault → fault ≢ OutOfMemory → IsSmall n most line
  unread_small most fault (inl lost) other = absurd (other lost)
  unread_small most fault (inr refused) other = refused_small most fault refused

  -- a query is large or small by its places
  module _ (asked : Asked) (asks : Asks n line asked) (usable : IsUsable asked.form) (count : ℕ) (counted : count ≡ min (places asked.form) (2 ^ 32)) where
    same_count : count ≡ places asked.form
    same_count = let small = usable.small in grind (arith, counted, small)

    pub is_large : (most : Option ℕ) (number : ℕ) → most ≡ Some number → number < count → IsLarge n most line count
    is_large most number is more = subst (λ (o : Option ℕ). IsLarge n o line count) (sym is) (asked, asks, same_count, more)

    pub is_small : (most : Option ℕ) (number : ℕ) → most ≡ Some number → count ≤ number → IsSmall n most line
    is_small most number is few = subst (λ (o : Option ℕ). IsSmall n o line) (sym is) (λ other (r, asks_r, count_is, more).
        let one = reading_is_unique n line (Ok r) (Ok asked) asks_r asks in
        let form : places r.form ≡ places asked.form = cc in
        let count_so = same_count in
        omega (arith, few, count_is, more, form, count_so))
