-- What the command `sample` writes for one size, but how many labels its searches have.
use Rattle.plan_base.proofs.Common.{◌≡◌, ℕ, ◌-◌, ◌++◌, inl, inr, List, [], ◌∷◌, Option, Some, None, refl, sym, ap, ap₂, ◌∙◌, subst, arith}
use Rattle.mode_network.specs.{NetworkLists.NetworkLists, Route}
use Rattle.journey.specs.{Asked, IsBest}
use Rattle.sample_command.specs.{sampled_queries, AreTimes, IsTravelTime, city_text, times_text}
use Rattle.sample_city.proofs.KeepLaws.{city_keeps}
use Rattle.promises.specs.{SampleCityIsFaultless, SampleCityIsUnique, SummariesAreAlike}
use Rattle.promises.proofs.{CityLemmas.city_once, LineLemmas.same_asked, LineLemmas.not_both}

pub sample_city_is_unique : SampleCityIsUnique
sample_city_is_unique n one other rules also is too = city_once n one other rules also is too

pub sample_city_is_faultless : SampleCityIsFaultless
sample_city_is_faultless n caps city size full is = city_keeps n city size is caps full

module _ (n : NetworkLists) where
  -- best journeys arrive at one time
  best_once : (q : Asked) (j k : Route) (one : IsBest n q j) (other : IsBest n q k) → one.arrival ≡ other.arrival
  best_once q j k one other =
      let below = one.least k other.arrival other.answers in
      let above = other.least j one.arrival one.answers in
      omega arith

  -- and take one time
  time_once : (line : List ℕ) (a b : Option ℕ) → IsTravelTime n line a → IsTravelTime n line b → a ≡ b
  time_once line None None p q = refl
  time_once line (Some a) None p (inl (asked, asks, none)) =
      let same = same_asked n line p.asked asked p.asks asks in
      absurd (none p.journey _ (subst (λ (x : Asked). IsBest n x p.journey) same p.best).answers)
  time_once line (Some a) None p (inr (fault, refused)) = absurd (not_both n line p.asked fault p.asks refused)
  time_once line None (Some b) (inl (asked, asks, none)) q =
      let same = same_asked n line q.asked asked q.asks asks in
      absurd (none q.journey _ (subst (λ (x : Asked). IsBest n x q.journey) same q.best).answers)
  time_once line None (Some b) (inr (fault, refused)) q = absurd (not_both n line q.asked fault q.asks refused)
  time_once line (Some a) (Some b) p q = ap Some (p.ms_is ∙ took q.asked q.best (same_asked n line p.asked q.asked p.asks q.asks) ∙ sym q.ms_is)
    where
      took : (asked : Asked) (best : IsBest n asked q.journey) → p.asked ≡ asked → p.best.arrival - p.asked.depart ≡ best.arrival - asked.depart
      took asked best same =
          let moved = subst (λ (x : Asked). (b : IsBest n x q.journey) → p.best.arrival - p.asked.depart ≡ b.arrival - x.depart) same
          (λ b. ap (λ t. t - p.asked.depart) (best_once p.asked p.journey q.journey p.best b)) in
          moved best

  times_once : (lines : List (List ℕ)) (xs ys : List (Option ℕ)) → AreTimes n lines xs → AreTimes n lines ys → xs ≡ ys
  times_once [] [] [] p q = refl
  times_once [] (x ∷ xs) ys p q = absurd p
  times_once [] [] (y ∷ ys) p q = absurd q
  times_once (line ∷ lines) [] ys p q = absurd p
  times_once (line ∷ lines) (x ∷ xs) [] p q = absurd q
  times_once (line ∷ lines) (x ∷ xs) (y ∷ ys) (p, ps) (q, qs) = ap₂ (λ t ts. t ∷ ts) (time_once line x y p q) (times_once lines xs ys ps qs)

pub summaries_are_alike : SummariesAreAlike
summaries_are_alike n one other p q =
    let city = city_once n p.city q.city p.rules q.rules p.is q.is in
    let times = times_once q.city (sampled_queries n) p.plain q.plain (subst (λ (c : NetworkLists). AreTimes c (sampled_queries n) p.plain) city p.times) q.times in
    let first : one ≡ city_text n q.city ++ times_text q.plain q.plain p.settled =
    p.text ∙ ap (λ (c : NetworkLists). city_text n c ++ times_text p.plain p.over p.settled) city
    ∙ ap₂ (λ ts over. city_text n q.city ++ times_text ts over p.settled) times (p.same ∙ times) in
    let second : other ≡ city_text n q.city ++ times_text q.plain q.plain q.settled =
    q.text ∙ ap (λ over. city_text n q.city ++ times_text q.plain over q.settled) q.same in
    record { city = q.city; times = q.plain; settled = p.settled; also_settled = q.settled; one_is = first; other_is = second }
