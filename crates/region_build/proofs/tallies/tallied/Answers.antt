use Rattle.plan_base.proofs.Common.{◌≡◌, ◌-◌, ◌<◌, ◌≤◌, ◌++◌, [], ◌∷◌, List, map, length, get_or, take, drop, refl, sym, ap, ◌∙◌, arith, append_assoc, subst, AllByRecursion, append-nil}
use Rattle.region_build.specs.{SourceLists, lists_of, IsTally, Source, Tally}
use Rattle.region_build.proofs.SourceLaws.{first_and_rest}
use Rattle.region_build.proofs.tallies.tallied.Goals as goal

abbrev AllLast : List Source → Type 0
AllLast sources = AllByRecursion (λ source. AllByRecursion (λ row. 1 ≤ row.headway) source.frequencies.now) sources

later : (rest : List Source) → 1 ≤ length rest → AllLast rest → AllLast (take (length rest - 1) (drop 1 rest))
later [] some last = absurd (omega arith)
later (source ∷ rest) some last = (subst AllLast (first_and_rest (source ∷ rest) source some) last).1

-- it goes to those before
moved : (rest : List Source) (d : Source) (before all : List SourceLists) (more : Tally) → 1 ≤ length rest → before ++ map lists_of rest ≡ all → IsTally (before ++ lists_of (get_or rest 0 d) ∷ []) more
    → (x : List SourceLists) × (x ++ map lists_of (take (length rest - 1) (drop 1 rest)) ≡ all) × IsTally x more
moved rest d before all more some so_far is = (
  before ++ lists_of (get_or rest 0 d) ∷ [],
  append_assoc before (lists_of (get_or rest 0 d) ∷ []) (map lists_of (take (length rest - 1) (drop 1 rest))) ∙ ap (λ rest. before ++ map lists_of rest) (sym (first_and_rest rest d some)) ∙ so_far,
  is,
)

told : (before all : List SourceLists) (rest : List Source) (tally : Tally) → length rest < 1 → before ++ map lists_of rest ≡ all → IsTally before tally → IsTally all tally
told before all [] tally none so_far is = subst (λ sources. IsTally sources tally) (sym (append-nil before) ∙ so_far) is
told before all (source ∷ rest) tally none so_far is = absurd (omega arith)

pub loop-rest-init : goal.loop-rest-init
loop-rest-init c = record {
  last = c.requires;
  so_far = ([], refl, record { trips = refl; calls = refl; back = refl; left = record { short = refl; idle = refl; inexact = refl; late = refl } });
}

pub loop-rest-preserved : goal.loop-rest-preserved
loop-rest-preserved c =
    let rest = c.loop-rest.rest.now in
    let so_far = c.loop-rest.invariant.so_far in
    record {
      last = later rest c.in-len1-up.len_at_least c.loop-rest.invariant.last;
      so_far = moved rest _ so_far.0 (map lists_of c.args.sources.now) c.in_ok-tally.tally c.in-len1-up.len_at_least so_far.1 (c.in_ok-tally.ensures so_far.0 so_far.2);
    }

pub returns : goal.returns
returns c =
    told c.loop-rest.invariant.so_far.0 (map lists_of c.args.sources.now) c.loop-rest.rest.now c.loop-rest.tally c.in_default.len_below c.loop-rest.invariant.so_far.1 c.loop-rest.invariant.so_far.2
