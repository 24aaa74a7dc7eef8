use Rattle.plan_base.proofs.Common.{◌≡◌, ℕ, List, ◌∙◌, sym, subst, refl, arith, option_map}
use Rattle.planning.specs.{IsSettledCount, Settled.Settled}
use Rattle.sample_command.specs.{lines_before, query_line, AreTimes, IsTravelTime}
use Rattle.sample_command.proofs.TimeLaws.{no_lines, lines_more, times_more, settled_more, total_more, time_below}
use Rattle.sample_command.proofs.times.times_of.Goals as goal

pub loop-k-init : goal.loop-k-init
loop-k-init c =
    let n = c.args.network.now in
    let h = option_map (λ h. h.now) c.args.hierarchy in
    let none = sym (no_lines c.args.n) in
    record {
      times = subst (λ lines. AreTimes n lines c.new-times.result.items) none (rw c.new-times.ensures.items tt);
      below = rw c.new-times.ensures.items (omega arith);
      settled = subst (λ lines. Settled n h lines 0) none refl;
      small = omega arith;
    }

pub loop-k-preserved : goal.loop-k-preserved
loop-k-preserved c =
    let n = c.args.network.now in
    let h = option_map (λ h. h.now) c.args.hierarchy in
    let k = c.loop-k.k in
    let before = lines_before c.args.n k in
    let line = query_line c.args.n k in
    let now = c.loop-k.invariant in
    let time = c.in_ok-time.time in
    let at_line = c.deref.ensures.value ∙ c.in_ok-line.ensures in
    let is_time = subst (λ (l : List ℕ). IsTravelTime n l time) at_line c.in_ok-time.ensures.time in
    let is_count = subst (λ (l : List ℕ). IsSettledCount n h l c.in_ok-time.labels) at_line c.in_ok-time.ensures.settled in
    let pushed = c.in_ok-push.ensures.items in
    record {
      times = rw (lines_more c.args.n k, pushed) (times_more n before c.loop-k.times.items line time now.times is_time);
      below = rw pushed (omega (arith, now.below, total_more c.loop-k.times.items time, time_below time c.in_ok-time.ensures.below));
      settled = rw (lines_more c.args.n k, c.from-settled.ensures) (settled_more n h before c.loop-k.settled line c.in_ok-time.labels now.settled is_count);
      small = omega (arith, now.small);
    }

pub returns-clause-settled : goal.returns-clause-settled
returns-clause-settled c =
    let h = option_map (λ h. h.now) c.args.hierarchy in
    let all : c.loop-k.k ≡ 50 = omega arith in
    subst (λ k. Settled c.args.network.now h (lines_before c.args.n k) c.loop-k.settled) all c.loop-k.invariant.settled
