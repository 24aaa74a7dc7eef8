use Rattle.plan_base.proofs.Common.{arith, IfOk-weaker}
use Rattle.sample_command.specs.{sampled_queries}
use Rattle.sample_command.proofs.TimeLaws.{same_times}
use Rattle.sample_command.proofs.summary.summary_of.Goals as goal

pub text_of-requires : goal.text_of-requires
text_of-requires g c =
    let below = c.in_ok-plain.ensures.below in
    rw c.deref.ensures.value (omega arith)

pub returns : goal.returns
returns g c =
    let city = c.args.city.now in
    let plain = c.in_ok-plain.plain.items in
    let over = c.in_ok-over.over.items in
    IfOk-weaker c.text_of.result _ _ (λ text is. record {
      city = city;
      rules = c.known.ensures;
      is = c.requires.city;
      plain = plain;
      times = c.in_ok-plain.ensures.times;
      over = over;
      same = same_times city (sampled_queries c.args.n) over plain c.in_ok-over.ensures.times c.in_ok-plain.ensures.times;
      settled = c.in_ok-over.settled;
      labels = c.in_ok-over.ensures.labels;
      text = rw (← c.deref.ensures.value, ← c.deref-2.ensures.value) is;
    }) c.text_of.ensures
