-- What holds of an answer, whichever it is.
use Rattle.plan_base.proofs.Common.{Ok, Err, Result, IfOk, IfErr}

pub ok_more : {A E : Type 0} {P Q : A → Type 0} (r : Result A E) → ((a : A) → P a → Q a) → IfOk r P → IfOk r Q
ok_more (Ok a) more h = more a h
ok_more (Err e) more h = tt

pub err_more : {A E : Type 0} {P Q : E → Type 0} (r : Result A E) → ((e : E) → P e → Q e) → IfErr r P → IfErr r Q
err_more (Ok a) more h = tt
err_more (Err e) more h = more e h
