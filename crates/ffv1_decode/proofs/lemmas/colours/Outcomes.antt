-- What is known of an answer in parts, as one statement of it.
use Rattle.std.specs.Prelude.{Result, Ok, Err, IfOk, IfErr, MatchResult}

pub both_outcomes : {T E : Type 0} (r : Result T E) {P P' : T → Type 0} {Q R Q' : E → Type 0} → IfOk r P → IfErr r Q → IfErr r R → ((x : T) → P x → P' x) → ((e : E) → Q e → R e → Q' e) → MatchResult r P' Q'
both_outcomes (Ok x) p q r f g = f x p
both_outcomes (Err e) p q r f g = g e q r

pub ok_both : {T E : Type 0} (r : Result T E) {P Q R : T → Type 0} → IfOk r P → IfOk r Q → ((x : T) → P x → Q x → R x) → IfOk r R
ok_both (Ok x) p q f = f x p q
ok_both (Err e) p q f = tt

pub err_all : {T E : Type 0} (r : Result T E) {P Q R S : E → Type 0} → IfErr r P → IfErr r Q → IfErr r R → ((e : E) → P e → Q e → R e → S e) → IfErr r S
err_all (Ok x) p q s f = tt
err_all (Err e) p q s f = f e p q s
