-- What is written of a checked configuration is read in its profile as that one, unless memory is
-- refused.
use Rattle.std.proofs.Common.{◌≡◌, ◌≤◌, ℕ, ap, subst, ◌∙◌, arith}
use Rattle.ffv1_range.specs.Table.{Table}
use Rattle.ffv1_record.specs.declared.config.Profile.{Profile}
use Rattle.ffv1_record.specs.declared.config.Profile.TheVariants as profile
use Rattle.ffv1_record.specs.Configuration.{Configuration}
use Rattle.ffv1_record.specs.Accepted.{Accepted, IsAccepted, deepest}
use Rattle.ffv1_codec_tests.proofs.tests.record.stored.written_and_read_back.Goals as goal

-- a depth of a profile is no greater than itself in that profile
own_depth : (p : Profile) (n : ℕ) → n ≤ deepest p 16 → n ≤ deepest p n
own_depth profile.Strict n few = few
own_depth profile.Wide n few = omega arith

triple : Configuration → Table → Profile → Accepted
triple c t p = record { configuration = c; table = t; profile = p }

same : (a b : Accepted) → a.configuration ≡ b.configuration → a.table ≡ b.table → a.profile ≡
    b.profile → a ≡ b
unfolding triple
same a b e f p = ap (λ c. triple c a.table a.profile) e ∙
    ap (λ t. triple b.configuration t a.profile) f ∙ ap (triple b.configuration b.table) p

pub returns-in-Ok-clause-same : goal.returns-in-Ok-clause-same
returns-in-Ok-clause-same c =
    let x = c.args.checked.now.configuration in
    let low : x.depth ≤ deepest c.profile.result c.depth.result =
    rw (← c.depth.ensures.value, c.profile.ensures.value)
    (own_depth c.args.checked.now.profile c.depth.result c.depth.ensures.profile) in
    let read : c.in-Ok.again.configuration ≡ x = c.in-Ok.ensures.only x c.args.checked.now.table
    (ap (λ (z : Configuration). z.width) c.config.ensures.value)
    (ap (λ (z : Configuration). z.height) c.config-2.ensures.value) low
    c.config.ensures.accepted c.profile.ensures.passes
    (rw c.deref.ensures.value c.in_ok-record.ensures.stored) in
    let table = c.record_has_one_configuration.ensures.table x c.in-Ok.again.table
    c.args.checked.now.table (subst (λ z. IsAccepted z c.in-Ok.again.table) read
    c.in-Ok.ensures.accepted) c.config.ensures.accepted in
    same c.in-Ok.again c.args.checked.now read table (c.in-Ok.ensures.profile ∙ c.profile.ensures.value)

pub returns-clause-memory : goal.returns-clause-memory
returns-clause-memory c =
    let x = c.args.checked.now.configuration in
    let low : x.depth ≤ deepest c.profile.result c.depth.result =
    rw (← c.depth.ensures.value, c.profile.ensures.value)
    (own_depth c.args.checked.now.profile c.depth.result c.depth.ensures.profile) in
    c.in-Err.ensures.only x c.args.checked.now.table
    (ap (λ (z : Configuration). z.width) c.config.ensures.value)
    (ap (λ (z : Configuration). z.height) c.config-2.ensures.value) low
    c.config.ensures.accepted c.profile.ensures.passes
    (rw c.deref.ensures.value c.in_ok-record.ensures.stored)
