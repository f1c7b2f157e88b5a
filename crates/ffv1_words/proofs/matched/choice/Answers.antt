use Rattle.std.proofs.Common.{refl}
use Rattle.ffv1_words.proofs.matched.choice.Goals as goal

pub returns-in_err-coder-clause-none : goal.returns-in_err-coder-clause-none
returns-in_err-coder-clause-none c = λ _ x named. c.in_err-coder.ensures.none refl x.coder
    named.coder

pub returns-in_err-columns-clause-none : goal.returns-in_err-columns-clause-none
returns-in_err-columns-clause-none c = λ _ x named. c.in_err-columns.ensures.none refl x.columns
    named.columns

pub returns-in_err-rows-clause-none : goal.returns-in_err-rows-clause-none
returns-in_err-rows-clause-none c = λ _ x named. c.in_err-rows.ensures.none refl x.rows
    named.slice_rows

pub returns-in_err-ec-clause-none : goal.returns-in_err-ec-clause-none
returns-in_err-ec-clause-none c = λ _ x named. c.in_err-ec.ensures.none refl x.ec named.ec

pub returns-in_err-rate-clause-none : goal.returns-in_err-rate-clause-none
returns-in_err-rate-clause-none c = λ _ x named. c.in_err-rate.ensures.none refl x.rate named.rate

pub returns-in_err-scale-clause-none : goal.returns-in_err-scale-clause-none
returns-in_err-scale-clause-none c = λ _ x named. c.in_err-scale.ensures.none refl x.scale
    named.scale

pub returns-in_err-verify-clause-none : goal.returns-in_err-verify-clause-none
returns-in_err-verify-clause-none c = λ _ x named. c.in_err-verify.ensures.none refl x.verify
    named.verify

pub returns-in_err-codec_id-clause-none : goal.returns-in_err-codec_id-clause-none
returns-in_err-codec_id-clause-none c = λ _ x named. c.in_err-codec_id.ensures.none refl x.codec_id
    named.codec_id

pub returns-in_err-colour-clause-none : goal.returns-in_err-colour-clause-none
returns-in_err-colour-clause-none c = λ _ x named. c.in_err-colour.ensures.none refl x.colour
    named.colour
