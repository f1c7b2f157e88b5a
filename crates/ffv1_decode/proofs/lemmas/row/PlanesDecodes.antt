-- The planes of a row are decoded one after the other, or for RCT together: their run.
use Rattle.std.proofs.Common.{◌≡◌, refl, ℕ, suc, ◌+◌, ◌<◌, Bool, true, false, if◌then◌else◌, List, [], ◌∷◌, ◌++◌, map, ap, sym, subst, ◌∙◌, arith, append-nil}
use Rattle.std.specs.List.{flat_map, range_with_len}
use Rattle.ffv1_wire.specs.Runs.{LineStep}
use Rattle.ffv1_record.specs.Configuration.{Configuration, is_rct}
use Rattle.ffv1_record.specs.Accepted.{Accepted}
use Rattle.ffv1_decode.specs.declared.column.Column.{Column}
use Rattle.ffv1_frame.specs.declared.fault.FrameFault.{FrameFault}
use Rattle.ffv1_frame.specs.Picture.{plane_count}
use Rattle.ffv1_frame.specs.Runs.{Runs}
use Rattle.ffv1_frame.specs.Order.{Event, Series, series_of, series_events, lines_down}
use Rattle.ffv1_frame.specs.Decoding.{State, StepsBy}
use Rattle.ffv1_decode.specs.Internal.Progress.{Decoded, PlanesKept, SeriesDecoded, FailsIn, series_at}
use Rattle.ffv1_decode.specs.Internal.Shared.{AreLast}
use Rattle.ffv1_decode.proofs.lemmas.Ranges.{joined_more, rest_of}
use Rattle.ffv1_decode.proofs.lemmas.RunsInRow.{runs_append}
use Rattle.ffv1_decode.proofs.lemmas.row.SeriesDecodes.{fails_sooner, fails_later}

joined_map : {A B C : Type 0} (f : B → List C) (g : A → B) (xs : List A) → flat_map f (map g xs) ≡ flat_map (λ x. f (g x)) xs
joined_map f g [] = refl
joined_map f g (x ∷ xs) = ap (λ z. f (g x) ++ z) (joined_map f g xs)

abbrev pub all_series : Configuration → ℕ → List Event
all_series c r = flat_map (series_events c r) (series_of c r)

abbrev pub one_series : Configuration → ℕ → ℕ → List Event
one_series c r p = series_events c r (series_at c r p 1)

pub series_together : (c : Configuration) (r : ℕ) → is_rct c.colour ≡ true → all_series c r ≡ series_events c r (series_at c r 0 (plane_count c))
series_together c r e =
    let f : Bool → List Event = λ b. flat_map (series_events c r) (if b then record { planes = range_with_len 0 (plane_count c); height = lines_down c 0 r } ∷ []
    else map (λ p. record { planes = p ∷ []; height = lines_down c p r }) (range_with_len 0 (plane_count c))) in
    ap f e ∙ append-nil (series_events c r (series_at c r 0 (plane_count c)))

pub series_apart : (c : Configuration) (r : ℕ) → is_rct c.colour ≡ false → all_series c r ≡ flat_map (one_series c r) (range_with_len 0 (plane_count c))
series_apart c r e =
    let f : Bool → List Event = λ b. flat_map (series_events c r) (if b then record { planes = range_with_len 0 (plane_count c); height = lines_down c 0 r } ∷ []
    else map (λ p. record { planes = p ∷ []; height = lines_down c p r }) (range_with_len 0 (plane_count c))) in
    let g : ℕ → Series = λ p. record { planes = p ∷ []; height = lines_down c p r } in
    ap f e ∙ joined_map (series_events c r) g (range_with_len 0 (plane_count c))

module _ {S : Type 0} (takes refuses : LineStep S) (a : Accepted) (coded : ℕ → List ℕ) (initial : S) (r : ℕ) (payload : List ℕ) (s : State) where
  pub together_decoded : (columns : List Column) (states : List ℕ) (now : S) → is_rct a.configuration.colour ≡ true → SeriesDecoded takes refuses a coded initial r payload 0 (plane_count a.configuration) columns states now s →
      Decoded takes refuses a coded initial r (plane_count a.configuration) payload (all_series a.configuration r) columns states now s
  together_decoded columns states now e made =
      let zero_is : 0 + plane_count a.configuration ≡ plane_count a.configuration = omega arith in
      subst (λ n. Decoded takes refuses a coded initial r n payload (all_series a.configuration r) columns states now s) zero_is
      (subst (λ es. Decoded takes refuses a coded initial r (0 + plane_count a.configuration) payload es columns states now s) (sym (series_together a.configuration r e)) made)

  pub together_fails : (columns : List Column) (f : FrameFault) (now : S) → is_rct a.configuration.colour ≡ true →
      FailsIn takes refuses a coded initial r columns (series_events a.configuration r (series_at a.configuration r 0 (plane_count a.configuration))) f now s → FailsIn takes refuses a coded initial r columns (all_series a.configuration r) f now s
  together_fails columns f now e fails = subst (λ es. FailsIn takes refuses a coded initial r columns es f now s) (sym (series_together a.configuration r e)) fails

  abbrev upto : ℕ → List Event
  upto p = flat_map (one_series a.configuration r) (range_with_len 0 p)

  module _ (p : ℕ) (columns : List Column) (states : List ℕ) (now : S) (before : Decoded takes refuses a coded initial r p payload (upto p) columns states now s) where
    pub plane_decoded : (after : List Column) (new : List ℕ) (later : S) → SeriesDecoded takes refuses a coded initial r payload p 1 after new later before.state →
        Decoded takes refuses a coded initial r (p + 1) payload (upto (p + 1)) after new later s
    plane_decoded after new later made =
        let zero_is : 0 + p ≡ p = omega arith in
        let next : suc p ≡ p + 1 = omega arith in
        let events : upto (p + 1) ≡ upto p ++ one_series a.configuration r p =
        ap upto (sym next) ∙ joined_more (one_series a.configuration r) 0 p ∙ ap (λ k. upto p ++ one_series a.configuration r k) zero_is in
        record {
          state = made.state;
          runs = subst (λ es. Runs (StepsBy a coded) s es made.state) (sym events) (runs_append (StepsBy a coded) s before.state made.state (upto p) (one_series a.configuration r p) before.runs made.runs);
          columns_are = made.columns_are;
          kept = record { info = made.kept.info ∙ before.kept.info; done = made.kept.done ∙ before.kept.done };
          grows = made.grows;
        }

    pub plane_fails : (after : List Column) (f : FrameFault) (later : S) → is_rct a.configuration.colour ≡ false → p < plane_count a.configuration → FailsIn takes refuses a coded initial r after (one_series a.configuration r p) f later before.state →
        FailsIn takes refuses a coded initial r after (all_series a.configuration r) f later s
    plane_fails after f later e less fails =
        let left = rest_of (one_series a.configuration r) p (plane_count a.configuration) less in
        let sooner = fails_sooner takes refuses a coded initial r after f later before.state (one_series a.configuration r p) left.rest fails in
        let all = fails_later takes refuses a coded initial r after f later s before.state (upto p) (one_series a.configuration r p ++ left.rest) before.runs before.kept.done sooner in
        subst (λ es. FailsIn takes refuses a coded initial r after es f later s) (sym (series_apart a.configuration r e ∙ left.is)) all

    pub planes_decoded : is_rct a.configuration.colour ≡ false → p ≡ plane_count a.configuration → Decoded takes refuses a coded initial r (plane_count a.configuration) payload (all_series a.configuration r) columns states now s
    planes_decoded e all =
        let one = subst (λ n. Decoded takes refuses a coded initial r n payload (upto n) columns states now s) all before in
        subst (λ es. Decoded takes refuses a coded initial r (plane_count a.configuration) payload es columns states now s) (sym (series_apart a.configuration r e)) one

    -- with what is kept of their last lines
    pub plane_kept : (after : List Column) (new kept : List ℕ) (later : S) → (made : SeriesDecoded takes refuses a coded initial r payload p 1 after new later before.state) → AreLast a.configuration r (p + 1) kept made.state →
        PlanesKept takes refuses a coded initial r (p + 1) payload (upto (p + 1)) after new kept later s
    unfolding plane_decoded
    plane_kept after new kept later made last = record { decoded = plane_decoded after new later made; last = last }

  pub planes_kept : (p : ℕ) (columns : List Column) (states kept : List ℕ) (now : S) → PlanesKept takes refuses a coded initial r p payload (upto p) columns states kept now s → is_rct a.configuration.colour ≡ false → p ≡ plane_count a.configuration →
      PlanesKept takes refuses a coded initial r (plane_count a.configuration) payload (all_series a.configuration r) columns states kept now s
  planes_kept p columns states kept now before e all =
      let one = subst (λ n. PlanesKept takes refuses a coded initial r n payload (upto n) columns states kept now s) all before in
      subst (λ es. PlanesKept takes refuses a coded initial r (plane_count a.configuration) payload es columns states kept now s) (sym (series_apart a.configuration r e)) one
