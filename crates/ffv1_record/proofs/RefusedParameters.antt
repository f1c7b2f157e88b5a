-- A reading of parameters that tells a fault has a first parameter that is not good.
use Rattle.std.proofs.Common.{◌≡◌, refl, ℕ, zero, suc, ◌+◌, ◌-◌, ◌*◌, ◌^◌, ◌<◌, ◌≤◌, inl, inr, Bool, true, false, not, IsTrue, IsFalse, ◌||◌, ◌==◌, List, [], ◌∷◌, ◌++◌, length, ap, sym, subst, ◌∙◌, arith, Ok, Err, replicate}
use Rattle.std.proofs.lemmas.List.{length-replicate}
use Rattle.std.proofs.lemmas.Bool.{true≢false, false≢true}
use Rattle.ffv1_range.specs.Symbols.{Step, shifted, too_long}
use Rattle.ffv1_range.specs.Weight.{one_if}
use Rattle.ffv1_plane.specs.Quantisation.{Set}
use Rattle.ffv1_record.specs.declared.fault.RecordFault.{RecordFault}
use Rattle.ffv1_record.specs.declared.fault.RecordFault.TheVariants as fault
use Rattle.ffv1_record.specs.declared.config.Coder.{Coder}
use Rattle.ffv1_record.specs.declared.config.Coder.TheVariants as coder
use Rattle.ffv1_record.specs.declared.config.Colour.TheVariants as colour
use Rattle.ffv1_record.specs.declared.planes.Planes.{Planes}
use Rattle.ffv1_record.specs.Configuration.{Configuration, is_rct}
use Rattle.ffv1_record.specs.Accepted.{is_depth, least_coder}
use Rattle.ffv1_record.specs.Sets.{AreSets}
use Rattle.ffv1_record.specs.Record.{IsCoded, body_of, number_steps, truth_steps, coder_steps, sets_steps, uncoded_steps, depth_of}
use Rattle.ffv1_record.specs.Reader.{Spot, behind, ◌>>=◌, done, require, number, truth, number_within}
use Rattle.ffv1_record.specs.declared.config.Profile.{Profile}
use Rattle.ffv1_record.specs.Reading.{IsRefused, colour_of, coder_of, opening, depth, planes, count_of, sets_onto, uncoded, tables, flag, parameters, beginning}
use Rattle.ffv1_record.specs.Order.{IsRefusedBy, Parameter, FirstBad, IsTooLong, IsBadNumber, IsBadSet, version, micro_version, coder_type, colorspace_type, bits_per_raw_sample, chroma_planes, log2_h_chroma_subsample, log2_v_chroma_subsample, extra_plane, num_h_slices, num_v_slices, quant_table_set_count, quant_table_sets, states_coded, ec, intra, in_order}
use Rattle.ffv1_record.proofs.ReadIsCoded.{bind_ok, coder_ok, done_ok, flag_ok, opening_ok, planes_ok, required_ok, sets_ok, uncoded_ok}
use Rattle.ffv1_record.proofs.RefusedSymbols.{not_done, bind_err, required_err, number_err, Value, number_value, Symbols, within_err, Good, within_value, truth_err, Truth, truth_value, coder_err, IsCoder, kind_good}
use Rattle.ffv1_record.proofs.RefusedTables.{sets_err, sets_value, uncoded_err}

module _ (b : List ℕ) where
  -- ---- a parameter in its place
  good_then : (p : Parameter) (ps : List Parameter) (past : List Step) (bits : ℕ) (c : Configuration) (f : RecordFault) (steps : List Step) (t : Spot) → p.steps bits c ≡ steps → t.past ≡ past ++ steps → p.IsGood bits c → FirstBad ps b t.past bits c f → FirstBad (p ∷ ps) b past bits c f
  good_then p ps past bits c f steps t is there good h = inr (good, subst (λ z. FirstBad ps b z bits c f) (there ∙ ap (λ z. past ++ z) (sym is)) h)

  bad_then : (p : Parameter) (ps : List Parameter) (past : List Step) (bits : ℕ) (c : Configuration) (f : RecordFault) (steps : List Step) → p.Fails c steps f → IsCoded b (past ++ steps) → FirstBad (p ∷ ps) b past bits c f
  bad_then p ps past bits c f steps fails coded = inl (steps, fails, coded)

  past_of : (s t : Spot) (steps : List Step) → t ≡ behind s steps → t.past ≡ s.past ++ steps
  past_of s t steps e = ap (λ (z : Spot). z.past) e

  -- of the first three parameters
  opening_err : (least : ℕ) (ps : List Parameter) (s : Spot) (f : RecordFault) (bits : ℕ) (c : Configuration) → opening least b s (Err f) → FirstBad (version ∷ micro_version ∷ coder_type least ∷ ps) b s.past bits c f
  opening_err least ps s f bits c h = elim (bind_err (number_within 0 3 3 fault.Version) _ b s f h) [
    | inr e ↦ let k = within_err b 0 3 3 fault.Version s f e in bad_then version (micro_version ∷ coder_type least ∷ ps) s.past bits c f k.0 k.1 k.2
    | inl e ↦
        let g = within_value b 0 3 3 fault.Version s e.0 e.1 e.2 in
        let low = g.low in
        let high = g.high in
        let three : e.0 ≡ 3 = omega (arith, low, high) in
        good_then version (micro_version ∷ coder_type least ∷ ps) s.past bits c f (number_steps 0 e.0) e.1 (ap (λ k. number_steps 0 k) (sym three)) (past_of s e.1 (number_steps 0 e.0) g.there) tt
        (elim (bind_err (number_within 0 4 4 fault.MicroVersion) _ b e.1 f e.3) [
          | inr d ↦ let k = within_err b 0 4 4 fault.MicroVersion e.1 f d in bad_then micro_version (coder_type least ∷ ps) e.1.past bits c f k.0 k.1 k.2
          | inl d ↦
              let i = within_value b 0 4 4 fault.MicroVersion e.1 d.0 d.1 d.2 in
              let low = i.low in
              let most = i.high in
              let four : d.0 ≡ 4 = omega (arith, low, most) in
              let k = coder_err b least d.1 f d.3 in
              good_then micro_version (coder_type least ∷ ps) e.1.past bits c f (number_steps 0 d.0) d.1 (ap (λ k. number_steps 0 k) (sym four)) (past_of e.1 d.1 (number_steps 0 d.0) i.there) tt (bad_then (coder_type least) ps d.1.past bits c f k.0 k.1 k.2)
        ])
  ]

  opening_then : (least : ℕ) (ps : List Parameter) (s : Spot) (k : Coder) (t : Spot) (f : RecordFault) (bits : ℕ) (c : Configuration) → opening least b s (Ok (k, t)) → c.coder ≡ k → FirstBad ps b t.past bits c f → FirstBad (version ∷ micro_version ∷ coder_type least ∷ ps) b s.past bits c f
  opening_then least ps s k t f bits c h is rest =
      let one = bind_ok (number_within 0 3 3 fault.Version) (λ _. number_within 0 4 4 fault.MicroVersion >>= λ _. number_within 0 least 2 fault.Coder >>= coder_of) b s k t h in
      let two = bind_ok (number_within 0 4 4 fault.MicroVersion) (λ _. number_within 0 least 2 fault.Coder >>= coder_of) b one.1 k t one.3 in
      let three = bind_ok (number_within 0 least 2 fault.Coder) coder_of b two.1 k t two.3 in
      let g = within_value b 0 3 3 fault.Version s one.0 one.1 one.2 in
      let i = within_value b 0 4 4 fault.MicroVersion one.1 two.0 two.1 two.2 in
      let j = within_value b 0 least 2 fault.Coder two.1 three.0 three.1 three.2 in
      let a = g.low in
      let d = g.high in
      let e = i.low in
      let u = i.high in
      let is_three : one.0 ≡ 3 = omega (arith, a, d) in
      let is_four : two.0 ≡ 4 = omega (arith, e, u) in
      let read = coder_ok three.0 b two.1 three.1 k t j.high (record { past = past_of two.1 three.1 (number_steps 0 three.0) j.there; fresh = ap (λ (z : Spot). z.fresh) j.there ∙ omega arith }) three.3 in
      let good : IsCoder b least c.coder = subst (IsCoder b least) (sym is) (kind_good b least three.0 two.1 three.1 k t j three.3) in
      good_then version (micro_version ∷ coder_type least ∷ ps) s.past bits c f (number_steps 0 one.0) one.1 (ap (λ k. number_steps 0 k) (sym is_three)) (past_of s one.1 (number_steps 0 one.0) g.there) tt
      (good_then micro_version (coder_type least ∷ ps) one.1.past bits c f (number_steps 0 two.0) two.1 (ap (λ k. number_steps 0 k) (sym is_four)) (past_of one.1 two.1 (number_steps 0 two.0) i.there) tt
      (good_then (coder_type least) ps two.1.past bits c f (coder_steps k) t (ap (λ (z : Coder). coder_steps z) is) read.past good rest))

  -- ---- planes
  depth_err : (most : ℕ) (s : Spot) (f : RecordFault) → depth most b s (Err f) → Symbols b s (λ steps. IsBadNumber 0 (λ n. IsTrue (is_depth most (depth_of n))) fault.Depth steps f)
  depth_err most s f h = elim (bind_err (number 0) _ b s f h) [
    | inr e ↦ let k = number_err b 0 s f e in (shifted 0 too_long, inr (refl, k.1), k.0)
    | inl e ↦
        let v = number_value b 0 s e.0 e.1 e.2 in
        elim (bind_err (require (is_depth most (depth_of e.0)) fault.Depth) _ b e.1 f e.3) [
          | inl d ↦ absurd (not_done (depth_of e.0) b d.1 f d.3)
          | inr d ↦
              let k = required_err (is_depth most (depth_of e.0)) fault.Depth b e.1 f d in
              (number_steps 0 e.0, inl (e.0, v.small, λ deep. false≢true (sym k.0 ∙ deep), refl, k.1), v.coded)
        ]
  ]

  record Depth (most : ℕ) (s : Spot) (n : ℕ) (t : Spot) : Type 0 where
    bits : ℕ
    deep : IsTrue (is_depth most (depth_of bits))
    there : t ≡ behind s (number_steps 0 bits)

  depth_value : (most : ℕ) (s : Spot) (n : ℕ) (t : Spot) → depth most b s (Ok (n, t)) → Depth most s n t
  depth_value most s n t h =
      let one = bind_ok (number 0) (λ n. require (is_depth most (depth_of n)) fault.Depth >>= λ _. done (depth_of n)) b s n t h in
      let two = bind_ok (require (is_depth most (depth_of one.0)) fault.Depth) (λ _. done (depth_of one.0)) b one.1 n t one.3 in
      let good = required_ok (is_depth most (depth_of one.0)) fault.Depth b one.1 two.0 two.1 two.2 in
      let end = done_ok (depth_of one.0) b two.1 n t two.3 in
      let v = number_value b 0 s one.0 one.1 one.2 in
      record { bits = one.0; deep = good.0; there = end.1 ∙ (good.1 ∙ v.there) }

  one_of_colour : (kind : ℕ) → kind ≤ 1 → one_if (is_rct (colour_of kind)) ≡ kind
  one_of_colour zero few = refl
  one_of_colour (suc zero) few = refl
  one_of_colour (suc (suc kind)) few = absurd (omega (arith, few))

  -- the planes that a configuration tells
  abbrev Tells : Configuration → Planes → Type 0
  Tells c p = (c.colour ≡ p.colour) × (c.chroma_planes ≡ p.chroma_planes) × (c.extra_plane ≡ p.extra_plane) × (c.log2_h ≡ p.log2_h) × (c.log2_v ≡ p.log2_v)

  abbrev after_across : List Parameter → List Parameter
  after_across ps = log2_v_chroma_subsample ∷ extra_plane ∷ ps

  abbrev after_chroma : List Parameter → List Parameter
  after_chroma ps = log2_h_chroma_subsample ∷ after_across ps

  abbrev after_depth : List Parameter → List Parameter
  after_depth ps = chroma_planes ∷ after_chroma ps

  abbrev after_colour : ℕ → List Parameter → List Parameter
  after_colour most ps = bits_per_raw_sample most ∷ after_depth ps

  abbrev plane_parameters : ℕ → List Parameter → List Parameter
  plane_parameters most ps = colorspace_type ∷ after_colour most ps

  colour_then : (ps : List Parameter) (s : Spot) (kind : ℕ) (t : Spot) (f : RecordFault) (bits : ℕ) (c : Configuration) → Good b 0 0 1 s kind t → c.colour ≡ colour_of kind → FirstBad ps b t.past bits c f → FirstBad (colorspace_type ∷ ps) b s.past bits c f
  colour_then ps s kind t f bits c g is rest =
      let steps : number_steps 0 (one_if (is_rct c.colour)) ≡ number_steps 0 kind = ap (λ z. number_steps 0 (one_if (is_rct z))) is ∙ ap (λ k. number_steps 0 k) (one_of_colour kind g.high) in
      good_then colorspace_type ps s.past bits c f (number_steps 0 kind) t steps (past_of s t (number_steps 0 kind) g.there) tt rest

  depth_then : (most : ℕ) (ps : List Parameter) (s : Spot) (n : ℕ) (t : Spot) (f : RecordFault) (c : Configuration) (d : Depth most s n t) → FirstBad ps b t.past d.bits c f → FirstBad (bits_per_raw_sample most ∷ ps) b s.past d.bits c f
  depth_then most ps s n t f c d rest = good_then (bits_per_raw_sample most) ps s.past d.bits c f (number_steps 0 d.bits) t refl (past_of s t (number_steps 0 d.bits) d.there) d.deep rest

  chroma_then : (ps : List Parameter) (s : Spot) (x : Bool) (t : Spot) (f : RecordFault) (bits : ℕ) (c : Configuration) → Truth b s x t → c.chroma_planes ≡ x → FirstBad ps b t.past bits c f → FirstBad (chroma_planes ∷ ps) b s.past bits c f
  chroma_then ps s x t f bits c v is rest = good_then chroma_planes ps s.past bits c f (truth_steps x) t (ap (λ z. truth_steps z) is) (past_of s t (truth_steps x) v.there) tt rest

  across_then : (ps : List Parameter) (s : Spot) (n : ℕ) (t : Spot) (f : RecordFault) (bits : ℕ) (c : Configuration) → Value b 0 s n t → c.log2_h ≡ n → FirstBad ps b t.past bits c f → FirstBad (log2_h_chroma_subsample ∷ ps) b s.past bits c f
  across_then ps s n t f bits c v is rest =
      good_then log2_h_chroma_subsample ps s.past bits c f (number_steps 0 n) t (ap (λ k. number_steps 0 k) is) (past_of s t (number_steps 0 n) v.there) (subst (λ k. k < 2 ^ 31) (sym is) v.small) rest

  down_then : (ps : List Parameter) (s : Spot) (n : ℕ) (t : Spot) (f : RecordFault) (bits : ℕ) (c : Configuration) → Value b 0 s n t → c.log2_v ≡ n → FirstBad ps b t.past bits c f → FirstBad (log2_v_chroma_subsample ∷ ps) b s.past bits c f
  down_then ps s n t f bits c v is rest =
      good_then log2_v_chroma_subsample ps s.past bits c f (number_steps 0 n) t (ap (λ k. number_steps 0 k) is) (past_of s t (number_steps 0 n) v.there) (subst (λ k. k < 2 ^ 31) (sym is) v.small) rest

  extra_then : (ps : List Parameter) (s : Spot) (x y : Bool) (t : Spot) (f : RecordFault) (bits : ℕ) (c : Configuration) → Truth b s x t → c.extra_plane ≡ x → c.chroma_planes ≡ y → IsTrue (y || not x) → FirstBad ps b t.past bits c f → FirstBad (extra_plane ∷ ps) b s.past bits c f
  extra_then ps s x y t f bits c v is chroma good rest =
      good_then extra_plane ps s.past bits c f (truth_steps x) t (ap (λ z. truth_steps z) is) (past_of s t (truth_steps x) v.there) (rw (is, chroma) good) rest

  extra_bad : (ps : List Parameter) (s : Spot) (x y : Bool) (t : Spot) (f : RecordFault) (bits : ℕ) (c : Configuration) → Truth b s x t → c.chroma_planes ≡ y → IsFalse (y || not x) → f ≡ fault.ExtraPlane → FirstBad (extra_plane ∷ ps) b s.past bits c f
  extra_bad ps s x true t f bits c v chroma bad is = absurd (true≢false bad)
  extra_bad ps s false false t f bits c v chroma bad is = absurd (true≢false bad)
  extra_bad ps s true false t f bits c v chroma bad is = bad_then extra_plane ps s.past bits c f (truth_steps true) (chroma, refl, is) v.coded

  no_planes : Planes
  no_planes = record { colour = colour.YCbCr; depth = 8; chroma_planes = false; extra_plane = false; log2_h = 0; log2_v = 0 }

  abbrev PlanesBad : ℕ → List Parameter → Spot → RecordFault → Type 0
  PlanesBad most ps s f = (bits : ℕ) × (p : Planes) × ((c : Configuration) → Tells c p → FirstBad (plane_parameters most ps) b s.past bits c f)

  planes_err : (most : ℕ) (ps : List Parameter) (s : Spot) (f : RecordFault) → planes most b s (Err f) → PlanesBad most ps s f
  planes_err most ps s f h = elim (bind_err (number_within 0 0 1 fault.ColourSpace) _ b s f h) [
    | inr e ↦ let k = within_err b 0 0 1 fault.ColourSpace s f e in (0, no_planes, λ c tells. bad_then colorspace_type (after_colour most ps) s.past 0 c f k.0 k.1 k.2)
    | inl e ↦
        let one = within_value b 0 0 1 fault.ColourSpace s e.0 e.1 e.2 in
        elim (bind_err (depth most) _ b e.1 f e.3) [
          | inr d ↦
              let k = depth_err most e.1 f d in
              (0, record { colour = colour_of e.0; depth = 8; chroma_planes = false; extra_plane = false; log2_h = 0; log2_v = 0 }, λ c tells. colour_then (after_colour most ps) s e.0 e.1 f 0 c one tells.0 (bad_then (bits_per_raw_sample most) (after_depth ps) e.1.past 0 c f k.0 k.1 k.2))
          | inl d ↦
              let two = depth_value most e.1 d.0 d.1 d.2 in
              elim (bind_err truth _ b d.1 f d.3) [
                | inr i ↦ absurd (truth_err b d.1 f i)
                | inl i ↦
                    let three = truth_value b d.1 i.0 i.1 i.2 in
                    elim (bind_err (number 0) _ b i.1 f i.3) [
                      | inr j ↦
                          let k = number_err b 0 i.1 f j in (
                            two.bits,
                            record { colour = colour_of e.0; depth = d.0; chroma_planes = i.0; extra_plane = false; log2_h = 0; log2_v = 0 },
                            λ c tells. colour_then (after_colour most ps) s e.0 e.1 f two.bits c one tells.0 (depth_then most (after_depth ps) e.1 d.0 d.1 f c two
                                (chroma_then (after_chroma ps) d.1 i.0 i.1 f two.bits c three tells.1 (bad_then log2_h_chroma_subsample (after_across ps) i.1.past two.bits c f (shifted 0 too_long) (refl, k.1) k.0))),
                          )
                      | inl j ↦
                          let four = number_value b 0 i.1 j.0 j.1 j.2 in
                          elim (bind_err (number 0) _ b j.1 f j.3) [
                            | inr m ↦
                                let k = number_err b 0 j.1 f m in (
                                  two.bits,
                                  record { colour = colour_of e.0; depth = d.0; chroma_planes = i.0; extra_plane = false; log2_h = j.0; log2_v = 0 },
                                  λ c tells. colour_then (after_colour most ps) s e.0 e.1 f two.bits c one tells.0 (depth_then most (after_depth ps) e.1 d.0 d.1 f c two
                                      (chroma_then (after_chroma ps) d.1 i.0 i.1 f two.bits c three tells.1 (across_then (after_across ps) i.1 j.0 j.1 f two.bits c four tells.3 (bad_then log2_v_chroma_subsample (extra_plane ∷ ps) j.1.past two.bits c f (shifted 0 too_long) (refl, k.1) k.0)))),
                                )
                            | inl m ↦
                                let five = number_value b 0 j.1 m.0 m.1 m.2 in
                                elim (bind_err truth _ b m.1 f m.3) [
                                  | inr o ↦ absurd (truth_err b m.1 f o)
                                  | inl o ↦
                                      let six = truth_value b m.1 o.0 o.1 o.2 in
                                      elim (bind_err (require (i.0 || not o.0) fault.ExtraPlane) _ b o.1 f o.3) [
                                        | inl q ↦ absurd (not_done (record { colour = colour_of e.0; depth = d.0; chroma_planes = i.0; extra_plane = o.0; log2_h = j.0; log2_v = m.0 }) b q.1 f q.3)
                                        | inr q ↦
                                            let k = required_err (i.0 || not o.0) fault.ExtraPlane b o.1 f q in (
                                              two.bits,
                                              record { colour = colour_of e.0; depth = d.0; chroma_planes = i.0; extra_plane = o.0; log2_h = j.0; log2_v = m.0 },
                                              λ c tells. colour_then (after_colour most ps) s e.0 e.1 f two.bits c one tells.0 (depth_then most (after_depth ps) e.1 d.0 d.1 f c two
                                                  (chroma_then (after_chroma ps) d.1 i.0 i.1 f two.bits c three tells.1 (across_then (after_across ps) i.1 j.0 j.1 f two.bits c four tells.3 (down_then (extra_plane ∷ ps) j.1 m.0 m.1 f two.bits c five tells.4 (extra_bad ps m.1 o.0 i.0 o.1 f two.bits c six tells.1 k.0 k.1))))),
                                            )
                                      ]
                                ]
                          ]
                    ]
              ]
        ]
  ]

  record PlanesGood (most : ℕ) (ps : List Parameter) (s : Spot) (p : Planes) (t : Spot) (f : RecordFault) : Type 0 where
    bits : ℕ
    then : (c : Configuration) → Tells c p → FirstBad ps b t.past bits c f → FirstBad (plane_parameters most ps) b s.past bits c f

  planes_then : (most : ℕ) (ps : List Parameter) (s : Spot) (p : Planes) (t : Spot) (f : RecordFault) → planes most b s (Ok (p, t)) → PlanesGood most ps s p t f
  planes_then most ps s p t f h =
      let one = bind_ok (number_within 0 0 1 fault.ColourSpace) _ b s p t h in
      let two = bind_ok (depth most) _ b one.1 p t one.3 in
      let three = bind_ok truth _ b two.1 p t two.3 in
      let four = bind_ok (number 0) _ b three.1 p t three.3 in
      let five = bind_ok (number 0) _ b four.1 p t four.3 in
      let six = bind_ok truth _ b five.1 p t five.3 in
      let seven = bind_ok (require (three.0 || not six.0) fault.ExtraPlane) _ b six.1 p t six.3 in
      let good = required_ok (three.0 || not six.0) fault.ExtraPlane b six.1 seven.0 seven.1 seven.2 in
      let read : Planes = record { colour = colour_of one.0; depth = two.0; chroma_planes = three.0; extra_plane = six.0; log2_h = four.0; log2_v = five.0 } in
      let end = done_ok read b seven.1 p t seven.3 in
      let d = depth_value most one.1 two.0 two.1 two.2 in
      record {
        bits = d.bits;
        then = λ c tells rest.
            colour_then (after_colour most ps) s one.0 one.1 f d.bits c (within_value b 0 0 1 fault.ColourSpace s one.0 one.1 one.2) (tells.0 ∙ ap (λ (q : Planes). q.colour) end.0)
            (depth_then most (after_depth ps) one.1 two.0 two.1 f c d
            (chroma_then (after_chroma ps) two.1 three.0 three.1 f d.bits c (truth_value b two.1 three.0 three.1 three.2) (tells.1 ∙ ap (λ (q : Planes). q.chroma_planes) end.0)
            (across_then (after_across ps) three.1 four.0 four.1 f d.bits c (number_value b 0 three.1 four.0 four.1 four.2) (tells.3 ∙ ap (λ (q : Planes). q.log2_h) end.0)
            (down_then (extra_plane ∷ ps) four.1 five.0 five.1 f d.bits c (number_value b 0 four.1 five.0 five.1 five.2) (tells.4 ∙ ap (λ (q : Planes). q.log2_v) end.0)
            (extra_then ps five.1 six.0 three.0 six.1 f d.bits c (truth_value b five.1 six.0 six.1 six.2) (tells.2 ∙ ap (λ (q : Planes). q.extra_plane) end.0) (tells.1 ∙ ap (λ (q : Planes). q.chroma_planes) end.0) good.0
            (subst (λ (z : Spot). FirstBad ps b z.past d.bits c f) (end.1 ∙ good.1) rest))))));
      }

  -- ---- counts, tables and flags
  count_err : (s : Spot) (f : RecordFault) → count_of b s (Err f) → Symbols b s (λ steps. IsTooLong 0 steps f)
  count_err s f h = elim (bind_err (number 0) (λ n. done (n + 1)) b s f h) [
    | inr e ↦ let k = number_err b 0 s f e in (shifted 0 too_long, (refl, k.1), k.0)
    | inl e ↦ absurd (not_done (e.0 + 1) b e.1 f e.3)
  ]

  count_value : (s : Spot) (n : ℕ) (t : Spot) → count_of b s (Ok (n, t)) → Value b 0 s (n - 1) t
  count_value s n t h =
      let one = bind_ok (number 0) (λ n. done (n + 1)) b s n t h in
      let end = done_ok (one.0 + 1) b one.1 n t one.3 in
      let is : one.0 ≡ n - 1 = omega (arith, end.0) in
      let v = number_value b 0 s one.0 one.1 one.2 in
      let w = subst (λ k. Value b 0 s k one.1) is v in
      subst (λ z. Value b 0 s (n - 1) z) (sym end.1) w

  columns_then : (ps : List Parameter) (s : Spot) (n : ℕ) (t : Spot) (f : RecordFault) (bits : ℕ) (c : Configuration) → Value b 0 s (n - 1) t → c.columns ≡ n → FirstBad ps b t.past bits c f → FirstBad (num_h_slices ∷ ps) b s.past bits c f
  columns_then ps s n t f bits c v is rest =
      good_then num_h_slices ps s.past bits c f (number_steps 0 (n - 1)) t (ap (λ k. number_steps 0 (k - 1)) is) (past_of s t (number_steps 0 (n - 1)) v.there) (subst (λ k. k - 1 < 2 ^ 31) (sym is) v.small) rest

  rows_then : (ps : List Parameter) (s : Spot) (n : ℕ) (t : Spot) (f : RecordFault) (bits : ℕ) (c : Configuration) → Value b 0 s (n - 1) t → c.rows ≡ n → FirstBad ps b t.past bits c f → FirstBad (num_v_slices ∷ ps) b s.past bits c f
  rows_then ps s n t f bits c v is rest =
      good_then num_v_slices ps s.past bits c f (number_steps 0 (n - 1)) t (ap (λ k. number_steps 0 (k - 1)) is) (past_of s t (number_steps 0 (n - 1)) v.there) (subst (λ k. k - 1 < 2 ^ 31) (sym is) v.small) rest

  abbrev table_parameters : List Parameter → List Parameter
  table_parameters ps = quant_table_set_count ∷ quant_table_sets ∷ states_coded ∷ ps

  abbrev TablesBad : List Parameter → Spot → RecordFault → Type 0
  TablesBad ps s f = (ss : List Set) × ((bits : ℕ) (c : Configuration) → c.sets ≡ ss → FirstBad (table_parameters ps) b s.past bits c f)

  set_count_then : (ps : List Parameter) (s : Spot) (n : ℕ) (t : Spot) (f : RecordFault) (bits : ℕ) (c : Configuration) → Good b 0 1 8 s n t → length c.sets ≡ n → FirstBad ps b t.past bits c f → FirstBad (quant_table_set_count ∷ ps) b s.past bits c f
  set_count_then ps s n t f bits c g is rest =
      good_then quant_table_set_count ps s.past bits c f (number_steps 0 n) t (ap (λ k. number_steps 0 k) is) (past_of s t (number_steps 0 n) g.there) (subst (λ k. (1 ≤ k) × (k ≤ 8)) (sym is) (g.low, g.high)) rest

  sets_then : (ps : List Parameter) (s t : Spot) (f : RecordFault) (bits : ℕ) (c : Configuration) → s.fresh ≡ 32 → AreSets c.sets → t.past ≡ s.past ++ sets_steps s.fresh c.sets → FirstBad ps b t.past bits c f → FirstBad (quant_table_sets ∷ ps) b s.past bits c f
  sets_then ps s t f bits c fresh are past rest = good_then quant_table_sets ps s.past bits c f (sets_steps s.fresh c.sets) t (ap (λ k. sets_steps k c.sets) (sym fresh)) past are rest

  -- sets that were read
  record SetsRead (s : Spot) (n : ℕ) (ss : List Set) (t : Spot) : Type 0 where
    are : AreSets ss
    long : length ss ≡ n
    past : t.past ≡ s.past ++ sets_steps s.fresh ss

  sets_read : (s : Spot) (n : ℕ) (ss : List Set) (t : Spot) → IsCoded b s.past → sets_onto n [] b s (Ok (ss, t)) → SetsRead s n ss t
  sets_read s n ss t coded h =
      let a = sets_value b n [] s ss t coded h in
      let d = sets_ok n [] b s ss t h in
      record { are = subst AreSets (sym a.1) a.2; long = ap (λ (z : List Set). length z) d.1 ∙ d.2; past = d.4.past ∙ ap (λ (z : List Set). s.past ++ sets_steps s.fresh z) (sym d.1) }

  coded_at : (s t : Spot) (n : ℕ) → Good b 0 1 8 s n t → IsCoded b t.past
  coded_at s t n g = subst (λ (z : Spot). IsCoded b z.past) (sym g.there) g.coded

  fresh_at : (s t : Spot) (n : ℕ) → Good b 0 1 8 s n t → s.fresh ≡ 32 → t.fresh ≡ 32
  fresh_at s t n g fresh = ap (λ (z : Spot). z.fresh) g.there ∙ fresh

  tables_err : (ps : List Parameter) (s : Spot) (f : RecordFault) → s.fresh ≡ 32 → tables b s (Err f) → TablesBad ps s f
  tables_err ps s f fresh h = elim (bind_err (number_within 0 1 8 fault.Sets) _ b s f h) [
    | inr e ↦ let k = within_err b 0 1 8 fault.Sets s f e in ([], λ bits c is. bad_then quant_table_set_count (quant_table_sets ∷ states_coded ∷ ps) s.past bits c f k.0 k.1 k.2)
    | inl e ↦
        let g = within_value b 0 1 8 fault.Sets s e.0 e.1 e.2 in
        let coded = coded_at s e.1 e.0 g in
        let place = fresh_at s e.1 e.0 g fresh in
        elim (bind_err (sets_onto e.0 []) _ b e.1 f e.3) [
          | inr d ↦
              let k = sets_err b e.0 [] e.1 f coded d in
              let here : IsCoded b (e.1.past ++ (sets_steps 32 k.0 ++ k.1)) = subst (λ z. IsCoded b (e.1.past ++ (sets_steps z k.0 ++ k.1))) place k.4 in
              let bad : IsBadSet (32 + 160 * length k.0) k.1 f = subst (λ z. IsBadSet (z + 160 * length k.0) k.1 f) place k.5 in (
                replicate e.0 [],
                λ bits c is.
                    let long : length c.sets ≡ e.0 = ap (λ (z : List Set). length z) is ∙ length-replicate {A = Set} e.0 [] in
                    set_count_then (quant_table_sets ∷ states_coded ∷ ps) s e.0 e.1 f bits c g long (bad_then quant_table_sets (states_coded ∷ ps) e.1.past bits c f (sets_steps 32 k.0 ++ k.1) (k.0, k.1, k.2, subst (λ z. length k.0 < z) (sym long) k.3, refl, bad) here),
              )
          | inl d ↦
              let r = sets_read e.1 e.0 d.0 d.1 coded d.2 in
              elim (bind_err (uncoded e.0) _ b d.1 f d.3) [
                | inl i ↦ absurd (not_done d.0 b i.1 f i.3)
                | inr i ↦
                    let k = uncoded_err b e.0 d.1 f i in (
                      d.0,
                      λ bits c is.
                          let long : length c.sets ≡ e.0 = ap (λ (z : List Set). length z) is ∙ r.long in
                          set_count_then (quant_table_sets ∷ states_coded ∷ ps) s e.0 e.1 f bits c g long (sets_then (states_coded ∷ ps) e.1 d.1 f bits c place (subst AreSets (sym is) r.are) (r.past ∙ ap (λ (z : List Set). e.1.past ++ sets_steps e.1.fresh z) (sym is))
                          (bad_then states_coded ps d.1.past bits c f (uncoded_steps k.0 ++ truth_steps true) (k.0, subst (λ z. k.0 < z) (sym long) k.1, refl, k.3) k.2)),
                    )
              ]
        ]
  ]

  tables_then : (ps : List Parameter) (s : Spot) (ss : List Set) (t : Spot) (f : RecordFault) (bits : ℕ) (c : Configuration) → s.fresh ≡ 32 → tables b s (Ok (ss, t)) → c.sets ≡ ss → FirstBad ps b t.past bits c f → FirstBad (table_parameters ps) b s.past bits c f
  tables_then ps s ss t f bits c fresh h is rest =
      let one = bind_ok (number_within 0 1 8 fault.Sets) _ b s ss t h in
      let two = bind_ok (sets_onto one.0 []) _ b one.1 ss t one.3 in
      let three = bind_ok (uncoded one.0) _ b two.1 ss t two.3 in
      let end = done_ok two.0 b three.1 ss t three.3 in
      let g = within_value b 0 1 8 fault.Sets s one.0 one.1 one.2 in
      let r = sets_read one.1 one.0 two.0 two.1 (coded_at s one.1 one.0 g) two.2 in
      let same : c.sets ≡ two.0 = is ∙ end.0 in
      let long : length c.sets ≡ one.0 = ap (λ (z : List Set). length z) same ∙ r.long in
      let free = uncoded_ok one.0 b two.1 three.0 three.1 three.2 in
      set_count_then (quant_table_sets ∷ states_coded ∷ ps) s one.0 one.1 f bits c g long (sets_then (states_coded ∷ ps) one.1 two.1 f bits c (fresh_at s one.1 one.0 g fresh) (subst AreSets (sym same) r.are) (r.past ∙ ap (λ (z : List Set). one.1.past ++ sets_steps one.1.fresh z) (sym same))
      (good_then states_coded ps two.1.past bits c f (uncoded_steps one.0) three.1 (ap (λ k. uncoded_steps k) long) free.past tt (subst (λ (z : Spot). FirstBad ps b z.past bits c f) end.1 rest)))

  flag_err : (wrong : RecordFault) (s : Spot) (f : RecordFault) → flag wrong b s (Err f) → Symbols b s (λ steps. IsBadNumber 0 (λ n. (0 ≤ n) × (n ≤ 1)) wrong steps f)
  flag_err wrong s f h = elim (bind_err (number_within 0 0 1 wrong) (λ n. done (n == 1)) b s f h) [
    | inr e ↦ within_err b 0 0 1 wrong s f e
    | inl e ↦ absurd (not_done (e.0 == 1) b e.1 f e.3)
  ]

  -- ---- all of them
  abbrev last_parameters : List Parameter
  last_parameters = table_parameters (ec ∷ intra ∷ [])

  abbrev grid_parameters : List Parameter
  grid_parameters = num_h_slices ∷ num_v_slices ∷ last_parameters

  blank : Configuration
  blank = record {
    width = 0;
    height = 0;
    depth = 8;
    coder = coder.One;
    colour = colour.YCbCr;
    chroma_planes = false;
    extra_plane = false;
    log2_h = 0;
    log2_v = 0;
    columns = 0;
    rows = 0;
    sets = [];
    ec = false;
    intra = false;
  }

  abbrev made : Coder → Planes → ℕ → ℕ → List Set → Bool → Configuration
  made k p columns rows ss ec = record {
    width = 0;
    height = 0;
    depth = p.depth;
    coder = k;
    colour = p.colour;
    chroma_planes = p.chroma_planes;
    extra_plane = p.extra_plane;
    log2_h = p.log2_h;
    log2_v = p.log2_v;
    columns = columns;
    rows = rows;
    sets = ss;
    ec = ec;
    intra = false;
  }

  abbrev made_read : ℕ → ℕ → Coder → Planes → ℕ → ℕ → List Set → Bool → Bool → Configuration
  made_read width height k p columns rows ss ec intra = record {
    width = width;
    height = height;
    depth = p.depth;
    coder = k;
    colour = p.colour;
    chroma_planes = p.chroma_planes;
    extra_plane = p.extra_plane;
    log2_h = p.log2_h;
    log2_v = p.log2_v;
    columns = columns;
    rows = rows;
    sets = ss;
    ec = ec;
    intra = intra;
  }

  told : (k : Coder) (p : Planes) (columns rows : ℕ) (ss : List Set) (coded : Bool) → Tells (made k p columns rows ss coded) p
  told k p columns rows ss coded = (refl, refl, refl, refl, refl)

  pub first_bad : (least most width height : ℕ) (f : RecordFault) → parameters least most width height b beginning (Err f) → (bits : ℕ) × (c : Configuration) × FirstBad (in_order least most) b [] bits c f
  first_bad least most width height f h = elim (bind_err (opening least) _ b beginning f h) [
    | inr e ↦ (0, blank, opening_err least (plane_parameters most grid_parameters) beginning f 0 blank e)
    | inl e ↦
        elim (bind_err (planes most) _ b e.1 f e.3) [
          | inr d ↦
              let k = planes_err most grid_parameters e.1 f d in
              let c = made e.0 k.1 0 0 [] false in
              (k.0, made e.0 k.1 0 0 [] false, opening_then least (plane_parameters most grid_parameters) beginning e.0 e.1 f k.0 c e.2 refl (k.2 c (told e.0 k.1 0 0 [] false)))
          | inl d ↦
              elim (bind_err count_of _ b d.1 f d.3) [
                | inr i ↦
                    let k = count_err d.1 f i in
                    let p = planes_then most grid_parameters e.1 d.0 d.1 f d.2 in
                    let c = made e.0 d.0 0 0 [] false in
                    (p.bits, made e.0 d.0 0 0 [] false, opening_then least (plane_parameters most grid_parameters) beginning e.0 e.1 f p.bits c e.2 refl (p.then c (told e.0 d.0 0 0 [] false) (bad_then num_h_slices (num_v_slices ∷ last_parameters) d.1.past p.bits c f k.0 k.1 k.2)))
                | inl i ↦
                    let v = count_value d.1 i.0 i.1 i.2 in
                    elim (bind_err count_of _ b i.1 f i.3) [
                      | inr j ↦
                          let k = count_err i.1 f j in
                          let p = planes_then most grid_parameters e.1 d.0 d.1 f d.2 in
                          let c = made e.0 d.0 i.0 0 [] false in
                          (p.bits, made e.0 d.0 i.0 0 [] false, opening_then least (plane_parameters most grid_parameters) beginning e.0 e.1 f p.bits c e.2 refl (p.then c (told e.0 d.0 i.0 0 [] false) (columns_then (num_v_slices ∷ last_parameters) d.1 i.0 i.1 f p.bits c v refl (bad_then num_v_slices last_parameters i.1.past p.bits c f k.0 k.1 k.2))))
                      | inl j ↦
                          let w = count_value i.1 j.0 j.1 j.2 in
                          let p = planes_then most grid_parameters e.1 d.0 d.1 f d.2 in
                          let fresh = fresh_after least most e.0 e.1 d.0 d.1 (i.0 - 1) i.1 (j.0 - 1) j.1 e.2 d.2 v w in
                          elim (bind_err tables _ b j.1 f j.3) [
                            | inr m ↦
                                let k = tables_err (ec ∷ intra ∷ []) j.1 f fresh m in
                                let c = made e.0 d.0 i.0 j.0 k.0 false in
                                (p.bits, made e.0 d.0 i.0 j.0 k.0 false, opening_then least (plane_parameters most grid_parameters) beginning e.0 e.1 f p.bits c e.2 refl (p.then c (told e.0 d.0 i.0 j.0 k.0 false) (columns_then (num_v_slices ∷ last_parameters) d.1 i.0 i.1 f p.bits c v refl (rows_then last_parameters i.1 j.0 j.1 f p.bits c w refl (k.1 p.bits c refl)))))
                            | inl m ↦
                                elim (bind_err (flag fault.Ec) _ b m.1 f m.3) [
                                  | inr n ↦
                                      let k = flag_err fault.Ec m.1 f n in
                                      let c = made e.0 d.0 i.0 j.0 m.0 false in (
                                        p.bits,
                                        made e.0 d.0 i.0 j.0 m.0 false,
                                        opening_then least (plane_parameters most grid_parameters) beginning e.0 e.1 f p.bits c e.2 refl (p.then c (told e.0 d.0 i.0 j.0 m.0 false) (columns_then (num_v_slices ∷ last_parameters) d.1 i.0 i.1 f p.bits c v refl (rows_then last_parameters i.1 j.0 j.1 f p.bits c w refl
                                            (tables_then (ec ∷ intra ∷ []) j.1 m.0 m.1 f p.bits c fresh m.2 refl (bad_then ec (intra ∷ []) m.1.past p.bits c f k.0 k.1 k.2))))),
                                      )
                                  | inl n ↦
                                      let after = flag_ok fault.Ec b m.1 n.0 n.1 n.2 in
                                      let c = made e.0 d.0 i.0 j.0 m.0 n.0 in
                                      elim (bind_err (flag fault.Intra) _ b n.1 f n.3) [
                                        | inl o ↦ absurd (not_done {X = Configuration} (made_read width height e.0 d.0 i.0 j.0 m.0 n.0 o.0) b o.1 f o.3)
                                        | inr o ↦
                                            let k = flag_err fault.Intra n.1 f o in (
                                              p.bits,
                                              made e.0 d.0 i.0 j.0 m.0 n.0,
                                              opening_then least (plane_parameters most grid_parameters) beginning e.0 e.1 f p.bits c e.2 refl (p.then c (told e.0 d.0 i.0 j.0 m.0 n.0) (columns_then (num_v_slices ∷ last_parameters) d.1 i.0 i.1 f p.bits c v refl (rows_then last_parameters i.1 j.0 j.1 f p.bits c w refl
                                                  (tables_then (ec ∷ intra ∷ []) j.1 m.0 m.1 f p.bits c fresh m.2 refl (good_then ec (intra ∷ []) m.1.past p.bits c f (number_steps 0 (one_if n.0)) n.1 refl after.past tt (bad_then intra [] n.1.past p.bits c f k.0 k.1 k.2)))))),
                                            )
                                      ]
                                ]
                          ]
                    ]
              ]
        ]
  ]
    where
      fresh_after : (least most : ℕ) (k : Coder) (t : Spot) (p : Planes) (u : Spot) (n : ℕ) (x : Spot) (m : ℕ) (y : Spot) → opening least b beginning (Ok (k, t)) → planes most b t (Ok (p, u)) → Value b 0 u n x → Value b 0 x m y → y.fresh ≡ 32
      fresh_after least most k t p u n x m y opened seen v w =
          let one = opening_ok least b beginning k t opened in
          let two = planes_ok most b t p u seen in
          let three = ap (λ (z : Spot). z.fresh) v.there in
          let four = ap (λ (z : Spot). z.fresh) w.there in
          let first = one.fresh in
          let second = two.after.fresh in
          omega (arith, first, second, three, four)

pub refused_because : (p : Profile) (most : ℕ) (bytes : List ℕ) (width height : ℕ) (f : RecordFault) → IsRefused p most bytes width height f → IsRefusedBy p most bytes width height f
refused_because p most bytes width height f (inl short) = inl short
refused_because p most bytes width height f (inr (inl (long, odd, is))) = inr (inl (odd, is))
refused_because p most bytes width height f (inr (inr (long, whole, inl start))) = inr (inr (inl start))
refused_because p most bytes width height f (inr (inr (long, whole, inr (inl h)))) = inr (inr (inr (inl (first_bad (body_of bytes) (least_coder p) most width height f h))))
refused_because p most bytes width height f (inr (inr (long, whole, inr (inr h)))) = inr (inr (inr (inr h)))
