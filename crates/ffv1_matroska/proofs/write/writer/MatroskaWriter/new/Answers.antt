-- A writer of a file of this head, with such a TrackEntry.
use Rattle.std.proofs.Common.{◌≡◌, ◌<◌, ◌+◌, ◌^◌, ◌∙◌, ◌++◌, ◌&&◌, ◌==◌, ℕ, false, length, not}
use Rattle.std.proofs.Common.{arith, ap, rules, sym}
use Rattle.std.specs.Vec.{vec_capacity}
use Rattle.ffv1_reads.specs.Head.{head_of}
use Rattle.ffv1_matroska.specs.Rates.{IsTimed, rate_of}
use Rattle.ffv1_matroska.specs.Writers.{rate_in}
use Rattle.ffv1_matroska.specs.Written.{first_place}
use Rattle.ffv1_matroska.proofs.Growing.{keeping_new, new_by}
use Rattle.ffv1_matroska.proofs.write.writer.MatroskaWriter.new.Goals as goal

pub overflow_add-at : goal.overflow_add-at
overflow_add-at g c =
    let fits : 148 + c.tracks_size-at.result < 2 ^ 64 =
    omega (arith, c.tracks_size-at.ensures.fits) in
    search (rules, fits)

pub invariant_of-result : goal.invariant_of-result
invariant_of-result g c =
    let h = head_of c.args.head.now in
    let items : c.push_bytes.new.config.items ≡ h.config_record = c.push_bytes.ensures.items ∙
    ap (λ z. z ++ c.as_slice.result.now) c.in_ok-config_record.ensures.items ∙
    c.as_slice.ensures.value in
    let kept : record {
      width = h.width;
      height = h.height;
      rate = h.rate;
      scale = h.scale;
      colour = h.colour;
      config_record = c.push_bytes.new.config.items;
    } ≡ h =
    ap (λ r. record {
      width = h.width;
      height = h.height;
      rate = h.rate;
      scale = h.scale;
      colour = h.colour;
      config_record = r;
    }) items in
    let at : 148 + c.tracks_size-at.result ≡ first_place h c.args.details = ap (λ n. 148 + n)
    c.tracks_size-at.ensures.value in
    let fits : 148 + c.tracks_size-at.result < 2 ^ 63 + 2 ^ 20 =
    omega (arith, c.tracks_size-at.ensures.fits) in
    let copy : vec_capacity c.push_bytes.new.config ≡ length c.push_bytes.new.config.items =
    omega (
      arith,
      c.push_bytes.ensures.capacity,
      c.in_ok-config_record.ensures.exact,
      c.len.ensures,
      ap (λ z. length z) items,
    ) in
    rw c.in_ok-places.ensures.exact (keeping_new h _ c.args.details _ _ c.in_ok-places.places.items
    kept
    at fits copy c.in_ok-places.ensures.items)

both : (a b x y : ℕ) → false ≡ not ((a == x) && (b == y)) → (a ≡ x) × (b ≡ y)
both a b x y e = (grind (arith, e), grind (arith, e))

pub returns : goal.returns
returns g c =
    let h = head_of c.args.head.now in
    let items : c.push_bytes.new.config.items ≡ h.config_record = c.push_bytes.ensures.items ∙
    ap (λ z. z ++ c.as_slice.result.now) c.in_ok-config_record.ensures.items ∙
    c.as_slice.ensures.value in
    let kept : record {
      width = h.width;
      height = h.height;
      rate = h.rate;
      scale = h.scale;
      colour = h.colour;
      config_record = c.push_bytes.new.config.items;
    } ≡ h =
    ap (λ r. record {
      width = h.width;
      height = h.height;
      rate = h.rate;
      scale = h.scale;
      colour = h.colour;
      config_record = r;
    }) items in
    let at : 148 + c.tracks_size-at.result ≡ first_place h c.args.details = ap (λ n. 148 + n)
    c.tracks_size-at.ensures.value in
    let same = both c.rate_of.result.0 c.rate_of.result.1 h.rate h.scale c.if-ne.ensures in
    let timed : IsTimed (rate_in h) = ap rate_of (sym c.duration_of.ensures) ∙ sym c.rate_of.ensures
    ∙ ap (λ n. record { rate = n; scale = c.rate_of.result.1 }) same.0 ∙
    ap (λ n. record { rate = h.rate; scale = n }) same.1 in (
      timed,
      new_by h _ c.args.details _ c.in_ok-places.places.items kept at
          c.in_ok-places.ensures.items,
    )
