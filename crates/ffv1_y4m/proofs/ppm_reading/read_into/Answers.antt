-- Reads the samples of planes of so many bytes, in place of what the vectors had.
use Rattle.std.proofs.Common.{◌≡◌, ◌*◌, ◌∙◌, refl, ◌∷◌, [], length, drop, sym, arith}
use Rattle.std.proofs.Math.Seq.{take-append_seam}
use Rattle.std.proofs.lemmas.Result.{err_from_is_err_and}
use Rattle.ffv1_y4m.specs.Ppm.{colours_read}
use Rattle.ffv1_y4m.proofs.Colours.{in_depth, stands_colours, stands_full, stands_large}
use Rattle.ffv1_y4m.proofs.Colours.{stands_parted}
use Rattle.ffv1_y4m.proofs.ppm_reading.read_into.Goals as goal

pub returns-in_err-resize-clause-answer : goal.returns-in_err-resize-clause-answer
returns-in_err-resize-clause-answer g c =
    let p = err_from_is_err_and c.from_residual.result c.from_residual.ensures.1 in
    rw (p.1, p.2) (stands_full (colours_read c.args.depth c.args.size) _ _)

pub returns-in_err-resize-2-clause-answer : goal.returns-in_err-resize-2-clause-answer
returns-in_err-resize-2-clause-answer g c =
    let p = err_from_is_err_and c.from_residual-in_err-resize-2.result
    c.from_residual-in_err-resize-2.ensures.1 in
    rw (p.1, p.2) (stands_full (colours_read c.args.depth c.args.size) _ _)

pub returns-in_err-resize-3-clause-answer : goal.returns-in_err-resize-3-clause-answer
returns-in_err-resize-3-clause-answer g c =
    let p = err_from_is_err_and c.from_residual-in_err-resize-3.result
    c.from_residual-in_err-resize-3.ensures.1 in
    rw (p.1, p.2) (stands_full (colours_read c.args.depth c.args.size) _ _)

pub returns-in_err-read_colours-clause-answer : goal.returns-in_err-read_colours-clause-answer
returns-in_err-read_colours-clause-answer g c =
    let p = err_from_is_err_and c.from_residual-in_err-read_colours.result
    c.from_residual-in_err-read_colours.ensures.1 in
    let long : 3 * length c.as_mut_slice.result.now ≡ 3 * c.args.size =
    omega (arith, c.in_ok-resize.ensures.len) in
    rw (p.1, p.2) (stands_colours c.args.depth c.args.size
    (3 * length c.as_mut_slice.result.now) _ _ _ _ c.in_err-read_colours.field-0.0 long
    c.in_err-read_colours.ensures.answer)

pub returns-then-not-all_in_depth-clause-answer : goal.returns-then-not-all_in_depth-clause-answer
returns-then-not-all_in_depth-clause-answer g c =
    let red = c.read_colours.new.red in
    let green = c.read_colours.new.green in
    let blue = c.read_colours.new.blue in
    let long : 3 * length c.as_mut_slice.result.now ≡ 3 * c.args.size =
    omega (arith, c.in_ok-resize.ensures.len) in
    let one : c.resize.new.self.len ≡ length c.read_colours.new.red = omega arith in
    let two : c.resize-2.new.self.len ≡ length c.read_colours.new.green = omega arith in
    let three : c.resize-3.new.self.len ≡ length c.read_colours.new.blue = omega arith in
    let read = c.in_ok-read_colours.ensures.answer in
    let reds : c.deref.result.now ≡ c.read_colours.new.red = c.deref.ensures.value ∙
    (rw (one, take-append_seam red (drop (length red) c.resize.new.self.items)) refl) in
    let greens : c.deref-2.result.now ≡ c.read_colours.new.green = c.deref-2.ensures.value ∙
    (rw (two, take-append_seam green (drop (length green) c.resize-2.new.self.items)) refl) in
    let blues : c.deref-3.result.now ≡ c.read_colours.new.blue = c.deref-3.ensures.value ∙
    (rw (three, take-append_seam blue (drop (length blue) c.resize-3.new.self.items)) refl) in
    let large = rw (reds, greens, blues) at (sym c.if-not-all_in_depth.ensures) in
    stands_large c.args.depth c.args.size (3 * length c.as_mut_slice.result.now) _ _ _ _
    (red ∷ green ∷ blue ∷ []) read.1.0 long read.0 read.1.1 read.1.2.0 read.1.2.1 large

pub returns-clause-depth : goal.returns-clause-depth
returns-clause-depth g c =
    let red = c.read_colours.new.red in
    let green = c.read_colours.new.green in
    let blue = c.read_colours.new.blue in
    let long : 3 * length c.as_mut_slice.result.now ≡ 3 * c.args.size =
    omega (arith, c.in_ok-resize.ensures.len) in
    let one : c.resize.new.self.len ≡ length c.read_colours.new.red = omega arith in
    let two : c.resize-2.new.self.len ≡ length c.read_colours.new.green = omega arith in
    let three : c.resize-3.new.self.len ≡ length c.read_colours.new.blue = omega arith in
    let reds : c.deref.result.now ≡ c.read_colours.new.red = c.deref.ensures.value ∙
    (rw (one, take-append_seam red (drop (length red) c.resize.new.self.items)) refl) in
    let greens : c.deref-2.result.now ≡ c.read_colours.new.green = c.deref-2.ensures.value ∙
    (rw (two, take-append_seam green (drop (length green) c.resize-2.new.self.items)) refl) in
    let blues : c.deref-3.result.now ≡ c.read_colours.new.blue = c.deref-3.ensures.value ∙
    (rw (three, take-append_seam blue (drop (length blue) c.resize-3.new.self.items)) refl) in
    let small = rw (reds, greens, blues) at (sym c.if-not-all_in_depth.ensures) in
    rw (
      one,
      take-append_seam red (drop (length red) c.resize.new.self.items),
      two,
      take-append_seam
          green (drop (length green) c.resize-2.new.self.items),
      three,
      take-append_seam blue
          (drop (length blue) c.resize-3.new.self.items),
    )
    (in_depth c.args.depth (red ∷ green ∷ blue ∷ []) small)

pub returns-clause-answer : goal.returns-clause-answer
returns-clause-answer g c =
    let red = c.read_colours.new.red in
    let green = c.read_colours.new.green in
    let blue = c.read_colours.new.blue in
    let long : 3 * length c.as_mut_slice.result.now ≡ 3 * c.args.size =
    omega (arith, c.in_ok-resize.ensures.len) in
    let one : c.resize.new.self.len ≡ length c.read_colours.new.red = omega arith in
    let two : c.resize-2.new.self.len ≡ length c.read_colours.new.green = omega arith in
    let three : c.resize-3.new.self.len ≡ length c.read_colours.new.blue = omega arith in
    let read = c.in_ok-read_colours.ensures.answer in
    let reds : c.deref.result.now ≡ c.read_colours.new.red = c.deref.ensures.value ∙
    (rw (one, take-append_seam red (drop (length red) c.resize.new.self.items)) refl) in
    let greens : c.deref-2.result.now ≡ c.read_colours.new.green = c.deref-2.ensures.value ∙
    (rw (two, take-append_seam green (drop (length green) c.resize-2.new.self.items)) refl) in
    let blues : c.deref-3.result.now ≡ c.read_colours.new.blue = c.deref-3.ensures.value ∙
    (rw (three, take-append_seam blue (drop (length blue) c.resize-3.new.self.items)) refl) in
    let small = rw (reds, greens, blues) at (sym c.if-not-all_in_depth.ensures) in
    rw (
      one,
      take-append_seam red (drop (length red) c.resize.new.self.items),
      two,
      take-append_seam green (drop (length green) c.resize-2.new.self.items),
      three,
      take-append_seam blue (drop (length blue) c.resize-3.new.self.items),
    ) (stands_parted c.args.depth c.args.size (3 * length c.as_mut_slice.result.now) _ _ _ _
    (red ∷ green ∷ blue ∷ []) read.1.0 long read.0 read.1.1 read.1.2.0 read.1.2.1 small)
