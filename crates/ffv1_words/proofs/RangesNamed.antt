-- Rows that name no frames of a file name no order of a command that takes these.
use Rattle.std.proofs.Common.{◌≡◌, ◌∙◌, sym, ap, ℕ, List, Option, Some, None, codes, option_map, arith, Bor}
use Rattle.std.specs.Prelude.{slice_index}
use Rattle.clap.specs.Walk.{Row, Text, first_of}
use Rattle.ffv1_words.specs.Order.{NamesCount, NamesNone, NamesNumber, NamesRange}
use Rattle.ffv1_words.specs.declared.order.FrameRange.{FrameRange}
use Rattle.ffv1_words.specs.declared.order.Order.TheVariants as order

-- the words give a number that is none in its range
pub no_count : (rows : List Row) (id : Text) (low high : ℕ) (found : Option (Bor Text)) (t : Bor Text) → option_map (λ (p : Bor Text). p.now) found ≡ first_of id rows → found ≡ Some t
    → ((n : ℕ) → NamesNumber rows id low high n → ⊥) → (o : Option ℕ) → NamesCount rows id low high o → ⊥
no_count rows id low high found t is some none None named =
    let bad : Some t.now ≡ None = ap (option_map (λ (p : Bor Text). p.now)) (sym some) ∙ is ∙ named in
    cc
no_count rows id low high found t is some none (Some n) named = none n named

module _ (rows : List Row) (none : (r : FrameRange) → NamesRange rows r → ⊥) where
  pub none_unpacked : NamesNone (Some (codes "unpack", rows))
  none_unpacked (order.Pack i w c holder no_clobber progress) named = let e = named.0 in cc
  none_unpacked (order.Unpack i w no_clobber progress range all noted) named = none range named.5
  none_unpacked (order.Check is all place quiet json progress against range noted) named = let e = named.0 in cc
  none_unpacked (order.Show is cost) named = let e = named.0 in cc
  none_unpacked (order.Info is count json) named = let e = named.0 in cc
  none_unpacked (order.FrameMd5 is range noted) named = let e = named.0 in cc
  none_unpacked (order.Trial i) named = let e = named.0 in cc

  pub none_checked : NamesNone (Some (codes "check", rows))
  none_checked (order.Pack i w c holder no_clobber progress) named = let e = named.0 in cc
  none_checked (order.Unpack i w no_clobber progress range all noted) named = let e = named.0 in cc
  none_checked (order.Check is all place quiet json progress against range noted) named = none range named.8
  none_checked (order.Show is cost) named = let e = named.0 in cc
  none_checked (order.Info is count json) named = let e = named.0 in cc
  none_checked (order.FrameMd5 is range noted) named = let e = named.0 in cc
  none_checked (order.Trial i) named =
      let first : 99 ≡ 116 = ap (λ (t : Text). slice_index t 0) named.0 in
      omega (arith, first)

  pub none_hashed : NamesNone (Some (codes "framemd5", rows))
  none_hashed (order.Pack i w c holder no_clobber progress) named = let e = named.0 in cc
  none_hashed (order.Unpack i w no_clobber progress range all noted) named = let e = named.0 in cc
  none_hashed (order.Check is all place quiet json progress against range noted) named = let e = named.0 in cc
  none_hashed (order.Show is cost) named = let e = named.0 in cc
  none_hashed (order.Info is count json) named = let e = named.0 in cc
  none_hashed (order.FrameMd5 is range noted) named = none range named.2
  none_hashed (order.Trial i) named = let e = named.0 in cc
