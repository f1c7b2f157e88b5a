-- Behind the opening of a file no bytes are counted of an RIFF whose size is not known.
use Rattle.std.proofs.Common.{◌≡◌, ◌⊎◌, ◌-◌, ℕ, Bool, true, false, List, length, Ok, inl, inr, refl, sym, subst}
use Rattle.byteorder.specs.Endian.{little_number}
use Rattle.ffv1_reads.specs.Head.{Head}
use Rattle.ffv1_avi.specs.Damaged.{CountsInput}
use Rattle.ffv1_avi.specs.Files.{Headers, open_read, owed, place_in}
use Rattle.ffv1_avi.specs.Places.{first_open, first_place, unsized}
use Rattle.ffv1_avi.specs.Walk.{is_known}
use Rattle.ffv1_avi.specs.declared.place.Extent.{Extent}
use Rattle.ffv1_avi.specs.declared.place.Extent.TheVariants.{FirstMovi, EveryRiff}
use Rattle.ffv1_avi.specs.declared.place.Names.TheVariants.{Closed}
use Rattle.ffv1_avi.specs.declared.place.Open.{Open}
use Rattle.ffv1_avi.specs.declared.place.Open.TheVariants.{Sized, OpenRiff, OpenMovi}
use Rattle.ffv1_avi.specs.declared.place.Place.{Place}
use Rattle.ffv1_avi.proofs.OpenLaws.{IsOpenMovi, IsSizedMovi, open_sound}
use Rattle.ffv1_avi.proofs.PartLaws.{parts_text}

place_counts : (extent : Extent) (said : ℕ) (place : Place) → CountsInput place → CountsInput (place_in extent said place)
place_counts FirstMovi said place counts = counts
place_counts EveryRiff said place counts = on_known (is_known said) refl
  where
    by_open : (o : Open) → CountsInput (unsized o place)
    by_open Sized = λ opened. refl
    by_open OpenRiff = counts
    by_open OpenMovi = counts

    on_known : (b : Bool) → is_known said ≡ b → CountsInput (place_in EveryRiff said place)
    on_known true p = rw p counts
    on_known false p = rw p (by_open place.open_in)

first_counts : (extent : Extent) (said long : ℕ) (movi_size : List ℕ) (known : Headers) (place : Place) → IsSizedMovi extent said long movi_size known place ⊎ IsOpenMovi extent said long movi_size known place → CountsInput place
first_counts FirstMovi said long movi_size known place (inl sized) =
    let made = first_place FirstMovi sized.left (little_number 4 movi_size - 4) (Closed known.passed known.streams) (owed known.frames) in
    subst CountsInput (sym sized.place_is) (place_counts FirstMovi said made (λ opened. absurd (cc (opened))))
first_counts EveryRiff said long movi_size known place (inl sized) =
    let made = first_place EveryRiff sized.left (little_number 4 movi_size - 4) (Closed known.passed known.streams) (owed known.frames) in
    subst CountsInput (sym sized.place_is) (place_counts EveryRiff said made (λ opened. absurd (cc (opened))))
first_counts extent said long movi_size known place (inr other) =
    let made = first_open (Closed known.passed known.streams) (owed known.frames) in
    subst CountsInput (sym other.place_is) (place_counts extent said made (λ opened. refl))

pub opened_counts : (extent : Extent) (file : List ℕ) (y : Head × Place) (rest : List ℕ) → open_read extent file ≡ Ok (y, rest) → CountsInput y.1
opened_counts extent file y rest read =
    let is = open_sound extent file (y, rest) read in
    let top = is.top in
    first_counts extent (little_number 4 is.riff_size) (length (parts_text top.parts)) top.movi_size top.known y.1 top.movi
