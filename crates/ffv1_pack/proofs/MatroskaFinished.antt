-- A Matroska file that is finished, after what a writer held before it.
use Rattle.std.specs.Prelude.{◌≡◌, ℕ, ◌+◌, ◌-◌, ◌<◌, List, [], ◌∷◌, ◌++◌, length, take, drop, Option, Some, None}
use Rattle.std.proofs.Common.{arith, refl, sym, ◌∙◌, ap, ap₂, subst, suc, length-append}
use Rattle.std.specs.Io.KnownBytes.{Appends}
use Rattle.std.proofs.KnownBytes.{Appends-trans}
use Rattle.ffv1_wire.specs.Patches.{Patches, PatchesBeginning, patched}
use Rattle.ffv1_wire.specs.Writes.{AppendsBeginning}
use Rattle.ffv1_reads.specs.Head.{Head}
use Rattle.ffv1_matroska.specs.Written.{begun_of, finish_of, finished_of, open_of, opening}
use Rattle.ffv1_matroska.specs.Writers.{cues_in, file_bytes, finished_opening, writing_of}
use Rattle.ffv1_matroska.specs.declared.track_entry.TrackEntry.{TrackEntry}
use Rattle.ffv1_video.specs.Output.{WritesUpTo}
use Rattle.ffv1_video.proofs.Output.{take_past}

-- the laws of `ffv1_matroska` on the end of a file
pub record EndLaws : Type 0 where
  pub cued : (head : Head) (details : TrackEntry) (frames : List (List ℕ)) → 0 < length frames → begun_of head details frames ++ cues_in (writing_of head details frames) ≡ open_of head details frames
  pub whole : (head : Head) (details : TrackEntry) (frames : List (List ℕ)) → file_bytes (writing_of head details frames) ≡ length (open_of head details frames)
  pub over : (head : Head) (details : TrackEntry) (frames : List (List ℕ)) → patched (open_of head details frames) 0 (finished_opening (writing_of head details frames)) ≡ finished_of head details frames

take_all : (xs ys : List ℕ) → take (length xs) (xs ++ ys) ≡ xs
take_all [] ys = refl
take_all (x ∷ xs) ys = ap (λ z. x ∷ z) (take_all xs ys)

drop_past : (xs ys : List ℕ) (k : ℕ) → drop (length xs + k) (xs ++ ys) ≡ drop k ys
drop_past [] ys k = let same : 0 + k ≡ k = omega arith in ap (λ n. drop n ys) same
drop_past (x ∷ xs) ys k =
    let same : suc (length xs) + k ≡ suc (length xs + k) = omega arith in
    ap (λ n. drop n (x ∷ (xs ++ ys))) same ∙ drop_past xs ys k

-- what is written over after other bytes
patched_after : (xs ys bs : List ℕ) → patched (xs ++ ys) (length xs) bs ≡ xs ++ patched ys 0 bs
patched_after xs ys bs =
    let none : 0 + length bs ≡ length bs = omega arith in
    ap₂ (λ a b. a ++ (bs ++ b)) (take_all xs ys) (drop_past xs ys (length bs) ∙ sym (ap (λ n. drop n ys) none))

over_known : (xs all bs done : List ℕ) (ys zs : List ℕ) → ys ≡ xs ++ all → patched all 0 bs ≡ done → zs ≡ patched ys (length ys - length all) bs → zs ≡ xs ++ done
over_known xs all bs done ys zs holds over is =
    let long : length ys ≡ length xs + length all = ap (λ z. length z) holds ∙ length-append xs all in
    let place : length ys - length all ≡ length xs = omega (arith, long) in
    is ∙ ap₂ (λ z n. patched z n bs) holds place ∙ patched_after xs all bs ∙ ap (λ z. xs ++ z) over

pub written_over : (old mid new : Option (List ℕ)) (all bs done : List ℕ) (back : ℕ) → back ≡ length all → patched all 0 bs ≡ done → Appends old mid all → Patches mid new back bs → Appends old new done
written_over None mid new all bs done back whole over holds patches = tt
written_over (Some xs) None new all bs done back whole over holds patches = absurd holds
written_over (Some xs) (Some ys) None all bs done back whole over holds patches = absurd patches
written_over (Some xs) (Some ys) (Some zs) all bs done back whole over holds patches =
    over_known xs all bs done ys zs holds over (patches.1 ∙ ap (λ n. patched ys (length ys - n) bs) whole)

module _ (laws : EndLaws) (head : Head) (details : TrackEntry) (frames : List (List ℕ)) (some : 0 < length frames) where
  -- its Cues were written after it
  pub with_cues : (old now mid : Option (List ℕ)) → Appends old now (begun_of head details frames) → Appends now mid (cues_in (writing_of head details frames)) → Appends old mid (open_of head details frames)
  with_cues old now mid begun cues =
      subst (Appends old mid) (laws.cued head details frames some) (Appends-trans old now mid (begun_of head details frames) (cues_in (writing_of head details frames)) begun cues)

  -- of those a beginning
  pub cut_cues : (old now new : Option (List ℕ)) → Appends old now (begun_of head details frames) → AppendsBeginning now new (cues_in (writing_of head details frames)) →
      WritesUpTo old new (length (begun_of head details frames)) (open_of head details frames)
  cut_cues old now new begun (k, few, cues) =
      let b = begun_of head details frames in
      let c = cues_in (writing_of head details frames) in
      let all = laws.cued head details frames some in
      let long : length (open_of head details frames) ≡ length b + length c = sym (ap (λ z. length z) all) ∙ length-append b c in
      record {
        count = length b + k;
        enough = omega arith;
        short = omega (arith, few, long);
        writes = subst (Appends old new) (sym (ap (λ z. take (length b + k) z) (sym all) ∙ take_past b c k)) (Appends-trans old now new b (take k c) begun cues);
      }

  -- and its opening was written over
  pub finished : (old mid new : Option (List ℕ)) → Appends old mid (open_of head details frames) → Patches mid new (file_bytes (writing_of head details frames)) (finished_opening (writing_of head details frames)) →
      Appends old new (finished_of head details frames)
  finished old mid new written patches =
      written_over old mid new (open_of head details frames) (finished_opening (writing_of head details frames)) (finished_of head details frames) (file_bytes (writing_of head details frames)) (laws.whole head details frames) (laws.over head details frames) written patches

  -- or in part
  pub finished_some : (mid new : Option (List ℕ)) → PatchesBeginning mid new (file_bytes (writing_of head details frames)) (finished_opening (writing_of head details frames)) →
      PatchesBeginning mid new (length (open_of head details frames)) (opening head (Some (finish_of head details frames)))
  finished_some mid new (k, few, patches) = (k, few, subst (λ n. Patches mid new n (take k (finished_opening (writing_of head details frames)))) (laws.whole head details frames) patches)
