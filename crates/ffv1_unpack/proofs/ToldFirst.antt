-- The faults that are told before the frames are the first items of a file.
use Rattle.std.proofs.Common.{◌≡◌, refl, ℕ, suc, take, ◌<◌, Bool, List, [], ◌∷◌, ◌++◌, length, map, ap, sym, ◌∙◌, append-nil, append_assoc}
use Rattle.ffv1_record.specs.Accepted.{Accepted}
use Rattle.ffv1_record.specs.Configuration.{Configuration}
use Rattle.ffv1_matroska.specs.declared.told.ToldFault.{ToldFault}
use Rattle.ffv1_files.specs.Salvaged.{given_told}
use Rattle.ffv1_unpack.specs.JudgedItems.{IsJudgedItem, JudgedItem, frames_of, given_as, item_lines_from, told_line}
use Rattle.ffv1_unpack.specs.Play.{but_last}
use Rattle.ffv1_unpack.specs.Stream.{AreAll}
use Rattle.ffv1_unpack.specs.ToldItems.{told_as, told_items, told_lines}
use Rattle.ffv1_files.specs.Salvaged.{told_offset}

module _ (start : ℕ) where
  abbrev line : ToldFault → List ℕ
  line t = told_line (told_offset start t.position) t.fault

  -- their lines
  pub lines_told : (place : Bool) (c : Configuration) (i : ℕ) (ts : List ToldFault) (xs : List JudgedItem) → item_lines_from place c i (told_items start ts ++ xs) ≡ told_lines start ts ++ item_lines_from place c i xs
  lines_told place c i [] xs = refl
  lines_told place c i (t ∷ ts) xs = ap (λ z. line t ++ z) (lines_told place c i ts xs) ∙ sym (append_assoc (line t) (told_lines start ts) (item_lines_from place c i xs))

  pub frames_told : (ts : List ToldFault) (xs : List JudgedItem) → frames_of (told_items start ts ++ xs) ≡ frames_of xs
  frames_told [] xs = refl
  frames_told (t ∷ ts) xs = frames_told ts xs

  pub are_told : (a : Accepted) (ts : List ToldFault) (xs : List JudgedItem) → AreAll (IsJudgedItem a) xs → AreAll (IsJudgedItem a) (told_items start ts ++ xs)
  are_told a [] xs are = are
  are_told a (t ∷ ts) xs are = (tt, are_told a ts xs are)

  pub given_first : (ts : List ToldFault) (xs : List JudgedItem) → map given_as (told_items start ts ++ xs) ≡ map (given_told start) ts ++ map given_as xs
  given_first [] xs = refl
  given_first (t ∷ ts) xs = ap (λ z. given_told start t ∷ z) (given_first ts xs)

  pub but_last_told : (ts : List ToldFault) (x : JudgedItem) (xs : List JudgedItem) → but_last (told_items start ts ++ (x ∷ xs)) ≡ told_items start ts ++ but_last (x ∷ xs)
  but_last_told [] x xs = refl
  but_last_told (t ∷ []) x xs = refl
  but_last_told (t ∷ u ∷ ts) x xs = ap (λ z. told_as start t ∷ z) (but_last_told (u ∷ ts) x xs)

  -- one line more
  lines_both : (ts us : List ToldFault) → told_lines start (ts ++ us) ≡ told_lines start ts ++ told_lines start us
  lines_both [] us = refl
  lines_both (t ∷ ts) us = ap (λ z. line t ++ z) (lines_both ts us) ∙ sym (append_assoc (line t) (told_lines start ts) (told_lines start us))

  pub lines_next : (ts : List ToldFault) (i : ℕ) (t : ToldFault) → i < length ts → take (suc i) ts ≡ take i ts ++ (t ∷ []) → told_lines start (take (suc i) ts) ≡ told_lines start (take i ts) ++ told_line (told_offset start t.position) t.fault
  lines_next ts i t inside is = ap (told_lines start) is ∙ lines_both (take i ts) (t ∷ []) ∙ ap (λ z. told_lines start (take i ts) ++ z) (append-nil _)
