-- How many streams chunks of hdrl have, if every RIFF is read.
use Rattle.std.proofs.Common.{◌≡◌, ℕ, suc, ◌+◌, ◌≤◌, min, nat_lt, Bool, true, false, Option, Some, None, List, [], ◌∷◌, length, take, codes, ap, ◌∙◌, arith, refl}
use Rattle.ffv1_avi.specs.declared.place.Extent.TheVariants.{EveryRiff}
use Rattle.ffv1_avi.specs.Chunks.{Chunk, is_list, those}
use Rattle.ffv1_avi.specs.Files.{Headers, stream_came, stream_known}
use Rattle.ffv1_reads.specs.Head.{Head}
use Rattle.ffv1_avi.specs.Walk.{is_name}
use Rattle.ffv1_avi.proofs.HeaderLaws.{StreamTakes, TakesHeader}
use Rattle.ffv1_avi.proofs.ListWalks.{Run}
use Rattle.ffv1_avi.proofs.OtherStreams.{other_keeps}

one_more : (a n b : ℕ) → a ≡ min (b + 1) 100 → min (a + n) 100 ≡ min (b + suc n) 100
one_more a n b is = grind (arith, is)

-- each list strl is counted, up to 100
pub run_counted : (cs : List Chunk) (s t : Headers) → s.streams ≤ 100 → Run (TakesHeader EveryRiff) s cs t → t.streams ≡ min (s.streams + length (those (is_list (codes "strl")) cs)) 100
run_counted [] s t few run = ap (λ (z : Headers). z.streams) run ∙ (grind (arith, few))
run_counted (c ∷ cs) s t few run =
    on_list (is_name c.name (codes "LIST")) (is_name (take 4 c.bytes) (codes "strl")) (is_name (take 4 c.bytes) (codes "odml")) refl refl refl run.0 run.1 (λ low. run_counted cs run.0 t low run.2)
  where
    Goal : Type 0
    Goal = t.streams ≡ min (s.streams + length (those (is_list (codes "strl")) (c ∷ cs))) 100

    n : ℕ
    n = length (those (is_list (codes "strl")) cs)

    -- a chunk that is no stream
    passing : (m : Headers) → m.streams ≡ s.streams → is_list (codes "strl") c ≡ false → (m.streams ≤ 100 → t.streams ≡ min (m.streams + n) 100) → Goal
    passing m same is more = rw is (more (omega (arith, same, few)) ∙ ap (λ z. min (z + n) 100) same)

    counting : (m : Headers) → m.streams ≡ min (s.streams + 1) 100 → is_list (codes "strl") c ≡ true → (m.streams ≤ 100 → t.streams ≡ min (m.streams + n) 100) → Goal
    counting m same is more = rw is (more (omega (arith, same)) ∙ one_more m.streams n s.streams same)

    known_streams : (o : Option Head) → (stream_known (stream_came EveryRiff s) o).streams ≡ min (s.streams + 1) 100
    known_streams None = refl
    known_streams (Some head) = refl

    on_stream : (o : Option Head) (b : Bool) (m : Headers) → StreamTakes EveryRiff (stream_came EveryRiff s) o b c.bytes m → m.streams ≡ min (s.streams + 1) 100
    on_stream (Some head) b m takes = (other_keeps EveryRiff (stream_came EveryRiff s) m c.bytes takes).3
    on_stream None false m takes = ap (λ (z : Headers). z.streams) takes
    on_stream None true m takes = ap (λ (z : Headers). z.streams) takes.1 ∙ known_streams takes.0

    on_list : (a b d : Bool) → is_name c.name (codes "LIST") ≡ a → is_name (take 4 c.bytes) (codes "strl") ≡ b → is_name (take 4 c.bytes) (codes "odml") ≡ d → (m : Headers) → TakesHeader EveryRiff s c.name c.bytes m → (m.streams ≤ 100 → t.streams ≡ min (m.streams + n) 100) → Goal
    on_list false b d p q r m takes more = passing m (ap (λ (z : Headers). z.streams) (rw p at takes)) (rw p refl) more
    on_list true true d p q r m takes more = counting m (on_stream s.head (nat_lt s.passed 100) m (rw (p, q) at takes)) (rw (p, q) refl) more
    on_list true false true p q r m takes more =
        let has = rw (p, q, r) at takes in
        passing m (ap (λ (z : Headers). z.streams) has.5) (rw (p, q) refl) more
    on_list true false false p q r m takes more = passing m (ap (λ (z : Headers). z.streams) (rw (p, q, r) at takes)) (rw (p, q) refl) more
