-- The parts of RIFF before movi, as chunks.
use Rattle.std.proofs.Common.{◌≡◌, ℕ, Bool, true, false, List, [], ◌∷◌, ◌++◌, take, codes, flat_map, ap, ◌∙◌, sym, subst, refl}
use Rattle.std.specs.Cmp.Lexicographic.{same_text}
use Rattle.ffv1_avi.specs.Chunks.{AreChunks, AreParts, Chunk, IsChunk, Part, chunk_text, chunks_text, header_chunks, is_list, part_chunk}
pub use Rattle.ffv1_avi.specs.Begun.{parts_text}
use Rattle.ffv1_avi.specs.declared.place.Extent.{Extent}
use Rattle.ffv1_avi.specs.Files.{Headers}
use Rattle.ffv1_avi.specs.Walk.{is_name}
use Rattle.ffv1_avi.proofs.ListWalks.{Run, Taking}
use Rattle.ffv1_avi.proofs.HeaderLaws.{TakesHeader}
use Rattle.ffv1_avi.proofs.TopLaws.{TakesTop}

-- runs in a row
run_then : {S : Type 0} (T : Taking S) (xs ys : List Chunk) (s m t : S) → Run T s xs m → Run T m ys t → Run T s (xs ++ ys) t
run_then {S = S} T [] ys s m t h k = let P : S → Type 0 = λ z. Run T z ys t in subst P h k
run_then T (x ∷ xs) ys s m t h k = (h.0, h.1, run_then T xs ys h.0 m t h.2 k)

pub run_part : {S : Type 0} (T : Taking S) (xs ys : List Chunk) (s t : S) → Run T s (xs ++ ys) t → (m : S) × Run T s xs m × Run T m ys t
run_part T [] ys s t h = (s, refl, h)
run_part T (x ∷ xs) ys s t h = let more = run_part T xs ys h.0 t h.2 in (more.0, (h.0, h.1, more.1), more.2)

-- the parts that some chunks are
pub record ArePartsOf (extent : Extent) (chunks : List Chunk) (s t : Headers) : Type 0 where
  pub parts : List Part
  pub text : chunks_text chunks ≡ parts_text parts
  pub each : AreParts parts
  pub run : Run (TakesHeader extent) s (flat_map header_chunks parts) t

pub parts_of : (extent : Extent) (chunks : List Chunk) (s t : Headers) → AreChunks chunks → Run (TakesTop extent) s chunks t → ArePartsOf extent chunks s t
parts_of extent [] s t each run = record { parts = []; text = refl; each = tt; run = run }
parts_of extent (c ∷ cs) s t each run =
    on_list (is_name c.name (codes "LIST")) (is_name (take 4 c.bytes) (codes "hdrl")) (is_name (take 4 c.bytes) (codes "movi")) refl refl refl run.0 run.1 (parts_of extent cs run.0 t each.1 run.2)
  where
    other : (m : Headers) → m ≡ s → is_list (codes "hdrl") c ≡ false → is_list (codes "movi") c ≡ false → ArePartsOf extent cs m t → ArePartsOf extent (c ∷ cs) s t
    other m is hdrl movi more =
        let P : Headers → Type 0 = λ z. Run (TakesHeader extent) z (flat_map header_chunks more.parts) t in
        record { parts = Part.Other c ∷ more.parts; text = ap (λ z. chunk_text c ++ z) more.text; each = ((each.0, hdrl, movi), more.each); run = subst P is more.run }

    on_list : (a b d : Bool) → is_name c.name (codes "LIST") ≡ a → is_name (take 4 c.bytes) (codes "hdrl") ≡ b → is_name (take 4 c.bytes) (codes "movi") ≡ d → (m : Headers) → TakesTop extent s c.name c.bytes m → ArePartsOf extent cs m t → ArePartsOf extent (c ∷ cs) s t
    on_list false b d p q r m takes more = other m (rw p at takes) (rw p refl) (rw p refl) more
    on_list true true d p q r m takes more =
        let header = rw (p, q) at takes in
        let chunks = header.0 in
        let named : codes "LIST" ≡ c.name = sym (same_text c.name (codes "LIST") (sym p)) in
        let same : part_chunk (Part.Header c.size chunks c.padding) ≡ c =
        ap (λ (n : List ℕ). part_named n chunks) named ∙ ap (λ (b : List ℕ). part_filled b) (sym header.1) in
        let P : Chunk → Type 0 = λ z. IsChunk z in
        let is = subst P (sym same) each.0 in
        record { parts = Part.Header c.size chunks c.padding ∷ more.parts; text = ap (λ z. chunk_text z ++ chunks_text cs) (sym same) ∙ ap (λ z. chunk_text (part_chunk (Part.Header c.size chunks c.padding)) ++ z) more.text; each = ((is, header.2), more.each); run = run_then (TakesHeader extent) chunks (flat_map header_chunks more.parts) s m t header.3 more.run }
      where
        part_named : List ℕ → List Chunk → Chunk
        part_named n chunks = record { name = n; size = c.size; bytes = codes "hdrl" ++ chunks_text chunks; padding = c.padding }

        part_filled : List ℕ → Chunk
        part_filled b = record { name = c.name; size = c.size; bytes = b; padding = c.padding }
    on_list true false true p q r m takes more = absurd (rw (p, q, r) at takes)
    on_list true false false p q r m takes more = other m (rw (p, q, r) at takes) (rw (p, q) refl) (rw (p, r) refl) more

-- and the chunks that parts are
pub record AreChunksOf (extent : Extent) (parts : List Part) (s t : Headers) : Type 0 where
  pub chunks : List Chunk
  pub text : chunks_text chunks ≡ parts_text parts
  pub each : AreChunks chunks
  pub run : Run (TakesTop extent) s chunks t

pub chunks_of : (extent : Extent) (parts : List Part) (s t : Headers) → AreParts parts → Run (TakesHeader extent) s (flat_map header_chunks parts) t → AreChunksOf extent parts s t
chunks_of extent [] s t each run = record { chunks = []; text = refl; each = tt; run = run }
chunks_of extent (Part.Header size chunks padding ∷ ps) s t each run =
    let here = run_part (TakesHeader extent) chunks (flat_map header_chunks ps) s t run in
    let more = chunks_of extent ps here.0 t each.1 here.2 in
    let c = part_chunk (Part.Header size chunks padding) in
    record { chunks = c ∷ more.chunks; text = ap (λ z. chunk_text c ++ z) more.text; each = (each.0.0, more.each); run = (here.0, (chunks, refl, each.0.1, here.1), more.run) }
chunks_of extent (Part.Other c ∷ ps) s t each run =
    let more = chunks_of extent ps s t each.1 run in
    record { chunks = c ∷ more.chunks; text = ap (λ z. chunk_text c ++ z) more.text; each = (each.0.0, more.each); run = (s, on_list (is_name c.name (codes "LIST")) (is_name (take 4 c.bytes) (codes "hdrl")) (is_name (take 4 c.bytes) (codes "movi")) refl refl refl each.0.1 each.0.2, more.run) }
  where
    on_list : (a b d : Bool) → is_name c.name (codes "LIST") ≡ a → is_name (take 4 c.bytes) (codes "hdrl") ≡ b → is_name (take 4 c.bytes) (codes "movi") ≡ d → is_list (codes "hdrl") c ≡ false → is_list (codes "movi") c ≡ false → TakesTop extent s c.name c.bytes s
    on_list false b d p q r hdrl movi = rw p refl
    on_list true true d p q r hdrl movi = absurd (cc (rw (p, q) at hdrl))
    on_list true false true p q r hdrl movi = absurd (cc (rw (p, r) at movi))
    on_list true false false p q r hdrl movi = rw (p, q, r) refl
