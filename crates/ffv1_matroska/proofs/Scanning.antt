-- The search for the next Cluster, byte by byte.
use Rattle.std.proofs.Common.{◌≡◌, ◌∙◌, ℕ, suc, List, [], ◌∷◌, ◌++◌, Option, None, Ok, refl, ap, append_assoc}
use Rattle.std.specs.Io.KnownBytes.{Consumes}
use Rattle.ffv1_wire.proofs.Bytes.{consumes_then}
use Rattle.ffv1_reads.specs.Reads.{Reading}
use Rattle.ffv1_reads.proofs.Reading.{Goes}
use Rattle.ffv1_matroska.specs.Turns.{byte_matched, scanned, scanned_on}

-- one byte more
pub scans_byte : {whole : Reading (Option ℕ)} {old now mid : Option (List ℕ)} {before after last : ℕ} (left n matched b : ℕ) → left ≡ suc n → Goes whole old before (scanned left matched) now after → last ≡ after → Consumes now mid (b ∷ []) →
    Goes whole old before (scanned_on (scanned n) (byte_matched matched b) n) mid last
unfolding scanned
scans_byte {whole = whole} {old = old} {now = now} {mid = mid} left n matched b is h same consumed = record {
  same = same ∙ h.same;
  bytes = h.bytes ++ b ∷ [];
  consumed = consumes_then old now mid h.bytes (b ∷ []) h.consumed consumed;
  leads = λ more. ap whole (append_assoc h.bytes (b ∷ []) more) ∙ h.leads (b ∷ more) ∙ rw is refl;
}

-- no byte is left
pub scan_ends : (left n matched : ℕ) → left ≡ suc n → scanned left matched [] ≡ Ok (None, [])
unfolding scanned
scan_ends left n matched is = rw is refl

pub scan_over : (left matched : ℕ) (text : List ℕ) → left ≡ 0 → scanned left matched text ≡ Ok (None, text)
unfolding scanned
scan_over left matched text is = rw is refl
