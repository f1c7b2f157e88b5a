-- The format, BITMAPINFOHEADER, of a given size, up to the record that comes after it (RFC 9043,
-- 4.3.3).
use Rattle.ffv1_avi.proofs.write.put_format.Goals as goal

pub returns : goal.returns
returns g c = rw c.requires at c.put_fields.ensures
