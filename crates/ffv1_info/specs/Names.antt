-- The names of what files say by numbers: colours (ITU-T H.273, in the words of FFmpeg), and how
-- chroma and fields lie.
use Rattle.std.specs.Prelude.{ℕ, List, [], codes, ◌==◌, ◌&&◌, if◌then◌else◌}

-- ColourPrimaries (H.273, 8.1); nothing where a number has no name
unfoldable pub primaries_name : ℕ → List ℕ
primaries_name n =
    if n == 1 then codes "bt709"
    else if n == 4 then codes "bt470m"
    else if n == 5 then codes "bt470bg"
    else if n == 6 then codes "smpte170m"
    else if n == 7 then codes "smpte240m"
    else if n == 8 then codes "film"
    else if n == 9 then codes "bt2020"
    else if n == 10 then codes "smpte428"
    else if n == 11 then codes "smpte431"
    else if n == 12 then codes "smpte432"
    else if n == 22 then codes "ebu3213"
    else []

-- TransferCharacteristics (H.273, 8.2); nothing where a number has no name
unfoldable pub transfer_name : ℕ → List ℕ
transfer_name n =
    if n == 1 then codes "bt709"
    else if n == 4 then codes "bt470m"
    else if n == 5 then codes "bt470bg"
    else if n == 6 then codes "smpte170m"
    else if n == 7 then codes "smpte240m"
    else if n == 8 then codes "linear"
    else if n == 9 then codes "log100"
    else if n == 10 then codes "log316"
    else if n == 11 then codes "iec61966-2-4"
    else if n == 12 then codes "bt1361e"
    else if n == 13 then codes "iec61966-2-1"
    else if n == 14 then codes "bt2020-10"
    else if n == 15 then codes "bt2020-12"
    else if n == 16 then codes "smpte2084"
    else if n == 17 then codes "smpte428"
    else if n == 18 then codes "arib-std-b67"
    else []

-- MatrixCoefficients (H.273, 8.3); nothing where a number has no name
unfoldable pub matrix_name : ℕ → List ℕ
matrix_name n =
    if n == 0 then codes "gbr"
    else if n == 1 then codes "bt709"
    else if n == 4 then codes "fcc"
    else if n == 5 then codes "bt470bg"
    else if n == 6 then codes "smpte170m"
    else if n == 7 then codes "smpte240m"
    else if n == 8 then codes "ycgco"
    else if n == 9 then codes "bt2020nc"
    else if n == 10 then codes "bt2020c"
    else if n == 11 then codes "smpte2085"
    else if n == 12 then codes "chroma-derived-nc"
    else if n == 13 then codes "chroma-derived-c"
    else if n == 14 then codes "ictcp"
    else []

-- Range (RFC 9559, 5.1.4.1.28.25); nothing where a number has no name
unfoldable pub range_name : ℕ → List ℕ
range_name n =
    if n == 1 then codes "limited"
    else if n == 2 then codes "full"
    else []

-- ChromaSitingHorz and ChromaSitingVert (RFC 9559, 5.1.4.1.28.23 and 5.1.4.1.28.24), in the words
-- that `pack` takes; nothing where they have no name
unfoldable pub siting_name : ℕ → ℕ → List ℕ
siting_name across down =
    if across == 1 && down == 1 then codes "topleft"
    else if across == 1 && down == 2 then codes "left"
    else if across == 2 && down == 2 then codes "centre"
    else []

-- picture_structure (RFC 9043, 4.6.7); nothing where a number has no name
unfoldable pub fields_name : ℕ → List ℕ
fields_name n =
    if n == 1 then codes "top field first"
    else if n == 2 then codes "bottom field first"
    else if n == 3 then codes "progressive"
    else []
