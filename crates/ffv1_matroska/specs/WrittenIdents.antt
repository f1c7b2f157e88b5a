-- IDs of elements that are written and not looked at by a reader (RFC 8794, 11.2 and 11.3; RFC
-- 9559, 5.1).
use Rattle.std.specs.Prelude.{ℕ}

abbrev pub ebml_version : ℕ
ebml_version = 0x4286

abbrev pub max_id_length : ℕ
max_id_length = 0x42F2

abbrev pub max_size_length : ℕ
max_size_length = 0x42F3

abbrev pub type_version : ℕ
type_version = 0x4287

abbrev pub void : ℕ
void = 0xEC

abbrev pub seek_head : ℕ
seek_head = 0x114D9B74

abbrev pub seek : ℕ
seek = 0x4DBB

abbrev pub seek_id : ℕ
seek_id = 0x53AB

abbrev pub seek_position : ℕ
seek_position = 0x53AC

abbrev pub info : ℕ
info = 0x1549A966

abbrev pub timestamp_scale : ℕ
timestamp_scale = 0x2AD7B1

abbrev pub duration : ℕ
duration = 0x4489

abbrev pub muxing_app : ℕ
muxing_app = 0x4D80

abbrev pub writing_app : ℕ
writing_app = 0x5741

abbrev pub track_uid : ℕ
track_uid = 0x73C5

abbrev pub flag_lacing : ℕ
flag_lacing = 0x9C

abbrev pub language : ℕ
language = 0x22B59C

abbrev pub flag_interlaced : ℕ
flag_interlaced = 0x9A

abbrev pub field_order : ℕ
field_order = 0x9D

abbrev pub display_width : ℕ
display_width = 0x54B0

abbrev pub display_height : ℕ
display_height = 0x54BA

abbrev pub display_unit : ℕ
display_unit = 0x54B2

abbrev pub timestamp : ℕ
timestamp = 0xE7

abbrev pub cues : ℕ
cues = 0x1C53BB6B

abbrev pub cue_point : ℕ
cue_point = 0xBB

abbrev pub cue_time : ℕ
cue_time = 0xB3

abbrev pub cue_track_positions : ℕ
cue_track_positions = 0xB7

abbrev pub cue_track : ℕ
cue_track = 0xF7

abbrev pub cue_cluster_position : ℕ
cue_cluster_position = 0xF1
