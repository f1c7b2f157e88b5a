-- What is noted of a whole file says no more than its end does.
use Rattle.ffv1_files.proofs.NotedLaws.{avi_bare, avi_open, avi_others, avi_streams, segment_bare, segment_others}
use Rattle.ffv1_files.proofs.NotedLaws.{avi_untimed, segment_times}
use Rattle.ffv1_files.proofs.NotedLaws.{avi_repeated, segment_repeated, segment_tracks, segment_unknown}
use Rattle.ffv1_files.proofs.laws.notes_say_what_the_end_leaves.Goals as goal

pub returns : goal.returns
returns c = record {
  avi = avi_bare;
  repeated = avi_repeated;
  none = segment_repeated;
  streams = avi_streams;
  tracks = segment_tracks;
  times = segment_times;
  untimed = avi_untimed;
  open_ended = avi_open c.no_bytes_told_are_none.ensures.open_ended;
  others = avi_others c.no_bytes_told_are_none.ensures.open_ended;
  sized = segment_bare;
  behind = λ file rest notes is. segment_others file rest notes is
      c.what_stands_behind_is_known.ensures.nothing;
  unknown = segment_unknown;
}
