-- Each sample computes.
use Rattle.std.proofs.Common.{refl}
use lib.Utf8.{encode}
use Rattle.std.specs.Str.{is_utf8, chars}
use Rattle.room_ids.specs.Ids.{number_in}
use Rattle.room_script.specs.Samples.{Samples}

pub samples : Samples
unfolding number_in is_utf8 chars encode
samples = record {
  one_word = refl;
  space_behind = refl;
  two_spaces = refl;
  no_client = refl;
  client = refl;
  last_client = refl;
  no_such_client = refl;
  client_zero = refl;
  leading_zero = refl;
  too_many_words = refl;
  server = refl;
  brief_server = refl;
  shown_client = refl;
  brief_client = refl;
  empty_text = refl;
  no_text = refl;
  blanks = refl;
  fuse = refl;
  no_fuse = refl;
  indented = refl;
  counted = refl;
  bad_line = refl;
  call = refl;
  question = refl;
  no_brief = refl;
  takes = refl;
  no_number = refl;
  live_map = refl;
  live_list = refl;
  no_live_list = refl;
  in_a_plain_one = refl;
  state = refl;
  next_state = refl;
  shape = refl;
  place = refl;
  pushed = refl;
  next_place = refl;
}
