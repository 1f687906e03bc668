-- Each sample computes.
use Rattle.std.proofs.Common.{refl}
use Rattle.room_access.specs.Samples.{Samples}

pub samples : Samples
samples = record {
  a_word = refl;
  any_word = refl;
  any_group = refl;
  two_spaces = refl;
  space_behind = refl;
  rule = refl;
  capital = refl;
  dash_first = refl;
  no_level = refl;
  no_text = refl;
  bad_line = refl;
}
