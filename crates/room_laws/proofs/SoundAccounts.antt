-- Each call and each message keeps an account sound.
use Rattle.room_laws.specs.Accounts.{KeepsSound, TreesAreValid, EmptyFits}
use Rattle.room_laws.proofs.SoundCalls.{new_sound, lost_sound, dialled_sound, begin_sound, end_sound, pause_sound, resume_sound, clear_sound, presence_sound, event_sound, flushed_sound, resent_sound, edit_sound, back_sound}
use Rattle.room_laws.proofs.SoundReceives.{receive_sound}

pub keeps_sound : TreesAreValid → EmptyFits → KeepsSound
keeps_sound trees fits = record {
  new = new_sound fits;
  lost = lost_sound;
  dialled = dialled_sound;
  edit = edit_sound;
  batch_begin = begin_sound;
  batch_end = end_sound;
  go_back = back_sound;
  presence = presence_sound;
  event = event_sound;
  pauses = pause_sound;
  resumes = resume_sound;
  clears = clear_sound;
  flushed = flushed_sound;
  resent = resent_sound;
  receive = receive_sound trees;
}
