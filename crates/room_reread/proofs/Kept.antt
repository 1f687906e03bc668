-- Each call and each message keeps what a client sends within a frame.
use Rattle.room_reread.specs.Fits.{KeepsFitting}
use Rattle.room_reread.proofs.Arriving.{fits_receive}
use Rattle.room_reread.proofs.Fitting.{fits_new, fits_lost, fits_dialled, fits_edit, fits_begin, fits_end, fits_back}
use Rattle.room_reread.proofs.Fitting.{fits_history, fits_presence, fits_event, fits_flushed, fits_resent}

pub keeps_fitting : KeepsFitting
keeps_fitting = record {
  new = fits_new;
  lost = fits_lost;
  dialled = fits_dialled;
  edit = fits_edit;
  batch_begin = fits_begin;
  batch_end = fits_end;
  go_back = fits_back;
  presence = fits_presence;
  event = fits_event;
  pauses = λ x h. fits_history x _ h;
  resumes = λ x h. fits_history x _ h;
  clears = λ x h. fits_history x _ h;
  flushed = fits_flushed;
  resent = fits_resent;
  receive = fits_receive;
}
