-- A recovery of files that hold a room, once it was done, or once the disk stopped in it.
use Rattle.std.proofs.Common.{◌≡◌, ⊎_elim, ℕ, List, sym, ap, ◌∙◌, subst, None}
use Rattle.std.specs.Prelude.{◌⊎◌}
use Rattle.room_disk.specs.Model.{Reads, Images, Within, WithinWhole}
use Rattle.room_log.specs.Log.{State, empty_state}
use Rattle.room_replay.specs.Files.{Files, New, Room, Damaged, Stands, StandsFor}
use Rattle.room_store.specs.Consistent.{AreWritten}
use Rattle.room_store.specs.Faults.{IsFault}
use Rattle.room_store.specs.declared.fault.StoreFault.{StoreFault}
use Rattle.room_store.specs.declared.fault.StoreFault.TheVariants as store
use Rattle.room_store.specs.Stored.{IsOnDisk}
use Rattle.room_server.specs.Commit.{HoldsNow}
use Rattle.room_server.specs.Hosted.{Hosted, broken_by, server_in}
use Rattle.room_model.specs.Server.{Server, Limits}
use Rattle.room_host.specs.Faults.{IsWhole, of_store}
use Rattle.room_host.specs.Rests.{Runs, Lies, Holds}
use Rattle.room_host.specs.Seen.{room_files, state_in_files}
use Rattle.room_host.specs.Outcomes.{begun}
use Rattle.room_host.proofs.Moments.{at_end, within}
use Rattle.room_host.proofs.Lying.{stands_state}

-- files that stand for a state aren't damaged

room_whole : (s : State) (f at : ℕ) → Room s ≡ Damaged f at → ⊥
room_whole s f at e = cc

new_whole : (f at : ℕ) → New ≡ Damaged f at → ⊥
new_whole f at e = cc

not_damaged : (s : State) (fs : Files) (f at : ℕ) → Stands s fs → fs ≡ Damaged f at → ⊥
not_damaged s fs f at stands is = ⊎_elim
    (λ (e : fs ≡ Room s). room_whole s f at (sym e ∙ is))
    (λ (e : (fs ≡ New) × (s ≡ empty_state)). new_whole f at (sym e.0 ∙ is))
    stands

disk_only : (f at : ℕ) → store.Damaged f at ≡ store.Disk → ⊥
disk_only f at e = cc

pub recovers_whole : (s : State) (fs : Files) (e : StoreFault) → Stands s fs → (e ≡ store.Disk) ⊎ IsFault fs e
    → IsWhole (of_store e)
recovers_whole s fs (store.Broken c) stands is = tt
recovers_whole s fs store.Memory stands is = tt
recovers_whole s fs store.Disk stands is = tt
recovers_whole s fs (store.Damaged f at) stands is = ⊎_elim
    (λ (e : store.Damaged f at ≡ store.Disk). absurd (disk_only f at e))
    (λ (e : fs ≡ Damaged f at). absurd (not_damaged s fs f at stands e))
    is
recovers_whole s fs (store.Gap e g) stands is = tt
recovers_whole s fs (store.Full n) stands is = tt
recovers_whole s fs (store.SessionsFull n) stands is = tt

module _ {D : Type 0} (seen : D → Reads) (moment : D → ℕ) (images : D → Images) (old : D)
    (here : (f : ℕ) → images old (moment old) f (seen old f)) (k : Lies (images old (moment old))) where
  -- the state that they stand for
  pub lying_state : state_in_files (room_files (seen old)) ≡ k.0
  lying_state = stands_state k.0 (room_files (seen old)) ((k.1).stands (seen old) here)

  -- and a fault of their recovery doesn't say that they are damaged
  pub lying_whole : (e : StoreFault) → (e ≡ store.Disk) ⊎ IsFault (room_files (seen old)) e → IsWhole (of_store e)
  lying_whole e is = recovers_whole k.0 (room_files (seen old)) e ((k.1).stands (seen old) here) is

  -- no file is made
  pub is_written : AreWritten 0 (seen old)
  is_written = (k.1).written (seen old) here

  pub start_moments : (new : D) → Within moment images old new (images old (moment old))
      → WithinWhole moment images old new (StandsFor 0 (state_in_files (room_files (seen old))))
  start_moments new run =
      subst (λ (s : State). WithinWhole moment images old new (StandsFor 0 s)) (sym lying_state)
      (within moment images (StandsFor 0 k.0) old new (k.1).stands run)

  pub start_written : (new : D) → Within moment images old new (images old (moment old))
      → WithinWhole moment images old new (AreWritten 0)
  start_written new run = within moment images (AreWritten 0) old new (k.1).written run

  pub start_runs : (h : Hosted) (new : D) → broken_by h ≡ None → h.store.place.base ≡ 0
      → IsOnDisk (seen new) (images new (moment new)) h.store → HoldsNow moment images 0 h.store.state new
      → Within moment images old new (images old (moment old)) → Runs (seen new) (images new (moment new)) h
  start_runs h new whole base settled held run = record {
    whole = whole;
    base = base;
    settled = settled;
    holds = record {
      stands = held;
      written = at_end moment images (AreWritten 0) old new (start_written new run);
    };
  }

-- the server that begins
pub begun_state : (h : Hosted) (limits : Limits) (seen : Reads) → Stands h.store.state (room_files seen)
    → server_in h ≡ begun h.store.state limits → server_in h ≡ begun (state_in_files (room_files seen)) limits
begun_state h limits seen stands is =
    is ∙ ap (λ (s : State). begun s limits) (sym (stands_state h.store.state (room_files seen) stands))
