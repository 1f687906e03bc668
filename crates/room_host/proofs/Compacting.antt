-- A compaction, once it was done, or once the disk stopped in it.
use Rattle.std.proofs.Common.{◌≡◌, ◌≤◌, ℕ, ◌+◌, ◌-◌, Bool, true, false, refl, sym, ap, ◌∙◌, subst}
use Rattle.std.specs.Prelude.{Result, Ok, Err, IsErr}
use Rattle.room_disk.specs.Model.{Reads, Images, WithinWhole}
use Rattle.room_disk.specs.Stops.{Left}
use Rattle.room_disk.specs.declared.disk.Stop.{Stop}
use Rattle.room_fuse.specs.Mirrors.{CountsDown}
use Rattle.room_log.specs.Log.{State}
use Rattle.room_replay.specs.Files.{StandsFor}
use Rattle.room_store.specs.Calls.{Compacts}
use Rattle.room_store.specs.Consistent.{AreWritten}
use Rattle.room_store.specs.Stored.{IsOnDisk}
use Rattle.room_server.specs.Faults.{IsBroken}
use Rattle.room_server.specs.Hosted.{Hosted, broken_by, server_in}
use Rattle.room_server.specs.declared.fault.ServerFault.{ServerFault}
use Rattle.room_server.proofs.Breaking.{whole_after}
use Rattle.room_model.specs.Server.{Server}
use Rattle.room_model.specs.World.{Stopped, Fires}
use Rattle.room_moves.specs.Fuses.{how_of}
use Rattle.room_host.specs.Rests.{Runs, Rests}
use Rattle.room_host.specs.Seen.{fuse_of, room_files, state_in_files}
use Rattle.room_host.specs.Outcomes.{FiresIn}
use Rattle.room_host.proofs.Moments.{at_end}
use Rattle.room_host.proofs.Firing.{fired}
use Rattle.room_host.proofs.Committing.{not_true, opposite}
use Rattle.room_host.proofs.Lying.{no_fuse, seen_state}

-- a disk that stopped, whose images stood for one state alone
pub fires_with : {D : Type 0} (seen : D → Reads) (moment : D → ℕ) (images : D → Images) (stopped : D → Bool)
    (leaves : D → Left) (armed : D → ℕ) (way : D → Stop) (old mid new : D) (calls : ℕ) (s : State)
    → stopped old ≡ false → CountsDown stopped armed moment way old mid → stopped mid ≡ true
    → moment mid ≤ moment old + calls → StandsFor 0 s (leaves mid (way mid))
    → ((f : ℕ) → seen new f ≡ leaves mid (way mid) f) → armed new ≡ 0
    → FiresIn calls (fuse_of armed way old) (fuse_of armed way new) (Stopped (state_in_files (room_files (seen new))))
    (λ call how. s)
fires_with seen moment images stopped leaves armed way old mid new calls s was counts halted most stands left unarmed =
    record {
      call = moment mid - moment old;
      how = how_of (way mid);
      fires = fired stopped armed moment way old mid calls was halted counts most
          ∙ ap (λ (w : Stop). Fires (moment mid - moment old) (how_of w)) (sym counts.way);
      disarmed = no_fuse armed way new unarmed;
      stopped = ap Stopped (seen_state seen moment images leaves mid new (way mid) s left stands);
    }

-- a call that answered Ok, where one that stopped doesn't
pub still_going : {D T : Type 0} (E : Type 0) (stopped : D → Bool) (old new : D) (x : T)
    → (stopped old ≡ false → stopped new ≡ true → IsErr {T = T} {E = E} (Ok x)) → stopped old ≡ false
    → stopped new ≡ false
still_going E stopped old new x fails was =
    not_true (stopped new) (λ halted. opposite false refl (fails was halted))

module _ {D T : Type 0} (seen : D → Reads) (moment : D → ℕ) (images : D → Images) (h n : Hosted) (old new : D)
    (r : Result T ServerFault) where
  pub compact_moments : Runs (seen old) (images old (moment old)) h
      → Compacts seen moment images h.store.place n.store.place h.store.state old new r
      → WithinWhole moment images old new (StandsFor 0 h.store.state)
  compact_moments k c =
      subst (λ (b : ℕ). WithinWhole moment images old new (StandsFor b h.store.state)) k.base c.any_moment

  pub compact_written : Runs (seen old) (images old (moment old)) h
      → ((f : ℕ) → images old (moment old) f (seen old f))
      → Compacts seen moment images h.store.place n.store.place h.store.state old new r
      → WithinWhole moment images old new (AreWritten 0)
  compact_written k here c =
      subst (λ (b : ℕ). WithinWhole moment images old new (AreWritten b)) k.base
      (c.written (subst (λ (b : ℕ). AreWritten b (seen old)) (sym k.base) (k.holds.written (seen old) here)))

pub compact_runs : {D T : Type 0} (seen : D → Reads) (moment : D → ℕ) (images : D → Images) (h n : Hosted)
    (old new : D) (x : T) → Runs (seen old) (images old (moment old)) h
    → ((f : ℕ) → images old (moment old) f (seen old f)) → IsBroken (broken_by h) (broken_by n) (Ok x)
    → n.store.place.base ≡ h.store.place.base → IsOnDisk (seen new) (images new (moment new)) n.store
    → server_in n ≡ server_in h
    → Compacts {E = ServerFault} seen moment images h.store.place n.store.place h.store.state old new (Ok x)
    → Runs (seen new) (images new (moment new)) n
compact_runs seen moment images h n old new x k here broken base settled same c = record {
  whole = whole_after (broken_by h) (broken_by n) x broken;
  base = base ∙ k.base;
  settled = settled;
  holds = record {
    stands = λ image each.
        subst (λ (v : Server). StandsFor 0 v.state image) (sym same)
        (at_end moment images (StandsFor 0 h.store.state) old new
        (compact_moments seen moment images h n old new (Ok x) k c) image each);
    written = at_end moment images (AreWritten 0) old new
        (compact_written seen moment images h n old new (Ok x) k here c);
  };
}
