-- A frame, once it was served and put on the disk, or once the disk stopped in that.
use Rattle.std.proofs.Common.{◌≡◌, ℕ, ◌+◌, ◌-◌, Bool, true, false, cond, refl, sym, ap, ◌∙◌, subst}
use Rattle.std.specs.Prelude.{Result, Ok, Err}
use Rattle.room_disk.specs.Model.{Reads, Images, Only}
use Rattle.room_disk.specs.Stops.{Left}
use Rattle.room_disk.specs.declared.disk.Stop.{Stop}
use Rattle.room_fuse.specs.Mirrors.{CountsDown}
use Rattle.room_log.specs.Log.{State}
use Rattle.room_replay.specs.Files.{StandsFor}
use Rattle.room_store.specs.Consistent.{AreWritten}
use Rattle.room_store.specs.Stored.{IsOnDisk}
use Rattle.room_arrivals.specs.Serving.{listed}
use Rattle.room_server.specs.Commit.{Puts, Stops, HoldsNow}
use Rattle.room_server.specs.Faults.{IsBroken}
use Rattle.room_server.specs.Hosted.{Hosted, broken_by, server_in}
use Rattle.room_server.specs.declared.fault.ServerFault.{ServerFault}
use Rattle.room_server.proofs.Breaking.{whole_after}
use Rattle.room_model.specs.Server.{Served}
use Rattle.room_model.specs.World.{Host, Stopped, Fires, commit_calls, is_kept, state_with}
use Rattle.room_moves.specs.Fuses.{how_of}
use Rattle.room_host.specs.Rests.{Runs, Holds, Lies, Rests}
use Rattle.room_host.specs.Seen.{fuse_of, room_files, state_in_files}
use Rattle.room_host.specs.Outcomes.{FiresIn, GoesOn, left_of}
use Rattle.room_host.proofs.Moments.{at_end}
use Rattle.room_host.proofs.Firing.{made, fired}
use Rattle.room_host.proofs.Committing.{put_moments, put_written, put_counted, goes, clean, most, leaves_as}
use Rattle.room_host.proofs.Lying.{lies, no_fuse, seen_state}

module _ {D T : Type 0} (seen : D → Reads) (moment : D → ℕ) (images : D → Images) (h n : Hosted) (out : Served)
    (old new : D) where
  pub frame_runs : (x : T) → Runs (seen old) (images old (moment old)) h
      → IsBroken (broken_by h) (broken_by n) (Ok x)
      → n.store.place.base ≡ h.store.place.base → IsOnDisk (seen new) (images new (moment new)) n.store
      → HoldsNow moment images n.store.place.base n.store.state new
      → Puts {E = ServerFault} seen moment images h.store.place n.store.place (listed out.entry) h.store.state
      out.server.state old new (Ok x)
      → Runs (seen new) (images new (moment new)) n
  frame_runs x k broken base settled held puts = record {
    whole = whole_after (broken_by h) (broken_by n) x broken;
    base = base ∙ k.base;
    settled = settled;
    holds = record {
      stands = λ image each.
          subst (λ (b : ℕ). StandsFor b n.store.state image) (base ∙ k.base) (held image each);
      written = at_end moment images (AreWritten 0) old new
          (put_written seen moment images h.store.place n.store.place h.store.state out.server.state old new
          (Ok x) out.entry k.base k.holds puts);
    };
  }

module _ {D T : Type 0} (seen : D → Reads) (moment : D → ℕ) (images : D → Images) (stopped : D → Bool)
    (leaves : D → Left) (armed : D → ℕ) (way : D → Stop) (h n : Hosted) (out : Served) where
  -- it was served
  pub frame_rests : (old new : D) (x : T) → Rests seen stopped leaves old
      → Stops {E = ServerFault} seen moment stopped leaves h.store.place.base (listed out.entry) h.store.state
      out.server.state old new (Ok x)
      → Rests seen stopped leaves new
  frame_rests old new x rests so = record {
    going = goes T ServerFault seen moment stopped leaves h.store.place.base h.store.state out.server.state old new x
        out.entry rests.going so;
    clean = clean T ServerFault seen moment stopped leaves h.store.place.base h.store.state out.server.state old new x
        out.entry rests.clean so;
  }

  pub frame_goes : (old new : D) (x : T) → Rests seen stopped leaves old
      → CountsDown stopped armed moment way old new
      → Puts {E = ServerFault} seen moment images h.store.place n.store.place (listed out.entry) h.store.state
      out.server.state old new (Ok x)
      → Stops {E = ServerFault} seen moment stopped leaves h.store.place.base (listed out.entry) h.store.state
      out.server.state old new (Ok x)
      → GoesOn (commit_calls out.entry) (fuse_of armed way old) (fuse_of armed way new)
  frame_goes old new x rests counts puts so =
      made stopped armed moment way old new (commit_calls out.entry) rests.going
      (frame_rests old new x rests so).going counts
      (put_counted T ServerFault seen moment images h.store.place n.store.place h.store.state out.server.state old new x
      out.entry puts)

  -- the disk stopped in it
  pub frame_fires : (old mid new : D) (r : Result T ServerFault) → Rests seen stopped leaves old
      → h.store.place.base ≡ 0 → out.server.state ≡ state_with h.store.state out.entry
      → CountsDown stopped armed moment way old mid
      → Stops seen moment stopped leaves h.store.place.base (listed out.entry) h.store.state out.server.state old mid r
      → stopped mid ≡ true → ((f : ℕ) → seen new f ≡ leaves mid (way mid) f) → armed new ≡ 0
      → FiresIn (commit_calls out.entry) (fuse_of armed way old) (fuse_of armed way new)
      (Stopped (state_in_files (room_files (seen new)))) (left_of (server_in h) out)
  frame_fires old mid new r rests base follows counts so halted left unarmed =
      let stops = subst
      (λ (b : ℕ). Stops seen moment stopped leaves b (listed out.entry) h.store.state out.server.state old mid r)
      base so
      in
      record {
        call = moment mid - moment old;
        how = how_of (way mid);
        fires = fired stopped armed moment way old mid (commit_calls out.entry) rests.going halted counts
            (most seen moment stopped leaves 0 h.store.state out.server.state old mid r out.entry rests.going halted
            stops)
            ∙ ap (λ (w : Stop). Fires (moment mid - moment old) (how_of w)) (sym counts.way);
        disarmed = no_fuse armed way new unarmed;
        stopped = ap Stopped
            (seen_state seen moment images leaves mid new (way mid)
            (left_of (server_in h) out (moment mid - moment old) (how_of (way mid))) left
            (leaves_as seen moment stopped leaves 0 h.store.state out.server.state old mid r out.entry (way mid)
            rests.going rests.clean halted follows stops));
      }
