-- Why a run ended.
use Rattle.std.proofs.Common.{◌≡◌, ◌⊎◌, ⊎_elim, ℕ, Err, sym, ◌∙◌}
use Rattle.room_host.specs.Faults.{IsFault}
use Rattle.room_host.specs.declared.fault.HostFault.{HostFault}
use Rattle.room_host.specs.declared.fault.HostFault.TheVariants as host
use Rattle.room_log.specs.Log.{State, empty_state}
use Rattle.room_replay.specs.Files.{Files, Room, Stands}
use Rattle.room_replay.specs.Files.{New as NewFiles, Damaged as DamagedFiles}
use Rattle.room_run.specs.Halting.{halt_of, IsDone, IsOfOpening, IsOfFiles, IsWhole}
use Rattle.room_run.specs.declared.halt.Halt.{Halt}
use Rattle.room_run.specs.declared.halt.Halt.TheVariants.{Memory, Sink, Disk, Damaged}

-- whatever a result would hold, where it holds a fault
pub done_alike : (A B : Type 0) (e : Halt) → IsDone {T = A} (Err e) → IsDone {T = B} (Err e)
done_alike A B Memory d = d
done_alike A B Sink d = d
done_alike A B Disk d = d
done_alike A B (Damaged f at) d = d

pub not_done : (T : Type 0) (f : HostFault) → IsDone {T = T} (Err (halt_of f)) → ⊥
not_done T host.Memory d = d
not_done T host.Disk d = d
not_done T (host.Damaged f at) d = d

pub of_opening : (f : HostFault) → IsOfOpening (halt_of f)
of_opening host.Memory = tt
of_opening host.Disk = tt
of_opening (host.Damaged f at) = tt

-- what an opening answers of files

pub of_files : (fs : Files) (f : HostFault) → (f ≡ host.Disk) ⊎ IsFault fs f → IsOfFiles fs (halt_of f)
of_files fs host.Memory h = tt
of_files fs host.Disk h = tt
of_files fs (host.Damaged f at) h = ⊎_elim (λ (is : host.Damaged f at ≡ host.Disk). absurd cc) (λ is. is) h

not_damaged : (s : State) (fs : Files) (f at : ℕ) → Stands s fs → fs ≡ DamagedFiles f at → ⊥
not_damaged s fs f at stands is = ⊎_elim
    (λ (room : fs ≡ Room s). not_room s f at (sym room ∙ is))
    (λ (new : (fs ≡ NewFiles) × (s ≡ empty_state)). not_new f at (sym new.0 ∙ is))
    stands
  where
    not_room : (s : State) (f at : ℕ) → Room s ≡ DamagedFiles f at → ⊥
    not_room s f at is = cc

    not_new : (f at : ℕ) → NewFiles ≡ DamagedFiles f at → ⊥
    not_new f at is = cc

-- files that stand for a state are found whole
pub stand_whole : (s : State) (fs : Files) (f : HostFault) → Stands s fs → (f ≡ host.Disk) ⊎ IsFault fs f
    → IsWhole (halt_of f)
stand_whole s fs host.Memory stands h = tt
stand_whole s fs host.Disk stands h = tt
stand_whole s fs (host.Damaged f at) stands h = ⊎_elim
    (λ (is : host.Damaged f at ≡ host.Disk). absurd cc)
    (λ (is : fs ≡ DamagedFiles f at). absurd (not_damaged s fs f at stands is))
    h
