-- What is answered of files that stand so, beside Ok, where the disk doesn't fail.
use Rattle.std.specs.Prelude.{◌≡◌}
use Rattle.room_journal.specs.declared.fault.JournalFault.{JournalFault}
use Rattle.room_journal.specs.declared.fault.JournalFault.TheVariants.{Memory, Disk, Damaged as DamagedAt}
use Rattle.room_replay.specs.Files.{Files, Damaged}

abbrev pub IsFault : Files → JournalFault → Type 0
IsFault fs Memory = Unit {0}
IsFault fs Disk = ⊥
IsFault fs (DamagedAt f at) = fs ≡ Damaged f at
