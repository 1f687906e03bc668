-- What contracts see of a disk in memory whose calls may fail.
use Rattle.std.specs.Prelude.{List}
use Rattle.room_edge.specs.Memory.{Calls}
use Rattle.room_disk.specs.declared.medium.Entry.{Entry}
use Rattle.room_disk.specs.declared.mem.MemDisk.{MemDisk}

-- the calls on its files
abbrev pub record_of : MemDisk → List Entry
record_of d = d.medium.entries.items

-- which of its calls are to fail, and how many did
abbrev pub calls_of : MemDisk → Calls
calls_of d = d.calls
