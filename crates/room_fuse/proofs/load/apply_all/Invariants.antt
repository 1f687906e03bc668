use Rattle.std.proofs.Common.{◌≡◌, drop}
use Rattle.room_fuse.specs.Held.{applied}
use Rattle.room_fuse.proofs.load.apply_all.Given as goal

abbrev pub invariant-loop-call : goal.invariant-loop-call
invariant-loop-call l = applied l.bytes.items l.file (drop l.call-index l.held) ≡ applied l.initial.bytes.items l.file l.held
