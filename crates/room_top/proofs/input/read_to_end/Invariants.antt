use Rattle.std.proofs.Common.{◌≤◌, ◌-◌, vec_len}
use Rattle.std.specs.Io.KnownBytes.{Consumes}
use Rattle.room_top.proofs.input.read_to_end.Given as goal

abbrev pub invariant-loop-buffer : goal.invariant-loop-buffer
invariant-loop-buffer g l =
    let s = g.S.Source in
    Consumes (s.left l.initial.source) (s.left l.source) l.bytes.items
    × (s.faults l.initial.source ≤ s.faults l.source) × (vec_len l.bytes ≤ 16777217)

abbrev pub decreases-loop-buffer : goal.decreases-loop-buffer
decreases-loop-buffer g l = 16777217 - vec_len l.bytes
