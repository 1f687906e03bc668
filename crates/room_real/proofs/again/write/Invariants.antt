-- Interrupted writes write nothing.
use Rattle.std.specs.Io.KnownBytes.{Keeps}
use Rattle.room_real.proofs.again.write.Given as goal

abbrev pub invariant-loop-try : goal.invariant-loop-try
invariant-loop-try g l = let w = g.W.Write in Keeps (w.contents l.initial.writer) (w.contents l.writer)
