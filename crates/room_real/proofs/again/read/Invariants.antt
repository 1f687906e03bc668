-- Interrupted reads take nothing.
use Rattle.std.specs.Io.KnownBytes.{Keeps}
use Rattle.room_real.proofs.again.read.Given as goal

abbrev pub invariant-loop-try : goal.invariant-loop-try
invariant-loop-try g l = let r = g.R.Read in Keeps (r.remaining l.initial.reader) (r.remaining l.reader)
