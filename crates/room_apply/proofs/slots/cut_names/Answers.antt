-- What is left to prove of `slots::cut_names`.
use Rattle.std.proofs.Common.{rules}
use Rattle.room_apply.proofs.slots.cut_names.Goals as goal

pub loop-name-preserved : goal.loop-name-preserved
loop-name-preserved g c = record {
  left = search rules;
  puts = λ h. c.cut_at.ensures.puts (c.loop-name.invariant.puts h);
  undo = λ s a u. c.cut_at.ensures.undo s a (c.loop-name.invariant.undo s a u);
}

pub returns-in_err-cut_at-clause-undo : goal.returns-in_err-cut_at-clause-undo
returns-in_err-cut_at-clause-undo g c = λ s a u. c.cut_at.ensures.undo s a (c.loop-name.invariant.undo s a u)

pub returns-in_err-cut_at-clause-puts : goal.returns-in_err-cut_at-clause-puts
returns-in_err-cut_at-clause-puts g c = λ h. c.cut_at.ensures.puts (c.loop-name.invariant.puts h)
