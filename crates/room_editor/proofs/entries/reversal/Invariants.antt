use Rattle.std.proofs.Common.{◌≡◌, ◌++◌, drop, reverse}
use Rattle.room_model.specs.Calls.{entry_reversal}
use Rattle.room_editor.proofs.entries.reversal.Given as goal

-- the changes that are left are taken back first
abbrev pub invariant-loop-change : goal.invariant-loop-change
invariant-loop-change g l =
    entry_reversal (g.T.Tree.nodes l.t) l.me (drop l.change-index l.entry) ++ reverse l.turned.items
    ≡ entry_reversal (g.T.Tree.nodes l.fn.t) l.fn.me l.entry
