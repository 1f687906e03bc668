use Rattle.std.proofs.Common.{All, drop}
use Rattle.room_json.proofs.sound.all_sound.Given as goal

abbrev pub invariant-loop-item : goal.invariant-loop-item
invariant-loop-item g l = All g.T.Sound.sound (drop l.item-index l.items) → All g.T.Sound.sound l.items
