use Rattle.std.proofs.Common.{sym}
use Rattle.std.proofs.lemmas.List.{drop-drop}
use Rattle.room_hub.proofs.board.passed.Goals as goal

pub returns-then-at-events : goal.returns-then-at-events
returns-then-at-events c = sym (drop-drop 1 c.args.at c.args.events.now)
