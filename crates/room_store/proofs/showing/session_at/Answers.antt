use Rattle.std.proofs.Common.{rules, sym}
use Rattle.room_replay.proofs.Actors.{session_there}
use Rattle.room_store.proofs.showing.session_at.Goals as goal

pub returns : goal.returns
returns c = sym (session_there c.args.sessions.now c.args.actor _ (search rules) c.get.ensures)
