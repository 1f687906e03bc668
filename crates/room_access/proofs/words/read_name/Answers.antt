use Rattle.room_access.proofs.Named.{name_as_text}
use Rattle.room_access.proofs.words.read_name.Goals as goal

pub returns : goal.returns
returns c = rw (name_as_text c.args.word.now (cc)) c.read_text.ensures
