use Rattle.room_script.proofs.Texts.{key_as_text}
use Rattle.room_access.proofs.words.read_key.Goals as goal

pub returns : goal.returns
returns c = rw (key_as_text c.args.word.now (cc) (cc)) c.read_text.ensures
