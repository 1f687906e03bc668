use Rattle.room_json.specs.View.{json_of}
use Rattle.room_msg.proofs.ReadDepth.{text_depth}
use Rattle.room_msg.proofs.frames.read_text.Goals as goal

pub returns-clause-shallow : goal.returns-clause-shallow
returns-clause-shallow c = text_depth _ (json_of c.in_ok-json.json) c.in_ok-json.ensures.ok
