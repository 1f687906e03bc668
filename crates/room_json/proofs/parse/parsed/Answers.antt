use Rattle.std.proofs.Common.{rules, ap, ok_or}
use Rattle.serde_json.specs.View.{view}
use Rattle.room_json.specs.Reading.{not_json}
use Rattle.room_json.proofs.Texts.{data_read, data_unread}
use Rattle.room_json.proofs.parse.parsed.Goals as goal

pub returns-in-Ok-clause-ok : goal.returns-in-Ok-clause-ok
returns-in-Ok-clause-ok c = data_read c.args.bytes.now (view c.in-Ok.value) c.in-Ok.ensures.ok.0 c.in-Ok.ensures.ok.1

pub returns-else-is_memory-clause-err : goal.returns-else-is_memory-clause-err
returns-else-is_memory-clause-err c =
    ap (λ d. ok_or d not_json) (data_unread c.args.bytes.now (c.in-Err.ensures.err (search rules)))
