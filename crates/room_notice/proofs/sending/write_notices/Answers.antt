use Rattle.std.proofs.Common.{string_bytes, ap, ◌∙◌}
use Rattle.std.proofs.lemmas.Result.{IfOk-weaker}
use Rattle.serde_json.proofs.FreeTexts.{text_of_value}
use Rattle.room_json.specs.Value.{data_of, text_of}
use Rattle.room_json.proofs.Values.{no_float}
use Rattle.room_model.specs.Notices.{notices_value}
use Rattle.room_notice.specs.Notices.{notices_in}
use Rattle.room_notice.proofs.sending.write_notices.Goals as goal

pub returns : goal.returns
returns c =
    let v = notices_value (notices_in c.as_slice.result.now) in
    let sent = c.in-Ok.ensures.events in
    let same = ap (λ ns. text_of (notices_value (notices_in ns))) c.as_slice.ensures in
    IfOk-weaker c.from_str.result _ _ (λ t e. e ∙ c.as_str.ensures.value ∙ text_of_value (data_of v) sent.0 (string_bytes c.in-Ok.text) sent.1 sent.2 (no_float v) ∙ same) c.from_str.ensures
