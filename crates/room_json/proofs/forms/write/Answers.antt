use Rattle.std.proofs.Common.{string_bytes, ◌≡◌, Ok, sym, ◌∙◌, subst}
use Rattle.serde_json.proofs.FreeTexts.{text_of_value}
use Rattle.room_json.specs.Reading.{value_of_text}
use Rattle.room_json.specs.View.{json_of}
use Rattle.room_json.specs.Value.{data_of}
use Rattle.room_json.proofs.TextsAreUtf8.{text_spells}
use Rattle.room_json.proofs.Values.{no_float}
use Rattle.room_json.proofs.forms.write.Goals as goal

pub returns-clause-text : goal.returns-clause-text
returns-clause-text c =
    let v = json_of c.args.v.now in
    let sent = c.in-Ok.ensures.events in
    c.from_string.ensures ∙ text_of_value (data_of v) sent.0 (string_bytes c.in-Ok.text) sent.1.0 sent.2 (no_float v)

pub returns-clause-again : goal.returns-clause-again
returns-clause-again c = λ shallow.
    let v = json_of c.args.v.now in
    let sent = c.in-Ok.ensures.events in
    let same = text_of_value (data_of v) sent.0 (string_bytes c.in-Ok.text) sent.1.0 sent.2 (no_float v) in
    subst (λ t. value_of_text t ≡ Ok v) (sym (c.from_string.ensures ∙ same)) (text_spells v sent.1.1 shallow)

pub returns-clause-json : goal.returns-clause-json
returns-clause-json c = c.in-Ok.ensures.events.1.1
