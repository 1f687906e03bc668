use Rattle.std.proofs.Common.{ap, ◌∙◌, map, subst, ◌≡◌, Ok}
use Rattle.room_json.specs.Fields.{each_in}
use Rattle.room_msg.specs.Msg.{client_in}
use Rattle.room_msg.specs.Written.{client_out}
use Rattle.room_msg.proofs.Framed.{client_frame}
use Rattle.room_msg.proofs.sending.write_client.Goals as goal

pub returns-clause-again : goal.returns-clause-again
returns-clause-again c = λ short shallow.
    client_frame c.args.msgs.now c.in_ok-items.items c.in_ok-text.text (c.in_ok-items.ensures.value ∙ ap (map client_out) c.as_slice.ensures)
    (subst (λ ms. each_in client_in (map client_out ms) ≡ Ok ms) c.as_slice.ensures c.in_ok-items.ensures.again)
    c.in_ok-text.ensures.text c.in_ok-text.ensures.again short shallow
