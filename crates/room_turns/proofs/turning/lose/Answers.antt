use Rattle.std.proofs.Common.{◌≡◌, ◌∙◌, ap, rules, List}
use Rattle.room_hub.specs.declared.hub.Event.{Event}
use Rattle.room_server.specs.Hosted.{server_in}
use Rattle.room_serving.specs.Serving.{goners}
use Rattle.room_serving.specs.Turns.{turned}
use Rattle.room_turns.specs.Gathering.{events_of}
use Rattle.room_turns.proofs.Turned.{goners_none}
use Rattle.room_turns.proofs.turning.lose.Goals as goal

pub returns-clause-still : goal.returns-clause-still
returns-clause-still g c =
    let v = server_in c.args.server.now in
    let same : events_of c.in_ok-came.came ≡ goners c.args.lost.now = search rules in
    c.take.ensures.still
    (ap (λ (es : List Event). (turned v es).entries) same ∙ goners_none v c.args.lost.now)
