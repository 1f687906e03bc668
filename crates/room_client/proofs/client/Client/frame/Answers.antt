use Rattle.room_msg.specs.Frame.{server_frame_in}
use Rattle.room_client.proofs.Receipts.{refused_lost}
use Rattle.room_client.proofs.client.Client.frame.Goals as goal

pub returns-then-is_err-clause-err : goal.returns-then-is_err-clause-err
returns-then-is_err-clause-err g c =
    refused_lost c.take_frame-result.result c.args.self.now (server_frame_in c.args.text.now)
    c.take_frame-result.new.self c.lost.new.self c.take_frame-result.ensures.err c.lost.ensures
