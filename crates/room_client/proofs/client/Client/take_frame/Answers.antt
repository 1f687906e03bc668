use Rattle.std.proofs.lemmas.Result.{err_from_is_err_and}
use Rattle.room_client.proofs.Receipts.{misread}
use Rattle.room_client.proofs.client.Client.take_frame.Goals as goal

pub returns-in_err-read_server-clause-err : goal.returns-in_err-read_server-clause-err
returns-in_err-read_server-clause-err g c =
    let p = err_from_is_err_and c.from_residual.result c.from_residual.ensures.1 in
    misread c.from_residual.result p.0 c.args.self.now _ _ c.in_err-read_server.ensures.err p.1 p.2
