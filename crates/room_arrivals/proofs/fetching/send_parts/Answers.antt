use Rattle.std.proofs.Common.{rules}
use Rattle.room_arrivals.proofs.Parted.{goes_on}
use Rattle.room_arrivals.proofs.fetching.send_parts.Goals as goal

pub loop-rest-preserved : goal.loop-rest-preserved
loop-rest-preserved c =
    goes_on c.args.conn c.args.seq c.args.last c.loop-rest.outs c.send_part.new.outs _ c.loop-rest.rest.now
    c.split_at.result.0.now c.split_at.result.1.now c.in_ok-send_part.ensures c.split_at.ensures.front
    c.split_at.ensures.back (search rules) c.loop-rest.invariant
