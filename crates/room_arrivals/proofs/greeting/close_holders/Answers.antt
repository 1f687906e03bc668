use Rattle.std.proofs.Common.{sym, ap}
use Rattle.room_model.specs.Server.{elsewhere}
use Rattle.room_links.specs.declared.outs.Sending.TheVariants.{Shuts}
use Rattle.room_arrivals.proofs.greeting.close_holders.Goals as goal

pub returns : goal.returns
returns c = c.send.ensures elsewhere (ap (Shuts 4408) (sym c.in_ok-from_str.ensures))
