-- What goes out, as texts.
use Rattle.std.specs.Prelude.{ℕ, List, codes}
use Rattle.room_msg.specs.Written.{server_text}
use Rattle.room_model.specs.Server.{Outbound, Pong, Message, Closed}
use Rattle.room_links.specs.declared.outs.Out.{Out}
use Rattle.room_links.specs.declared.outs.Out.TheVariants.{Send, Close}
use Rattle.room_links.specs.declared.outs.Sending.{Sending}
use Rattle.room_links.specs.declared.outs.Sending.TheVariants.{Says, Shuts}

abbrev pub out_to : ℕ → Sending → Out
out_to k (Says text) = Send k text
out_to k (Shuts code text) = Close k code text

-- a message goes as its text
abbrev pub sending_of : Outbound → Sending
sending_of Pong = Says (codes "pong")
sending_of (Message m) = Says (server_text m)
sending_of (Closed code text) = Shuts code text

-- what is outbound on a connection, as it goes out
abbrev pub written : ℕ × Outbound → Out
written o = out_to o.0 (sending_of o.1)
