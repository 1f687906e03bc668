-- What goes out, as it waits.
use Rattle.std.specs.Prelude.{ℕ, Bool, false, List, map, Option, Some, None, is_none}
use Rattle.room_links.specs.declared.outs.Out.{Out}
use Rattle.room_links.specs.declared.outs.Out.TheVariants.{Send, Close as CloseOut}
use Rattle.room_model.specs.World.{Conn}
use Rattle.room_queues.specs.declared.mail.Mail.{Mail}
use Rattle.room_queues.specs.declared.mail.Mail.TheVariants.{Frame, Close}
use Rattle.room_queues.specs.Seen.{AreMail}

abbrev pub mail_to : Out → ℕ × Mail
mail_to (Send k text) = (k, Frame text)
mail_to (CloseOut k code text) = (k, Close code text)

-- each text is read as it was meant
abbrev pub AreSent : List Out → Type 0
AreSent os = AreMail (map mail_to os)

-- a connection that no client dialled
abbrev pub is_link : Option Conn → Bool
is_link None = false
is_link (Some q) = is_none q.owner
