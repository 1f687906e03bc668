use Rattle.std.proofs.Common.{◌∙◌, sym}
use Rattle.room_arrivals.proofs.Naming.{named}
use Rattle.room_arrivals.proofs.users.put_name.Goals as goal

pub returns : goal.returns
returns g c = λ es before.
    named c.args.store.now.state.sessions c.args.conn c.args.number c.args.link.now es c.in-Some.actor c.in_ok-name.name
    c.args.names.now.entries c.insert.new.self.entries c.if-number-conn.false (sym c.actor.ensures ∙ c.in-Some.is)
    c.in_ok-name.ensures before c.in_ok-insert.ensures.updates.0
