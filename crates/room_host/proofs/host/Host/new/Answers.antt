use Rattle.room_host.proofs.host.Host.new.Goals as goal

pub returns-in-Ok-clause-state : goal.returns-in-Ok-clause-state
returns-in-Ok-clause-state g c told = (c.in-Ok.server.store.state, c.in-Ok.ensures.state told)
