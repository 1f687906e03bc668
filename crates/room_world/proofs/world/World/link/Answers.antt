use Rattle.std.proofs.Common.{sym}
use Rattle.room_world.proofs.world.World.link.Goals as goal

pub returns-clause-does : goal.returns-clause-does
returns-clause-does g c fs fuse =
    record { lines_are = sym c.new.ensures; world_is = sym (c.in_ok-open.ensures.opens fs fuse) }
