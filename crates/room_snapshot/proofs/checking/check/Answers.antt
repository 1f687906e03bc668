use Rattle.std.proofs.Common.{arith}
use Rattle.std.proofs.lemmas.List.{length-map}
use Rattle.room_snapshot.specs.Bounds.{kept}
use Rattle.room_snapshot.proofs.checking.check.Goals as goal

pub returns-clause-bounds : goal.returns-clause-bounds
returns-clause-bounds g c =
    let s = c.args.snapshot.now in
    record {
      valid = record {
        formed = g.met.T.Tree.formed s.tree;
        sound = g.met.T.Tree.sound s.tree;
        shallow = c.in_ok-rest-3.ensures.shallow;
        count = c.in_ok-rest.ensures.bounds;
        sessions = c.in_ok-rest-2.ensures.valid;
        actors = omega (arith, length-map s.sessions kept, c.in_ok-rest-2.ensures.few);
      };
      named = c.in_ok-rest-2.ensures.named;
      nodes = c.in_ok-rest-3.ensures.counted;
    }
