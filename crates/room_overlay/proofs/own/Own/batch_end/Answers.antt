use Rattle.std.proofs.Common.{arith}
use Rattle.room_overlay.proofs.Batches.{end_seen, index_seen}
use Rattle.room_overlay.proofs.own.Own.batch_end.Goals as goal

pub index-requires : goal.index-requires
index-requires c =
    omega (
      arith,
      index_seen _ _ _ _ _ _ c.self.invariant.0 _ c.self.view_is c.args.i c.requires,
      c.self.inside.lasts.ok.0,
    )

pub returns : goal.returns
returns c =
    end_seen _ _ _ _ _ _ c.self.invariant.0 _ c.self.view_is c.args.i c.index.result.now c.requires c.index.ensures
