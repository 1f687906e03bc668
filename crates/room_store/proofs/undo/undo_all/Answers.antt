use Rattle.std.proofs.Common.{◌+◌}
use Rattle.std.specs.FinMap.{len}
use Rattle.room_snapshot.specs.Bounds.{state_of}
use Rattle.room_store.proofs.Undone.{can_undo, undo_can, undo_gone}
use Rattle.room_store.proofs.undo.undo_all.Goals as goal

pub undo_one-requires : goal.undo_one-requires
undo_one-requires g c =
    let t = g.T.Tree in
    let l = c.loop-one in
    can_undo (len (t.nodes l.state.tree) + t.spare l.state.tree)
    (state_of l.state.count l.state.sessions (t.nodes l.state.tree))
    l.undo.items c.pop.new.self.items c.in-Some.one c.in-Some.ensures.items l.invariant.0

pub loop-one-preserved : goal.loop-one-preserved
loop-one-preserved g c =
    let t = g.T.Tree in
    let l = c.loop-one in
    let n = c.undo_one.new.state in
    let s = state_of l.state.count l.state.sessions (t.nodes l.state.tree) in
    let u = state_of n.count n.sessions (t.nodes n.tree) in (
      undo_can (len (t.nodes l.state.tree) + t.spare l.state.tree) (len (t.nodes n.tree) + t.spare n.tree) s u
          l.undo.items c.pop.new.self.items c.in-Some.one c.in-Some.ensures.items c.undo_one.ensures.state
          c.undo_one.ensures.sum l.invariant.0,
      undo_gone s u _ l.undo.items c.pop.new.self.items c.in-Some.one c.in-Some.ensures.items
          c.undo_one.ensures.state l.invariant.1,
    )
