use Rattle.room_editor.proofs.Bounds.{redone_to}
use Rattle.room_editor.proofs.past.Past.redone.Goals as goal

pub invariant_of-self : goal.invariant_of-self
invariant_of-self c =
    let b = redone_to c.args.undo c.self.inside.lists c.redone.new.self c.redone.ensures c.self.invariant.0
    c.self.invariant.1.0 in
    (b.bag, (b.undo, c.self.invariant.1.1))
