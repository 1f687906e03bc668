use Rattle.std.proofs.Common.{rules, ◌≡◌, []}
use Rattle.room_model.specs.History.{note}
use Rattle.room_editor.proofs.Bounds.{noted_to}
use Rattle.room_editor.proofs.past.Past.resume.Goals as goal

pub invariant_of-self : goal.invariant_of-self
invariant_of-self c =
    let is : c.note.new.self ≡ note c.from_vec.result c.self.inside.lists = search rules in
    let b = noted_to c.from_vec.result c.self.inside.lists c.note.new.self is c.self.invariant.0 c.self.invariant.1.0 in
    let none : c.replace-bag.new.dest.items ≡ [] = search rules in
    (b.bag, (b.undo, λ e. none))
