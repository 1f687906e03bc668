use Rattle.std.proofs.Common.{◌∙◌, ap, sym, subst}
use Rattle.std.specs.FinMap.{from_sorted}
use Rattle.room_nodes.specs.Shape.{IsFormed}
use Rattle.room_nodes.specs.Sound.{IsSoundTree}
use Rattle.room_nodes.proofs.Formed.{formed-insert}
use Rattle.room_nodes.proofs.Fitting.{none_of}
use Rattle.room_tree.specs.Nearest.{place_of}
use Rattle.room_tree.proofs.Entries.{placed, placed_sorted, placed_map}
use Rattle.room_tree.proofs.Soundness.{sound-insert}
use Rattle.room_tree.proofs.plain.PlainTreeTree.put.Goals as goal

pub invariant_of-self : goal.invariant_of-self
invariant_of-self c =
    let es = c.args.self.now.entries.items in
    let here = c.place-at.ensures.place ∙ ap (place_of c.args.id) c.as_slice.ensures.value in
    let made = placed c.args.id c.args.node es c.insert_at.new.entries.items c.place-at.result c.insert_at.ensures.items here c.args.self.now.sorted (none_of _ c.requires.free.fresh) in
    let same = sym (placed_map c.args.id c.args.node es c.insert_at.new.entries.items c.place-at.result made c.args.self.now.sorted) in
    record {
      sorted = placed_sorted c.args.id c.args.node es c.insert_at.new.entries.items c.place-at.result made c.args.self.now.sorted;
      formed = subst IsFormed same (formed-insert (from_sorted es) c.args.id c.args.node c.args.self.now.formed c.requires.free);
      sound = subst IsSoundTree same (sound-insert (from_sorted es) c.args.self.now.sound c.args.id c.args.node c.sound.ensures c.sound-2.ensures);
    }

pub returns-clause-put : goal.returns-clause-put
returns-clause-put c =
    let es = c.args.self.now.entries.items in
    let here = c.place-at.ensures.place ∙ ap (place_of c.args.id) c.as_slice.ensures.value in
    let made = placed c.args.id c.args.node es c.insert_at.new.entries.items c.place-at.result c.insert_at.ensures.items here c.args.self.now.sorted (none_of _ c.requires.free.fresh) in
    placed_map c.args.id c.args.node es c.insert_at.new.entries.items c.place-at.result made c.args.self.now.sorted
