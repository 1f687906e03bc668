use Rattle.std.proofs.Common.{◌<◌, length, ◌∙◌, ap, sym, subst, arith}
use Rattle.std.specs.FinMap.{from_sorted}
use Rattle.room_nodes.specs.Shape.{IsFormed}
use Rattle.room_nodes.specs.Sound.{IsSoundTree}
use Rattle.room_tree.specs.Nearest.{place_of}
use Rattle.room_nodes.proofs.Again.{again}
use Rattle.room_tree.proofs.Soundness.{sound-remove}
use Rattle.room_tree.proofs.Vectors.{at_place, held, taken, cut_sorted, cut_map}
use Rattle.room_nodes.specs.declared.turns.Turn.TheVariants.{Cut}
use Rattle.room_tree.proofs.plain.PlainTreeTree.remove_leaf.Goals as goal

pub take_at-requires : goal.take_at-requires
take_at-requires c =
    let es = c.args.self.now.entries.items in
    let here = c.place-at.ensures.place ∙ ap (place_of c.args.id.now) c.as_slice.ensures.value in
    let low : c.place-at.result < length es = (at_place es c.args.self.now.sorted c.args.id.now c.place-at.result here c.requires.there (held es c.args.self.now.sorted c.args.id.now c.place-at.result here c.requires.there).0).within in
    omega (arith, c.args.self.now.entries.ok.0)

pub invariant_of-self : goal.invariant_of-self
invariant_of-self c =
    let es = c.args.self.now.entries.items in
    let here = c.place-at.ensures.place ∙ ap (place_of c.args.id.now) c.as_slice.ensures.value in
    let same = sym (cut_map es c.args.self.now.sorted c.args.id.now c.place-at.result here c.requires.there _ c.take_at.ensures.items) in
    record {
      sorted = cut_sorted es c.args.self.now.sorted c.args.id.now c.place-at.result here c.requires.there _ c.take_at.ensures.items;
      formed = subst IsFormed same (again (from_sorted es) c.args.self.now.formed (Cut c.args.id.now) c.requires).formed;
      sound = subst IsSoundTree same (sound-remove (from_sorted es) c.args.self.now.sound c.args.id.now);
    }

pub returns-clause-node : goal.returns-clause-node
returns-clause-node c =
    let es = c.args.self.now.entries.items in
    let here = c.place-at.ensures.place ∙ ap (place_of c.args.id.now) c.as_slice.ensures.value in
    taken es c.args.self.now.sorted c.args.id.now c.place-at.result here c.requires.there _ c.take_at.ensures.node

pub returns-clause-rest : goal.returns-clause-rest
returns-clause-rest c =
    let es = c.args.self.now.entries.items in
    let here = c.place-at.ensures.place ∙ ap (place_of c.args.id.now) c.as_slice.ensures.value in
    cut_map es c.args.self.now.sorted c.args.id.now c.place-at.result here c.requires.there _ c.take_at.ensures.items
