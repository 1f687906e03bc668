use Rattle.std.proofs.Common.{◌<◌, ◌≡◌, true, is_some, length, ◌∙◌, ap, sym, subst, arith}
use Rattle.std.specs.FinMap.{from_sorted, insert, get}
use Rattle.room_nodes.specs.Shape.{IsFormed}
use Rattle.room_nodes.specs.Sound.{IsSoundTree}
use Rattle.room_nodes.specs.Primitives.{key_in}
use Rattle.room_ids.specs.Order.{node_cmp}
use Rattle.room_tree.specs.Nearest.{place_of}
use Rattle.room_nodes.proofs.Again.{again}
use Rattle.room_nodes.proofs.StepForm.{at_node}
use Rattle.room_tree.proofs.Soundness.{sound-key}
use Rattle.room_tree.proofs.Vectors.{at_place, held, taken_is, swap_sorted, swap_map}
use Rattle.room_nodes.specs.declared.nodes.Node.{Node}
use Rattle.room_nodes.specs.declared.turns.Turn.TheVariants.{Key}
use Rattle.room_tree.proofs.plain.PlainTreeTree.swap_key.Goals as goal

pub take_at-requires : goal.take_at-requires
take_at-requires c =
    let es = c.args.self.now.entries.items in
    let here = c.place-at.ensures.place ∙ ap (place_of c.args.id.now) c.as_slice.ensures.value in
    let there : is_some (get (from_sorted {R = node_cmp} es) c.args.id.now) ≡ true = c.requires.there in
    let sorted = c.args.self.now.sorted in
    let k = c.args.id.now in
    let at = c.place-at.result in
    let v = held es sorted k at here there in
    let low : at < length es = (at_place es sorted k at here there v.0).within in
    omega (arith, c.args.self.now.entries.ok.0)

pub invariant_of-self : goal.invariant_of-self
invariant_of-self c =
    let es = c.args.self.now.entries.items in
    let here = c.place-at.ensures.place ∙ ap (place_of c.args.id.now) c.as_slice.ensures.value in
    let there : is_some (get (from_sorted {R = node_cmp} es) c.args.id.now) ≡ true = c.requires.there in
    let sorted = c.args.self.now.sorted in
    let k = c.args.id.now in
    let at = c.place-at.result in
    let v = held es sorted k at here there in
    let n = c.take_key-node.result.0 in
    let is : n ≡ record v.0 { key = c.args.key } = c.take_key-node.ensures.node ∙ ap (λ (m : Node). record m { key = c.args.key }) (taken_is es sorted k at here there _ c.take_at.ensures.node) in
    let same = sym (swap_map es sorted k at here there n _ _ c.take_at.ensures.items c.insert_at.ensures.items ∙ ap (insert (from_sorted es) k) is ∙ sym (at_node (from_sorted es) k (λ m. record m { key = c.args.key }) v.0 v.1)) in
    record {
      sorted = swap_sorted es sorted k at here there n _ _ c.take_at.ensures.items c.insert_at.ensures.items;
      formed = subst IsFormed same (again (from_sorted es) c.args.self.now.formed (Key k c.args.key) c.requires).formed;
      sound = subst IsSoundTree same (sound-key (from_sorted es) c.args.self.now.sound k c.args.key c.sound.ensures);
    }

pub returns-clause-key : goal.returns-clause-key
returns-clause-key c =
    let es = c.args.self.now.entries.items in
    let here = c.place-at.ensures.place ∙ ap (place_of c.args.id.now) c.as_slice.ensures.value in
    let there : is_some (get (from_sorted {R = node_cmp} es) c.args.id.now) ≡ true = c.requires.there in
    let sorted = c.args.self.now.sorted in
    let k = c.args.id.now in
    let at = c.place-at.result in
    let v = held es sorted k at here there in
    c.take_key-node.ensures.key ∙ ap (λ (n : Node). n.key) (taken_is es sorted k at here there _ c.take_at.ensures.node) ∙ sym (ap key_in v.1)

pub returns-clause-nodes : goal.returns-clause-nodes
returns-clause-nodes c =
    let es = c.args.self.now.entries.items in
    let here = c.place-at.ensures.place ∙ ap (place_of c.args.id.now) c.as_slice.ensures.value in
    let there : is_some (get (from_sorted {R = node_cmp} es) c.args.id.now) ≡ true = c.requires.there in
    let sorted = c.args.self.now.sorted in
    let k = c.args.id.now in
    let at = c.place-at.result in
    let v = held es sorted k at here there in
    let n = c.take_key-node.result.0 in
    let is : n ≡ record v.0 { key = c.args.key } = c.take_key-node.ensures.node ∙ ap (λ (m : Node). record m { key = c.args.key }) (taken_is es sorted k at here there _ c.take_at.ensures.node) in
    swap_map es sorted k at here there n _ _ c.take_at.ensures.items c.insert_at.ensures.items ∙ ap (insert (from_sorted es) k) is ∙ sym (at_node (from_sorted es) k (λ m. record m { key = c.args.key }) v.0 v.1)
