use Rattle.std.proofs.Common.{◌<◌, ◌≡◌, true, is_some, length, ◌∙◌, ap, sym, subst, arith}
use Rattle.std.specs.FinMap.{from_sorted, insert, get}
use Rattle.room_nodes.specs.Shape.{IsFormed, is_object}
use Rattle.room_nodes.specs.Sound.{IsSoundTree}
use Rattle.room_nodes.specs.Steps.{on_fields, holds_object}
use Rattle.room_nodes.specs.Primitives.{kind_fields, fields_in}
use Rattle.room_ids.specs.Order.{node_cmp}
use Rattle.room_tree.specs.Nearest.{place_of}
use Rattle.room_nodes.proofs.Again.{again}
use Rattle.room_nodes.proofs.StepForm.{object_there, at_node}
use Rattle.room_tree.proofs.Soundness.{sound-fields}
use Rattle.room_tree.proofs.Vectors.{at_place, held, taken_is, swap_sorted, swap_map}
use Rattle.room_nodes.specs.declared.nodes.Node.{Node}
use Rattle.room_nodes.specs.declared.turns.Turn.TheVariants.{Fields}
use Rattle.room_tree.proofs.plain.PlainTreeTree.swap_fields.Goals as goal

pub take_at-requires : goal.take_at-requires
take_at-requires c =
    let es = c.args.self.now.entries.items in
    let here = c.place-at.ensures.place ∙ ap (place_of c.args.id.now) c.as_slice.ensures.value in
    let there : is_some (get (from_sorted {R = node_cmp} es) c.args.id.now) ≡ true = ap is_some (object_there _ c.requires.object).1 in
    let sorted = c.args.self.now.sorted in
    let k = c.args.id.now in
    let at = c.place-at.result in
    let v = held es sorted k at here there in
    let low : at < length es = (at_place es sorted k at here there v.0).within in
    omega (arith, c.args.self.now.entries.ok.0)

pub take_fields-node-requires : goal.take_fields-node-requires
take_fields-node-requires c =
    let es = c.args.self.now.entries.items in
    let here = c.place-at.ensures.place ∙ ap (place_of c.args.id.now) c.as_slice.ensures.value in
    let there : is_some (get (from_sorted {R = node_cmp} es) c.args.id.now) ≡ true = ap is_some (object_there _ c.requires.object).1 in
    let sorted = c.args.self.now.sorted in
    let k = c.args.id.now in
    let at = c.place-at.result in
    let v = held es sorted k at here there in
    subst (λ (n : Node). is_object n.kind ≡ true) (sym (taken_is es sorted k at here there _ c.take_at.ensures.node)) (ap holds_object (sym v.1) ∙ c.requires.object)

pub invariant_of-self : goal.invariant_of-self
invariant_of-self c =
    let es = c.args.self.now.entries.items in
    let here = c.place-at.ensures.place ∙ ap (place_of c.args.id.now) c.as_slice.ensures.value in
    let there : is_some (get (from_sorted {R = node_cmp} es) c.args.id.now) ≡ true = ap is_some (object_there _ c.requires.object).1 in
    let sorted = c.args.self.now.sorted in
    let k = c.args.id.now in
    let at = c.place-at.result in
    let v = held es sorted k at here there in
    let n = c.take_fields-node.result.0 in
    let is : n ≡ on_fields (λ _. c.args.fields) v.0 = c.take_fields-node.ensures.node ∙ ap (on_fields (λ _. c.args.fields)) (taken_is es sorted k at here there _ c.take_at.ensures.node) in
    let same = sym (swap_map es sorted k at here there n _ _ c.take_at.ensures.items c.insert_at.ensures.items ∙ ap (insert (from_sorted es) k) is ∙ sym (at_node (from_sorted es) k (on_fields (λ _. c.args.fields)) v.0 v.1)) in
    record {
      sorted = swap_sorted es sorted k at here there n _ _ c.take_at.ensures.items c.insert_at.ensures.items;
      formed = subst IsFormed same (again (from_sorted es) c.args.self.now.formed (Fields k c.args.fields) c.requires).formed;
      sound = subst IsSoundTree same (sound-fields (from_sorted es) c.args.self.now.sound k c.args.fields c.sound.ensures);
    }

pub returns-clause-fields : goal.returns-clause-fields
returns-clause-fields c =
    let es = c.args.self.now.entries.items in
    let here = c.place-at.ensures.place ∙ ap (place_of c.args.id.now) c.as_slice.ensures.value in
    let there : is_some (get (from_sorted {R = node_cmp} es) c.args.id.now) ≡ true = ap is_some (object_there _ c.requires.object).1 in
    let sorted = c.args.self.now.sorted in
    let k = c.args.id.now in
    let at = c.place-at.result in
    let v = held es sorted k at here there in
    c.take_fields-node.ensures.fields ∙ ap (λ (n : Node). kind_fields n.kind) (taken_is es sorted k at here there _ c.take_at.ensures.node) ∙ sym (ap fields_in v.1)

pub returns-clause-nodes : goal.returns-clause-nodes
returns-clause-nodes c =
    let es = c.args.self.now.entries.items in
    let here = c.place-at.ensures.place ∙ ap (place_of c.args.id.now) c.as_slice.ensures.value in
    let there : is_some (get (from_sorted {R = node_cmp} es) c.args.id.now) ≡ true = ap is_some (object_there _ c.requires.object).1 in
    let sorted = c.args.self.now.sorted in
    let k = c.args.id.now in
    let at = c.place-at.result in
    let v = held es sorted k at here there in
    let n = c.take_fields-node.result.0 in
    let is : n ≡ on_fields (λ _. c.args.fields) v.0 = c.take_fields-node.ensures.node ∙ ap (on_fields (λ _. c.args.fields)) (taken_is es sorted k at here there _ c.take_at.ensures.node) in
    swap_map es sorted k at here there n _ _ c.take_at.ensures.items c.insert_at.ensures.items ∙ ap (insert (from_sorted es) k) is ∙ sym (at_node (from_sorted es) k (on_fields (λ _. c.args.fields)) v.0 v.1)
