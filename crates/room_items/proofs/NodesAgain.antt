-- An item is read again as the node that it was written of.
use Rattle.std.proofs.Common.{◌≡◌, ℕ, List, Some, refl}
use Rattle.room_json.proofs.Again.{json_again}
use Rattle.room_json.proofs.Values.{fields_list-fields_of}
use Rattle.room_ids.specs.Ids.{node_in, node_text}
use Rattle.room_ids.specs.Stamp.{Stamp}
use Rattle.room_ids.proofs.Spelled.{node_again, root_again as root_text}
use Rattle.room_ids.specs.declared.ids.NodeId.{NodeId}
use Rattle.room_ids.specs.declared.ids.NodeId.TheVariants.{Root, Made}
use Rattle.room_nodes.specs.declared.nodes.Kind.{Kind}
use Rattle.room_nodes.specs.declared.nodes.Kind.TheVariants.{Object, List as Listed, Map, Register}
use Rattle.room_items.specs.Items.{item_there, row_in, root_in}
use Rattle.room_items.specs.Laws.{NodesReadBack, RootReadsBack}

made_again : (s : Stamp) (p : NodeId) (k : List ℕ) (d : ℕ) (kind : Kind) → node_in (node_text (Made s)) ≡ Some (Made s) → node_in (node_text p) ≡ Some p
    → row_in (item_there (Made s) (Some (record { parent = p; key = k; depth = d; kind = kind }))) ≡ Some (record { id = Made s; parent = p; key = k; kind = kind })
made_again s p k d (Object fs) h g = rw (h, g, fields_list-fields_of fs) refl
made_again s p k d Listed h g = rw (h, g) refl
made_again s p k d Map h g = rw (h, g) refl
made_again s p k d (Register v) h g = rw (h, g, json_again v) refl

root_kind : (p : NodeId) (k : List ℕ) (d : ℕ) (kind : Kind) → root_in (item_there Root (Some (record { parent = p; key = k; depth = d; kind = kind }))) ≡ Some kind
root_kind p k d (Object fs) = rw (root_text, fields_list-fields_of fs) refl
root_kind p k d Listed = rw root_text refl
root_kind p k d Map = rw root_text refl
root_kind p k d (Register v) = rw (root_text, json_again v) refl

pub nodes_again : NodesReadBack
nodes_again Root n made x p = absurd (made refl)
nodes_again (Made s) n made x p = made_again s n.parent n.key n.depth n.kind (node_again (Made s) x) (node_again n.parent p)

pub root_again : RootReadsBack
root_again n = root_kind n.parent n.key n.depth n.kind
