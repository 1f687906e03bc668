-- What an edit makes, once its node is found.
use Rattle.std.specs.Prelude.{◌+◌, ℕ, not, if◌then◌else◌, List, [], ◌∷◌, length, Option, None, Result, Err}
use Rattle.room_json.specs.Fields.{and_then}
use Rattle.room_json.specs.Value.{Value, depth}
use Rattle.room_ids.specs.declared.ids.NodeId.{NodeId}
use Rattle.room_nodes.specs.declared.nodes.Kind.{Kind}
use Rattle.room_nodes.specs.declared.nodes.Kind.TheVariants.{Object}
use Rattle.room_nodes.specs.declared.nodes.Body.{Body}
use Rattle.room_nodes.specs.declared.nodes.Body.TheVariants.{Update}
use Rattle.room_model.specs.Edits as model
use Rattle.room_model.specs.Edits.{Edit, EditFault, Clocks, target, has_edit, indices}
use Rattle.room_model.specs.Edits.{value_depth, made_depth, fields_most}
use Rattle.room_model.specs.Edits.{made_nodes, made_positions, bodies, placed, clocked, spent, too_long}
use Rattle.room_model.specs.Edits.{update_bodies, remove_bodies}
use Rattle.room_model.specs.Init.{Init, nodes_in, positions_in, creates, plain_depth, node_depth}
use Rattle.room_props.specs.Weighing.{checked}

abbrev pub Outcome : Type 0
Outcome = Result model.Made EditFault

abbrev pub Kids : Type 0
Kids = List (List ℕ × NodeId)

-- of a node of that kind and depth with those children, of which one has the key of a removal
abbrev pub made_on : Kind → ℕ → Clocks → Kids → Option NodeId → Edit → Outcome
made_on kind d c cs child e =
    if not (has_edit kind e) then Err (model.WrongKind (target e)) else
    and_then (indices (length cs) e) (λ (o : Option ℕ).
    checked (value_depth e) (made_depth kind (d + 1) e)
    (placed c (made_nodes kind e) (bodies kind cs child c.actor c.node e) (too_long (made_positions cs e))))

-- a live value that becomes a node under p at k, in the place of r
abbrev pub node_made : Clocks → NodeId → List ℕ → Option NodeId → Init → Outcome
node_made c p k r i = placed c (nodes_in i) (creates c.actor c.node p k r i) (too_long (positions_in i))

-- operations that make so many nodes
abbrev pub nodes_made : Clocks → ℕ → List Body → Outcome
nodes_made c nodes bs = clocked c nodes bs None (spent c.op (length bs))

-- operations that make no node
abbrev pub ops_made : Clocks → List Body → Outcome
ops_made c bs = nodes_made c 0 bs

-- what an edit of an object or a map makes of its node, in its cases

abbrev pub node_set : Clocks → ℕ → NodeId → List ℕ → Init → Outcome
node_set c d x k i = checked (plain_depth i) (node_depth (d + 1) i) (node_made c x k None i)

abbrev pub field_set : Clocks → NodeId → List ℕ → Value → Outcome
field_set c x k v = checked (depth v) 0 (ops_made c (Update x ((k, v) ∷ []) ∷ []))

abbrev pub fields_set : Clocks → NodeId → List (List ℕ × Value) → Outcome
fields_set c x fs = checked (fields_most fs) 0 (ops_made c (update_bodies x fs))

abbrev pub name_removed : Clocks → List (List ℕ × Value) → NodeId → List ℕ → Option NodeId → Outcome
name_removed c fs x k child = ops_made c (remove_bodies (Object fs) x k child)

-- and of a node of any kind

abbrev pub set_on : Kind → ℕ → Clocks → NodeId → List ℕ → Init → Outcome
set_on kind d c x k i = made_on kind d c [] None (model.Set x k i)

abbrev pub update_on : Kind → ℕ → Clocks → NodeId → List (List ℕ × Value) → Outcome
update_on kind d c x fs = made_on kind d c [] None (model.Update x fs)

abbrev pub remove_on : Kind → ℕ → Clocks → NodeId → List ℕ → Option NodeId → Outcome
remove_on kind d c x k child = made_on kind d c [] child (model.Remove x k)
