-- The operations of a maker, with those that it adds.
use Rattle.std.specs.Prelude.{◌++◌, List, Result}
use Rattle.room_ids.specs.declared.ids.NodeId.{NodeId}
use Rattle.room_nodes.specs.declared.nodes.Kind.{Kind}
use Rattle.room_nodes.specs.declared.nodes.Body.{Body}
use Rattle.room_nodes.specs.declared.nodes.Body.TheVariants.{Create}
use Rattle.room_ids.specs.Position.{first as first_position}
use Rattle.room_model.specs.Init.{Init, Parts, Inits, made_id, creates, live_creates, part_creates, item_creates}
use Rattle.room_model.specs.Edits as model
use Rattle.room_props.specs.Making.{node_made}
use Rattle.room_props.specs.declared.creating.Maker.{Maker}
use Rattle.room_props.specs.declared.creating.Place.{Place}

abbrev pub create_at : Maker → Place → Kind → Body
create_at m p kind = Create (made_id m.actor m.clock) p.parent p.key p.replaces kind

abbrev pub with_node : Maker → Place → Init → List Body
with_node m p i = m.bodies ++ creates m.actor m.clock p.parent p.key p.replaces i

abbrev pub with_live : Maker → NodeId → Parts → List Body
with_live m x ps = m.bodies ++ live_creates m.actor m.clock x ps

abbrev pub with_parts : Maker → NodeId → Parts → List Body
with_parts m x ps = m.bodies ++ part_creates m.actor m.clock x ps

abbrev pub with_items : Maker → NodeId → Inits → List Body
with_items m x is = m.bodies ++ item_creates m.actor m.clock x first_position is

-- a live value that becomes a node at a place
abbrev pub placed_at : model.Clocks → Place → Init → Result model.Made model.EditFault
placed_at c p i = node_made c p.parent p.key p.replaces i
