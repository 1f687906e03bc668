-- Codes of what a store and a group are, by which values are told apart.
use Rattle.std.specs.Coded.{Coded, codes}
use Rattle.std.specs.FinMap as map
use Rattle.room_ids.specs.declared.ids.NodeId.{NodeId}
use Rattle.room_json.specs.Codes.{coded_value, coded_list_of_fields}
use Rattle.room_nodes.specs.declared.nodes.Node.{Node}
use Rattle.room_nodes.specs.declared.nodes.Body.{Body}
use Rattle.room_nodes.specs.Shape.{Nodes}
use Rattle.room_log.specs.Log.{State, Entry}
use Rattle.room_store.specs.Stored.{Stored, Grouped}

id_code : Coded NodeId
id_code = Prim.hlevel codes

node_code : Coded Node
node_code = Prim.hlevel (codes, coded_value, coded_list_of_fields)

body_code : Coded Body
body_code = Prim.hlevel (codes, coded_value, coded_list_of_fields)

nodes_code : Coded Nodes
nodes_code = map.code id_code node_code

state_code : Coded State
state_code = Prim.hlevel (codes, nodes_code)

entry_code : Coded Entry
entry_code = Prim.hlevel (codes, body_code)

pub stored_code : Coded Stored
stored_code = Prim.hlevel (codes, state_code)

pub grouped_code : Coded Grouped
grouped_code = Prim.hlevel (codes, entry_code)
