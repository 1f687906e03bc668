-- Codes of what an editor is, by which values are told apart.
use Rattle.std.specs.Coded.{Coded, codes}
use Rattle.room_json.specs.Codes.{coded_value, coded_list_of_fields}
use Rattle.room_nodes.specs.declared.nodes.Body.{Body}
use Rattle.room_nodes.specs.declared.nodes.Change.{Change}
use Rattle.room_nodes.specs.Shape.{Nodes}
use Rattle.std.specs.FinMap as map
use Rattle.room_ids.specs.declared.ids.NodeId.{NodeId}
use Rattle.room_nodes.specs.declared.nodes.Node.{Node}
use Rattle.room_model.specs.Account.{Account}
use Rattle.room_model.specs.History.{History}
use Rattle.room_presence.specs.Shown.{others_code}
use Rattle.room_editor.specs.Editor.{Gathered}

id_code : Coded NodeId
id_code = Prim.hlevel codes

node_code : Coded Node
node_code = Prim.hlevel (codes, coded_value, coded_list_of_fields)

nodes_code : Coded Nodes
nodes_code = map.code id_code node_code

body_code : Coded Body
body_code = Prim.hlevel (codes, coded_value, coded_list_of_fields)

change_code : Coded Change
change_code = Prim.hlevel (codes, body_code, coded_list_of_fields)

pub history_code : Coded History
history_code = Prim.hlevel (codes, change_code)

pub gathered_code : Coded Gathered
gathered_code = Prim.hlevel (codes, change_code)

pub account_code : Coded Account
account_code = Prim.hlevel (codes, coded_value, coded_list_of_fields, body_code, change_code, nodes_code, others_code)
