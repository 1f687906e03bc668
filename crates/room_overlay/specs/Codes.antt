-- Codes of what an overlay is, by which values are told apart.
use Rattle.std.specs.Coded.{Coded, codes}
use Rattle.std.specs.FinMap as map
use Rattle.room_ids.specs.declared.ids.NodeId.{NodeId}
use Rattle.room_json.specs.Codes.{coded_value, coded_list_of_fields}
use Rattle.room_nodes.specs.declared.nodes.Node.{Node}
use Rattle.room_nodes.specs.declared.nodes.Body.{Body}
use Rattle.room_nodes.specs.Shape.{Nodes}
use Rattle.room_overlay.specs.Own.{Own}
use Rattle.room_overlay.specs.Over.{Over}

id_code : Coded NodeId
id_code = Prim.hlevel codes

node_code : Coded Node
node_code = Prim.hlevel (codes, coded_value, coded_list_of_fields)

body_code : Coded Body
body_code = Prim.hlevel (codes, coded_value, coded_list_of_fields)

nodes_code : Coded Nodes
nodes_code = map.code id_code node_code

pub own_code : Coded Own
own_code = Prim.hlevel (codes, body_code)

pub over_code : Coded Over
over_code = Prim.hlevel (codes, body_code, nodes_code)
