use Rattle.std.proofs.Common.{rules, None}
use Rattle.room_props.specs.Edits.{clocks_of}
use Rattle.room_props.specs.Inits.{init_of}
use Rattle.room_props.specs.Making.{node_made}
use Rattle.room_props.proofs.props.set_node.Goals as goal

pub returns-in_err-nodes-clause-err : goal.returns-in_err-nodes-clause-err
returns-in_err-nodes-clause-err c =
    let deep = c.in_err-nodes.ensures.err (node_made (clocks_of c.args.c.now) c.args.id.now c.args.key.now None (init_of c.args.init.now)) in
    search (rules, deep)
