use Rattle.std.proofs.Common.{rules, Some}
use Rattle.room_props.specs.Edits.{clocks_of}
use Rattle.room_props.specs.Inits.{init_of}
use Rattle.room_props.specs.Making.{node_made}
use Rattle.room_list.proofs.lists.replace.Goals as goal

pub returns-in_err-nodes-clause-err : goal.returns-in_err-nodes-clause-err
returns-in_err-nodes-clause-err c =
    let deep = c.in_err-nodes.ensures.err (node_made (clocks_of c.args.c.now) c.args.list.now c.args.key.now (Some c.args.old) (init_of c.args.init.now)) in
    search (rules, deep)
