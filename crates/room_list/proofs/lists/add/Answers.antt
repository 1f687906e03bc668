use Rattle.std.proofs.Common.{rules, None, ◌∷◌}
use Rattle.std.specs.Option.{option_copied}
use Rattle.room_model.specs.Edits.{placed, too_long}
use Rattle.room_model.specs.Init.{nodes_in, positions_in, creates}
use Rattle.room_props.specs.Edits.{clocks_of}
use Rattle.room_props.specs.Inits.{init_of}
use Rattle.room_effect.specs.Beside.{key_between}
use Rattle.room_list.proofs.Checking.{passed}
use Rattle.room_list.proofs.lists.add.Goals as goal

pub returns-in_err-nodes-clause-err : goal.returns-in_err-nodes-clause-err
returns-in_err-nodes-clause-err c =
    let i = init_of c.args.init.now in
    let k = key_between (option_copied c.args.left) (option_copied c.args.right) in
    let m = clocks_of c.args.c.now in
    let deep = c.in_err-nodes.ensures.err (placed m (nodes_in i) (creates m.actor m.node c.args.list.now k None i) (too_long (k ∷ positions_in i))) in
    search (rules, deep)

pub returns-in_err-key-clause-err : goal.returns-in_err-key-clause-err
returns-in_err-key-clause-err c =
    let i = init_of c.args.init.now in
    let k = key_between (option_copied c.args.left) (option_copied c.args.right) in
    let m = clocks_of c.args.c.now in
    let long = c.in_err-key.ensures.err m (nodes_in i) (creates m.actor m.node c.args.list.now k None i) (positions_in i) in
    search (rules, long, passed)
