use Rattle.std.proofs.Common.{rules, [], ◌∷◌}
use Rattle.std.specs.Option.{option_copied}
use Rattle.room_nodes.specs.declared.nodes.Body.TheVariants.{SetKey}
use Rattle.room_props.specs.Edits.{clocks_of}
use Rattle.room_effect.specs.Beside.{key_between}
use Rattle.room_list.proofs.lists.shift.Goals as goal

pub returns-in_err-key-clause-err : goal.returns-in_err-key-clause-err
returns-in_err-key-clause-err c =
    let k = key_between (option_copied c.args.left) (option_copied c.args.right) in
    let long = c.in_err-key.ensures.err (clocks_of c.args.c.now) 0 (SetKey c.args.item k ∷ []) [] in
    search (rules, long)
