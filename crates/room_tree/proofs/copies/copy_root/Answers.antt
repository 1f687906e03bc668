use Rattle.room_tree.proofs.Parts.{root_holds}
use Rattle.room_tree.proofs.copies.copy_root.Goals as goal

pub swap_fields-requires : goal.swap_fields-requires
swap_fields-requires g c = root_holds (g.T.Tree.nodes c.args.copy.now) c.in_ok-fields.fields c.requires
