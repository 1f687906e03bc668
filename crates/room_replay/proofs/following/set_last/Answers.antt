use Rattle.std.proofs.Common.{rules, ap, ◌∙◌, map, ◌-◌}
use Rattle.std.specs.Prelude.{slice_set}
use Rattle.room_snapshot.specs.Bounds.{kept}
use Rattle.room_replay.proofs.Actors.{set_in}
use Rattle.room_replay.proofs.following.set_last.Goals as goal

pub returns : goal.returns
returns c =
    let there = c.index_mut.result.now in
    ap (map kept) {y = slice_set c.args.sessions (c.args.actor - 1) (record there { last = c.args.last })} (search rules)
    ∙ set_in c.args.sessions c.args.actor c.args.last there (search rules) (search rules) (search rules)
