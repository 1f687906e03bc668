use Rattle.std.proofs.Common.{rules, ◌≡◌, ◌≤◌, ◌<◌, ◌+◌, length}
use Rattle.std.specs.Prelude.{Ok}
use Rattle.room_props.specs.Making.{nodes_made}
use Rattle.room_editor.specs.Going.{FitsIn}
use Rattle.room_editor.specs.Sizes.{bytes_of, frame_bytes}
use Rattle.room_model.specs.Calls.{entry_bodies}
use Rattle.room_props.specs.Edits.{clocks_of, made_of}
use Rattle.room_editor.proofs.Returning.{entry_made, fits_none, fits_small, too_large}
use Rattle.room_editor.proofs.editor.Editor.entry_ops.Goals as goal
use Rattle.room_editor.proofs.editor.Editor.entry_ops.Goals.{else-len-gt0-via-then-len-gt0+else-size-gt-MAX_FRAME}
use Rattle.room_editor.proofs.editor.Editor.entry_ops.Goals.{else-len-gt0-via-else-len-gt0}

pub returns-then-size-gt-MAX_FRAME-clause-err : goal.returns-then-size-gt-MAX_FRAME-clause-err
returns-then-size-gt-MAX_FRAME-clause-err g c =
    let x = c.args.self.now in
    let bs = entry_bodies c.args.entry.now in
    let made : nodes_made (clocks_of c.clocks-clocks.result) 0 bs ≡ Ok (made_of c.in-Ok.made) = search rules in
    let size : c.in_ok-size-in-Ok.size ≡ frame_bytes (0 + bytes_of c.in-Ok.made.ops) = search rules in
    let long : 0 < length c.in-Ok.made.ops = search rules in
    let over : 1048576 < c.in_ok-size-in-Ok.size = search rules in
    too_large x bs c.in-Ok.made.ops c.in_ok-size-in-Ok.size
    (entry_made x (clocks_of c.clocks-clocks.result) bs (made_of c.in-Ok.made) c.requires c.clocks-clocks.ensures.clocks
    made) size long over

pub returns-else-len-gt0-clause-fits : goal.returns-else-len-gt0-clause-fits
returns-else-len-gt0-clause-fits g c =
    let x = c.args.self.now in
    let bs = entry_bodies c.args.entry.now in
    let made : nodes_made (clocks_of c.clocks-clocks.result) 0 bs ≡ Ok (made_of c.in-Ok.made) = search rules in
    let size : c.in_ok-size-in-Ok.size ≡ frame_bytes (0 + bytes_of c.in-Ok.made.ops) = search rules in
    let entry = entry_made x (clocks_of c.clocks-clocks.result) bs (made_of c.in-Ok.made) c.requires
    c.clocks-clocks.ensures.clocks made in
    let goes : FitsIn x bs = elim c.else-len-gt0.branch [
      | else-len-gt0-via-then-len-gt0+else-size-gt-MAX_FRAME w ↦
          (let small : c.in_ok-size-in-Ok.size ≤ 1048576 = search (w.if-size-gt-MAX_FRAME, rules) in
          fits_small x bs c.in-Ok.made.ops c.in_ok-size-in-Ok.size entry size small)
      | else-len-gt0-via-else-len-gt0 w ↦
          (let none : length c.in-Ok.made.ops ≤ 0 = search (w.if-len-gt0, rules) in
          fits_none x bs c.in-Ok.made.ops entry none)
    ] in
    goes
