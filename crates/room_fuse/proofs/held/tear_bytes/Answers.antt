use Rattle.std.proofs.Common.{◌<◌, length, slice_index_or, arith}
use Rattle.std.proofs.lemmas.List.{get_or_default}
use Rattle.std.proofs.lemmas.List.Edits.{map_over_more}
use Rattle.room_fuse.proofs.held.tear_bytes.Goals as goal

pub loop-i-preserved : goal.loop-i-preserved
loop-i-preserved c =
    let xs = c.args.bytes.now in
    let ys = c.loop-i.bytes in
    let within : c.loop-i.i < length c.args.bytes.now = omega arith in
    let there : c.loop-i.i < length c.loop-i.bytes = omega (arith, c.loop-i.auto.bytes) in
    map_over_more (λ b. 255) xs ys c.loop-i.i (slice_index_or ys c.loop-i.i 0) within c.loop-i.invariant (get_or_default ys c.loop-i.i 0 (slice_index_or ys c.loop-i.i 0) there)
