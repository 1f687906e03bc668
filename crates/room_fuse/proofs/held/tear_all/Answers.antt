use Rattle.std.proofs.Common.{◌<◌, ◌∙◌, ap, sym, length, slice_set, slice_index_or, arith}
use Rattle.std.proofs.lemmas.List.Edits.{map_over_more}
use Rattle.room_disk.specs.declared.change.FileChange.{FileChange}
use Rattle.room_fuse.specs.Held.{torn_call}
use Rattle.room_fuse.specs.declared.held.Held.{Held}
use Rattle.room_fuse.proofs.held.tear_all.Goals as goal

pub loop-i-preserved : goal.loop-i-preserved
loop-i-preserved c =
    let ys = c.loop-i.calls in
    let i = c.loop-i.i in
    let x = c.index-calls-i.result in
    let within : c.loop-i.i < length c.args.calls.now = omega arith in
    ap (λ (h : FileChange). slice_set ys i record { file = (slice_index_or ys i x).file; change = h }) c.tear.ensures ∙ ap (λ (e : Held). slice_set ys i (torn_call e)) (sym c.index-calls-i.is)
    ∙ map_over_more torn_call c.args.calls.now ys i x within c.loop-i.invariant c.index-calls-i.is
