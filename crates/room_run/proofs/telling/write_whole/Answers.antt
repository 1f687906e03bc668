use Rattle.std.proofs.Common.{◌≡◌, ◌++◌, ◌-◌, ◌+◌, length, take, drop, subst, sym, arith, ap, ◌∙◌}
use Rattle.std.proofs.Common.{length-drop, length-take}
use Rattle.std.proofs.Math.Seq.{take-add}
use Rattle.std.proofs.lemmas.List.{take_all}
use Rattle.std.specs.Io.KnownBytes.{Appends}
use Rattle.room_run.proofs.Appending.{appends_more}
use Rattle.room_run.proofs.telling.write_whole.Goals as goal

pub loop-at-preserved : goal.loop-at-preserved
loop-at-preserved g c =
    let s = g.K.Sink in
    let at = c.loop-at.at in
    let n = c.in-Ok.count in
    let xs = c.args.piece.now in
    let rest = take (length xs - at) (drop at xs) in
    let joined : take (at + n) xs ≡ take at xs ++ take n rest =
    take-add at n xs
    ∙ ap (λ l. take at xs ++ take n l) (sym (take_all (length xs - at) (drop at xs) (grind (arith, length-drop)))) in
    record {
      told = subst (Appends (s.written c.args.sink.now) (s.written c.write.new.self)) (sym joined)
          (appends_more _ _ _ _ _ c.loop-at.invariant.told c.in-Ok.ensures.bytes);
      faults = omega (arith, c.loop-at.invariant.faults, c.in-Ok.ensures.later);
      within = grind (arith, length-drop, length-take);
    }
