use Rattle.std.proofs.Common.{◌+◌, ◌++◌, take, drop, sym, ap, ◌∙◌}
use Rattle.std.proofs.lemmas.List.{take-append-drop, drop-drop}
use Rattle.room_edge.proofs.source.take_from.Goals as goal

pub returns-clause-parts : goal.returns-clause-parts
returns-clause-parts c =
    let at = c.args.at in
    let n = c.copy_from.result in
    let xs = c.args.bytes.now in
    sym (take-append-drop n (drop at xs)) ∙ ap (λ l. take n (drop at xs) ++ l) (drop-drop n at xs) ∙ ap (λ l. l ++ drop (at + n) xs) (sym c.copy_from.ensures.bytes)
