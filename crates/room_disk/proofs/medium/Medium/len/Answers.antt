use Rattle.std.proofs.Common.{◌<◌, ◌^◌, ◌∙◌, ℕ, List, length, ap, sym, subst}
use Rattle.room_disk.proofs.medium.Medium.len.Goals as goal

pub returns-clause-bound : goal.returns-clause-bound
returns-clause-bound c =
    let old = c.args.self.now in
    subst (λ (l : List ℕ). length l < 2 ^ 62) (sym (c.bytes.ensures ∙ ap (λ h. h c.args.file) (sym old.kept))) (old.small c.args.file)
