use Rattle.std.proofs.Common.{◌∙◌, ap}
use Rattle.room_disk.proofs.medium.Medium.bytes.Goals as goal

pub returns : goal.returns
returns c = c.bytes_of.ensures ∙ ap (λ h. h c.args.file) c.args.self.now.kept
