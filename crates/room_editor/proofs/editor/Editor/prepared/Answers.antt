use Rattle.std.proofs.Common.{◌∙◌, ap}
use Rattle.room_model.specs.Calls.{entry_bodies}
use Rattle.room_editor.proofs.Patches.{reversal_patches}
use Rattle.room_editor.proofs.editor.Editor.prepared.Goals as goal

pub returns-clause-patches : goal.returns-clause-patches
returns-clause-patches g c = λ none.
    ap entry_bodies c.in_ok-reversal.ensures
    ∙ reversal_patches _ _ c.args.entry.now (c.requires.patches none)
