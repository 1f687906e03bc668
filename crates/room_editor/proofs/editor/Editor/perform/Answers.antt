use Rattle.std.proofs.Common.{◌∙◌, ap, subst, sym}
use Rattle.room_model.specs.Account.{Account}
use Rattle.room_model.specs.Calls.{Redo}
use Rattle.room_editor.specs.Standing.{StandsIn}
use Rattle.room_editor.proofs.Patches.{gone_stands}
use Rattle.room_editor.proofs.editor.Editor.perform.Goals as goal

pub invariant_of-self-in-Redo : goal.invariant_of-self-in-Redo
invariant_of-self-in-Redo g c =
    let e = c.self.inside in
    let same = ap (λ (x : Account). x.confirmed) (c.self.view_is ∙ c.in_ok-issue_ops.ensures.ok) in (
      c.self.invariant.0,
      subst (StandsIn e.session e.over e.gathering) (sym c.redone.ensures)
          (gone_stands e.session e.over e.gathering e.past Redo c.args.change.reversal
          (λ none. c.requires.patches (sym same ∙ none)) c.self.invariant.1),
    )
