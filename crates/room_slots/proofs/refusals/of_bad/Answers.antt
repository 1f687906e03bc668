use Rattle.std.proofs.Common.{◌≡◌, [], ◌∷◌, ◌∙◌, ap, codes, List, ℕ}
use Rattle.std.proofs.lemmas.Result.{IfOk-weaker}
use Rattle.room_model.specs.Lines.{frame_fault_words, refused_line}
use Rattle.room_model.specs.Receive.{BadServerFrame}
use Rattle.room_slots.proofs.refusals.of_bad.Goals as goal

abbrev bad_line : ℕ → List ℕ → List ℕ
bad_line line why = refused_line line (codes "BadServerFrame" ∷ why ∷ [])

pub returns : goal.returns
returns c =
    IfOk-weaker c.refused_text.result _
    (λ t. t ≡ refused_line c.args.line (frame_fault_words (BadServerFrame c.args.reason.now)))
    (λ t e. e ∙ ap (bad_line c.args.line) (c.as_str.ensures.bytes ∙ c.in_ok-why.ensures)) c.refused_text.ensures
