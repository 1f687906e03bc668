use Rattle.std.proofs.Common.{List, ℕ, subst}
use Rattle.std.specs.Prelude.{OnOk}
use Rattle.room_model.specs.Server.{shut}
use Rattle.room_arrivals.specs.Serving.{Answers}
use Rattle.room_arrivals.proofs.closing.bad_frame.Goals as goal

pub returns-clause-answers : goal.returns-clause-answers
returns-clause-answers c = λ s setting.
    subst
    (λ (t : List ℕ). OnOk c.shut.result
    (Answers setting s c.args.draft.now c.shut.new.draft (λ v. shut v c.args.conn c.args.link.now 4400 t)))
    c.in_ok-text.ensures (c.shut.ensures.answers s setting)
