-- What is asked of a client.
use Rattle.std.specs.Prelude.{ℕ, List, Some}
use Rattle.room_model.specs.Lines as model
use Rattle.room_model.specs.Lines.{answer_line}
use Rattle.room_model.specs.World.{Slot}
use Rattle.room_slots.specs.declared.asking.Question.{Question}
use Rattle.room_slots.specs.declared.asking.Question.TheVariants.{Show, Brief, Others, History, Notices}

abbrev pub question_of : Question → model.Question
question_of Show = model.Show
question_of Brief = model.Brief
question_of Others = model.ShowOthers
question_of History = model.ShowHistory
question_of Notices = model.ShowNotices

abbrev pub answer_of : ℕ → Slot → Question → List ℕ
answer_of c p q = answer_line (Some c) p.account p.noticed (question_of q)
