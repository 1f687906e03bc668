-- A part of the sample run in which the first client is alone: it meets the premises of the law of undoing alone.
use Rattle.std.specs.Prelude.{◌≡◌, ℕ, List, [], ◌∷◌, ◌++◌, codes}
use Rattle.room_nodes.specs.Shape.{empty_tree}
use Rattle.room_msg.specs.declared.messages.ServerMsg.TheVariants as server
use Rattle.room_log.specs.Log.{empty_state, ops_of}
use Rattle.room_model.specs.Account.{Account}
use Rattle.room_model.specs.Lines as lines
use Rattle.room_model.specs.Lines.{Line}
use Rattle.room_model.specs.World.{account}
use Rattle.room_model.specs.Run.{Run, run, opened}
use Rattle.room_laws.specs.Alone.{AreAlone, BeginsAlone, counted}
use Rattle.room_laws.specs.Back.{Undoes}
use Rattle.room_laws.specs.Events.{Event, Called, Arrived, events}
use Rattle.room_laws.specs.Sample.{down, flush, joins, numbered, sample_update, sets, up}
use Rattle.room_laws.specs.Sample.{sets_call}
use Rattle.room_laws.specs.Validity.{AreLines}

-- both joined; then the first client's edit is sent, and comes back
abbrev pub alone_lines : List (ℕ × Line)
alone_lines = numbered 17 (sets 1 (codes "a") 1 ∷ flush 1 ∷ up 1 ∷ down 1 ∷ [])

abbrev pub joined_run : Run
joined_run = run (opened empty_state) (numbered 1 joins)

abbrev pub alone_run : Run
alone_run = run (opened empty_state) (numbered 1 joins ++ alone_lines)

abbrev pub alone_events : List Event
alone_events =
    Called (sets_call (codes "a") 1) ∷ Called lines.Flush
    ∷ Arrived (server.Update 1 (ops_of (sample_update 1 (codes "a") 1))) ∷ []

pub record AloneSample : Type 0 where
  pub spelled : AreLines (numbered 1 joins ++ alone_lines)
  pub begins : BeginsAlone empty_tree (account joined_run.world 1)
  pub happens : events joined_run.world 1 alone_lines ≡ alone_events
  pub alone : AreAlone (account joined_run.world 1) 0 (events joined_run.world 1 alone_lines)
  pub count : counted (account joined_run.world 1) 0 (events joined_run.world 1 alone_lines) ≡ 1
  pub last : Account
  pub undoes : Undoes 1 (account alone_run.world 1) last
