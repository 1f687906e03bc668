-- The law of undoing, over lines and the log.
use Rattle.std.specs.Prelude.{◌≡◌, ◌≢◌, ℕ, true, List, [], ◌∷◌, ◌++◌, Some}
use Rattle.room_nodes.specs.declared.nodes.Change.{Change}
use Rattle.room_nodes.specs.Cells.{Agrees, IsApart, cells_all}
use Rattle.room_nodes.specs.Reversal.{reverse_all}
use Rattle.room_nodes.specs.Shape.{Nodes}
use Rattle.room_log.specs.Log.{State, Update, tree_after, updates_of}
use Rattle.room_model.specs.Account.{Batch, OpenBatch, actor, shown}
use Rattle.room_model.specs.Calls.{Direction, Undo, Redo, entry_of}
use Rattle.room_model.specs.Edits.{Edit}
use Rattle.room_model.specs.History.{History}
use Rattle.room_model.specs.Lines as lines
use Rattle.room_model.specs.Lines.{Call, Line}
use Rattle.room_model.specs.World.{account, step}
use Rattle.room_model.specs.Run.{Run, run, line, opened}
use Rattle.room_laws.specs.Back.{in_bag}
use Rattle.room_laws.specs.Events.{Event, Called, Arrived, Ended, events}
use Rattle.room_laws.specs.Open.{brings_none}
use Rattle.room_laws.specs.Undoing.{bodies_after}

-- what issues a batch: the end of an open one, an edit outside one, or undoing or redoing an entry
pub data Maker : Type 0 where
  Ends : Maker
  Edits : Edit → Maker
  Turns : Direction → Maker

-- undoing is taken back by redoing, and all else by undoing
abbrev pub taking_back : Maker → Direction
taking_back Ends = Undo
taking_back (Edits e) = Undo
taking_back (Turns Undo) = Redo
taking_back (Turns Redo) = Undo

abbrev pub call_of_direction : Direction → Call
call_of_direction Undo = lines.Undo
call_of_direction Redo = lines.Redo

abbrev pub call_of : Maker → Call
call_of Ends = lines.End
call_of (Edits e) = lines.Edits e
call_of (Turns direction) = call_of_direction direction

abbrev pub call_back : Maker → Call
call_back m = call_of_direction (taking_back m)

-- a call that doesn't end a batch
abbrev pub EndsNone : Call → Type 0
EndsNone lines.Dial = Unit {0}
EndsNone (lines.Edits e) = Unit {0}
EndsNone lines.Begin = Unit {0}
EndsNone lines.End = ⊥
EndsNone lines.Undo = Unit {0}
EndsNone lines.Redo = Unit {0}
EndsNone lines.Pause = Unit {0}
EndsNone lines.Resume = Unit {0}
EndsNone lines.Clear = Unit {0}
EndsNone (lines.Presence patch in_history) = Unit {0}
EndsNone (lines.Event e) = Unit {0}
EndsNone lines.Flush = Unit {0}
EndsNone lines.Resend = Unit {0}
EndsNone lines.Cut = Unit {0}

-- no state and no update comes, and no batch is ended
abbrev pub IsQuiet : Event → Type 0
IsQuiet (Called call) = EndsNone call
IsQuiet (Arrived m) = brings_none m ≡ true
IsQuiet Ended = Unit {0}

abbrev pub AreQuiet : List Event → Type 0
AreQuiet [] = Unit {0}
AreQuiet (e ∷ es) = IsQuiet e × AreQuiet es

-- The lines before the batch's first operation, those from there to its end, the line that issues it, the lines until
-- it is taken back, the line that does this, and the rest. What makes a batch at once has no lines within.
pub record Course : Type 0 where
  pub before : List (ℕ × Line)
  pub within : List (ℕ × Line)
  pub last : ℕ
  pub maker : Maker
  pub until : List (ℕ × Line)
  pub back : ℕ
  pub rest : List (ℕ × Line)

abbrev pub before : State → Course → Run
before s q = run (opened s) q.before

abbrev pub ready : State → Course → Run
ready s q = run (before s q) q.within

abbrev pub made_in : State → Course → ℕ → Run
made_in s q c = line (ready s q) q.last (lines.OfClient c (call_of q.maker))

abbrev pub until : State → Course → ℕ → Run
until s q c = run (made_in s q c) q.until

abbrev pub taken_back : State → Course → ℕ → Run
taken_back s q c = line (until s q c) q.back (lines.OfClient c (call_back q.maker))

abbrev pub whole : State → Course → ℕ → Run
whole s q c = run (taken_back s q c) q.rest

-- an open batch has no operation yet, and from there to its end no state and no update comes
abbrev pub Begins : Maker → Run → ℕ → List (ℕ × Line) → Type 0
Begins Ends r c within = record {
  batch : OpenBatch;
  stands : (account r.world c).batch ≡ Some batch;
  bare : batch.bodies ≡ [];
  quiet : AreQuiet (events r.world c within);
}
Begins (Edits e) r c within = within ≡ []
Begins (Turns direction) r c within = within ≡ []

-- the entry is of the batch alone: nothing was gathered in a pause before it, and something was noted of it
abbrev pub IsOfOne : Maker → History → History → Type 0
IsOfOne Ends before after = (in_bag before.bag ≡ []) × (after ≢ before)
IsOfOne (Edits e) before after = (in_bag before.bag ≡ []) × (after ≢ before)
IsOfOne (Turns direction) before after = Unit {0}

-- the client c issues the batch `made`, whose first operation it makes where it shows the tree t, and takes its entry
-- back as the batch `back`
pub record Goes (s : State) (q : Course) (c : ℕ) (t : Nodes) (made back : Batch) : Type 0 where
  pub shows : shown (account (before s q).world c) ≡ Some t
  pub begins : Begins q.maker (before s q) c q.within
  pub issues : (step (ready s q).world q.last (lines.OfClient c (call_of q.maker))).issues ≡ (c, made) ∷ []
  pub one : IsOfOne q.maker (account (ready s q).world c).history (account (made_in s q c).world c).history
  pub entry : List Change
  pub noted : entry_of (taking_back q.maker) (account (made_in s q c).world c).history ≡ Some entry
  pub next : entry_of (taking_back q.maker) (account (until s q c).world c).history ≡ Some entry
  pub undoes : (step (until s q c).world q.back (lines.OfClient c (call_back q.maker))).issues ≡ (c, back) ∷ []

-- then `back` is the reversal of `made` on t
abbrev pub EachReversed : Type 0
EachReversed = (s : State) (q : Course) (c : ℕ) (t : Nodes) (made back : Batch) → Goes s q c t made back →
    back.bodies ≡ reverse_all t made.bodies

-- both are in the log, as the updates b and u; the tree before b agrees with t on what `made` touches, and the updates
-- vs between are apart from it
pub record Lies (s : State) (r : Run) (c : ℕ) (t : Nodes) (made back : Batch) (us vs ws : List Update)
    (b u : Update) : Type 0 where
  pub log : updates_of r.log ≡ us ++ b ∷ (vs ++ u ∷ ws)
  pub of_back : u.actor ≡ actor (account r.world c)
  pub of_made : b.actor ≡ actor (account r.world c)
  pub clock : b.first ≡ made.first
  pub clock_back : u.first ≡ back.first
  pub agree : Agrees t (tree_after s.tree us) (cells_all t made.bodies)
  pub apart : IsApart (tree_after s.tree us) (bodies_after vs) made.bodies
