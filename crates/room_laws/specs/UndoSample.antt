-- The sample run goes on: the first client takes its edit back. That meets the premises of the law of undoing.
use Rattle.std.specs.Prelude.{◌≡◌, ℕ, List, [], ◌∷◌, ◌++◌, codes}
use Rattle.room_ids.specs.declared.ids.NodeId.TheVariants.{Root}
use Rattle.room_nodes.specs.declared.nodes.Body.TheVariants.{DeleteKey}
use Rattle.room_nodes.specs.Shape.{Nodes, empty_tree}
use Rattle.room_log.specs.Log.{Update, empty_state}
use Rattle.room_model.specs.Account.{Batch}
use Rattle.room_model.specs.Edits as edits
use Rattle.room_model.specs.Init.{Plain}
use Rattle.room_model.specs.Lines as lines
use Rattle.room_model.specs.Lines.{Line}
use Rattle.room_model.specs.Run.{Run}
use Rattle.room_laws.specs.Always.{lines_of}
use Rattle.room_laws.specs.Sample.{IsLoaded, before_stop, down, flush, from_edit, from_stop, joins, number, numbered}
use Rattle.room_laws.specs.Sample.{sample_batch, sample_update, tree_with, up}
use Rattle.room_laws.specs.Undo.{Course, Edits, Goes, Lies, whole}
use Rattle.room_laws.specs.Validity.{AreLines}

-- the undo is sent, and taken by the server and by both clients
abbrev pub from_undo : List Line
from_undo = flush 1 ∷ up 3 ∷ down 3 ∷ down 4 ∷ []

abbrev pub undo_lines : List (ℕ × Line)
undo_lines = numbered 1 (before_stop ++ from_stop ++ lines.OfClient 1 lines.Undo ∷ from_undo)

-- the same lines around the edit and what takes it back
abbrev pub sample_course : Course
sample_course = record {
  before = numbered 1 joins;
  within = [];
  last = 17;
  maker = Edits (edits.Set Root (codes "a") (Plain (number 1)));
  until = numbered 18 (from_edit ++ from_stop);
  back = 47;
  rest = numbered 48 from_undo;
}

abbrev pub undo_run : Run
undo_run = whole empty_state sample_course 1

abbrev pub back_batch : Batch
back_batch = record { first = 2; bodies = DeleteKey Root (codes "a") ∷ [] }

abbrev pub back_update : Update
back_update = record { actor = 1; first = 2; bodies = DeleteKey Root (codes "a") ∷ [] }

-- what is left: the other client's edit
abbrev pub left_tree : Nodes
left_tree = tree_with ((codes "b", number 2) ∷ [])

pub record UndoSample : Type 0 where
  pub lines : lines_of sample_course 1 ≡ undo_lines
  pub spelled : AreLines undo_lines
  pub goes : Goes empty_state sample_course 1 empty_tree (sample_batch (codes "a") 1) back_batch
  pub lies : Lies empty_state undo_run 1 empty_tree (sample_batch (codes "a") 1) back_batch []
      (sample_update 2 (codes "b") 2 ∷ []) [] (sample_update 1 (codes "a") 1) back_update
  pub first : IsLoaded undo_run 1 3 left_tree [] left_tree
  pub second : IsLoaded undo_run 2 3 left_tree [] left_tree
