-- The sample run with an undo, move by move.
use Rattle.std.proofs.Common.{◌≡◌, ◌≢◌, List, [], ◌∷◌, ◌++◌, refl, sym, ap, ◌∙◌, arith}
use Rattle.std.specs.Prelude.{codes}
use Rattle.std.specs.Fmt.{digits}
use Rattle.json.specs.Print.{escape_byte}
use Rattle.room_ids.specs.Ids.{node_text, stamp_text}
use Rattle.room_ids.specs.declared.ids.NodeId.TheVariants.{Root}
use Rattle.room_nodes.specs.Cells.{Agrees, IsApart, cells_all}
use Rattle.room_nodes.specs.Shape.{Nodes, empty_tree}
use Rattle.room_nodes.specs.Steps.{step}
use Rattle.room_nodes.specs.declared.cells.Cell.{Cell}
use Rattle.room_nodes.specs.declared.cells.Cell.TheVariants.{Node as NodeOf, Slot, All}
use Rattle.room_nodes.specs.declared.nodes.Body.TheVariants.{DeleteKey}
use Rattle.room_nodes.specs.declared.nodes.Change.{Change}
use Rattle.room_nodes.specs.declared.nodes.Change.TheVariants.{Op as OpChange}
use Rattle.room_log.specs.Log.{empty_state, updates_of}
use Rattle.room_model.specs.Account.{Account, actor, shown}
use Rattle.room_model.specs.History.{History, undo_entry}
use Rattle.room_model.specs.Lines as lines
use Rattle.room_model.specs.Run.{Run, line, run}
use Rattle.room_model.specs.World as World
use Rattle.room_laws.specs.Back.{in_bag}
use Rattle.room_laws.specs.Undo.{Goes, Lies, before, call_of, made_in, ready, taken_back, until}
use Rattle.room_laws.specs.Sample.{IsLoaded, before_stop, from_stop, number, sample_batch, sample_body, sample_update}
use Rattle.room_laws.specs.UndoSample.{UndoSample, back_batch, back_update, from_undo, left_tree, sample_course, undo_lines, undo_run}
use Rattle.room_laws.specs.Validity.{AreLines}
use Rattle.room_laws.proofs.RootTrees.{at_root, no_children, unset_field}
use Rattle.room_laws.proofs.SceneMoves.{Scene, R, Act, Flush, Undo, Up, Down, AllMay, all_go, all_may, all_went, both_may, goes, make_issues, undo_issues, went}
use Rattle.room_laws.proofs.SampleRun.{AllLines, all_append, before_are, client_1, editing, first_edit, first_scene, first_tree, from_are, is_held}
use Rattle.room_laws.proofs.SampleRun.{joined_scene, joining, last_scene, loaded, may_editing, may_joining, may_returning, returning, second_is, spelled}

abbrev edited_scene : Scene
edited_scene = goes joined_scene first_edit

abbrev undone_scene : Scene
undone_scene = goes last_scene (Undo 1)

abbrev sending : List Act
sending = Flush 1 ∷ Up 3 ∷ Down 3 ∷ Down 4 ∷ []

abbrev end_scene : Scene
end_scene = all_go undone_scene sending

may_undo : AllMay last_scene (Undo 1 ∷ sending)
unfolding digits escape_byte node_text stamp_text
may_undo = all_may last_scene (Undo 1 ∷ sending) refl tt

-- the runs

to_before : before empty_state sample_course ≡ R joined_scene
to_before = all_went first_scene joining 1 may_joining

to_made : made_in empty_state sample_course 1 ≡ R edited_scene
to_made = ap (λ (r : Run). line r 17 (lines.OfClient 1 (call_of sample_course.maker))) to_before ∙ went joined_scene first_edit 17 may_editing.0

to_until : until empty_state sample_course 1 ≡ R last_scene
to_until = ap (λ (r : Run). run r sample_course.until) to_made
    ∙ all_went edited_scene (editing ++ returning) 18 (both_may edited_scene editing returning may_editing.1 may_returning)

to_undone : taken_back empty_state sample_course 1 ≡ R undone_scene
to_undone = ap (λ (r : Run). line r 47 (lines.OfClient 1 lines.Undo)) to_until ∙ went last_scene (Undo 1) 47 may_undo.0

to_end : undo_run ≡ R end_scene
to_end = ap (λ (r : Run). run r sample_course.rest) to_undone ∙ all_went undone_scene sending 48 may_undo.1

-- the trees

abbrev end_tree : Nodes
end_tree = step (step first_tree (sample_body (codes "b") 2)) (DeleteKey Root (codes "a"))

end_is : end_tree ≡ left_tree
end_is = ap (λ (t : Nodes). step t (DeleteKey Root (codes "a"))) second_is
    ∙ unset_field ((codes "a", number 1) ∷ (codes "b", number 2) ∷ []) (codes "a")

first_end : IsLoaded undo_run 1 3 left_tree [] left_tree
unfolding digits escape_byte node_text stamp_text
first_end = loaded undo_run end_scene to_end 1 3 left_tree left_tree end_tree end_tree [] refl refl refl refl refl refl end_is end_is

second_end : IsLoaded undo_run 2 3 left_tree [] left_tree
unfolding digits escape_byte node_text stamp_text
second_end = loaded undo_run end_scene to_end 2 3 left_tree left_tree end_tree end_tree [] refl refl refl refl refl refl end_is end_is

-- what the law asks for

agrees_self : (t : Nodes) (cs : List Cell) → Agrees t t cs
agrees_self t [] = tt
agrees_self t (NodeOf x ∷ cs) = (refl, agrees_self t cs)
agrees_self t (Slot x k ∷ cs) = ((refl, refl), agrees_self t cs)
agrees_self t (All x ∷ cs) = ((λ k. (refl, refl)), agrees_self t cs)

apart : IsApart empty_tree (sample_body (codes "b") 2 ∷ []) (sample_body (codes "a") 1 ∷ [])
apart = rw (at_root []) (rw (no_children []) refl)

abbrev entry : List Change
entry = OpChange (DeleteKey Root (codes "a")) ∷ []

bag_before : in_bag (World.account (ready empty_state sample_course).world 1).history.bag ≡ []
bag_before = ap (λ (y : Account). in_bag y.history.bag) (is_held (ready empty_state sample_course) joined_scene to_before 1)

undo_before : (World.account (ready empty_state sample_course).world 1).history.undo ≡ []
undo_before = ap (λ (y : Account). y.history.undo) (is_held (ready empty_state sample_course) joined_scene to_before 1)

undo_after : (World.account (made_in empty_state sample_course 1).world 1).history.undo ≡ entry ∷ []
undo_after = ap (λ (y : Account). y.history.undo) (is_held (made_in empty_state sample_course 1) edited_scene to_made 1)

noted : (World.account (made_in empty_state sample_course 1).world 1).history ≢ (World.account (ready empty_state sample_course).world 1).history
noted e =
    let same : entry ∷ [] ≡ [] = sym undo_after ∙ ap (λ (h : History). h.undo) e ∙ undo_before in
    cc

goes_so : Goes empty_state sample_course 1 empty_tree (sample_batch (codes "a") 1) back_batch
unfolding digits escape_byte node_text stamp_text
goes_so = record {
  shows = ap shown (is_held (before empty_state sample_course) joined_scene to_before 1);
  begins = refl;
  issues = ap (λ (r : Run). (World.step r.world 17 (lines.OfClient 1 (call_of sample_course.maker))).issues) to_before
      ∙ make_issues joined_scene 1 (codes "a") 1 17 empty_tree [] (DeleteKey Root (codes "a") ∷ []) may_editing.0;
  one = (bag_before, noted);
  entry = entry;
  noted = ap (λ (y : Account). undo_entry y.history) (is_held (made_in empty_state sample_course 1) edited_scene to_made 1);
  next = ap (λ (y : Account). undo_entry y.history) (is_held (until empty_state sample_course 1) last_scene to_until 1);
  undoes = ap (λ (r : Run). (World.step r.world 47 (lines.OfClient 1 lines.Undo)).issues) to_until ∙ undo_issues last_scene 1 47 may_undo.0;
}

actor_is : actor (World.account undo_run.world 1) ≡ 1
unfolding digits escape_byte node_text stamp_text
actor_is = ap actor (is_held undo_run end_scene to_end 1)

lies_so : Lies empty_state undo_run 1 empty_tree (sample_batch (codes "a") 1) back_batch []
    (sample_update 2 (codes "b") 2 ∷ []) [] (sample_update 1 (codes "a") 1) back_update
unfolding digits escape_byte node_text stamp_text
lies_so = record {
  log = ap (λ (r : Run). updates_of r.log) to_end;
  of_back = sym actor_is;
  of_made = sym actor_is;
  clock = refl;
  clock_back = refl;
  agree = agrees_self empty_tree (cells_all empty_tree (sample_body (codes "a") 1 ∷ []));
  apart = apart;
}

-- the lines

undo_are : AllLines (lines.OfClient 1 lines.Undo ∷ from_undo)
undo_are = ((client_1, tt), ((client_1, tt), (tt, (tt, (tt, tt)))))

lines_are : AreLines undo_lines
lines_are = record {
  spelled = spelled 1 (before_stop ++ from_stop ++ lines.OfClient 1 lines.Undo ∷ from_undo)
      (all_append (before_stop ++ from_stop) (lines.OfClient 1 lines.Undo ∷ from_undo)
      (all_append before_stop from_stop before_are from_are) undo_are);
  fewer = omega arith;
}

pub undo_sample : UndoSample
undo_sample = record {
  lines = refl;
  spelled = lines_are;
  goes = goes_so;
  lies = lies_so;
  first = first_end;
  second = second_end;
}
