-- The part of the sample run in which the first client is alone, event by event.
use Rattle.std.proofs.Common.{◌≡◌, ◌≤◌, ℕ, List, [], ◌∷◌, ◌++◌, map, refl, sym, ap, ◌∙◌, subst, arith}
use Rattle.std.specs.Prelude.{Option, Some, codes, Result, Ok}
use Rattle.std.specs.Fmt.{digits}
use Rattle.json.specs.Print.{escape_byte}
use Rattle.room_ids.specs.Ids.{node_text, stamp_text}
use Rattle.room_nodes.specs.Shape.{empty_tree}
use Rattle.room_nodes.specs.declared.nodes.Body.{Body}
use Rattle.room_msg.specs.declared.messages.ServerMsg.TheVariants as server
use Rattle.room_log.specs.Log.{ops_of}
use Rattle.room_model.specs.Account.{Account, bodies_in, shown}
use Rattle.room_model.specs.Calls as calls
use Rattle.room_model.specs.Calls.{Done, edit, entry_bodies, go_back, op_change}
use Rattle.room_model.specs.Edits.{Edit, EditFault}
use Rattle.room_model.specs.Lines as lines
use Rattle.room_model.specs.Run.{Run}
use Rattle.room_model.specs.World as World
use Rattle.room_model.specs.World.{Conn}
use Rattle.room_laws.specs.Alone.{AreAlone, counted, if_done}
use Rattle.room_laws.specs.AloneSample.{AloneSample, alone_events, alone_lines, alone_run, joined_run}
use Rattle.room_model.specs.Sound.{changes_in}
use Rattle.room_laws.specs.Back.{edit_count, in_bag, noted_count}
use Rattle.room_laws.specs.Events.{Event, Called, Arrived, done_or, events, outbound_events}
use Rattle.room_laws.specs.Sample.{down, flush, joins, numbered, sample_update, sets, sets_call, up}
use Rattle.room_laws.specs.Validity.{AreLines}
use Rattle.room_laws.proofs.Listed.{get_M}
use Rattle.room_laws.proofs.SceneMoves.{Scene, R, Flush, Up, Down, AllMay, all_went, both_may, goes, went}
use Rattle.room_laws.proofs.SceneTests.{done_is, done_of, edit_of, make_is, undone_in}
use Rattle.room_laws.proofs.SampleRun.{a_back, all_append, back_a, client_1, enter_both, first_edit, first_scene, held, is_held}
use Rattle.room_laws.proofs.SampleRun.{joined_scene, joining, may_editing, may_joining, name_a, one_whole, sets_are, spelled}

abbrev edited_scene : Scene
edited_scene = goes joined_scene first_edit

abbrev sent_scene : Scene
sent_scene = goes edited_scene (Flush 1)

abbrev served_scene : Scene
served_scene = goes sent_scene (Up 1)

abbrev alone_scene : Scene
alone_scene = goes served_scene (Down 1)

may_alone : AllMay joined_scene (first_edit ∷ Flush 1 ∷ Up 1 ∷ Down 1 ∷ [])
may_alone = (may_editing.0, (may_editing.1.0, (may_editing.1.1.0, (may_editing.1.1.1.0, tt))))

to_joined : joined_run ≡ R joined_scene
to_joined = all_went first_scene joining 1 may_joining

to_alone : alone_run ≡ R alone_scene
to_alone = all_went first_scene (joining ++ first_edit ∷ Flush 1 ∷ Up 1 ∷ Down 1 ∷ []) 1
    (both_may first_scene joining (first_edit ∷ Flush 1 ∷ Up 1 ∷ Down 1 ∷ []) may_joining may_alone)

-- what happens

from_edit : events (R joined_scene).world 1 alone_lines ≡ Called (sets_call (codes "a") 1)
    ∷ events (R edited_scene).world 1 (numbered 18 (flush 1 ∷ up 1 ∷ down 1 ∷ []))
from_edit = ap (λ (r : Run). Called (sets_call (codes "a") 1) ∷ events r.world 1 (numbered 18 (flush 1 ∷ up 1 ∷ down 1 ∷ [])))
    (went joined_scene first_edit 17 may_alone.0)

from_flush : events (R edited_scene).world 1 (numbered 18 (flush 1 ∷ up 1 ∷ down 1 ∷ [])) ≡ Called lines.Flush
    ∷ events (R sent_scene).world 1 (numbered 19 (up 1 ∷ down 1 ∷ []))
from_flush = ap (λ (r : Run). Called lines.Flush ∷ events r.world 1 (numbered 19 (up 1 ∷ down 1 ∷ [])))
    (went edited_scene (Flush 1) 18 may_alone.1.0)

from_up : events (R sent_scene).world 1 (numbered 19 (up 1 ∷ down 1 ∷ [])) ≡ events (R served_scene).world 1 (numbered 20 (down 1 ∷ []))
from_up = ap (λ (r : Run). events r.world 1 (numbered 20 (down 1 ∷ []))) (went sent_scene (Up 1) 19 may_alone.1.1.0)

abbrev comes_back : List Event
comes_back = Arrived (server.Update 1 (ops_of (sample_update 1 (codes "a") 1))) ∷ []

from_down : events (R served_scene).world 1 (numbered 20 (down 1 ∷ [])) ≡ comes_back
from_down = ap (λ (o : Option Conn). outbound_events 1 o ++ []) (get_M served_scene.conns 1)

happens : events joined_run.world 1 alone_lines ≡ alone_events
happens =
    ap (λ (r : Run). events r.world 1 alone_lines) to_joined ∙ from_edit
    ∙ ap (λ (es : List Event). Called (sets_call (codes "a") 1) ∷ es) (from_flush
    ∙ ap (λ (es : List Event). Called lines.Flush ∷ es) (from_up ∙ from_down))

-- alone, from what it held

abbrev held_first : Account
held_first = held (R joined_scene) joined_scene refl 1

abbrev done : Done
done = done_of held_first (codes "a") 1 empty_tree back_a

made : edit held_first (edit_of (codes "a") 1) ≡ Ok done
made = make_is held_first (codes "a") 1 empty_tree [] back_a may_alone.0.0 may_alone.0.1 may_alone.0.2 may_alone.0.3

one_noted : edit_count held_first 0 done ≡ 1
one_noted = ap (λ (bs : List Body). noted_count (map op_change bs) held_first.history 0) a_back

abbrev behind : List Event
behind = Called lines.Flush ∷ comes_back

-- an edit that is made, before other events
module _ (x : Account) (e : Edit) (out : Done) (made : edit x e ≡ Ok out) (es : List Event) where
  abbrev After : Result Done EditFault → Type 0
  After r = Unit {0} × (if_done r (edit_count x 0) 0 ≤ 50) × AreAlone (done_or x r) (if_done r (edit_count x 0) 0) es

  edit_alone : (n : ℕ) → edit_count x 0 out ≡ n → n ≤ 50 → AreAlone out.account n es → AreAlone x 0 (Called (lines.Edits e) ∷ es)
  edit_alone n is few h =
      let there : After (Ok out) = subst (λ (m : ℕ). Unit {0} × (m ≤ 50) × AreAlone out.account m es) (sym is) (tt, few, h) in
      subst After (sym made) there

  edit_counted : counted x 0 (Called (lines.Edits e) ∷ es) ≡ counted out.account (edit_count x 0 out) es
  edit_counted = ap (λ (r : Result Done EditFault). counted (done_or x r) (if_done r (edit_count x 0) 0) es) made

alone_held : AreAlone held_first 0 alone_events
alone_held = edit_alone held_first (edit_of (codes "a") 1) done made behind 1 one_noted (omega arith)
    (tt, omega arith, (refl, omega arith, tt))

count_held : counted held_first 0 alone_events ≡ 1
count_held =
    edit_counted held_first (edit_of (codes "a") 1) done made behind
    ∙ ap (λ (n : ℕ). counted done.account n behind) one_noted

-- and in the run

first_held : World.account joined_run.world 1 ≡ held_first
first_held = is_held joined_run joined_scene to_joined 1

abbrev alone_account : Account
alone_account = held (R alone_scene) alone_scene refl 1

back_done : go_back calls.Undo alone_account ≡ Ok (Some (undone_in alone_account (go_back calls.Undo alone_account)))
unfolding digits escape_byte node_text stamp_text
back_done = done_is alone_account (go_back calls.Undo alone_account) refl

lines_are : AreLines (numbered 1 joins ++ alone_lines)
lines_are = record {
  spelled = spelled 1 (joins ++ sets 1 (codes "a") 1 ∷ flush 1 ∷ up 1 ∷ down 1 ∷ [])
      (all_append joins (sets 1 (codes "a") 1 ∷ flush 1 ∷ up 1 ∷ down 1 ∷ []) (enter_both 1 2)
      (sets_are 1 (codes "a") 1 client_1 name_a one_whole, ((client_1, tt), (tt, (tt, tt)))));
  fewer = omega arith;
}

pub alone_sample : AloneSample
alone_sample = record {
  spelled = lines_are;
  begins = record {
    shows = ap shown first_held;
    none = ap (λ (y : Account). bodies_in y.batch) first_held;
    back = ap (λ (y : Account). entry_bodies (changes_in y.batch)) first_held;
    bare = ap (λ (y : Account). in_bag y.history.bag) first_held;
  };
  happens = happens;
  alone = subst (λ (es : List Event). AreAlone (World.account joined_run.world 1) 0 es) (sym happens)
      (subst (λ (y : Account). AreAlone y 0 alone_events) (sym first_held) alone_held);
  count = ap (counted (World.account joined_run.world 1) 0) happens ∙ ap (λ (y : Account). counted y 0 alone_events) first_held ∙ count_held;
  last = (undone_in alone_account (go_back calls.Undo alone_account)).account;
  undoes = record {
    out = undone_in alone_account (go_back calls.Undo alone_account);
    undoes = ap (go_back calls.Undo) (is_held alone_run alone_scene to_alone 1) ∙ back_done;
    more = refl;
  };
}
