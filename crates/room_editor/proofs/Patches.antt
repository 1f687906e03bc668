-- Before the first state nothing goes back but patches of the presence.
use Rattle.std.proofs.Common.{◌≡◌, ◌++◌, ◌∙◌, ℕ, zero, suc, List, [], ◌∷◌, take, drop, Option, Some, None}
use Rattle.std.proofs.Common.{refl, ap, subst, Bool, true, false}
use Rattle.std.specs.List.{AllByRecursion}
use Rattle.room_json.specs.Value.{Value, merged}
use Rattle.room_nodes.specs.declared.nodes.Change.{Change}
use Rattle.room_nodes.specs.declared.nodes.Change.TheVariants.{Op as OpChange, Presence as PresenceChange}
use Rattle.room_nodes.specs.Shape.{Nodes}
use Rattle.room_log.specs.Log.{bodies_of, ops_from}
use Rattle.room_msg.specs.declared.messages.Resume.{Resume}
use Rattle.room_model.specs.Account.{Account}
use Rattle.room_model.specs.Calls.{Direction, Undo, Redo, entry_bodies, entry_of, entry_reversal, gone, back_noted}
use Rattle.room_model.specs.History.{History, note, noted, pause, paused_at, resume, resumed_at, clear, emptied}
use Rattle.room_model.specs.History.{put_undo}
use Rattle.room_model.specs.History.{newest, entry_at}
use Rattle.room_model.specs.Presence.{back_of}
use Rattle.room_overlay.specs.Over.{Over}
use Rattle.room_editor.specs.Editor.{Gathered, confirmed_in}
use Rattle.room_editor.specs.Gathering.{changes_in, patched}
use Rattle.room_editor.specs.Standing.{ArePatches, HasPatches, HoldsPatches, Stands, StandsBare, StandsIn}

entry_append : (xs ys : List Change) → entry_bodies (xs ++ ys) ≡ entry_bodies xs ++ entry_bodies ys
entry_append [] ys = refl
entry_append (OpChange b ∷ xs) ys = ap (λ bs. b ∷ bs) (entry_append xs ys)
entry_append (PresenceChange p ∷ xs) ys = entry_append xs ys

patches_append : (xs ys : List Change) → ArePatches xs → ArePatches ys → ArePatches (xs ++ ys)
patches_append xs ys h k = entry_append xs ys ∙ (λ i. h i ++ k i)

take_each : (n : ℕ) (es : List (List Change)) → AllByRecursion ArePatches es → AllByRecursion ArePatches (take n es)
take_each zero es h = tt
take_each (suc n) [] h = tt
take_each (suc n) (e ∷ es) h = (h.0, take_each n es h.1)

drop_first : (es : List (List Change)) → AllByRecursion ArePatches es → AllByRecursion ArePatches (drop 1 es)
drop_first [] h = tt
drop_first (e ∷ es) h = h.1

put_patches : (e : List Change) (h : History) → ArePatches e → HoldsPatches h → HoldsPatches (put_undo e h)
put_patches e h p k = record { undo = take_each 50 (e ∷ h.undo) (p, k.undo); redo = k.redo; bag = k.bag }

noted_patches : (e : List Change) (h : History) (o : Option (List Change)) → h.bag ≡ o → ArePatches e
    → HoldsPatches h → HoldsPatches (noted e h o)
noted_patches e h None q p k = record { undo = take_each 50 (e ∷ h.undo) (p, k.undo); redo = tt; bag = k.bag }
noted_patches e h (Some bag) q p k =
    record { undo = k.undo; redo = tt; bag = patches_append e bag p (subst HasPatches q k.bag) }

note_patches : (cs : List Change) (h : History) → ArePatches cs → HoldsPatches h → HoldsPatches (note cs h)
note_patches [] h p k = k
note_patches (c ∷ cs) h p k = noted_patches (c ∷ cs) h h.bag refl p k

paused_patches : (h : History) (o : Option (List Change)) → HoldsPatches h → HoldsPatches (paused_at h o)
paused_patches h None k = record { undo = k.undo; redo = k.redo; bag = refl }
paused_patches h (Some bag) k = k

resumed_patches : (h : History) (o : Option (List Change)) → h.bag ≡ o → HoldsPatches h → HoldsPatches (resumed_at h o)
resumed_patches h None q k = k
resumed_patches h (Some []) q k = record { undo = k.undo; redo = k.redo; bag = tt }
resumed_patches h (Some (c ∷ cs)) q k = record {
  undo = take_each 50 ((c ∷ cs) ∷ h.undo) (subst HasPatches q k.bag, k.undo);
  redo = k.redo;
  bag = tt;
}

resume_patches : (h : History) → HoldsPatches h → HoldsPatches (resume h)
resume_patches h k = resumed_patches h h.bag refl k

emptied_patches : (o : Option (List Change)) → HasPatches (emptied o)
emptied_patches None = tt
emptied_patches (Some bag) = refl

clear_patches : (h : History) → HoldsPatches (clear h)
clear_patches h = record { undo = tt; redo = tt; bag = emptied_patches h.bag }

gone_patches : (way : Direction) (e : List Change) (h : History) → ArePatches e → HoldsPatches h
    → HoldsPatches (gone way e h)
gone_patches Undo e h p k =
    let r = resume_patches h k in
    record { undo = drop_first (resume h).undo r.undo; redo = (p, r.redo); bag = r.bag }
gone_patches Redo e h p k =
    let r = resume_patches h k in
    put_patches e (record (resume h) { redo = drop 1 (resume h).redo }) p
    (record { undo = r.undo; redo = drop_first (resume h).redo r.redo; bag = r.bag })

newest_patches : (es : List (List Change)) (e : List Change) → AllByRecursion ArePatches es → newest es ≡ Some e
    → ArePatches e
newest_patches [] e h q = cc
newest_patches (x ∷ es) e h q = let is : x ≡ e = cc in subst ArePatches is h.0

entry_patches_at : (h : History) (o : Option (List Change)) (e : List Change) → HasPatches o → HoldsPatches h
    → entry_at h o ≡ Some e → ArePatches e
entry_patches_at h None e p k q = newest_patches h.undo e k.undo q
entry_patches_at h (Some []) e p k q = newest_patches h.undo e k.undo q
entry_patches_at h (Some (c ∷ cs)) e p k q = let is : (c ∷ cs) ≡ e = cc in subst ArePatches is p

entry_patches : (way : Direction) (h : History) (e : List Change) → HoldsPatches h → entry_of way h ≡ Some e
    → ArePatches e
entry_patches Undo h e k q = entry_patches_at h h.bag e k.bag k q
entry_patches Redo h e k q = newest_patches h.redo e k.redo q

pub reversal_patches : (t : Nodes) (me : List (List ℕ × Value)) (cs : List Change) → ArePatches cs
    → ArePatches (entry_reversal t me cs)
reversal_patches t me [] h = refl
reversal_patches t me (OpChange b ∷ cs) h = cc
reversal_patches t me (PresenceChange p ∷ cs) h =
    patches_append (entry_reversal t (merged me p) cs) (PresenceChange (back_of me p) ∷ [])
    (reversal_patches t (merged me p) cs h) refl

pub noted_alone_patches : (x : Account) (patch : List (List ℕ × Value)) (yes : Bool)
    → ArePatches (back_noted x patch yes)
noted_alone_patches x patch true = refl
noted_alone_patches x patch false = refl

pub no_bodies : (a c : ℕ) (cs : List Change) → ArePatches cs → bodies_of (ops_from a c (entry_bodies cs)) ≡ []
no_bodies a c cs h = ap (λ bs. bodies_of (ops_from a c bs)) h

-- of an editor

bare_by : (s : Option Resume) (o : Option Over) (g : Option Gathered) (h : History) → StandsIn s o g h
    → confirmed_in o ≡ None → HoldsPatches h
bare_by s None g h st none = st.history
bare_by s (Some o) g h st none = cc

pub entry_is_patches : (s : Option Resume) (o : Option Over) (g : Option Gathered) (h : History) (way : Direction)
    (e : List Change) → StandsIn s o g h → confirmed_in o ≡ None → entry_of way h ≡ Some e → ArePatches e
entry_is_patches s o g h way e st none q = entry_patches way h e (bare_by s o g h st none) q

pub pause_stands : (s : Option Resume) (o : Option Over) (g : Option Gathered) (h : History) → StandsIn s o g h
    → StandsIn s o g (pause h)
pause_stands s None g h st =
    record { bytes = st.bytes; changes = st.changes; history = paused_patches h h.bag st.history }
pause_stands s (Some o) g h st = st

pub resume_stands : (s : Option Resume) (o : Option Over) (g : Option Gathered) (h : History) → StandsIn s o g h
    → StandsIn s o g (resume h)
resume_stands s None g h st =
    record { bytes = st.bytes; changes = st.changes; history = resume_patches h st.history }
resume_stands s (Some o) g h st = st

pub clear_stands : (s : Option Resume) (o : Option Over) (g : Option Gathered) (h : History) → StandsIn s o g h
    → StandsIn s o g (clear h)
clear_stands s None g h st = record { bytes = st.bytes; changes = st.changes; history = clear_patches h }
clear_stands s (Some o) g h st = st

pub noted_stands : (s : Option Resume) (o : Option Over) (g : Option Gathered) (h : History) (cs : List Change)
    → ArePatches cs → StandsIn s o g h → StandsIn s o g (note cs h)
noted_stands s None g h cs p st =
    record { bytes = st.bytes; changes = st.changes; history = note_patches cs h p st.history }
noted_stands s (Some o) g h cs p st = st

pub ended_bare : (g : Option Gathered) (h : History) → StandsBare g h → StandsBare None (note (changes_in g) h)
ended_bare g h st =
    record { bytes = refl; changes = refl; history = note_patches (changes_in g) h st.changes st.history }

patched_bare : (g : Option Gathered) (h : History) (keys : List (List ℕ)) (back : List Change) → ArePatches back
    → StandsBare g h → StandsBare (patched keys back g) h
patched_bare None h keys back p st = st
patched_bare (Some g) h keys back p st =
    record { bytes = st.bytes; changes = patches_append back g.changes p st.changes; history = st.history }

patched_by : (s : Option Resume) (o : Over) (g : Option Gathered) (keys : List (List ℕ)) (back : List Change)
    → Stands s o g → Stands s o (patched keys back g)
patched_by s o None keys back st = st
patched_by s o (Some g) keys back st =
    record { known = st.known; actor = st.actor; closed = λ e. cc; bytes = st.bytes }

pub patched_stands : (s : Option Resume) (o : Option Over) (g : Option Gathered) (h : History)
    (keys : List (List ℕ)) (back : List Change) → ArePatches back → StandsIn s o g h
    → StandsIn s o (patched keys back g) h
patched_stands s None g h keys back p st = patched_bare g h keys back p st
patched_stands s (Some o) g h keys back p st = patched_by s o g keys back st

pub gone_stands : (s : Option Resume) (o : Option Over) (g : Option Gathered) (h : History) (way : Direction)
    (e : List Change) → (confirmed_in o ≡ None → ArePatches e) → StandsIn s o g h → StandsIn s o g (gone way e h)
gone_stands s None g h way e p st =
    record { bytes = st.bytes; changes = st.changes; history = gone_patches way e h (p refl) st.history }
gone_stands s (Some o) g h way e p st = st

pub ruleset stands = (
  pause_stands,
  resume_stands,
  clear_stands,
  noted_stands,
  ended_bare,
  patched_stands,
  gone_stands,
  entry_is_patches,
  reversal_patches,
  noted_alone_patches,
  no_bodies,
)
