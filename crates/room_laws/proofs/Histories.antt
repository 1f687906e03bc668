-- What each entry of a history is, each entry is after a call, where what is noted is that too.
use Rattle.std.proofs.Common.{◌≡◌, ℕ, zero, suc, List, [], ◌∷◌, ◌++◌, take, drop, Option, Some, None, refl, subst}
use Rattle.std.specs.List.{AllByRecursion}
use Rattle.room_nodes.specs.declared.nodes.Change.{Change}
use Rattle.room_model.specs.History.{History, empty_history, note, noted, pause, paused_at, resume, resumed_at, clear, emptied, newest, entry_at}
use Rattle.room_model.specs.Calls.{Direction, Undo, Redo, entry_of, gone}
use Rattle.room_model.specs.Sound.{HoldsOnly, changes_or_none}
use Rattle.room_laws.proofs.Facts.{some_is, none_some}

module _ (P : List Change → Type 0) (none : P []) (more : (xs ys : List Change) → P xs → P ys → P (xs ++ ys)) where
  all_take : (n : ℕ) (es : List (List Change)) → AllByRecursion P es → AllByRecursion P (take n es)
  all_take zero es h = tt
  all_take (suc n) [] h = tt
  all_take (suc n) (e ∷ es) h = (h.0, all_take n es h.1)

  all_drop : (n : ℕ) (es : List (List Change)) → AllByRecursion P es → AllByRecursion P (drop n es)
  all_drop zero es h = h
  all_drop (suc n) [] h = tt
  all_drop (suc n) (e ∷ es) h = all_drop n es h.1

  put : (e : List Change) (es : List (List Change)) → P e → AllByRecursion P es → AllByRecursion P (take 50 (e ∷ es))
  put e es p h = all_take 50 (e ∷ es) (p, h)

  pub holds_empty : HoldsOnly P empty_history
  holds_empty = record { undo = tt; redo = tt; bag = none }

  noted_by : (e : List Change) (h : History) (b : Option (List Change)) → h.bag ≡ b → P e → HoldsOnly P h → HoldsOnly P (noted e h b)
  noted_by e h None q p k = record { undo = put e h.undo p k.undo; redo = tt; bag = k.bag }
  noted_by e h (Some bag) q p k = record { undo = k.undo; redo = tt; bag = more e bag p (subst (λ (o : Option (List Change)). P (changes_or_none o)) q k.bag) }

  pub holds_note : (e : List Change) (h : History) → P e → HoldsOnly P h → HoldsOnly P (note e h)
  holds_note [] h p k = k
  holds_note (c ∷ cs) h p k = noted_by (c ∷ cs) h h.bag refl p k

  paused_by : (h : History) (b : Option (List Change)) → HoldsOnly P h → HoldsOnly P (paused_at h b)
  paused_by h None k = record { undo = k.undo; redo = k.redo; bag = none }
  paused_by h (Some bag) k = k

  pub holds_pause : (h : History) → HoldsOnly P h → HoldsOnly P (pause h)
  holds_pause h k = paused_by h h.bag k

  resumed_by : (h : History) (b : Option (List Change)) → h.bag ≡ b → HoldsOnly P h → HoldsOnly P (resumed_at h b)
  resumed_by h None q k = k
  resumed_by h (Some []) q k = record { undo = k.undo; redo = k.redo; bag = none }
  resumed_by h (Some (c ∷ cs)) q k = record { undo = put (c ∷ cs) h.undo (subst (λ (o : Option (List Change)). P (changes_or_none o)) q k.bag) k.undo; redo = k.redo; bag = none }

  pub holds_resume : (h : History) → HoldsOnly P h → HoldsOnly P (resume h)
  holds_resume h k = resumed_by h h.bag refl k

  emptied_by : (b : Option (List Change)) → P (changes_or_none (emptied b))
  emptied_by None = none
  emptied_by (Some bag) = none

  pub holds_clear : (h : History) → HoldsOnly P (clear h)
  holds_clear h = record { undo = tt; redo = tt; bag = emptied_by h.bag }

  newest_is : (es : List (List Change)) (e : List Change) → AllByRecursion P es → newest es ≡ Some e → P e
  newest_is [] e h q = absurd (none_some e q)
  newest_is (f ∷ es) e h q = subst P (some_is f e q) h.0

  entry_by : (h : History) (b : Option (List Change)) (e : List Change) → h.bag ≡ b → HoldsOnly P h → entry_at h b ≡ Some e → P e
  entry_by h None e q k s = newest_is h.undo e k.undo s
  entry_by h (Some []) e q k s = newest_is h.undo e k.undo s
  entry_by h (Some (c ∷ cs)) e q k s = subst P (some_is (c ∷ cs) e s) (subst (λ (o : Option (List Change)). P (changes_or_none o)) q k.bag)

  -- what an undo or a redo takes, and what it leaves

  pub holds_entry : (way : Direction) (h : History) (e : List Change) → HoldsOnly P h → entry_of way h ≡ Some e → P e
  holds_entry Undo h e k s = entry_by h h.bag e refl k s
  holds_entry Redo h e k s = newest_is h.redo e k.redo s

  pub holds_gone : (way : Direction) (r : List Change) (h : History) → P r → HoldsOnly P h → HoldsOnly P (gone way r h)
  holds_gone Undo r h p k = let m = holds_resume h k in record { undo = all_drop 1 (resume h).undo m.undo; redo = (p, m.redo); bag = m.bag }
  holds_gone Redo r h p k = let m = holds_resume h k in record { undo = put r (resume h).undo p m.undo; redo = all_drop 1 (resume h).redo m.redo; bag = m.bag }
