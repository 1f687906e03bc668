-- The history's lists stay within their bounds.
use Rattle.std.proofs.Common.{◌≡◌, ◌+◌, ◌≤◌, ◌<◌, inl, inr, List, [], ◌∷◌, length, take, drop, Option, Some, None, true, refl, sym, ap, ◌∙◌, arith, length-take, length-drop}
use Rattle.std.specs.Prelude.{IsSome, is_some}
use Rattle.room_nodes.specs.declared.nodes.Change.{Change}
use Rattle.room_model.specs.History.{History, note, noted, paused_at, resumed_at, emptied, undo_entry, entry_at, newest, redo_entry, undone, redone, bag_count}
use Rattle.room_laws.specs.Bounds.{IsBounded, HistoryBounded}

-- the undo list after an entry more
put_length : (e : List Change) (us : List (List Change)) → (length (take 50 (e ∷ us)) ≤ 50) × (length (take 50 (e ∷ us)) ≤ length us + 1)
put_length e us = (omega (arith, length-take 50 (e ∷ us)), omega (arith, length-take 50 (e ∷ us)))

noted_bounded : (e : List Change) (h : History) (b : Option (List Change)) → h.bag ≡ b → IsBounded h → IsBounded (noted e h b)
noted_bounded e h None p k = record { lists = omega (arith, (put_length e h.undo).0, (put_length e h.undo).1); bag = inr refl }
noted_bounded e h (Some bag) p k = record { lists = omega (arith, k.lists); bag = inr refl }

note_bounded : (e : List Change) (h : History) → IsBounded h → IsBounded (note e h)
note_bounded [] h k = k
note_bounded (c ∷ cs) h k = noted_bounded (c ∷ cs) h h.bag refl k

paused_bounded : (h : History) (b : Option (List Change)) → IsBounded h → IsBounded (paused_at h b)
paused_bounded h None k = record { lists = k.lists; bag = inl refl }
paused_bounded h (Some bag) k = k

none_redo : (h : History) (c : Change) (cs : List Change) → h.bag ≡ Some (c ∷ cs) → IsBounded h → length h.redo ≡ 0
none_redo h c cs p k = elim k.bag [ inl e ↦ absurd (omega (arith, sym (ap bag_count p) ∙ e)) | inr e ↦ e ]

resumed_bounded : (h : History) (b : Option (List Change)) → h.bag ≡ b → IsBounded h → IsBounded (resumed_at h b)
resumed_bounded h None p k = k
resumed_bounded h (Some []) p k = record { lists = k.lists; bag = inl refl }
resumed_bounded h (Some (c ∷ cs)) p k = record { lists = omega (arith, (put_length (c ∷ cs) h.undo).0, (put_length (c ∷ cs) h.undo).1, none_redo h c cs p k); bag = inl refl }

emptied_none : (b : Option (List Change)) → bag_count (emptied b) ≡ 0
emptied_none None = refl
emptied_none (Some bag) = refl

some_newest : (us : List (List Change)) → is_some (newest us) ≡ true → 0 < length us
some_newest [] p = cc
some_newest (e ∷ es) p = omega arith

-- what an undo leaves
undone_at : (r : List Change) (h : History) (b : Option (List Change)) → h.bag ≡ b → is_some (entry_at h b) ≡ true → IsBounded h
    → length (drop 1 (resumed_at h b).undo) + (length (resumed_at h b).redo + 1) ≤ 50
undone_at r h None p s k = omega (arith, length-drop 1 h.undo, some_newest h.undo s, k.lists)
undone_at r h (Some []) p s k = omega (arith, length-drop 1 h.undo, some_newest h.undo s, k.lists)
undone_at r h (Some (c ∷ cs)) p s k =
    omega (arith, length-drop 1 (take 50 ((c ∷ cs) ∷ h.undo)), (put_length (c ∷ cs) h.undo).0, (put_length (c ∷ cs) h.undo).1, none_redo h c cs p k)

-- after what a resume does no bag holds anything
no_bag : (h : History) (b : Option (List Change)) → h.bag ≡ b → bag_count (resumed_at h b).bag ≡ 0
no_bag h None p = ap bag_count p
no_bag h (Some []) p = refl
no_bag h (Some (c ∷ cs)) p = refl

undone_bounded : (r : List Change) (h : History) → IsSome (undo_entry h) → IsBounded h → IsBounded (undone r h)
undone_bounded r h s k = record { lists = omega (arith, undone_at r h h.bag refl s k); bag = inl (no_bag h h.bag refl) }

-- and what a redo leaves: where it has an entry the bag is empty
redone_at : (r : List Change) (h : History) (b : Option (List Change)) → h.bag ≡ b → 0 < length h.redo → IsBounded h
    → length (take 50 (r ∷ (resumed_at h b).undo)) + length (drop 1 (resumed_at h b).redo) ≤ 50
redone_at r h None p s k = omega (arith, (put_length r h.undo).0, (put_length r h.undo).1, length-drop 1 h.redo, k.lists)
redone_at r h (Some []) p s k = omega (arith, (put_length r h.undo).0, (put_length r h.undo).1, length-drop 1 h.redo, k.lists)
redone_at r h (Some (c ∷ cs)) p s k = absurd (omega (arith, none_redo h c cs p k))

redone_bounded : (r : List Change) (h : History) → IsSome (redo_entry h) → IsBounded h → IsBounded (redone r h)
redone_bounded r h s k = record { lists = omega (arith, redone_at r h h.bag refl (some_newest h.redo s) k); bag = inl (no_bag h h.bag refl) }

pub history_bounded : HistoryBounded
history_bounded = record {
  empty = record { lists = omega arith; bag = inl refl };
  note = note_bounded;
  pause = λ h k. paused_bounded h h.bag k;
  resume = λ h k. resumed_bounded h h.bag refl k;
  clear = λ h k. record { lists = omega arith; bag = inr refl };
  undone = undone_bounded;
  redone = redone_bounded;
}
