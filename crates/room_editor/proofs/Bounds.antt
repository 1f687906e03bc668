-- Lists without a bag keep their bounds.
use Rattle.std.proofs.Common.{◌≡◌, ◌≤◌, ◌∙◌, List, [], ◌∷◌, length, Option, Some, None, refl, sym, ap, subst, arith}
use Rattle.std.proofs.Common.{length-take}
use Rattle.room_nodes.specs.declared.nodes.Change.{Change}
use Rattle.room_model.specs.History.{History, note, noted, redone, resume, resumed_at, put_undo}

pub record Bounded (h : History) : Type 0 where
  pub bag : h.bag ≡ None
  pub undo : length h.undo ≤ 50

put_bound : (e : List Change) (h : History) → h.bag ≡ None → Bounded (put_undo e h)
put_bound e h none = record { bag = none; undo = omega (arith, length-take 50 (e ∷ h.undo)) }

noted_bound : (e : List Change) (h : History) (o : Option (List Change)) → h.bag ≡ o → o ≡ None
    → Bounded (noted e h o)
noted_bound e h None q none = record { bag = q; undo = (put_bound e h q).undo }
noted_bound e h (Some bag) q none = cc

note_bound : (cs : List Change) (h : History) → Bounded h → Bounded (note cs h)
note_bound [] h b = b
note_bound (c ∷ cs) h b = noted_bound (c ∷ cs) h h.bag refl b.bag

resumed_is : (h : History) (o : Option (List Change)) → o ≡ None → resumed_at h o ≡ h
resumed_is h None none = refl
resumed_is h (Some bag) none = cc

redone_bound : (e : List Change) (h : History) → Bounded h → Bounded (redone e h)
redone_bound e h b = record {
  bag = ap (λ (k : History). k.bag) (resumed_is h h.bag b.bag) ∙ b.bag;
  undo = omega (arith, length-take 50 (e ∷ (resume h).undo));
}

pub noted_to : (cs : List Change) (h k : History) → k ≡ note cs h → h.bag ≡ None → length h.undo ≤ 50 → Bounded k
noted_to cs h k is none l = subst Bounded (sym is) (note_bound cs h (record { bag = none; undo = l }))

pub redone_to : (cs : List Change) (h k : History) → k ≡ redone cs h → h.bag ≡ None → length h.undo ≤ 50 → Bounded k
redone_to cs h k is none l = subst Bounded (sym is) (redone_bound cs h (record { bag = none; undo = l }))
