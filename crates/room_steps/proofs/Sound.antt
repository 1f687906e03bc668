-- A step of a sound tree by a sound operation is sound.
use Rattle.std.proofs.Common.{◌≡◌, ℕ, true, false, ◌||◌, not, nat_le, List, [], ◌∷◌, length, Option, ◌∙◌}
use Rattle.std.specs.FinMap.{get}
use Rattle.std.specs.Str.{IsUtf8}
use Rattle.room_json.specs.Profile.{IsJson, HaveJson, AreSoundMembers}
use Rattle.room_json.specs.Value.{Value, fields_of}
use Rattle.room_ids.specs.Laws.{IsNodeInRange}
use Rattle.room_ids.specs.Position.{is_pos, is_some_text}
use Rattle.room_ids.specs.declared.ids.NodeId.{NodeId}
use Rattle.room_ids.proofs.Makings.{utf8}
use Rattle.room_nodes.specs.declared.nodes.Node.{Node}
use Rattle.room_nodes.specs.declared.nodes.Kind.{Kind}
use Rattle.room_nodes.specs.declared.nodes.Kind.TheVariants.{Object, List as Listed, Map, Register}
use Rattle.room_nodes.specs.declared.nodes.Body.{Body}
use Rattle.room_nodes.specs.declared.nodes.Body.TheVariants.{SetKey, Create, Update, Delete, DeleteKey}
use Rattle.room_nodes.specs.Ordered.{AreOrderedBodies, IsOrderedBody, IsOrderedKind}
use Rattle.room_nodes.specs.Shape.{Nodes, IsFormed, up}
use Rattle.room_nodes.specs.Sound.{AreSoundBodies, IsSoundBody, IsSoundKind, IsSoundNode, IsSoundTree}
use Rattle.room_nodes.specs.Steps.{step, fold, holds_list, is_void, settled_body, settled_key, with_fields, without_field, without_replaced}
use Rattle.room_nodes.proofs.Fitting.{both}
use Rattle.room_nodes.proofs.Settling.{stays}
use Rattle.room_nodes.proofs.StepForm.{FieldsOf}
use Rattle.room_nodes.proofs.Steps.{neither, not_false, second, list_there, pruned, can_set_key, formed-step}
use Rattle.room_steps.specs.Laws.{KeepsSound}
use Rattle.room_steps.proofs.Fields.{ordered_with, ordered_without}
use Rattle.room_steps.proofs.Keeping.{OfEach, Brings, Spares, each_with, each_without, of_kind, all_step, of_settled}

-- fields

abbrev IsField : List ℕ → Value → Type 0
IsField k v = IsUtf8 k × IsJson v

each_field : (fs : FieldsOf) → HaveJson (fields_of fs) → OfEach IsField fs
each_field [] h = tt
each_field (f ∷ fs) h = ((h.0, h.1), each_field fs h.2)

field_each : (fs : FieldsOf) → OfEach IsField fs → HaveJson (fields_of fs)
field_each [] h = tt
field_each (f ∷ fs) h = (h.0.0, h.0.1, field_each fs h.1)

sound_with : (es fs : FieldsOf) → AreSoundMembers es → AreSoundMembers fs → AreSoundMembers (with_fields es fs)
sound_with es fs g h = record {
  ordered = ordered_with es fs h.ordered;
  json = field_each (with_fields es fs) (each_with IsField (λ j k v w a b. (a.0, b.1)) es fs (each_field es g.json) (each_field fs h.json));
}

sound_without : (k : List ℕ) (fs : FieldsOf) → AreSoundMembers fs → AreSoundMembers (without_field k fs)
sound_without k fs h = record {
  ordered = ordered_without k fs h.ordered;
  json = field_each (without_field k fs) (each_without IsField k fs (each_field fs h.json));
}

-- nodes and operations

abbrev IsSound : NodeId → Node → Type 0
IsSound x n = IsNodeInRange x × IsSoundNode n

with_kind : (x : NodeId) (n : Node) (kind : Kind) → IsSound x n → IsSoundKind kind → IsSound x (record n { kind = kind })
with_kind x n kind h k = (h.0, record { parent = h.1.parent; key = h.1.key; kind = k })

spares : Spares IsSound
spares x k n h = with_kind x n _ h (of_kind IsSoundKind (without_field k) (sound_without k) n.kind h.1.kind)

brings : (b : Body) → IsSoundBody b → Brings IsSound b
brings (SetKey x k) h = λ n m. (m.0, record { parent = m.1.parent; key = h.1; kind = m.1.kind })
brings (Create x p k r kind) h = λ d. (h.0, record { parent = h.1; key = h.2; kind = h.4 })
brings (Update x fs) h = λ n m. with_kind x n _ m (of_kind IsSoundKind (with_fields fs) (λ gs g. sound_with fs gs h.1 g) n.kind m.1.kind)
brings (Delete x) h = tt
brings (DeleteKey x k) h = tt

-- a position is UTF-8
pos_utf8 : (k : List ℕ) → is_pos k ≡ true → IsUtf8 k
pos_utf8 k h = utf8 k (both (nat_le (length k) 4096) _ (both (is_some_text k) _ h).1).1

module _ (t : Nodes) (f : IsFormed t) where
  moved_utf8 : (x : NodeId) (k : List ℕ) → is_void t (SetKey x k) ≡ false → IsUtf8 (settled_key t (up t x) x k)
  moved_utf8 x k e = pos_utf8 _ (can_set_key t f x k e).pos

  placed_utf8 : (x p : NodeId) (k : List ℕ) (r : Option NodeId) (kind : Kind) → (is_void t (Create x p k r kind) || not (holds_list (get t p))) ≡ false → IsUtf8 (settled_key (without_replaced t p r) p x k)
  placed_utf8 x p k r kind e =
      let a = neither _ _ e in
      let b = neither _ _ (neither _ _ a.0).1 in
      let holds = not_false _ a.1 in
      let n = list_there (get t p) holds in
      let q = pruned t f p r in
      let u = without_replaced t p r in
      let z = settled_key u p x k in
      pos_utf8 z (both (is_pos z) _ (stays u q.formed p n.0 (q.here ∙ n.1) n.2 x k (not_false _ (second (holds_list (get t p)) _ b.1 holds))).1).0

  sound_settled : (b : Body) → IsSoundBody b → IsSoundBody (settled_body t b)
  sound_settled b h = of_settled IsSoundBody t (λ x k e s. (s.0, moved_utf8 x k e)) (λ x p k r kind e s. (s.0, s.1, placed_utf8 x p k r kind e, s.3, s.4)) b h

  sound_step : (b : Body) → IsSoundTree t → IsSoundBody b → IsSoundTree (step t b)
  sound_step b h s = all_step IsSound spares t b h (brings (settled_body t b) (sound_settled b s))

sound_fold : (t : Nodes) (bs : List Body) → IsFormed t → IsSoundTree t → AreSoundBodies bs → IsSoundTree (fold t bs)
sound_fold t [] f h s = h
sound_fold t (b ∷ bs) f h s = sound_fold (step t b) bs (formed-step t f b) (sound_step t f b h s.0) s.1

-- what is sound has its fields in order

ordered_kind : (kind : Kind) → IsSoundKind kind → IsOrderedKind kind
ordered_kind (Object fs) h = h.ordered
ordered_kind Listed h = tt
ordered_kind Map h = tt
ordered_kind (Register v) h = tt

ordered_body : (b : Body) → IsSoundBody b → IsOrderedBody b
ordered_body (SetKey x k) h = tt
ordered_body (Create x p k r kind) h = ordered_kind kind h.4
ordered_body (Update x fs) h = h.1.ordered
ordered_body (Delete x) h = tt
ordered_body (DeleteKey x k) h = tt

ordered_bodies : (bs : List Body) → AreSoundBodies bs → AreOrderedBodies bs
ordered_bodies [] h = tt
ordered_bodies (b ∷ bs) h = (ordered_body b h.0, ordered_bodies bs h.1)

pub keeps_sound : KeepsSound
keeps_sound = record {
  settled = λ t b f h s. sound_settled t f b s;
  step = λ t b f h s. sound_step t f b h s;
  fold = sound_fold;
  ordered = λ t h x n e. ordered_kind n.kind (h x n e).1.kind;
  ordered_bodies = ordered_bodies;
}
