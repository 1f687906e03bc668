-- What takes sound operations back, on a valid tree, is valid.
use Rattle.std.proofs.Common.{◌≡◌, ℕ, Bool, true, false, cond, ◌&&◌, nat_le, List, [], ◌∷◌, ◌++◌, Option, Some, None, Less, refl, subst}
use Rattle.std.specs.Prelude.{IsUtf8, ⊤}
use Rattle.std.specs.Ordering.{nat_cmp, eq_by_cmp}
use Rattle.std.specs.Cmp.Lexicographic.{slice_cmp}
use Rattle.std.specs.List.{AllByRecursion}
use Rattle.std.specs.List.Sorted.{IsStrictlySortedBy}
use Rattle.std.specs.Map.{keys_of}
use Rattle.std.specs.FinMap.{get, find}
use Rattle.room_json.specs.Value.{Value, depth, fields_of}
use Rattle.room_json.specs.Profile.{IsJson, HaveJson, AreSoundMembers}
use Rattle.room_ids.specs.Laws.{IsNodeInRange}
use Rattle.room_ids.specs.declared.ids.NodeId.{NodeId}
use Rattle.room_nodes.specs.declared.nodes.Node.{Node}
use Rattle.room_nodes.specs.declared.nodes.Kind.{Kind}
use Rattle.room_nodes.specs.declared.nodes.Kind.TheVariants.{Object, List as Listed, Map, Register}
use Rattle.room_nodes.specs.declared.nodes.Body.{Body}
use Rattle.room_nodes.specs.declared.nodes.Body.TheVariants.{SetKey, Create, Update, Delete, DeleteKey}
use Rattle.room_nodes.specs.Preorder.{preorder}
use Rattle.room_nodes.specs.Reversal.{creation, creations, node_restored, child_restored, field_in, field_of_node, slot_or, slot_restored, old_field, old_fields, old_update, gone_or, other_name, other_names, replaced_restored, key_restored, reversed, reverse, reverse_all}
use Rattle.room_nodes.specs.Shallow.{are_shallow, is_shallow, is_shallow_kind, AreShallow}
use Rattle.room_nodes.specs.Shape.{Nodes, child_at}
use Rattle.room_nodes.specs.Sound.{IsSoundBody, AreSoundBodies, IsSoundKind}
use Rattle.room_nodes.specs.Steps.{step, is_void, is_under, holds_list}
use Rattle.room_nodes.proofs.Steps.{formed-step}
use Rattle.room_steps.proofs.Shallow.{keeps_shallow}
use Rattle.room_steps.proofs.Sound.{keeps_sound}
use Rattle.room_model.specs.Sound.{AreValidBodies, IsValidTree}
use Rattle.room_laws.proofs.Patches.{Members}
use Rattle.room_laws.proofs.Facts.{some_is, none_some, both}

-- operations one by one

abbrev pub IsValidBody : Body → Type 0
IsValidBody b = IsSoundBody b × (is_shallow b ≡ true)

abbrev pub EachValid : List Body → Type 0
EachValid [] = ⊤
EachValid (b ∷ bs) = IsValidBody b × EachValid bs

pub each_of : (bs : List Body) → AreValidBodies bs → EachValid bs
each_of [] h = tt
each_of (b ∷ bs) h = ((h.sound.0, h.shallow.0), each_of bs (record { sound = h.sound.1; shallow = h.shallow.1 }))

each_sound : (bs : List Body) → EachValid bs → AreSoundBodies bs
each_sound [] h = tt
each_sound (b ∷ bs) h = (h.0.0, each_sound bs h.1)

each_shallow : (bs : List Body) → EachValid bs → AreShallow bs
each_shallow [] h = tt
each_shallow (b ∷ bs) h = (h.0.1, each_shallow bs h.1)

pub of_each : (bs : List Body) → EachValid bs → AreValidBodies bs
of_each bs h = record { sound = each_sound bs h; shallow = each_shallow bs h }

pub each_append : (bs cs : List Body) → EachValid bs → EachValid cs → EachValid (bs ++ cs)
each_append [] cs h k = k
each_append (b ∷ bs) cs h k = (h.0, each_append bs cs h.1 k)

pub valid_append : (bs cs : List Body) → AreValidBodies bs → AreValidBodies cs → AreValidBodies (bs ++ cs)
valid_append bs cs h k = of_each (bs ++ cs) (each_append bs cs (each_of bs h) (each_of cs k))

-- a field's value

-- 55 deep at most
abbrev pub IsField : Value → Type 0
IsField v = IsJson v × (nat_le (depth v) 55 ≡ true)

first_of : (a b : Bool) → (a && b) ≡ true → a ≡ true
first_of true b p = refl
first_of false b p = cc

second_of : (a b : Bool) → (a && b) ≡ true → b ≡ true
second_of true b p = p
second_of false b p = cc

found_by : (b : Bool) (v w : Value) (o : Option Value) → cond b (Some v) o ≡ Some w → IsField v → (o ≡ Some w → IsField w) → IsField w
found_by true v w o e h more = subst IsField (some_is v w e) h
found_by false v w o e h more = more e

found_field : (k : List ℕ) (fs : Members) (w : Value) → HaveJson (fields_of fs) → are_shallow fs ≡ true → find (slice_cmp nat_cmp) k fs ≡ Some w → IsField w
found_field k [] w h l e = absurd (none_some w e)
found_field k (f ∷ fs) w h l e =
    found_by (eq_by_cmp (slice_cmp nat_cmp) k f.0) f.1 w (find (slice_cmp nat_cmp) k fs) e (h.1, first_of (nat_le (depth f.1) 55) (are_shallow fs) l)
    (found_field k fs w h.2 (second_of (nat_le (depth f.1) 55) (are_shallow fs) l))

kind_field : (k : List ℕ) (kind : Kind) (w : Value) → IsSoundKind kind → is_shallow_kind kind ≡ true → field_in k kind ≡ Some w → IsField w
kind_field k (Object fs) w h l e = found_field k fs w h.json l e
kind_field k Listed w h l e = absurd (none_some w e)
kind_field k Map w h l e = absurd (none_some w e)
kind_field k (Register v) w h l e = absurd (none_some w e)

one_member : (k : List ℕ) (v : Value) → IsUtf8 k → IsJson v → AreSoundMembers ((k, v) ∷ [])
unfolding IsStrictlySortedBy
one_member k v name json = record { ordered = (tt, tt); json = (name, json, tt) }

pub one_field : (x : NodeId) (k : List ℕ) (v : Value) → IsNodeInRange x → IsUtf8 k → IsField v → IsValidBody (Update x ((k, v) ∷ []))
one_field x k v range name h = ((range, one_member k v name h.0), both (nat_le (depth v) 55) true h.1 refl)

-- old fields: some names of an update, in its order

below_some : (k : List ℕ) (e : List ℕ × Option Value) (fs : Members) → slice_cmp nat_cmp k e.0 ≡ Less → AllByRecursion (λ j. slice_cmp nat_cmp k j ≡ Less) (keys_of fs)
    → AllByRecursion (λ j. slice_cmp nat_cmp k j ≡ Less) (keys_of (old_field e.0 e.1 ++ fs))
below_some k (j, None) fs l h = h
below_some k (j, Some v) fs l h = (l, h)

module _ (t : Nodes) (valid : IsValidTree t) where
  node_field : (x : NodeId) (k : List ℕ) (o : Option Node) (w : Value) → get t x ≡ o → field_of_node k o ≡ Some w → IsField w
  node_field x k None w e f = absurd (none_some w f)
  node_field x k (Some n) w e f = kind_field k n.kind w (valid.sound x n e).1.kind (valid.shallow x n e) f

  -- restored nodes

  valid_creation : (x : NodeId) (o : Option Node) → get t x ≡ o → EachValid (creation x o)
  valid_creation x None e = tt
  valid_creation x (Some n) e = let s = valid.sound x n e in (((s.0, s.1.parent, s.1.key, tt, s.1.kind), valid.shallow x n e), tt)

  valid_creations : (xs : List NodeId) → EachValid (creations t xs)
  valid_creations [] = tt
  valid_creations (x ∷ xs) = each_append (creation x (get t x)) (creations t xs) (valid_creation x (get t x) refl) (valid_creations xs)

  valid_restored : (x : NodeId) → EachValid (node_restored t x)
  valid_restored x = valid_creations (preorder t x)

  valid_child : (o : Option NodeId) → EachValid (child_restored t o)
  valid_child None = tt
  valid_child (Some y) = valid_restored y

  -- slots

  slot_by : (x : NodeId) (k : List ℕ) (o : Option Value) (bs : List Body) → IsNodeInRange x → IsUtf8 k → ((w : Value) → o ≡ Some w → IsField w) → EachValid bs → EachValid (slot_or x k o bs)
  slot_by x k None bs range name field h = h
  slot_by x k (Some v) bs range name field h = (one_field x k v range name (field v refl), tt)

  valid_slot : (x : NodeId) (k : List ℕ) → IsNodeInRange x → IsUtf8 k → EachValid (slot_restored t x k)
  valid_slot x k range name = slot_by x k (field_of_node k (get t x)) (child_restored t (child_at t x k)) range name (λ w e. node_field x k (get t x) w refl e) (valid_child (child_at t x k))

  -- an update

  old_below : (k : List ℕ) (x : NodeId) (fs : Members) → AllByRecursion (λ j. slice_cmp nat_cmp k j ≡ Less) (keys_of fs) → AllByRecursion (λ j. slice_cmp nat_cmp k j ≡ Less) (keys_of (old_fields (get t x) fs))
  old_below k x [] h = tt
  old_below k x (f ∷ fs) h = below_some k (f.0, field_of_node f.0 (get t x)) (old_fields (get t x) fs) h.0 (old_below k x fs h.1)

  ordered_by : (k : List ℕ) (o : Option Value) (fs : Members) → AllByRecursion (λ j. slice_cmp nat_cmp k j ≡ Less) (keys_of fs) → IsStrictlySortedBy (slice_cmp nat_cmp) (keys_of fs)
      → IsStrictlySortedBy (slice_cmp nat_cmp) (keys_of (old_field k o ++ fs))
  unfolding IsStrictlySortedBy
  ordered_by k None fs b h = h
  ordered_by k (Some v) fs b h = (b, h)

  old_ordered : (x : NodeId) (fs : Members) → IsStrictlySortedBy (slice_cmp nat_cmp) (keys_of fs) → IsStrictlySortedBy (slice_cmp nat_cmp) (keys_of (old_fields (get t x) fs))
  unfolding IsStrictlySortedBy
  old_ordered x [] h = tt
  old_ordered x (f ∷ fs) h = ordered_by f.0 (field_of_node f.0 (get t x)) (old_fields (get t x) fs) (old_below f.0 x fs h.0) (old_ordered x fs h.1)

  json_by : (k : List ℕ) (o : Option Value) (fs : Members) → IsUtf8 k → ((w : Value) → o ≡ Some w → IsField w) → HaveJson (fields_of fs) → HaveJson (fields_of (old_field k o ++ fs))
  json_by k None fs name field h = h
  json_by k (Some v) fs name field h = (name, (field v refl).0, h)

  old_json : (x : NodeId) (fs : Members) → HaveJson (fields_of fs) → HaveJson (fields_of (old_fields (get t x) fs))
  old_json x [] h = tt
  old_json x (f ∷ fs) h = json_by f.0 (field_of_node f.0 (get t x)) (old_fields (get t x) fs) h.0 (λ w e. node_field x f.0 (get t x) w refl e) (old_json x fs h.2)

  low_by : (k : List ℕ) (o : Option Value) (fs : Members) → ((w : Value) → o ≡ Some w → IsField w) → are_shallow fs ≡ true → are_shallow (old_field k o ++ fs) ≡ true
  low_by k None fs field h = h
  low_by k (Some v) fs field h = both (nat_le (depth v) 55) (are_shallow fs) (field v refl).1 h

  old_low : (x : NodeId) (fs : Members) → are_shallow (old_fields (get t x) fs) ≡ true
  old_low x [] = refl
  old_low x (f ∷ fs) = low_by f.0 (field_of_node f.0 (get t x)) (old_fields (get t x) fs) (λ w e. node_field x f.0 (get t x) w refl e) (old_low x fs)

  update_by : (x : NodeId) (fs : Members) → IsNodeInRange x → AreSoundMembers fs → are_shallow fs ≡ true → EachValid (old_update x fs)
  update_by x [] range h l = tt
  update_by x (f ∷ fs) range h l = (((range, h), l), tt)

  valid_olds : (x : NodeId) (fs : Members) → IsNodeInRange x → AreSoundMembers fs → EachValid (old_update x (old_fields (get t x) fs))
  valid_olds x fs range h = update_by x (old_fields (get t x) fs) range (record { ordered = old_ordered x fs h.ordered; json = old_json x fs h.json }) (old_low x fs)

  gone_by : (x : NodeId) (k : List ℕ) (o : Option NodeId) (bs : List Body) → IsNodeInRange x → IsUtf8 k → EachValid bs → EachValid (gone_or x k o bs)
  gone_by x k None bs range name h = (((range, name), refl), tt)
  gone_by x k (Some y) bs range name h = h

  name_by : (x : NodeId) (k : List ℕ) (o : Option Value) → IsNodeInRange x → IsUtf8 k → EachValid (other_name t x k o)
  name_by x k None range name = gone_by x k (child_at t x k) (child_restored t (child_at t x k)) range name (valid_child (child_at t x k))
  name_by x k (Some v) range name = tt

  valid_others : (x : NodeId) (fs : Members) → IsNodeInRange x → HaveJson (fields_of fs) → EachValid (other_names t x fs)
  valid_others x [] range h = tt
  valid_others x (f ∷ fs) range h =
      each_append (other_name t x f.0 (field_of_node f.0 (get t x))) (other_names t x fs) (name_by x f.0 (field_of_node f.0 (get t x)) range h.0) (valid_others x fs range h.2)

  -- a create

  replaced_by : (b : Bool) (x : NodeId) → EachValid (cond b (node_restored t x) [])
  replaced_by true x = valid_restored x
  replaced_by false x = tt

  valid_replaced : (p : NodeId) (r : Option NodeId) → EachValid (replaced_restored t p r)
  valid_replaced p None = tt
  valid_replaced p (Some x) = replaced_by (is_under p x (get t x)) x

  displaced_by : (b : Bool) (p : NodeId) (k : List ℕ) (r : Option NodeId) → IsNodeInRange p → IsUtf8 k → EachValid (cond b (replaced_restored t p r) (slot_restored t p k))
  displaced_by true p k r range name = valid_replaced p r
  displaced_by false p k r range name = valid_slot p k range name

  key_by : (x : NodeId) (o : Option Node) → get t x ≡ o → IsNodeInRange x → EachValid (key_restored x o)
  key_by x None e range = tt
  key_by x (Some n) e range = (((range, (valid.sound x n e).1.key), refl), tt)

  valid_reversed : (b : Body) → IsSoundBody b → EachValid (reversed t b)
  valid_reversed (SetKey x k) h = key_by x (get t x) refl h.0
  valid_reversed (Create x p k r kind) h = ((h.0, refl), displaced_by (holds_list (get t p)) p k r h.1 h.2)
  valid_reversed (Update x fs) h = each_append (old_update x (old_fields (get t x) fs)) (other_names t x fs) (valid_olds x fs h.0 h.1) (valid_others x fs h.0 h.1.json)
  valid_reversed (Delete x) h = valid_restored x
  valid_reversed (DeleteKey x k) h = valid_slot x k h.0 h.1

  void_by : (b : Bool) (bs : List Body) → EachValid bs → EachValid (cond b [] bs)
  void_by true bs h = tt
  void_by false bs h = h

  pub valid_reverse : (b : Body) → IsSoundBody b → EachValid (reverse t b)
  valid_reverse b h = void_by (is_void t b) (reversed t b) (valid_reversed b h)

pub valid_step : (t : Nodes) (b : Body) → IsValidTree t → IsValidBody b → IsValidTree (step t b)
valid_step t b h s = record {
  formed = formed-step t h.formed b;
  sound = keeps_sound.step t b h.formed h.sound s.0;
  shallow = keeps_shallow.step t b h.shallow s.1;
}

each_reverse : (t : Nodes) (bs : List Body) → IsValidTree t → EachValid bs → EachValid (reverse_all t bs)
each_reverse t [] h s = tt
each_reverse t (b ∷ bs) h s = each_append (reverse_all (step t b) bs) (reverse t b) (each_reverse (step t b) bs (valid_step t b h s.0) s.1) (valid_reverse t h b s.0.0)

pub valid_reverse_all : (t : Nodes) (bs : List Body) → IsValidTree t → AreValidBodies bs → AreValidBodies (reverse_all t bs)
valid_reverse_all t bs h s = of_each (reverse_all t bs) (each_reverse t bs h (each_of bs s))
