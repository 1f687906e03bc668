-- What is written of fields, operations and entries is read again.
use Rattle.std.proofs.Common.{◌≡◌, ℕ, ◌^◌, ◌<◌, ◌≤◌, Bool, true, false, ◌&&◌, List, [], ◌∷◌, ◌++◌, length, Option, Some, None, refl, sym, ap, subst, ◌∙◌, append_assoc, arith, eqb}
use Rattle.std.specs.Prelude.{nat_le, nat_lt, nat_eq, IsUtf8}
use Rattle.std.specs.List.{flat_map, AllByRecursion}
use Rattle.std.specs.List.Sorted.{IsStrictlySortedBy}
use Rattle.std.specs.Map.{keys_of}
use Rattle.std.specs.Cmp.Lexicographic.{slice_cmp}
use Rattle.std.specs.Ordering.{nat_cmp}
use Rattle.std.proofs.lemmas.Bool.{eqb-true}
use Rattle.std.proofs.lemmas.List.{append-nil, nil_from_length}
use Rattle.room_json.specs.Profile.{IsJson, HaveJson, AreSoundMembers}
use Rattle.room_json.specs.Value.{Value, depth, text_of, merged, fields_of}
use Rattle.room_json.specs.View.{json_of}
use Rattle.room_json.proofs.Again.{json_again}
use Rattle.room_json.proofs.Spelled.{insert_pair_last}
use Rattle.room_json.proofs.TextsAreUtf8.{text_spells}
use Rattle.room_ids.specs.Laws.{IsNodeInRange}
use Rattle.room_ids.specs.declared.ids.NodeId.{NodeId}
use Rattle.room_nodes.specs.Shallow.{are_shallow, is_shallow_kind, is_shallow, all_shallow}
use Rattle.room_nodes.specs.Sound.{IsSoundKind, IsSoundBody, AreSoundBodies, IsSomeInRange}
use Rattle.room_nodes.specs.declared.nodes.Kind.{Kind}
use Rattle.room_nodes.specs.declared.nodes.Kind.TheVariants.{Object, List as Listed, Map, Register}
use Rattle.room_nodes.specs.declared.nodes.Body.{Body}
use Rattle.room_nodes.specs.declared.nodes.Body.TheVariants.{SetKey, Create, Update, Delete, DeleteKey}
use Rattle.room_log.specs.Log.{Entry, Join, Updated, Update as Updating}
use Rattle.room_bytes.specs.declared.entries.Format.{Format}
use Rattle.room_bytes.specs.declared.entries.Format.TheVariants.{One, Two}
use Rattle.room_bytes.specs.Bounds.{IsCounted, AreCountedFields, IsCountedKind, IsCountedBody, AreCountedBodies, HasBytes, is_written}
use Rattle.room_bytes.specs.Spelling.{u32_bytes, u64_bytes, text_bytes, json_bytes, id_bytes, field_bytes, fields_bytes, replaced_bytes, kind_code, kind_bytes, body_bytes, name_bytes, entry_bytes}
use Rattle.room_bytes.specs.Reading.{◌>>=◌, u32_at, byte_at, json_at, field_at, fields_at, kind_at, set_key_at, delete_key_at, update_at, delete_at, create_at, body_at, each_at, name_at, join_at, updated_at, parts_at, entry_at, entry_of}
use Rattle.room_bytes.proofs.Parts.{both, true_le, u32_again, u64_again, string_again, text_again, id_again, replaced_again, each_again, behind_again}

-- ---- values and fields

pub value_again : (v : Value) (rest : List ℕ) → IsJson v → depth v ≤ 60 → IsCounted (text_of v) → json_at (json_bytes v ++ rest) ≡ Some (v, rest)
unfolding json_at json_bytes
value_again v rest sound shallow lt = rw (string_again (text_of v) rest lt, text_spells v sound shallow) refl

pub record IsField (f : List ℕ × Value) : Type 0 where
  pub name : IsUtf8 f.0
  pub name_counted : IsCounted f.0
  pub json : IsJson f.1
  pub shallow : depth f.1 ≤ 60
  pub text_counted : IsCounted (text_of f.1)

field_again : (f : List ℕ × Value) (rest : List ℕ) → IsField f → field_at (field_bytes f ++ rest) ≡ Some (f, rest)
unfolding field_at field_bytes
field_again f rest is =
    ap field_at (append_assoc (text_bytes f.0) (json_bytes f.1) rest)
    ∙ rw (text_again f.0 (json_bytes f.1 ++ rest) is.name is.name_counted, value_again f.1 rest is.json is.shallow is.text_counted) refl

are_fields : (fs : List (List ℕ × Value)) → AreCountedFields fs → HaveJson (fields_of fs) → are_shallow fs ≡ true → AllByRecursion IsField fs
are_fields [] counted json shallow = tt
are_fields (f ∷ fs) counted json shallow =
    let s = both (nat_le (depth f.1) 55) (are_shallow fs) shallow in
    let low : depth f.1 ≤ 55 = true_le (depth f.1) 55 s.0 in
    (record { name = json.0; name_counted = counted.0.0; json = json.1; shallow = omega (arith, low); text_counted = counted.0.1 }, are_fields fs counted.1 json.2 s.1)

one_on : (done : List (List ℕ × Value)) (e : List ℕ × Value) (more : List (List ℕ × Value)) → IsStrictlySortedBy (slice_cmp nat_cmp) (keys_of (done ++ e ∷ more)) → IsStrictlySortedBy (slice_cmp nat_cmp) (keys_of ((done ++ e ∷ []) ++ more))
one_on done e more h = subst (λ ms. IsStrictlySortedBy (slice_cmp nat_cmp) (keys_of ms)) (sym (append_assoc done (e ∷ []) more)) h

-- members in order, put in one after another
merged_again : (done ms : List (List ℕ × Value)) → IsStrictlySortedBy (slice_cmp nat_cmp) (keys_of (done ++ ms)) → merged done ms ≡ done ++ ms
merged_again done [] h = sym (append-nil done)
merged_again done (m ∷ ms) h =
    ap (λ (ds : List (List ℕ × Value)). merged ds ms) (insert_pair_last done m ms h) ∙ merged_again (done ++ m ∷ []) ms (one_on done m ms h) ∙ append_assoc done (m ∷ []) ms

pub fields_again : (fs : List (List ℕ × Value)) (rest : List ℕ) → IsCounted fs → AreCountedFields fs → AreSoundMembers fs → are_shallow fs ≡ true → fields_at (fields_bytes fs ++ rest) ≡ Some (fs, rest)
unfolding fields_at fields_bytes
fields_again fs rest few counted sound shallow =
    ap fields_at (append_assoc (u32_bytes (length fs)) (flat_map field_bytes fs) rest)
    ∙ rw (u32_again (length fs) (flat_map field_bytes fs ++ rest) few, each_again field_at field_bytes IsField field_again fs rest (are_fields fs counted sound.json shallow), merged_again [] fs sound.ordered) refl

-- ---- operations

pub kind_again : (kind : Kind) (rest : List ℕ) → IsCountedKind kind → IsSoundKind kind → is_shallow_kind kind ≡ true → kind_at (kind_code kind) (kind_bytes kind ++ rest) ≡ Some (kind, rest)
unfolding kind_at kind_bytes
kind_again Listed rest counted sound shallow = refl
kind_again (Object fs) rest counted sound shallow = rw (fields_again fs rest counted.0 counted.1 sound shallow) refl
kind_again Map rest counted sound shallow = refl
kind_again (Register v) rest counted sound shallow =
    let low : depth (json_of v) ≤ 56 = true_le (depth (json_of v)) 56 shallow in
    rw (value_again (json_of v) rest sound (omega (arith, low)) counted, json_again v) refl

set_key_again : (x : NodeId) (key rest : List ℕ) → IsNodeInRange x → IsUtf8 key → IsCounted key → set_key_at ((id_bytes x ++ text_bytes key) ++ rest) ≡ Some (SetKey x key, rest)
unfolding set_key_at
set_key_again x key rest in_range utf8 counted =
    ap set_key_at (append_assoc (id_bytes x) (text_bytes key) rest) ∙ rw (id_again x (text_bytes key ++ rest) in_range, text_again key rest utf8 counted) refl

delete_key_again : (x : NodeId) (key rest : List ℕ) → IsNodeInRange x → IsUtf8 key → IsCounted key → delete_key_at ((id_bytes x ++ text_bytes key) ++ rest) ≡ Some (DeleteKey x key, rest)
unfolding delete_key_at
delete_key_again x key rest in_range utf8 counted =
    ap delete_key_at (append_assoc (id_bytes x) (text_bytes key) rest) ∙ rw (id_again x (text_bytes key ++ rest) in_range, text_again key rest utf8 counted) refl

update_again : (x : NodeId) (fs : List (List ℕ × Value)) (rest : List ℕ) → IsNodeInRange x → IsCounted fs → AreCountedFields fs → AreSoundMembers fs → are_shallow fs ≡ true
    → update_at ((id_bytes x ++ fields_bytes fs) ++ rest) ≡ Some (Update x fs, rest)
unfolding update_at
update_again x fs rest in_range few counted sound shallow =
    ap update_at (append_assoc (id_bytes x) (fields_bytes fs) rest) ∙ rw (id_again x (fields_bytes fs ++ rest) in_range, fields_again fs rest few counted sound shallow) refl

delete_again : (x : NodeId) (rest : List ℕ) → IsNodeInRange x → delete_at (id_bytes x ++ rest) ≡ Some (Delete x, rest)
unfolding delete_at
delete_again x rest in_range = rw (id_again x rest in_range) refl

five : (a b c d e rest : List ℕ) → (a ++ (b ++ (c ++ (d ++ e)))) ++ rest ≡ a ++ (b ++ (c ++ (d ++ (e ++ rest))))
five a b c d e rest = simp append_assoc

create_again : (x parent : NodeId) (key : List ℕ) (r : Option NodeId) (kind : Kind) (rest : List ℕ) → IsCounted key × IsCountedKind kind
    → IsNodeInRange x × IsNodeInRange parent × IsUtf8 key × IsSomeInRange r × IsSoundKind kind → is_shallow_kind kind ≡ true
    → create_at (kind_code kind) ((id_bytes x ++ (id_bytes parent ++ (text_bytes key ++ (replaced_bytes r ++ kind_bytes kind)))) ++ rest) ≡ Some (Create x parent key r kind, rest)
unfolding create_at
create_again x parent key r kind rest counted sound shallow =
    ap (create_at (kind_code kind)) (five (id_bytes x) (id_bytes parent) (text_bytes key) (replaced_bytes r) (kind_bytes kind) rest)
    ∙ rw (
      id_again x (id_bytes parent ++ (text_bytes key ++ (replaced_bytes r ++ (kind_bytes kind ++ rest)))) sound.0,
      id_again parent (text_bytes key ++ (replaced_bytes r ++ (kind_bytes kind ++ rest))) sound.1,
      text_again key (replaced_bytes r ++ (kind_bytes kind ++ rest)) sound.2 counted.0,
      replaced_again r (kind_bytes kind ++ rest) sound.3,
      kind_again kind rest counted.1 sound.4 shallow,
    ) refl

pub body_again : (b : Body) (rest : List ℕ) → IsCountedBody b → IsSoundBody b → is_shallow b ≡ true → body_at (body_bytes b ++ rest) ≡ Some (b, rest)
unfolding body_at body_bytes byte_at
body_again (SetKey x key) rest counted sound shallow = set_key_again x key rest sound.0 sound.1 counted
body_again (Create x parent key r Listed) rest counted sound shallow = create_again x parent key r Listed rest counted sound shallow
body_again (Create x parent key r (Object fs)) rest counted sound shallow = create_again x parent key r (Object fs) rest counted sound shallow
body_again (Create x parent key r Map) rest counted sound shallow = create_again x parent key r Map rest counted sound shallow
body_again (Create x parent key r (Register v)) rest counted sound shallow = create_again x parent key r (Register v) rest counted sound shallow
body_again (Update x fs) rest counted sound shallow = update_again x fs rest sound.0 counted.0 counted.1 sound.1 shallow
body_again (Delete x) rest counted sound shallow = delete_again x rest sound
body_again (DeleteKey x key) rest counted sound shallow = delete_key_again x key rest sound.0 sound.1 counted

pub record IsBody (b : Body) : Type 0 where
  pub counted : IsCountedBody b
  pub sound : IsSoundBody b
  pub shallow : is_shallow b ≡ true

are_bodies : (bs : List Body) → AreCountedBodies bs → AreSoundBodies bs → all_shallow bs ≡ true → AllByRecursion IsBody bs
are_bodies [] counted sound shallow = tt
are_bodies (b ∷ bs) counted sound shallow =
    let s = both (is_shallow b) (all_shallow bs) shallow in
    (record { counted = counted.0; sound = sound.0; shallow = s.0 }, are_bodies bs counted.1 sound.1 s.1)

-- ---- entries

no_name : (name : List ℕ) → nat_eq (length name) 0 ≡ true → name ≡ []
no_name name empty = nil_from_length name (eqb-true (length name) 0 empty)

name_again : (f : Format) (actor key : ℕ) (name rest : List ℕ) → IsUtf8 name → IsCounted name → is_written f (Join actor key name) ≡ true → name_at f (name_bytes f name ++ rest) ≡ Some (name, rest)
unfolding name_at name_bytes
name_again One actor key name rest utf8 counted written = ap (λ (n : List ℕ). Some (n, rest)) (sym (no_name name written))
name_again Two actor key name rest utf8 counted written = text_again name rest utf8 counted

three : (a b c rest : List ℕ) → (a ++ (b ++ c)) ++ rest ≡ a ++ (b ++ (c ++ rest))
three a b c rest = simp append_assoc

join_again : (f : Format) (actor key : ℕ) (name rest : List ℕ) → HasBytes f (Join actor key name) → join_at f ((u32_bytes actor ++ (u64_bytes key ++ name_bytes f name)) ++ rest) ≡ Some (Join actor key name, rest)
unfolding join_at
join_again f actor key name rest has =
    ap (join_at f) (three (u32_bytes actor) (u64_bytes key) (name_bytes f name) rest)
    ∙ rw (u32_again actor (u64_bytes key ++ (name_bytes f name ++ rest)) has.numbers.0, u64_again key (name_bytes f name ++ rest) has.numbers.1, name_again f actor key name rest has.sound.1 has.counted has.written) refl

four : (a b c d rest : List ℕ) → (a ++ (b ++ (c ++ d))) ++ rest ≡ a ++ (b ++ (c ++ (d ++ rest)))
four a b c d rest = simp append_assoc

bodies_shallow : (f : Format) (u : Updating) → is_written f (Updated u) ≡ true → all_shallow u.bodies ≡ true
bodies_shallow One u written = (both (nat_lt 0 (length u.bodies)) (all_shallow u.bodies) written).1
bodies_shallow Two u written = (both (nat_lt 0 (length u.bodies)) (all_shallow u.bodies) written).1

updated_again : (f : Format) (u : Updating) (rest : List ℕ) → HasBytes f (Updated u)
    → updated_at ((u32_bytes u.actor ++ (u64_bytes u.first ++ (u32_bytes (length u.bodies) ++ flat_map body_bytes u.bodies))) ++ rest) ≡ Some (Updated u, rest)
unfolding updated_at
updated_again f u rest has =
    let bodies = are_bodies u.bodies has.counted.1 has.sound (bodies_shallow f u has.written) in
    ap updated_at (four (u32_bytes u.actor) (u64_bytes u.first) (u32_bytes (length u.bodies)) (flat_map body_bytes u.bodies) rest)
    ∙ rw (
      u32_again u.actor (u64_bytes u.first ++ (u32_bytes (length u.bodies) ++ (flat_map body_bytes u.bodies ++ rest))) has.numbers.0,
      u64_again u.first (u32_bytes (length u.bodies) ++ (flat_map body_bytes u.bodies ++ rest)) has.numbers.1,
      u32_again (length u.bodies) (flat_map body_bytes u.bodies ++ rest) has.counted.0,
      each_again body_at body_bytes IsBody (λ b left is. body_again b left is.counted is.sound is.shallow) u.bodies rest bodies,
    ) refl

parts_again : (f : Format) (e : Entry) (rest : List ℕ) → HasBytes f e → parts_at f (entry_bytes f e ++ rest) ≡ Some (e, rest)
unfolding parts_at entry_bytes byte_at
parts_again f (Join actor key name) rest has = join_again f actor key name rest has
parts_again f (Updated u) rest has = updated_again f u rest has

pub entry_again : (f : Format) (e : Entry) (rest : List ℕ) → HasBytes f e → entry_at f (entry_bytes f e ++ rest) ≡ Some (e, rest)
unfolding entry_at
entry_again f e rest has = rw (parts_again f e rest has, behind_again (entry_bytes f e) rest, has.written) refl

pub entries_again : (f : Format) (e : Entry) → HasBytes f e → entry_of f (entry_bytes f e) ≡ Some e
unfolding entry_of
entries_again f e has = ap (entry_of f) (sym (append-nil (entry_bytes f e))) ∙ rw (entry_again f e [] has) refl
