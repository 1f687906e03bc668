-- The parts of entries and snapshots that are read: they are sound where the bytes are below 256, and the bytes that
-- are written of them are.
use Rattle.std.proofs.Common.{◌≡◌, ◌<◌, ◌≤◌, ◌^◌, ℕ, zero, suc, Bool, true, false, cond, nat_eq, nat_lt, nat_le, List}
use Rattle.std.proofs.Common.{[]}
use Rattle.std.proofs.Common.{◌∷◌, take, drop, flat_map, length, Option, Some, None, option_map, Ok, Err, Result}
use Rattle.std.proofs.Common.{IsUtf8, refl, sym, ap, subst, arith}
use Rattle.std.specs.Int.{w32, w64, byte_len, from_be_bytes}
use Rattle.std.specs.List.{AllByRecursion}
use Rattle.std.specs.Str.{is_utf8}
use Rattle.std.proofs.lemmas.Str.{IsUtf8-from_is_utf8, IsUtf8-nil}
use Rattle.room_json.specs.Back.{json_in}
use Rattle.room_json.specs.Profile.{IsJson, AreSoundMembers}
use Rattle.room_json.specs.Reading.{Refusal, value_of_text}
use Rattle.room_json.specs.Value.{Value, depth, fields_of, fields_depth, merged}
use Rattle.room_ids.specs.Laws.{IsNodeInRange}
use Rattle.room_ids.specs.declared.ids.NodeId.{NodeId}
use Rattle.room_ids.specs.declared.ids.NodeId.TheVariants.{Root, Made}
use Rattle.room_nodes.specs.Sound.{IsSomeInRange, IsSoundKind}
use Rattle.room_nodes.specs.declared.nodes.Kind.{Kind}
use Rattle.room_nodes.specs.declared.nodes.Kind.TheVariants.{Object, List as Listed, Map, Register}
use Rattle.room_items.proofs.Found.{json_of-json_in, sound_members}
use Rattle.room_items.proofs.Members.{Pair, EachJson, object_json, object_depth}
use Rattle.room_log.specs.Follows.{most}
use Rattle.room_msg.proofs.ReadDepth.{text_depth}
use Rattle.room_bytes.specs.declared.entries.Format.{Format}
use Rattle.room_bytes.specs.declared.entries.Format.TheVariants.{One, Two}
use Rattle.room_bytes.specs.Laws.{IsBytes}
use Rattle.room_bytes.specs.Reading.{◌>>=◌, u32_at, u64_at, byte_at, string_at, text_at, value_in, json_at}
use Rattle.room_bytes.specs.Reading.{made_at, id_at, replaced_at, each_at, field_at, fields_at, kind_at, name_at}
use Rattle.room_bytes.specs.Spelling.{u32_bytes, u64_bytes, text_bytes, id_bytes, replaced_bytes, fields_bytes}
use Rattle.room_bytes.specs.Spelling.{json_bytes, kind_bytes, name_bytes}
use Rattle.room_bytes.proofs.Parts.{true_le}
use Rattle.room_valid.proofs.Jsons.{text_json}
use Rattle.room_valid.proofs.Lows.{AreLow, low_append, low_take, low_drop, low_bytes, low_u32, low_u64, low_text}
use Rattle.room_valid.proofs.Lows.{low_json, low_fields}
use Rattle.room_valid.proofs.Options.{by_cond, kept, same}

pub record Reads {A : Type 0} (spell : A → List ℕ) (Is : A → Type 0) (bytes : List ℕ) (p : A × List ℕ) : Type 0 where
  pub low : AreLow (spell p.0)
  pub sound : AreLow bytes → Is p.0
  pub left : AreLow bytes → AreLow p.1

-- what came of a step
pub then : {A B : Type 0} (P : Type 0) (o : Option A) (f : A → Option B) (y : B)
    → ((x : A) → o ≡ Some x → f x ≡ Some y → P) → (o >>= f) ≡ Some y → P
then P None f y k e = cc
then P (Some x) f y k e = k x refl e

-- numbers

past : {A : Type 0} (b : Bool) (x y : A) → cond b None (Some x) ≡ Some y → x ≡ y
past true x y e = cc
past false x y e = cc

below_u32 : (bytes : List ℕ) → IsBytes bytes → from_be_bytes w32 bytes < 2 ^ 32
below_u32 bytes fits = omega (arith, fits 0, fits 1, fits 2, fits 3)

below_u64 : (bytes : List ℕ) → IsBytes bytes → from_be_bytes w64 bytes < 2 ^ 64
below_u64 bytes fits = omega (arith, fits 0, fits 1, fits 2, fits 3, fits 4, fits 5, fits 6, fits 7)

abbrev pub IsU32 : ℕ → Type 0
IsU32 n = n < 2 ^ 32

abbrev pub IsU64 : ℕ → Type 0
IsU64 n = n < 2 ^ 64

pub u32_reads : (bytes : List ℕ) (p : ℕ × List ℕ) → u32_at bytes ≡ Some p → Reads u32_bytes IsU32 bytes p
unfolding u32_at
u32_reads bytes p e =
    let front = take (byte_len w32) bytes in
    let is = past (nat_lt (length bytes) (byte_len w32)) (from_be_bytes w32 front, drop (byte_len w32) bytes) p e in
    subst (Reads u32_bytes IsU32 bytes) is (record {
      low = low_u32 (from_be_bytes w32 front);
      sound = λ h. below_u32 front (low_bytes front (low_take (byte_len w32) bytes h));
      left = low_drop (byte_len w32) bytes;
    })

pub u64_reads : (bytes : List ℕ) (p : ℕ × List ℕ) → u64_at bytes ≡ Some p → Reads u64_bytes IsU64 bytes p
unfolding u64_at
u64_reads bytes p e =
    let front = take (byte_len w64) bytes in
    let is = past (nat_lt (length bytes) (byte_len w64)) (from_be_bytes w64 front, drop (byte_len w64) bytes) p e in
    subst (Reads u64_bytes IsU64 bytes) is (record {
      low = low_u64 (from_be_bytes w64 front);
      sound = λ h. below_u64 front (low_bytes front (low_take (byte_len w64) bytes h));
      left = low_drop (byte_len w64) bytes;
    })

pub byte_left : (bytes : List ℕ) (p : ℕ × List ℕ) → byte_at bytes ≡ Some p → AreLow bytes → AreLow p.1
unfolding byte_at
byte_left [] p e h = cc
byte_left (b ∷ bytes) p e h = same (λ (q : ℕ × List ℕ). AreLow q.1) (b, bytes) p h.1 e

-- texts and values

string_left : (bytes : List ℕ) (p : List ℕ × List ℕ) → string_at bytes ≡ Some p → AreLow bytes → AreLow p.1
unfolding string_at
string_left bytes p e h =
    then _ (u32_at bytes) _ p (λ n is e.
    let g = past (nat_lt (length n.1) n.0) (take n.0 n.1, drop n.0 n.1) p e in
    subst (λ (q : List ℕ × List ℕ). AreLow q.1) g (low_drop n.0 n.1 ((u32_reads bytes n is).left h))) e

pub text_reads : (bytes : List ℕ) (p : List ℕ × List ℕ) → text_at bytes ≡ Some p → Reads text_bytes IsUtf8 bytes p
unfolding text_at
text_reads bytes p e =
    then _ (string_at bytes) _ p (λ s is e.
    let k = kept (is_utf8 s.0) (Some s) p e in
    let u = IsUtf8-from_is_utf8 s.0 k.0 in
    same (Reads text_bytes IsUtf8 bytes) s p
    (record { low = low_text s.0 u; sound = λ h. u; left = string_left bytes s is }) k.1) e

pub text_utf8 : (bytes : List ℕ) (p : List ℕ × List ℕ) → text_at bytes ≡ Some p → IsUtf8 p.0
unfolding text_at
text_utf8 bytes p e =
    then _ (string_at bytes) _ p (λ s is e.
    let k = kept (is_utf8 s.0) (Some s) p e in
    same (λ (q : List ℕ × List ℕ). IsUtf8 q.0) s p (IsUtf8-from_is_utf8 s.0 k.0) k.1) e

-- a value, and how deep it is
pub record ReadsValue (bytes : List ℕ) (p : Value × List ℕ) : Type 0 where
  pub json : IsJson p.0
  pub small : depth p.0 ≤ 60
  pub left : AreLow bytes → AreLow p.1

value_is : (r : Result Value Refusal) (v : Value) → value_in r ≡ Some v → r ≡ Ok v
value_is (Ok w) v e = cc
value_is (Err x) v e = cc

pub json_reads : (bytes : List ℕ) (p : Value × List ℕ) → json_at bytes ≡ Some p → ReadsValue bytes p
unfolding json_at
json_reads bytes p e =
    then _ (string_at bytes) _ p (λ s is e.
    then _ (value_in (value_of_text s.0)) _ p (λ v got e.
    let spelled = value_is (value_of_text s.0) v got in
    same (ReadsValue bytes) (v, s.1) p
    (record { json = text_json s.0 v spelled; small = text_depth s.0 v spelled; left = string_left bytes s is }) e) e) e

-- ids

pub low_id : (x : NodeId) → AreLow (id_bytes x)
unfolding id_bytes
low_id Root = (omega arith, tt)
low_id (Made s) = (omega arith, low_append (u32_bytes s.actor) (u64_bytes s.clock) (low_u32 s.actor) (low_u64 s.clock))

made_reads : (bytes : List ℕ) (p : NodeId × List ℕ) → made_at bytes ≡ Some p → Reads id_bytes IsNodeInRange bytes p
unfolding made_at
made_reads bytes p e =
    then _ (u32_at bytes) _ p (λ actor is e.
    then _ (u64_at actor.1) _ p (λ clock got e.
    let k = kept (nat_le clock.0 most) (Some (Made (record { actor = actor.0; clock = clock.0 }), clock.1)) p e in
    let a = u32_reads bytes actor is in
    let c = u64_reads actor.1 clock got in
    let x = Made (record { actor = actor.0; clock = clock.0 }) in
    same (Reads id_bytes IsNodeInRange bytes) (x, clock.1) p
    (record {
      low = low_id x;
      sound = λ h. (omega (arith, a.sound h), true_le clock.0 most k.0);
      left = λ h. c.left (a.left h);
    }) k.1) e) e

pub id_reads : (bytes : List ℕ) (p : NodeId × List ℕ) → id_at bytes ≡ Some p → Reads id_bytes IsNodeInRange bytes p
unfolding id_at
id_reads bytes p e =
    then _ (byte_at bytes) _ p (λ tag is e.
    let left = byte_left bytes tag is in
    by_cond _ (nat_eq tag.0 0) _ _ p (λ t e.
    same (Reads id_bytes IsNodeInRange bytes) (Root, tag.1) p
    (record { low = low_id Root; sound = λ h. tt; left = left }) e) (λ t e.
    let made = made_reads tag.1 p (kept (nat_eq tag.0 1) (made_at tag.1) p e).1 in
    record { low = made.low; sound = λ h. made.sound (left h); left = λ h. made.left (left h) }) e) e

low_replaced : (r : Option NodeId) → AreLow (replaced_bytes r)
unfolding replaced_bytes
low_replaced None = (omega arith, tt)
low_replaced (Some x) = (omega arith, low_id x)

abbrev Replaces : List ℕ → Option NodeId × List ℕ → Type 0
Replaces bytes p = Reads replaced_bytes IsSomeInRange bytes p

replaced_by : (bytes : List ℕ) (o : Option (NodeId × List ℕ)) (p : Option NodeId × List ℕ)
    → ((x : NodeId × List ℕ) → o ≡ Some x → Reads id_bytes IsNodeInRange bytes x)
    → option_map (λ (x : NodeId × List ℕ). (Some x.0, x.1)) o ≡ Some p → Replaces bytes p
replaced_by bytes None p h e = cc
replaced_by bytes (Some x) p h e =
    let id = h x refl in
    same (Replaces bytes) (Some x.0, x.1) p
    (record { low = low_replaced (Some x.0); sound = id.sound; left = id.left }) e

pub replaced_reads : (bytes : List ℕ) (p : Option NodeId × List ℕ) → replaced_at bytes ≡ Some p → Replaces bytes p
unfolding replaced_at
replaced_reads bytes p e =
    then _ (byte_at bytes) _ p (λ tag is e.
    let left = byte_left bytes tag is in
    by_cond _ (nat_eq tag.0 0) _ _ p (λ t e.
    same (Replaces bytes) (None, tag.1) p (record { low = low_replaced None; sound = λ h. tt; left = left }) e) (λ t e.
    let found = replaced_by tag.1 (id_at tag.1) p (id_reads tag.1) (kept (nat_eq tag.0 1) _ p e).1 in
    record { low = found.low; sound = λ h. found.sound (left h); left = λ h. found.left (left h) }) e) e

-- lists

pub record ReadsEach {A : Type 0} (spell : A → List ℕ) (Is : A → Type 0) (n : ℕ) (bytes : List ℕ)
    (p : List A × List ℕ) : Type 0 where
  pub low : AreLow (flat_map spell p.0)
  pub sound : AreLow bytes → AllByRecursion Is p.0
  pub left : AreLow bytes → AreLow p.1
  pub count : length p.0 ≡ n

pub each_reads : {A : Type 0} (read : List ℕ → Option (A × List ℕ)) (spell : A → List ℕ) (Is : A → Type 0)
    → ((bytes : List ℕ) (p : A × List ℕ) → read bytes ≡ Some p → Reads spell Is bytes p)
    → (n : ℕ) (bytes : List ℕ) (p : List A × List ℕ) → each_at read n bytes ≡ Some p → ReadsEach spell Is n bytes p
unfolding each_at
each_reads read spell Is one zero bytes p e =
    same (ReadsEach spell Is zero bytes) ([], bytes) p
    (record { low = tt; sound = λ h. tt; left = λ h. h; count = refl }) e
each_reads read spell Is one (suc n) bytes p e =
    then _ (read bytes) _ p (λ x is e.
    then _ (each_at read n x.1) _ p (λ xs are e.
    let a = one bytes x is in
    let b = each_reads read spell Is one n x.1 xs are in
    same (ReadsEach spell Is (suc n) bytes) (x.0 ∷ xs.0, xs.1) p
    (record {
      low = low_append (spell x.0) (flat_map spell xs.0) a.low b.low;
      sound = λ h. (a.sound h, b.sound (a.left h));
      left = λ h. b.left (a.left h);
      count = ap suc b.count;
    }) e) e) e

-- fields

record ReadsFields (bytes : List ℕ) (p : List Pair × List ℕ) : Type 0 where
  json : EachJson p.0
  small : fields_depth (fields_of p.0) ≤ 60
  left : AreLow bytes → AreLow p.1

each_field : (n : ℕ) (bytes : List ℕ) (p : List Pair × List ℕ) → each_at field_at n bytes ≡ Some p → ReadsFields bytes p
unfolding each_at field_at
each_field zero bytes p e =
    same (ReadsFields bytes) ([], bytes) p (record { json = tt; small = omega arith; left = λ h. h }) e
each_field (suc n) bytes p e =
    then _ (field_at bytes) _ p (λ f is e.
    then _ (each_at field_at n f.1) _ p (λ fs are e.
    then _ (text_at bytes) _ f (λ name named is.
    then _ (json_at name.1) _ f (λ v valued is.
    let a = text_reads bytes name named in
    let b = json_reads name.1 v valued in
    let rest = each_field n f.1 fs are in
    let here : ((name.0, v.0), v.1) ≡ f = cc in
    let json = subst (λ (g : Pair × List ℕ). IsUtf8 g.0.0 × IsJson g.0.1) here (text_utf8 bytes name named, b.json) in
    let small = subst (λ (g : Pair × List ℕ). depth g.0.1 ≤ 60) here b.small in
    let left = subst (λ (g : Pair × List ℕ). AreLow bytes → AreLow g.1) here (λ h. b.left (a.left h)) in
    same (ReadsFields bytes) (f.0 ∷ fs.0, fs.1) p
    (record {
      json = (json.0, json.1, rest.json);
      small = omega (arith, small, rest.small);
      left = λ h. rest.left (left h);
    }) e) is) is) e) e

pub fields_reads : (bytes : List ℕ) (p : List Pair × List ℕ) → fields_at bytes ≡ Some p
    → Reads fields_bytes AreSoundMembers bytes p
unfolding fields_at
fields_reads bytes p e =
    then _ (u32_at bytes) _ p (λ n is e.
    then _ (each_at field_at n.0 n.1) _ p (λ fs are e.
    let a = u32_reads bytes n is in
    let each = each_field n.0 n.1 fs are in
    let sound = sound_members (merged [] fs.0) (object_json fs.0 each.json) in
    let small = object_depth 60 fs.0 each.small in
    same (Reads fields_bytes AreSoundMembers bytes) (merged [] fs.0, fs.1) p
    (record {
      low = low_fields (merged [] fs.0) sound.json (omega (arith, small));
      sound = λ h. sound;
      left = λ h. each.left (a.left h);
    }) e) e) e

-- what is in a node

abbrev pub Holds : List ℕ → Kind × List ℕ → Type 0
Holds bytes p = Reads kind_bytes IsSoundKind bytes p

pub object_reads : (bytes : List ℕ) (o : Option (List Pair × List ℕ)) (p : Kind × List ℕ)
    → ((x : List Pair × List ℕ) → o ≡ Some x → Reads fields_bytes AreSoundMembers bytes x)
    → option_map (λ (x : List Pair × List ℕ). (Object x.0, x.1)) o ≡ Some p → Holds bytes p
unfolding kind_bytes
object_reads bytes None p h e = cc
object_reads bytes (Some x) p h e =
    let fields = h x refl in
    same (Holds bytes) (Object x.0, x.1) p
    (record { low = fields.low; sound = fields.sound; left = fields.left }) e

pub register_reads : (bytes : List ℕ) (o : Option (Value × List ℕ)) (p : Kind × List ℕ)
    → ((x : Value × List ℕ) → o ≡ Some x → ReadsValue bytes x)
    → option_map (λ (x : Value × List ℕ). (Register (json_in x.0), x.1)) o ≡ Some p → Holds bytes p
unfolding kind_bytes
register_reads bytes None p h e = cc
register_reads bytes (Some x) p h e =
    let v = h x refl in
    let again = sym (json_of-json_in x.0) in
    same (Holds bytes) (Register (json_in x.0), x.1) p
    (record {
      low = subst (λ (w : Value). AreLow (json_bytes w)) again (low_json x.0 v.json v.small);
      sound = λ h. subst IsJson again v.json;
      left = v.left;
    }) e

pub plain_reads : (k : Kind) (bytes : List ℕ) (p : Kind × List ℕ) → AreLow (kind_bytes k) → IsSoundKind k
    → Some (k, bytes) ≡ Some p → Holds bytes p
plain_reads k bytes p low sound e =
    same (Holds bytes) (k, bytes) p (record { low = low; sound = λ h. sound; left = λ h. h }) e

pub kind_reads : (code : ℕ) (bytes : List ℕ) (p : Kind × List ℕ) → kind_at code bytes ≡ Some p → Holds bytes p
unfolding kind_at kind_bytes
kind_reads code bytes p e =
    by_cond _ (nat_eq code 2) _ _ p (λ t e. plain_reads Listed bytes p tt tt e) (λ t e.
    by_cond _ (nat_eq code 4) _ _ p (λ t e. object_reads bytes (fields_at bytes) p (fields_reads bytes) e) (λ t e.
    by_cond _ (nat_eq code 7) _ _ p (λ t e. plain_reads Map bytes p tt tt e) (λ t e.
    register_reads bytes (json_at bytes) p (json_reads bytes) (kept (nat_eq code 8) _ p e).1) e) e) e

-- names

pub name_reads : (f : Format) (bytes : List ℕ) (p : List ℕ × List ℕ) → name_at f bytes ≡ Some p
    → Reads (name_bytes f) IsUtf8 bytes p
unfolding name_at name_bytes
name_reads One bytes p e =
    same (Reads (name_bytes One) IsUtf8 bytes) ([], bytes) p
    (record { low = tt; sound = λ h. IsUtf8-nil; left = λ h. h }) e
name_reads Two bytes p e =
    let t = text_reads bytes p e in
    record { low = t.low; sound = t.sound; left = t.left }
