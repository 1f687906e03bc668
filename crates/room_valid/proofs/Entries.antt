-- The entries that are read of bytes are sound.
use Rattle.std.proofs.Common.{◌≡◌, ◌<◌, ℕ, true, nat_eq, nat_lt, List, [], ◌∷◌, ◌++◌, flat_map}
use Rattle.std.proofs.Common.{length, Some, sym, ap, subst, arith}
use Rattle.std.specs.List.{AllByRecursion}
use Rattle.room_nodes.specs.Sound.{IsSoundBody, AreSoundBodies}
use Rattle.room_nodes.specs.declared.nodes.Kind.{Kind}
use Rattle.room_nodes.specs.declared.nodes.Kind.TheVariants.{Object, List as Listed, Map, Register}
use Rattle.room_nodes.specs.declared.nodes.Body.{Body}
use Rattle.room_nodes.specs.declared.nodes.Body.TheVariants.{SetKey, Create, Update, Delete, DeleteKey}
use Rattle.room_log.specs.Log.{Entry, Join, Updated}
use Rattle.room_log.specs.Follows.{IsSoundEntry}
use Rattle.room_bytes.specs.Bounds.{is_written}
use Rattle.room_bytes.specs.declared.entries.Format.{Format}
use Rattle.room_bytes.specs.declared.entries.Format.TheVariants.{Two}
use Rattle.room_bytes.specs.Reading.{u32_at, u64_at, byte_at, text_at, id_at, replaced_at, each_at, fields_at}
use Rattle.room_bytes.specs.Reading.{kind_at, set_key_at, delete_key_at, update_at, delete_at, create_at, body_at}
use Rattle.room_bytes.specs.Reading.{name_at, join_at, updated_at, parts_at, behind, entry_at, ended, entry_of}
use Rattle.room_bytes.specs.Reading.{group_of}
use Rattle.room_bytes.specs.Spelling.{u32_bytes, u64_bytes, text_bytes, id_bytes, replaced_bytes, fields_bytes}
use Rattle.room_bytes.specs.Spelling.{kind_bytes, kind_code, name_bytes, body_bytes, entry_bytes}
use Rattle.room_bytes.proofs.Once.{entry_is, ended_is}
use Rattle.room_bytes.proofs.Parts.{each_is, some_is}
use Rattle.room_replay.specs.Follow.{AreSound}
use Rattle.room_valid.proofs.Lows.{AreLow, low_append, low_behind, low_u32}
use Rattle.room_valid.proofs.Options.{by_cond, kept, same}
use Rattle.room_valid.proofs.Parts.{Reads, then, u32_reads, u64_reads, byte_left, text_reads, id_reads}
use Rattle.room_valid.proofs.Parts.{replaced_reads, each_reads, fields_reads, kind_reads, name_reads}

-- operations

abbrev ReadsBody : List ℕ → Body × List ℕ → Type 0
ReadsBody bytes p = Reads body_bytes IsSoundBody bytes p

set_key_reads : (bytes : List ℕ) (p : Body × List ℕ) → set_key_at bytes ≡ Some p → ReadsBody bytes p
unfolding set_key_at body_bytes
set_key_reads bytes p e =
    then _ (id_at bytes) _ p (λ x is e.
    then _ (text_at x.1) _ p (λ key got e.
    let a = id_reads bytes x is in
    let b = text_reads x.1 key got in
    same (ReadsBody bytes) (SetKey x.0 key.0, key.1) p
    (record {
      low = (omega arith, low_append (id_bytes x.0) (text_bytes key.0) a.low b.low);
      sound = λ h. (a.sound h, b.sound (a.left h));
      left = λ h. b.left (a.left h);
    }) e) e) e

delete_key_reads : (bytes : List ℕ) (p : Body × List ℕ) → delete_key_at bytes ≡ Some p → ReadsBody bytes p
unfolding delete_key_at body_bytes
delete_key_reads bytes p e =
    then _ (id_at bytes) _ p (λ x is e.
    then _ (text_at x.1) _ p (λ key got e.
    let a = id_reads bytes x is in
    let b = text_reads x.1 key got in
    same (ReadsBody bytes) (DeleteKey x.0 key.0, key.1) p
    (record {
      low = (omega arith, low_append (id_bytes x.0) (text_bytes key.0) a.low b.low);
      sound = λ h. (a.sound h, b.sound (a.left h));
      left = λ h. b.left (a.left h);
    }) e) e) e

update_reads : (bytes : List ℕ) (p : Body × List ℕ) → update_at bytes ≡ Some p → ReadsBody bytes p
unfolding update_at body_bytes
update_reads bytes p e =
    then _ (id_at bytes) _ p (λ x is e.
    then _ (fields_at x.1) _ p (λ fs got e.
    let a = id_reads bytes x is in
    let b = fields_reads x.1 fs got in
    same (ReadsBody bytes) (Update x.0 fs.0, fs.1) p
    (record {
      low = (omega arith, low_append (id_bytes x.0) (fields_bytes fs.0) a.low b.low);
      sound = λ h. (a.sound h, b.sound (a.left h));
      left = λ h. b.left (a.left h);
    }) e) e) e

delete_reads : (bytes : List ℕ) (p : Body × List ℕ) → delete_at bytes ≡ Some p → ReadsBody bytes p
unfolding delete_at body_bytes
delete_reads bytes p e =
    then _ (id_at bytes) _ p (λ x is e.
    let a = id_reads bytes x is in
    same (ReadsBody bytes) (Delete x.0, x.1) p
    (record { low = (omega arith, a.low); sound = a.sound; left = a.left }) e) e

low_code : (k : Kind) → kind_code k < 256
low_code (Object fs) = omega arith
low_code Listed = omega arith
low_code Map = omega arith
low_code (Register v) = omega arith

create_reads : (code : ℕ) (bytes : List ℕ) (p : Body × List ℕ) → create_at code bytes ≡ Some p → ReadsBody bytes p
unfolding create_at body_bytes
create_reads code bytes p e =
    then _ (id_at bytes) _ p (λ x is e.
    then _ (id_at x.1) _ p (λ parent under e.
    then _ (text_at parent.1) _ p (λ key got e.
    then _ (replaced_at key.1) _ p (λ replaces there e.
    then _ (kind_at code replaces.1) _ p (λ kind made e.
    let a = id_reads bytes x is in
    let b = id_reads x.1 parent under in
    let c = text_reads parent.1 key got in
    let d = replaced_reads key.1 replaces there in
    let k = kind_reads code replaces.1 kind made in
    let last = replaced_bytes replaces.0 ++ kind_bytes kind.0 in
    same (ReadsBody bytes) (Create x.0 parent.0 key.0 replaces.0 kind.0, kind.1) p
    (record {
      low = (
        low_code kind.0,
        low_append (id_bytes x.0) (id_bytes parent.0 ++ (text_bytes key.0 ++ last)) a.low
            (low_append (id_bytes parent.0) (text_bytes key.0 ++ last) b.low
            (low_append (text_bytes key.0) last c.low
            (low_append (replaced_bytes replaces.0) (kind_bytes kind.0) d.low k.low))),
      );
      sound = λ h.
          let second = a.left h in
          let third = b.left second in
          let fourth = c.left third in
          (a.sound h, b.sound second, c.sound third, d.sound fourth, k.sound (d.left fourth));
      left = λ h. k.left (d.left (c.left (b.left (a.left h))));
    }) e) e) e) e) e) e

-- behind a byte
behind_byte : {A : Type 0} (spell : A → List ℕ) (Is : A → Type 0) (bytes : List ℕ) (tag : ℕ × List ℕ)
    (p : A × List ℕ) → byte_at bytes ≡ Some tag → Reads spell Is tag.1 p → Reads spell Is bytes p
behind_byte spell Is bytes tag p is h = record {
  low = h.low;
  sound = λ low. h.sound (byte_left bytes tag is low);
  left = λ low. h.left (byte_left bytes tag is low);
}

body_reads : (bytes : List ℕ) (p : Body × List ℕ) → body_at bytes ≡ Some p → ReadsBody bytes p
unfolding body_at
body_reads bytes p e =
    then _ (byte_at bytes) _ p (λ code is e.
    behind_byte body_bytes IsSoundBody bytes code p is
    (by_cond _ (nat_eq code.0 1) _ _ p (λ t e. set_key_reads code.1 p e) (λ t e.
    by_cond _ (nat_eq code.0 3) _ _ p (λ t e. update_reads code.1 p e) (λ t e.
    by_cond _ (nat_eq code.0 5) _ _ p (λ t e. delete_reads code.1 p e) (λ t e.
    by_cond _ (nat_eq code.0 6) _ _ p (λ t e. delete_key_reads code.1 p e) (λ t e.
    create_reads code.0 code.1 p e) e) e) e) e)) e

-- entries

abbrev ReadsEntry : Format → List ℕ → Entry × List ℕ → Type 0
ReadsEntry f bytes p = Reads (entry_bytes f) IsSoundEntry bytes p

join_reads : (f : Format) (bytes : List ℕ) (p : Entry × List ℕ) → join_at f bytes ≡ Some p → ReadsEntry f bytes p
unfolding join_at entry_bytes
join_reads f bytes p e =
    then _ (u32_at bytes) _ p (λ actor is e.
    then _ (u64_at actor.1) _ p (λ key got e.
    then _ (name_at f key.1) _ p (λ name named e.
    let a = u32_reads bytes actor is in
    let b = u64_reads actor.1 key got in
    let c = name_reads f key.1 name named in
    same (ReadsEntry f bytes) (Join actor.0 key.0 name.0, name.1) p
    (record {
      low = (
        omega arith,
        low_append (u32_bytes actor.0) (u64_bytes key.0 ++ name_bytes f name.0) a.low
            (low_append (u64_bytes key.0) (name_bytes f name.0) b.low c.low),
      );
      sound = λ h. (b.sound (a.left h), c.sound (b.left (a.left h)));
      left = λ h. c.left (b.left (a.left h));
    }) e) e) e) e

each_sound : (bs : List Body) → AllByRecursion IsSoundBody bs → AreSoundBodies bs
each_sound [] h = tt
each_sound (b ∷ bs) h = (h.0, each_sound bs h.1)

updated_reads : (f : Format) (bytes : List ℕ) (p : Entry × List ℕ) → updated_at bytes ≡ Some p → ReadsEntry f bytes p
unfolding updated_at entry_bytes
updated_reads f bytes p e =
    then _ (u32_at bytes) _ p (λ actor is e.
    then _ (u64_at actor.1) _ p (λ first got e.
    then _ (u32_at first.1) _ p (λ n counted e.
    then _ (each_at body_at n.0 n.1) _ p (λ bodies are e.
    let a = u32_reads bytes actor is in
    let b = u64_reads actor.1 first got in
    let c = u32_reads first.1 n counted in
    let d = each_reads body_at body_bytes IsSoundBody body_reads n.0 n.1 bodies are in
    let count = u32_bytes (length bodies.0) in
    let rest = flat_map body_bytes bodies.0 in
    same (ReadsEntry f bytes) (Updated (record { actor = actor.0; first = first.0; bodies = bodies.0 }), bodies.1) p
    (record {
      low = (
        omega arith,
        low_append (u32_bytes actor.0) (u64_bytes first.0 ++ (count ++ rest)) a.low
            (low_append (u64_bytes first.0) (count ++ rest) b.low
            (low_append count rest (low_u32 (length bodies.0)) d.low)),
      );
      sound = λ h. each_sound bodies.0 (d.sound (c.left (b.left (a.left h))));
      left = λ h. d.left (c.left (b.left (a.left h)));
    }) e) e) e) e) e

parts_read : (f : Format) (bytes : List ℕ) (p : Entry × List ℕ) → parts_at f bytes ≡ Some p → ReadsEntry f bytes p
unfolding parts_at
parts_read f bytes p e =
    then _ (byte_at bytes) _ p (λ code is e.
    behind_byte (entry_bytes f) IsSoundEntry bytes code p is
    (by_cond _ (nat_eq code.0 1) _ _ p (λ t e. join_reads f code.1 p e) (λ t e.
    updated_reads f code.1 p (kept (nat_eq code.0 2) (updated_at code.1) p e).1) e)) e

entry_reads : (f : Format) (bytes : List ℕ) (p : Entry × List ℕ) → entry_at f bytes ≡ Some p → ReadsEntry f bytes p
unfolding entry_at
entry_reads f bytes p e =
    let whole = (entry_is f bytes p e).0 in
    then _ (parts_at f bytes) _ p (λ x is e.
    then _ (behind (entry_bytes f x.0) bytes) _ p (λ rest more e.
    let parts = parts_read f bytes x is in
    let k = kept (is_written f x.0) (Some (x.0, rest)) p e in
    let same_entry : x.0 ≡ p.0 = ap (λ (q : Entry × List ℕ). q.0) (some_is (x.0, rest) p k.1) in
    record {
      low = subst (λ (y : Entry). AreLow (entry_bytes f y)) same_entry parts.low;
      sound = λ h. subst IsSoundEntry same_entry (parts.sound h);
      left = λ h. low_behind (entry_bytes f p.0) p.1 (subst AreLow whole h);
    }) e) e

nothing_low : (xs : List ℕ) → xs ≡ [] → AreLow xs
nothing_low xs e = subst AreLow (sym e) tt

pub entry_sound : (f : Format) (bytes : List ℕ) (e : Entry) → entry_of f bytes ≡ Some e → IsSoundEntry e
unfolding entry_of
entry_sound f bytes e h =
    then _ (entry_at f bytes) _ e (λ x is h.
    let reads = entry_reads f bytes x is in
    let end = ended_is x e h in
    let low = low_append (entry_bytes f x.0) x.1 reads.low (nothing_low x.1 end.1) in
    subst IsSoundEntry end.0 (reads.sound (subst AreLow (sym (entry_is f bytes x is).0) low))) h

all_sound : (es : List Entry) → AllByRecursion IsSoundEntry es → AreSound es
all_sound [] h = tt
all_sound (e ∷ es) h = (h.0, all_sound es h.1)

pub group_sound : (bytes : List ℕ) (es : List Entry) → group_of bytes ≡ Some es → AreSound es
unfolding group_of
group_sound bytes es h =
    then _ (u32_at bytes) _ es (λ n is h.
    then _ (each_at (entry_at Two) n.0 n.1) _ es (λ x are h.
    let end = ended_is x es (kept (nat_lt 0 n.0) (ended x) es h).1 in
    let reads = each_reads (entry_at Two) (entry_bytes Two) IsSoundEntry (entry_reads Two) n.0 n.1 x are in
    let written : Entry → Type 0 = λ e. is_written Two e ≡ true in
    let whole = (each_is (entry_at Two) (entry_bytes Two) written (entry_is Two) n.0 n.1 x are).0 in
    let low = low_append (flat_map (entry_bytes Two) x.0) x.1 reads.low (nothing_low x.1 end.1) in
    subst AreSound end.0 (all_sound x.0 (reads.sound (subst AreLow (sym whole) low)))) h) h
