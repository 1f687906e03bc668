-- What the numbers, keys and names of a message can be.
use Rattle.std.proofs.Common.{◌≡◌, ◌≤◌, ◌<◌, ◌≤ℤ◌, ◌^◌, ◌&&◌, ℕ, ℤ, pos, negsuc, int_le, nat_eq, nat_le, length, codes, Bool, true, false, cond, List, Option, Some, None, option_and_then, option_map, Ok, refl, ap, ◌∙◌, subst, arith, rules}
use Rattle.std.specs.Prelude.{⊤}
use Rattle.std.proofs.lemmas.Bool.Decides.{nat_tests}
use Rattle.std.proofs.lemmas.Int.Digits.{digits_value-lt}
use Rattle.std.specs.Str.Parse.{digits_value}
use Rattle.room_json.specs.Fields.{field_of}
use Rattle.room_json.specs.Value.{Value, text, as_text, as_whole}
use Rattle.room_wire.proofs.Fields.{Has, some_inj, and_then_of, map_of, needed_of, allowed_of, text_is}
use Rattle.room_msg.specs.Keys.{are_hex_digits, key_in}
use Rattle.room_msg.specs.Laws.{IsTarget, IsResumable, IsShort, IsActor, IsKey, IsResume}
use Rattle.room_msg.specs.Msg.{at, maybe_at, count_in, as_count, as_actor, as_maker, target_in, as_target, as_key, as_name, as_resume}
use Rattle.room_msg.specs.declared.messages.Resume.{Resume}
use Rattle.room_msg.specs.declared.reason.Reason.TheVariants.{Field}
use Rattle.room_msg.proofs.KeyTexts.{all_hex, from_le}

-- a test that held
kept : {A : Type 0} (b : Bool) (o : Option A) (y : A) → cond b o None ≡ Some y → (b ≡ true) × (o ≡ Some y)
kept true o y e = (refl, e)
kept false o y e = cc

both : (a b : Bool) → (a && b) ≡ true → (a ≡ true) × (b ≡ true)
both true b e = (refl, e)
both false b e = cc

-- numbers

count_bound : (most : ℕ) (z : ℤ) (n : ℕ) → count_in most z ≡ Some n → n ≤ most
count_bound most (pos m) n e =
    let k = kept (nat_le m most) (Some m) n e in
    subst (λ (i : ℕ). i ≤ most) (some_inj k.1) (from_le m most k.0)
count_bound most (negsuc m) n e = cc

actor_bound : (v : Value) (n : ℕ) → as_actor v ≡ Some n → IsActor n
actor_bound v n e = and_then_of _ (count_in 4294967295) (as_whole v) n e (λ z is h. count_bound 4294967295 z n h)

maker_bound : (v : Value) (n : ℕ) → as_maker v ≡ Some n → (1 ≤ n) × IsActor n
maker_bound v n e =
    and_then_of _ (λ (i : ℕ). cond (nat_le 1 i) (Some i) None) (as_actor v) n e (λ m is h.
    let k = kept (nat_le 1 m) (Some m) n h in
    subst (λ (i : ℕ). (1 ≤ i) × IsActor i) (some_inj k.1) (from_le 1 m k.0, actor_bound v m is))

from_int_le : (x y : ℤ) → int_le x y ≡ true → x ≤ℤ y
from_int_le x y h = search rules

target_bound : (v : Value) (z : ℤ) → as_target v ≡ Some z → IsTarget (Some z)
target_bound v z e =
    and_then_of _ target_in (as_whole v) z e (λ y is h.
    let low = kept (int_le (negsuc 0) y) _ z h in
    let high = kept (int_le y (pos 4294967295)) (Some y) z low.1 in
    subst (λ (i : ℤ). (negsuc 0 ≤ℤ i) × (i ≤ℤ pos 4294967295)) (some_inj high.1) (from_int_le _ _ low.0, from_int_le _ _ high.0))

-- keys

hex_bound : (t : List ℕ) → length t ≡ 16 → are_hex_digits t ≡ true → IsKey (digits_value 16 t)
hex_bound t len h =
    let small : digits_value 16 t < 16 ^ 16 = subst (λ (n : ℕ). digits_value 16 t < 16 ^ n) len (digits_value-lt 16 t (all_hex t h)) in
    omega (arith, small)

key_bound : (t : List ℕ) (k : ℕ) → key_in t ≡ Some k → IsKey k
unfolding key_in
key_bound t k e =
    let held = kept (nat_eq (length t) 16 && are_hex_digits t) (Some (digits_value 16 t)) k e in
    let tests = both (nat_eq (length t) 16) _ held.0 in
    let len : length t ≡ 16 = grind (arith, nat_tests, tests.0) in
    subst IsKey (some_inj held.1) (hex_bound t len tests.1)

as_key_bound : (v : Value) (k : ℕ) → as_key v ≡ Some k → IsKey k
as_key_bound v k e = and_then_of _ key_in (as_text v) k e (λ t is h. key_bound t k h)

resume_bound : (v : Value) (r : Resume) → as_resume v ≡ Some r → IsResumable (Some r) × IsResume (Some r)
resume_bound v r e =
    and_then_of _ (λ (a : ℕ). option_map (λ (k : ℕ). record { actor = a; key = k }) (option_and_then as_key (field_of (codes "key") v))) (option_and_then as_maker (field_of (codes "actor") v)) r e (λ a is h.
    and_then_of _ as_maker (field_of (codes "actor") v) a is (λ w there reads.
    let maker = maker_bound w a reads in
    map_of _ (λ (k : ℕ). record { actor = a; key = k }) (option_and_then as_key (field_of (codes "key") v)) r h (λ k key same.
    and_then_of _ as_key (field_of (codes "key") v) k key (λ u found spells.
    subst (λ (s : Resume). IsResumable (Some s) × IsResume (Some s)) same (maker.0, (maker.1, as_key_bound u k spells))))))

-- fields

pub count_at : (v : Value) (name : List ℕ) (n : ℕ) → at as_count name v ≡ Ok n → n ≤ 9007199254740991
count_at v name n h =
    needed_of _ as_count (Field name) (field_of name v) n h (λ w is r.
    and_then_of _ (count_in 9007199254740991) (as_whole w) n r (λ z whole h. count_bound 9007199254740991 z n h))

pub actor_at : (v : Value) (name : List ℕ) (n : ℕ) → at as_actor name v ≡ Ok n → IsActor n
actor_at v name n h = needed_of _ as_actor (Field name) (field_of name v) n h (λ w is r. actor_bound w n r)

pub maker_at : (v : Value) (name : List ℕ) (n : ℕ) → at as_maker name v ≡ Ok n → (1 ≤ n) × IsActor n
maker_at v name n h = needed_of _ as_maker (Field name) (field_of name v) n h (λ w is r. maker_bound w n r)

pub key_at : (v : Value) (name : List ℕ) (k : ℕ) → at as_key name v ≡ Ok k → IsKey k
key_at v name k h = needed_of _ as_key (Field name) (field_of name v) k h (λ w is r. as_key_bound w k r)

pub target_at : (v : Value) (name : List ℕ) (t : Option ℤ) → maybe_at as_target name v ≡ Ok t → IsTarget t
target_at v name t h = allowed_of IsTarget as_target (Field name) (field_of name v) t h tt (λ w z is r. target_bound w z r)

abbrev pub IsResumed : Option Resume → Type 0
IsResumed r = IsResumable r × IsResume r

pub resume_at : (v : Value) (name : List ℕ) (r : Option Resume) → maybe_at as_resume name v ≡ Ok r → IsResumed r
resume_at v name r h = allowed_of IsResumed as_resume (Field name) (field_of name v) r h (tt, tt) (λ w x is reads. resume_bound w x reads)

-- texts that may be missing

abbrev pub HasIfThere : Value → Option (List ℕ) → Type 0
HasIfThere v None = ⊤
HasIfThere v (Some t) = Has v (text t)

pub text_if_there : (v : Value) (name : List ℕ) (t : Option (List ℕ)) → maybe_at as_text name v ≡ Ok t → HasIfThere v t
text_if_there v name t h = allowed_of (HasIfThere v) as_text (Field name) (field_of name v) t h tt (λ w x is r. (name, is ∙ ap Some (text_is w x r)))

abbrev pub IsNameOf : Value → Option (List ℕ) → Type 0
IsNameOf v t = IsShort t × HasIfThere v t

name_of : (v w : Value) (name t : List ℕ) → field_of name v ≡ Some w → as_name w ≡ Some t → IsNameOf v (Some t)
name_of v w name t is h =
    and_then_of _ (λ (s : List ℕ). cond (nat_le (length s) 64) (Some s) None) (as_text w) t h (λ s reads short.
    let k = kept (nat_le (length s) 64) (Some s) t short in
    subst (λ (u : List ℕ). IsNameOf v (Some u)) (some_inj k.1) (from_le (length s) 64 k.0, (name, is ∙ ap Some (text_is w s reads))))

pub name_at : (v : Value) (name : List ℕ) (t : Option (List ℕ)) → maybe_at as_name name v ≡ Ok t → IsNameOf v t
name_at v name t h = allowed_of (IsNameOf v) as_name (Field name) (field_of name v) t h (tt, tt) (λ w x is r. name_of v w name x is r)
