-- The users that were read rise by actor, and their names are texts.
use Rattle.std.proofs.Common.{◌≡◌, ◌≢◌, ◌≤◌, ◌<◌, ℕ, nat_le, Bool, true, false, cond, List, [], ◌∷◌, codes, Option, Some, None, option_and_then, option_map, Ok, Less, Equal, nat_cmp, IsUtf8, refl, sym, ap, ◌∙◌, subst, arith}
use Rattle.std.specs.Fmt.{decimal}
use Rattle.std.specs.Cmp.Lexicographic.{slice_cmp}
use Rattle.std.specs.List.{AllByRecursion}
use Rattle.std.specs.List.Sorted.{IsStrictlySortedBy}
use Rattle.std.specs.Map.{keys_of}
use Rattle.std.proofs.lemmas.Bool.Decides.{nat_tests}
use Rattle.std.proofs.lemmas.Str.{IsUtf8-nil}
use Rattle.room_json.specs.Fields.{field_of}
use Rattle.room_json.specs.Profile.{IsJson, HaveJson}
use Rattle.room_json.specs.Value.{Value, fields_of, as_members, as_text}
use Rattle.room_ids.proofs.Spelled.{number_once}
use Rattle.room_ids.specs.Ids.{number_in}
use Rattle.room_wire.proofs.Fields.{some_inj, and_then_of, map_of, needed_of, members_is, text_is, has_json, sound_members}
use Rattle.room_msg.specs.Laws.{IsActor, AreActors}
use Rattle.room_msg.specs.Msg.{at}
use Rattle.room_msg.specs.Sound.{AreNames}
use Rattle.room_msg.specs.Users.{insert_user, or_empty, name_in, user_in, users_of, as_users, IsRising}
use Rattle.room_msg.specs.declared.reason.Reason.TheVariants.{Field}
use Rattle.room_msg.proofs.KeyTexts.{from_le}
use Rattle.room_msg.proofs.Swaps.{Entry, IsFresh, AreFresh, AllFresh, same, actor_of, users_into, users_of_into}

abbrev User : Type 0
User = ℕ × List ℕ

-- a user goes in

all_insert : (P : User → Type 0) (u : User) (us : List User) → AllByRecursion P us → P u → AllByRecursion P (insert_user u us)
all_insert P u [] h new = (new, tt)
all_insert P u (x ∷ xs) h new = by (nat_le u.0 x.0) (all_insert P u xs h.1 new)
  where
    by : (b : Bool) → AllByRecursion P (insert_user u xs) → AllByRecursion P (cond b (u ∷ x ∷ xs) (x ∷ insert_user u xs))
    by true rest = (new, h)
    by false rest = (h.0, rest)

rising_behind : (x u : User) (xs : List User) → x.0 < u.0 → IsRising (x ∷ xs) → IsRising (insert_user u xs) → IsRising (x ∷ insert_user u xs)
rising_behind x u [] less h more = (less, tt)
rising_behind x u (y ∷ ys) less h more = by (nat_le u.0 y.0) more
  where
    by : (b : Bool) → IsRising (cond b (u ∷ y ∷ ys) (y ∷ insert_user u ys)) → IsRising (x ∷ cond b (u ∷ y ∷ ys) (y ∷ insert_user u ys))
    by true m = (less, m)
    by false m = (h.0, m)

rising_tail : (x : User) (xs : List User) → IsRising (x ∷ xs) → IsRising xs
rising_tail x [] h = tt
rising_tail x (y ∷ ys) h = h.1

not_le : (a b : ℕ) → nat_le a b ≡ false → b < a
not_le a b t = grind (arith, nat_tests, t)

rising_insert : (u : User) (us : List User) → IsRising us → AllByRecursion (λ (w : User). w.0 ≢ u.0) us → IsRising (insert_user u us)
rising_insert u [] h other = tt
rising_insert u (x ∷ xs) h other = by (nat_le u.0 x.0) refl (rising_insert u xs (rising_tail x xs h) other.1)
  where
    by : (b : Bool) → nat_le u.0 x.0 ≡ b → IsRising (insert_user u xs) → IsRising (cond b (u ∷ x ∷ xs) (x ∷ insert_user u xs))
    by true t rest = let low : u.0 ≤ x.0 = from_le u.0 x.0 t in let apart : x.0 ≢ u.0 = other.0 in (omega (arith, low, apart), h)
    by false t rest = rising_behind x u xs (not_le u.0 x.0 t) h rest

-- users of a list are actors with names

abbrev IsUser : User → Type 0
IsUser u = IsActor u.0 × IsUtf8 u.1

actors_of : (us : List User) → AllByRecursion IsUser us → AreActors us
actors_of [] h = tt
actors_of (u ∷ us) h = (h.0.0, actors_of us h.1)

names_of : (us : List User) → AllByRecursion IsUser us → AreNames us
names_of [] h = tt
names_of (u ∷ us) h = (h.0.1, names_of us h.1)

-- one user

name_utf8 : (v : Value) → IsJson v → IsUtf8 (name_in v)
name_utf8 v json = by (field_of (codes "name") v) refl
  where
    text_utf8 : (w : Value) (o : Option (List ℕ)) → as_text w ≡ o → IsJson w → IsUtf8 (or_empty o)
    text_utf8 w None e h = IsUtf8-nil
    text_utf8 w (Some t) e h = subst IsJson (text_is w t e) h

    by : (o : Option Value) → field_of (codes "name") v ≡ o → IsUtf8 (or_empty (option_and_then as_text o))
    by None e = IsUtf8-nil
    by (Some w) e = text_utf8 w (as_text w) refl (has_json v w (codes "name", e) json)

user_of : (e : Entry) (u : User) → user_in e ≡ Some u → IsJson e.1 → IsUser u
user_of e u h json =
    and_then_of _ (λ (n : ℕ). option_map (λ (ms : List (List ℕ × Value)). (n, name_in e.1)) (as_members e.1)) (number_in 4294967295 e.0) u h (λ n is h.
    map_of _ (λ (ms : List (List ℕ × Value)). (n, name_in e.1)) (as_members e.1) u h (λ ms there made.
    subst IsUser made ((number_once 4294967295 n e.0 (omega arith) is).1, name_utf8 e.1 json)))

-- all of them

abbrev AreOrdered : List Entry → Type 0
AreOrdered es = IsStrictlySortedBy (slice_cmp nat_cmp) (keys_of es)

less_fresh : (k : List ℕ) (es : List Entry) → AllByRecursion (λ j. slice_cmp nat_cmp k j ≡ Less) (keys_of es) → IsFresh k es
less_fresh k [] h = tt
less_fresh k (e ∷ es) h = ((λ equal. (let bad : Less ≡ Equal = sym h.0 ∙ equal in cc)), less_fresh k es h.1)

ordered_fresh : (e : Entry) (es : List Entry) → AreOrdered (e ∷ es) → IsFresh e.0 es × AreOrdered es
unfolding IsStrictlySortedBy
ordered_fresh e es h = (less_fresh e.0 es h.0, h.1)

all_fresh : (es : List Entry) → AreOrdered es → AllFresh es
all_fresh [] h = tt
all_fresh (e ∷ es) h = let rest = ordered_fresh e es h in (rest.0, all_fresh es rest.1)

-- the users that the entries of an object tell, found from the front
pub found_in_order : (es : List Entry) → IsStrictlySortedBy (slice_cmp nat_cmp) (keys_of es) → users_of es ≡ users_into es []
found_in_order es h = users_of_into es (all_fresh es h)

fresh_behind : (e : Entry) (es : List Entry) (us : List User) → AreFresh us (e ∷ es) → AreFresh us es
fresh_behind e es [] h = tt
fresh_behind e es (u ∷ us) h = (h.0.1, fresh_behind e es us h.1)

others : (e : Entry) (es : List Entry) (u : User) (us : List User) → decimal u.0 ≡ e.0 → AreFresh us (e ∷ es) → AllByRecursion (λ (w : User). w.0 ≢ u.0) us
others e es u [] is h = tt
others e es u (w ∷ us) is h = ((λ one. h.0.0 (same (decimal w.0) e.0 (ap decimal one ∙ is))), others e es u us is h.1)

record AreUsers (us : List User) : Type 0 where
  rising : IsRising us
  each : AllByRecursion IsUser us

into_users : (es : List Entry) (found us : List User) → users_into es found ≡ Some us → AreOrdered es → HaveJson (fields_of es) → AreUsers found → AreFresh found es → AreUsers us
into_users [] found us h ordered json are fresh = subst AreUsers (some_inj h) are
into_users (e ∷ es) found us h ordered json are fresh =
    and_then_of _ (λ (u : User). users_into es (insert_user u found)) (user_in e) us h (λ u is h.
    let spelled = actor_of e u is in
    let rest = ordered_fresh e es ordered in
    let new : IsFresh (decimal u.0) es = subst (λ (k : List ℕ). IsFresh k es) (sym spelled) rest.0 in
    into_users es (insert_user u found) us h rest.1 json.2
    (record {
      rising = rising_insert u found are.rising (others e es u found spelled fresh);
      each = all_insert IsUser u found are.each (user_of e u is json.1);
    })
    (all_insert (λ (w : User). IsFresh (decimal w.0) es) u found (fresh_behind e es found fresh) new))

as_users_are : (v : Value) (us : List User) → as_users v ≡ Some us → IsJson v → AreUsers us
as_users_are v us h json =
    and_then_of _ (λ (ms : List Entry). users_of ms) (as_members v) us h (λ ms there h.
    let sound = sound_members ms (subst IsJson (members_is v ms there) json) in
    into_users ms [] us (sym (found_in_order ms sound.ordered) ∙ h) sound.ordered sound.json (record { rising = tt; each = tt }) tt)

-- the users of a room state

pub record HasUsers (us : List User) : Type 0 where
  pub rising : IsRising us
  pub actors : AreActors us
  pub names : AreNames us

pub users_at : (v : Value) (name : List ℕ) (us : List User) → at as_users name v ≡ Ok us → IsJson v → HasUsers us
users_at v name us h json =
    needed_of _ as_users (Field name) (field_of name v) us h (λ w is reads.
    let are = as_users_are w us reads (has_json v w (name, is) json) in
    record { rising = are.rising; actors = actors_of us are.each; names = names_of us are.each })
