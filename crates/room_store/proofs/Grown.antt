-- An entry that follows the state shown is added to the group that is open.
use Rattle.std.proofs.Common.{map, ◌≡◌, ◌+◌, Bool, true, false, ℕ, suc, List, [], ◌∷◌, ◌++◌, length, refl, sym, ap, ◌∙◌, subst, arith}
use Rattle.std.specs.Prelude.{cond, ◌&&◌, ◌==◌, nat_lt, nat_le, Option, Some, None}
use Rattle.std.proofs.lemmas.Bool.Decides.{nat_tests}
use Rattle.room_nodes.specs.Equal.{same_bodies}
use Rattle.room_nodes.specs.Shallow.{all_shallow}
use Rattle.room_nodes.specs.Steps.{settle_all}
use Rattle.room_log.specs.Log.{State, Session, Update, Entry, Updated, after, last_from, session_of}
use Rattle.room_log.specs.Follows.{follows, follows_session, most}
use Rattle.room_bytes.specs.declared.entries.Entry.{Entry as Here}
use Rattle.room_bytes.specs.Bounds.{is_written, all_written, are_written, logged}
use Rattle.room_bytes.specs.Reading.{◌>>=◌, group_of}
use Rattle.room_bytes.specs.declared.entries.Format.TheVariants.{Two}
use Rattle.room_journal.specs.Rest.{IsReady, body_of}
use Rattle.room_replay.specs.Files.{followed, followed_by}
use Rattle.room_store.specs.Stored.{Grouped, held_state, IsOpenFrom}

and_both : (a b : Bool) → a ≡ true → b ≡ true → (a && b) ≡ true
and_both a b p q = rw (p, q) refl

and_first : (a b : Bool) → (a && b) ≡ true → a ≡ true
and_first true b is = refl
and_first false b is = cc is

and_second : (a b : Bool) → (a && b) ≡ true → b ≡ true
and_second true b is = is
and_second false b is = cc is

written_by : (s : State) (u : Update) (o : Option Session) → follows_session s u o ≡ true → is_written Two (Updated u) ≡ true
written_by s u None is = cc is
written_by s u (Some x) is =
    let a = u.first == x.last + 1 in
    let b = nat_lt 0 (length u.bodies) in
    let d = same_bodies (settle_all s.tree u.bodies) u.bodies in
    let e = all_shallow u.bodies in
    let f = nat_le (last_from u.first u.bodies) most && nat_lt s.count most in
    let behind : (b && (d && (e && f))) ≡ true = and_second a (b && (d && (e && f))) is in
    let shallow : (e && f) ≡ true = and_second d (e && f) (and_second b (d && (e && f)) behind) in
    and_both b e (and_first b (d && (e && f)) behind) (and_first e f shallow)

pub written_next : (s : State) (u : Update) → follows s (Updated u) ≡ true → is_written Two (Updated u) ≡ true
written_next s u is = written_by s u (session_of s.sessions u.actor) is

pub all_more : (es : List Entry) (e : Entry) → all_written es ≡ true → is_written Two e ≡ true → all_written (es ++ e ∷ []) ≡ true
all_more [] e all one = and_both (is_written Two e) true one refl
all_more (x ∷ es) e all one =
    and_both (is_written Two x) (all_written (es ++ e ∷ [])) (and_first (is_written Two x) (all_written es) all) (all_more es e (and_second (is_written Two x) (all_written es) all) one)

positive : (n : ℕ) → nat_lt 0 (suc n) ≡ true
positive n = grind (arith, nat_tests)

some_more : (es : List Entry) (e : Entry) → nat_lt 0 (length (es ++ e ∷ [])) ≡ true
some_more [] e = positive (length {A = Entry} [])
some_more (x ∷ es) e = positive (length (es ++ e ∷ []))

pub more_written : (es fs : List Entry) (e : Entry) → all_written es ≡ true → is_written Two e ≡ true → fs ≡ es ++ e ∷ [] → are_written fs ≡ true
more_written es fs e all one is =
    subst (λ (l : List Entry). are_written l ≡ true) (sym is) (and_both (nat_lt 0 (length (es ++ e ∷ []))) (all_written (es ++ e ∷ [])) (some_more es e) (all_more es e all one))

next_more : (s : State) (x e : Entry) (es : List Entry) (t : State) (b : Bool) → ((u : State) → followed u es ≡ Some t → followed u (es ++ e ∷ []) ≡ Some (after t e))
    → (cond b (Some (after s x)) None >>= (λ u. followed u es)) ≡ Some t → (cond b (Some (after s x)) None >>= (λ u. followed u (es ++ e ∷ []))) ≡ Some (after t e)
next_more s x e es t true onward is = onward (after s x) is
next_more s x e es t false onward is = cc is

last_more : (s t : State) (e : Entry) → s ≡ t → follows t e ≡ true → (followed_by s e >>= (λ u. followed u [])) ≡ Some (after t e)
last_more s t e is fits =
    ap (λ (u : State). followed_by u e >>= (λ v. followed v [])) is ∙ ap (λ (b : Bool). cond b (Some (after t e)) None >>= (λ v. followed v [])) fits

pub followed_more : (s : State) (es : List Entry) (e : Entry) (t : State) → followed s es ≡ Some t → follows t e ≡ true → followed s (es ++ e ∷ []) ≡ Some (after t e)
followed_more s [] e t is fits = last_more s t e (cc is) fits
followed_more s (x ∷ es) e t is fits = next_more s x e es t (follows s x) (λ u here. followed_more u es e t here fits) is

pub all_in : (o : Option State) (shown : State) (g : Grouped) → IsOpenFrom o shown g → all_written g.entries ≡ true
all_in None shown g is = ap all_written is
all_in (Some s) shown g is = is.written

leads : (o : Option State) (shown : State) (g : Grouped) → IsOpenFrom o shown g → followed (held_state o shown) g.entries ≡ Some shown
leads None shown g is = ap (followed shown) is
leads (Some s) shown g is = is.follows

pub grown_group : (o n : Option State) (shown next : State) (g h : Grouped) (e : Entry) → IsOpenFrom o shown g → follows shown e ≡ true → is_written Two e ≡ true
    → h.entries ≡ g.entries ++ e ∷ [] → IsReady h.ready → group_of (body_of h.ready) ≡ Some h.entries → next ≡ after shown e → n ≡ Some (held_state o shown) → IsOpenFrom n next h
grown_group o n shown next g h e is fits one grown is_ready reads at held =
    subst (λ (m : Option State). IsOpenFrom m next h) (sym held) (record {
      is_ready = is_ready;
      reads = reads;
      written = subst (λ (l : List Entry). all_written l ≡ true) (sym grown) (all_more g.entries e (all_in o shown g is) one);
      follows = ap (followed (held_state o shown)) grown ∙ followed_more (held_state o shown) g.entries e shown (leads o shown g is) fits ∙ ap (λ (t : State). Some t) (sym at);
    })

pub logged_more : (es : List Here) (e : Here) → map logged (es ++ e ∷ []) ≡ map logged es ++ logged e ∷ []
logged_more [] e = refl
logged_more (x ∷ es) e = ap (λ (l : List Entry). logged x ∷ l) (logged_more es e)
