-- What is pending in an overlay, before and after what it takes.
use Rattle.std.proofs.Common.{◌≡◌, ℕ, zero, suc, slice_get, ◌+◌, ◌-◌, ◌<◌, ◌≤◌, ◌∙◌, ◌==◌, max, Bool, true, false, cond}
use Rattle.std.proofs.Common.{◌&&◌, not, nat_le}
use Rattle.std.proofs.Common.{nat_lt, List, [], ◌∷◌, ◌++◌, length, drop, refl, sym, ap, arith}
use Rattle.std.specs.Prelude.{Some, None, Result, Ok, Err}
use Rattle.std.proofs.lemmas.Bool.Decides.{nat_tests}
use Rattle.room_nodes.specs.declared.nodes.Body.{Body}
use Rattle.room_nodes.specs.declared.nodes.Op.{Op}
use Rattle.room_nodes.specs.Shape.{Nodes}
use Rattle.room_nodes.specs.Steps.{fold}
use Rattle.room_log.specs.Log.{actor_of, clock_of, bodies_of, ops_from, op_of}
use Rattle.room_model.specs.Account.{Batch, all_bodies, all_ops, batch_ops, beyond, ends}
use Rattle.room_model.specs.Receive.{Gap, told_by}
use Rattle.room_model.specs.Sound.{RunsOn}
use Rattle.room_overlay.specs.Own.{opened}
use Rattle.room_overlay.specs.Over.{Over, pending, pending_bodies, last_issued, next_clock, opened_ops, shown, load}
use Rattle.room_overlay.specs.Over.{load_at, loaded}
use Rattle.room_overlay.specs.Over.{update, update_told, updated}
use Rattle.room_editor.specs.Taking.{own_count, state_shows, update_shows}
use Rattle.room_editor.proofs.Running.{all_length, beyond_drops, drop_front, ends_kept}

-- their bodies

pub bodies_append : (os qs : List Op) → bodies_of (os ++ qs) ≡ bodies_of os ++ bodies_of qs
bodies_append [] qs = refl
bodies_append (o ∷ os) qs = ap (λ bs. o.body ∷ bs) (bodies_append os qs)

pub bodies_again : (a f : ℕ) (bs : List Body) → bodies_of (ops_from a f bs) ≡ bs
bodies_again a f [] = refl
bodies_again a f (b ∷ bs) = ap (λ cs. b ∷ cs) (bodies_again a (f + 1) bs)

bodies_all : (a : ℕ) (bs : List Batch) → bodies_of (all_ops a bs) ≡ all_bodies bs
bodies_all a [] = refl
bodies_all a (b ∷ bs) =
    bodies_append (batch_ops a b) (all_ops a bs)
    ∙ ap (λ cs. cs ++ bodies_of (all_ops a bs)) (bodies_again a b.first b.bodies)
    ∙ ap (λ cs. b.bodies ++ cs) (bodies_all a bs)

pub bodies_pending : (o : Over) → bodies_of (pending o) ≡ pending_bodies o
bodies_pending o =
    bodies_append (all_ops o.actor o.issued) (ops_from o.actor (last_issued o + 1) (opened o.batch))
    ∙ ap (λ cs. cs ++ bodies_of (ops_from o.actor (last_issued o + 1) (opened o.batch))) (bodies_all o.actor o.issued)
    ∙ ap (λ cs. all_bodies o.issued ++ cs) (bodies_again o.actor (last_issued o + 1) (opened o.batch))

-- the clock that is told counts the own operations, and isn't beyond what was issued

pub record Counts (limit c told n : ℕ) : Type 0 where
  pub is : told ≡ c + n
  pub within : told ≤ max c limit

own_counts : (a limit c told n : ℕ) (o : Op) (os : List Op) (t : Bool)
    → ((clock_of o == c + 1) && nat_le (clock_of o) limit) ≡ t
    → (told_by a limit (c + 1) os ≡ Ok told → Counts limit (c + 1) told n)
    → cond t (told_by a limit (c + 1) os) (Err (c, clock_of o)) ≡ Ok told → Counts limit c told (1 + n)
own_counts a limit c told n o os false e f p = cc
own_counts a limit c told n o os true e f p =
    let r = f p in
    let low : c + 1 ≤ limit = grind (arith, nat_tests, e) in
    record { is = omega (arith, r.is); within = omega (arith, r.within, low) }

op_counts : (a limit c told n : ℕ) (o : Op) (os : List Op) (mine : Bool)
    → (told_by a limit c os ≡ Ok told → Counts limit c told n)
    → (told_by a limit (c + 1) os ≡ Ok told → Counts limit (c + 1) told n)
    → cond (not mine) (told_by a limit c os) (cond ((clock_of o == c + 1) && nat_le (clock_of o) limit)
    (told_by a limit (c + 1) os) (Err (c, clock_of o))) ≡ Ok told → Counts limit c told (cond mine (1 + n) n)
op_counts a limit c told n o os false f g p = f p
op_counts a limit c told n o os true f g p =
    own_counts a limit c told n o os ((clock_of o == c + 1) && nat_le (clock_of o) limit) refl g p

pub told_counts : (a limit c told : ℕ) (os : List Op) → told_by a limit c os ≡ Ok told
    → Counts limit c told (own_count a os)
told_counts a limit c told [] p = let e : c ≡ told = cc in record { is = omega (arith, e); within = omega (arith, e) }
told_counts a limit c told (o ∷ os) p =
    op_counts a limit c told (own_count a os) o os (actor_of o == a) (told_counts a limit c told os)
    (told_counts a limit (c + 1) told os) p

-- what stays pending of an overlay whose operations up to a clock are acknowledged

left_bodies : (c e n : ℕ) (bs : List Batch) (open_bodies : List Body) → RunsOn c bs → e ≡ c + n → e ≤ ends c bs
    → all_bodies (beyond e bs) ++ open_bodies ≡ drop n (all_bodies bs ++ open_bodies)
left_bodies c e n bs open_bodies h is within =
    let end = all_length c bs h in
    ap (λ k. all_bodies (beyond k bs) ++ open_bodies) is
    ∙ ap (λ cs. cs ++ open_bodies) (beyond_drops c n bs h)
    ∙ sym (drop_front n (all_bodies bs) open_bodies (omega (arith, end, is, within)))

-- a state

pub record Takes (o p : Over) (n last : ℕ) (t : Nodes) : Type 0 where
  pub is : p ≡ loaded o n last t
  pub low : o.told ≤ last
  pub high : last ≤ last_issued o

takes_by : (o p : Over) (n last : ℕ) (t : Nodes) (a b c : Bool) → nat_lt n o.n ≡ a → nat_lt last o.told ≡ b
    → nat_lt (last_issued o) last ≡ c
    → load_at o n last t (cond a (Some (o.n, n)) (cond b (Some (o.told, last))
    (cond c (Some (last_issued o, last)) None))) ≡ Ok p → Takes o p n last t
takes_by o p n last t true b c x y z h = cc
takes_by o p n last t false true c x y z h = cc
takes_by o p n last t false false true x y z h = cc
takes_by o p n last t false false false x y z h = record {
  is = cc;
  low = grind (arith, nat_tests, y);
  high = grind (arith, nat_tests, z);
}

pub takes : (o p : Over) (n last : ℕ) (t : Nodes) → load o n last t ≡ Ok p → Takes o p n last t
takes o p n last t h = takes_by o p n last t _ _ _ refl refl refl h

pub state_keeps : (o p : Over) (n last : ℕ) (t : Nodes) → RunsOn o.told o.issued → load o n last t ≡ Ok p
    → last_issued p ≡ last_issued o
state_keeps o p n last t runs h =
    let k = takes o p n last t h in
    ap last_issued k.is ∙ ends_kept o.told last o.issued runs k.low k.high

pub state_shown : (o p : Over) (n last : ℕ) (t : Nodes) → RunsOn o.told o.issued → load o n last t ≡ Ok p
    → shown p ≡ state_shows o last t
state_shown o p n last t runs h =
    let k = takes o p n last t h in
    ap shown k.is
    ∙ ap (fold t) (left_bodies o.told last (last - o.told) o.issued (opened o.batch) runs
    (omega (arith, k.low)) k.high ∙ ap (drop (last - o.told)) (sym (bodies_pending o)))

-- an update

pub record Updates (o p : Over) (n : ℕ) (os : List Op) : Type 0 where
  pub told : ℕ
  pub tells : told_by o.actor (last_issued o) o.told os ≡ Ok told
  pub is : p ≡ updated o os told
  pub next : (n == o.n + 1) ≡ true

updates_told : (o p : Over) (n : ℕ) (os : List Op) (r : Result ℕ (ℕ × ℕ))
    → told_by o.actor (last_issued o) o.told os ≡ r → (n == o.n + 1) ≡ true → update_told o os r ≡ Ok p
    → Updates o p n os
updates_told o p n os (Err f) e next h = cc
updates_told o p n os (Ok told) e next h = record { told = told; tells = e; is = cc; next = next }

updates_numbered : (o p : Over) (n : ℕ) (os : List Op) (t : Bool) → (n == o.n + 1) ≡ t
    → cond t (update_told o os (told_by o.actor (last_issued o) o.told os)) (Err (Gap (o.n + 1) n)) ≡ Ok p
    → Updates o p n os
updates_numbered o p n os false e h = cc
updates_numbered o p n os true e h = updates_told o p n os (told_by o.actor (last_issued o) o.told os) refl e h

pub updates : (o p : Over) (n : ℕ) (os : List Op) → update o n os ≡ Ok p → Updates o p n os
updates o p n os h = updates_numbered o p n os (n == o.n + 1) refl h

-- the clock that is told lies between what was told and what was issued

record Told (o : Over) (os : List Op) (told : ℕ) : Type 0 where
  is : told ≡ o.told + own_count o.actor os
  high : told ≤ last_issued o

told_within : (o : Over) (os : List Op) (told : ℕ) → RunsOn o.told o.issued
    → told_by o.actor (last_issued o) o.told os ≡ Ok told → Told o os told
told_within o os told runs h =
    let k = told_counts o.actor (last_issued o) o.told told os h in
    let end = all_length o.told o.issued runs in
    record { is = k.is; high = omega (arith, k.within, end) }

pub update_keeps : (o p : Over) (n : ℕ) (os : List Op) → RunsOn o.told o.issued → update o n os ≡ Ok p
    → last_issued p ≡ last_issued o
update_keeps o p n os runs h =
    let k = updates o p n os h in
    let w = told_within o os k.told runs k.tells in
    ap last_issued k.is ∙ ends_kept o.told k.told o.issued runs (omega (arith, w.is)) w.high

pub update_shown : (o p : Over) (n : ℕ) (os : List Op) → RunsOn o.told o.issued → update o n os ≡ Ok p
    → shown p ≡ update_shows o os
update_shown o p n os runs h =
    let k = updates o p n os h in
    let w = told_within o os k.told runs k.tells in
    ap shown k.is
    ∙ ap (fold (fold o.confirmed (bodies_of os)))
    (left_bodies o.told k.told (own_count o.actor os) o.issued (opened o.batch) runs w.is w.high
    ∙ ap (drop (own_count o.actor os)) (sym (bodies_pending o)))

-- the clock of the last operation

some_is : (x y : Op) → Some x ≡ Some y → x ≡ y
some_is x y e = cc

last_in : (a c : ℕ) (bs : List Body) (i : ℕ) (o : Op) → i < length bs → slice_get (ops_from a c bs) i ≡ Some o
    → clock_of o ≡ c + i
last_in a c [] i o lt h = absurd (omega (arith, lt))
last_in a c (b ∷ bs) zero o lt h =
    let none : c ≡ c + 0 = omega arith in sym (ap clock_of (some_is (op_of a c b) o h)) ∙ none
last_in a c (b ∷ bs) (suc i) o lt h =
    let on : c + 1 + i ≡ c + suc i = omega arith in last_in a (c + 1) bs i o (omega (arith, lt)) h ∙ on

pub bodies_length : (os : List Op) → length (bodies_of os) ≡ length os
bodies_length [] = refl
bodies_length (o ∷ os) = ap suc (bodies_length os)

pub last_clock_is : (a c : ℕ) (os : List Op) (o : Op) → os ≡ ops_from a (c + 1) (bodies_of os) → 0 < length os
    → Some o ≡ slice_get os (length os - 1) → clock_of o ≡ c + length os
last_clock_is a c os o run long at =
    let i = length os - 1 in
    let same : slice_get (ops_from a (c + 1) (bodies_of os)) i ≡ Some o =
    ap (λ xs. slice_get xs i) (sym run) ∙ sym at in
    let sum : c + 1 + i ≡ c + length os = omega (arith, long) in
    last_in a (c + 1) (bodies_of os) i o (omega (arith, long, bodies_length os)) same ∙ sum

length_ops : (a c : ℕ) (bs : List Body) → length (ops_from a c bs) ≡ length bs
length_ops a c [] = refl
length_ops a c (b ∷ bs) = ap suc (length_ops a (c + 1) bs)

pub opened_clock : (o : Over) (os : List Op) (n r : ℕ) → os ≡ opened_ops o → n ≡ last_issued o
    → ((a : ℕ) → os ≡ ops_from a (n + 1) (bodies_of os) → r ≡ n + length os) → r + 1 ≡ next_clock o
opened_clock o os n r is last h =
    let run : os ≡ ops_from o.actor (n + 1) (bodies_of os) =
    is ∙ ap (λ k. ops_from o.actor (k + 1) (opened o.batch)) (sym last)
    ∙ ap (ops_from o.actor (n + 1))
    (sym (ap bodies_of is ∙ bodies_again o.actor (last_issued o + 1) (opened o.batch))) in
    let long : length os ≡ length (opened o.batch) =
    ap length is ∙ length_ops o.actor (last_issued o + 1) (opened o.batch) in
    omega (arith, h o.actor run, long, last)

pub bodies_drop : (n : ℕ) (os : List Op) → bodies_of (drop n os) ≡ drop n (bodies_of os)
bodies_drop zero os = refl
bodies_drop (suc n) [] = refl
bodies_drop (suc n) (o ∷ os) = bodies_drop n os
