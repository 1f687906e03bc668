-- What is taken of a session's operations follows.
use Rattle.std.proofs.Common.{◌≡◌, ◌==◌, ◌<◌, ◌≤◌, ◌+◌, ℕ, nat_lt, Bool, true, false, cond, List, [], ◌∷◌, length, Option, Some, None, sym, ap, ◌∙◌, subst, arith}
use Rattle.room_nodes.specs.declared.nodes.Op.{Op}
use Rattle.room_nodes.specs.declared.nodes.Body.{Body}
use Rattle.room_nodes.specs.Shallow.{AreShallow, AreShallowOps}
use Rattle.room_nodes.specs.Shape.{Nodes, IsFormed}
use Rattle.room_nodes.specs.Sound.{AreSoundBodies, AreSoundOps, IsSoundTree}
use Rattle.room_nodes.specs.Steps.{step, settled_body, settle_all}
use Rattle.room_nodes.proofs.Steps.{formed-step}
use Rattle.room_steps.specs.Laws.{KeepsShallow, KeepsSound, SettlesOnce}
use Rattle.room_log.specs.Log.{State, Update, bodies_of, clock_of, last_in, last_of, session_of}
use Rattle.room_log.specs.Taking.{Takes, rest_beyond, gap_in, taken_rest}
use Rattle.room_log.specs.Follows.{IsNextUpdate, most}
use Rattle.room_log.specs.Laws.{TakenFollows}
use Rattle.room_log.proofs.Following.{follows_exactly}
use Rattle.room_log.proofs.Takings.{Took, first_clock, kept_none, takes_of}

-- of sound and shallow operations those are left that are sound and shallow

record Fit (os : List Op) : Type 0 where
  sound : AreSoundOps os
  shallow : AreShallowOps os

fit_by : (b : Bool) (o : Op) (os rest : List Op) → Fit (o ∷ os) → Fit rest → Fit (cond b (o ∷ rest) rest)
fit_by true o os rest h r = record { sound = (h.sound.0, r.sound); shallow = (h.shallow.0, r.shallow) }
fit_by false o os rest h r = r

fit_rest : (last : ℕ) (os : List Op) → Fit os → Fit (rest_beyond last os)
fit_rest last [] h = h
fit_rest last (o ∷ os) h =
    fit_by (nat_lt last (clock_of o)) o os (rest_beyond last os) h (fit_rest last os (record { sound = h.sound.1; shallow = h.shallow.1 }))

-- settled one after the other they stay so

record Fits (bs : List Body) : Type 0 where
  sound : AreSoundBodies bs
  shallow : AreShallow bs

fits_bodies : (os : List Op) → Fit os → Fits (bodies_of os)
fits_bodies [] h = record { sound = tt; shallow = tt }
fits_bodies (o ∷ os) h =
    let more = fits_bodies os (record { sound = h.sound.1; shallow = h.shallow.1 }) in
    record { sound = (h.sound.0.1, more.sound); shallow = (h.shallow.0, more.shallow) }

fits_settled : KeepsSound → KeepsShallow → (t : Nodes) (bs : List Body) → IsFormed t → IsSoundTree t → Fits bs → Fits (settle_all t bs)
fits_settled keeps shallows t [] f k h = h
fits_settled keeps shallows t (b ∷ bs) f k h =
    let sound = keeps.settled t b f k h.sound.0 in
    let more = fits_settled keeps shallows (step t (settled_body t b)) bs (formed-step t f (settled_body t b)) (keeps.step t (settled_body t b) f k sound) (record { sound = h.sound.1; shallow = h.shallow.1 }) in
    record { sound = (sound, more.sound); shallow = (shallows.settled t b h.shallow.0, more.shallow) }

-- the clocks run on up to one of theirs
last_within : (e : ℕ) (rest : List Op) → AreSoundOps rest → gap_in e rest ≡ None → 0 < length rest → e + length rest ≤ most + 1
last_within e [] h p some = absurd (omega arith)
last_within e (o ∷ []) h p some = omega (arith, h.0.0.1, first_clock o [] e p)
last_within e (o ∷ q ∷ os) h p some =
    let gone = kept_none (clock_of o == e) e (clock_of o) (gap_in (e + 1) (q ∷ os)) p in
    let more = last_within (e + 1) (q ∷ os) h.1 gone.1 (omega arith) in
    omega (arith, more)

-- what is taken is settled
taken_settled : (s : State) (a : ℕ) (rest : List Op) (gap : Option (ℕ × ℕ)) (u : Update) → taken_rest s a rest gap ≡ Takes u → u.bodies ≡ settle_all s.tree (bodies_of rest)
taken_settled s a [] gap u p = cc
taken_settled s a (o ∷ os) (Some g) u p = cc
taken_settled s a (o ∷ os) None u p = cc

pub taken_follows : KeepsSound → KeepsShallow → SettlesOnce → TakenFollows
taken_follows keeps shallows settles s a os u session valid known sound shallow p room =
    let last = last_of s.sessions a in
    let rest = rest_beyond last os in
    let t : Took s a rest (gap_in (last + 1) rest) u = takes_of s a rest _ u p in
    let fit = fit_rest last os (record { sound = sound; shallow = shallow }) in
    let settled = fits_settled keeps shallows s.tree (bodies_of rest) valid.formed valid.sound (fits_bodies rest fit) in
    let bodies : u.bodies ≡ settle_all s.tree (bodies_of rest) = taken_settled s a rest _ u p in
    let fits : Fits u.bodies = subst Fits (sym bodies) settled in
    let begins : u.first ≡ last + 1 = t.first (last + 1) t.none in
    let next : IsNextUpdate s u = record {
      session = session;
      known = ap (session_of s.sessions) t.actor ∙ known;
      first = begins ∙ ap (λ o. last_in o + 1) known;
      some = omega (arith, t.some, t.count);
      settled = ap (settle_all s.tree) bodies ∙ settles.again s.tree (bodies_of rest) valid.formed ∙ sym bodies;
      shallow = fits.shallow;
      last = omega (arith, begins, t.some, t.count, last_within (last + 1) rest fit.sound t.none t.some);
      count = room;
    } in
    ((follows_exactly s u).1 next, fits.sound)
