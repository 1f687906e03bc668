-- The messages of a frame, acted on one by one, with what was served so far.
use Rattle.std.proofs.Common.{◌≡◌, ℕ, cond, List, [], ◌∷◌, ◌++◌, refl, sym, ap, ◌∙◌, append_assoc, append-nil}
use Rattle.std.specs.Prelude.{Option, Some, None, codes, decimal, nat_le}
use Rattle.room_msg.specs.declared.messages.ClientMsg.{ClientMsg}
use Rattle.room_log.specs.Log.{Entry, Update}
use Rattle.room_log.specs.Taking.{Taken, Nothing, Gap, Takes}
use Rattle.room_model.specs.Server
use Rattle.room_model.specs.Server.{Outbound, Link, Served}

abbrev pub act_from : Served → ℕ → ℕ → Option Update → List ClientMsg → Served
act_from so_far k a waits [] = so_far
act_from so_far k a waits (m ∷ ms) = act_from (Server.then_served so_far (Server.acts so_far.server k a waits m)) k a (Server.waits_after waits m) ms

or_none : (o : Option Entry) → Server.or_entry o None ≡ o
or_none None = refl
or_none (Some e) = refl

or_or : (d e f : Option Entry) → Server.or_entry (Server.or_entry d e) f ≡ Server.or_entry d (Server.or_entry e f)
or_or None e f = refl
or_or (Some d) e f = refl

no_more : (x : Served) → Server.then_served x (Server.nothing x.server) ≡ x
no_more x =
    ap (λ (os : List (ℕ × Outbound)). record { server = x.server; outs = os; entry = Server.or_entry x.entry None }) (append-nil x.outs)
    ∙ ap (λ (e : Option Entry). record { server = x.server; outs = x.outs; entry = e }) (or_none x.entry)

in_turn : (x y z : Served) → Server.then_served (Server.then_served x y) z ≡ Server.then_served x (Server.then_served y z)
in_turn x y z =
    ap (λ (os : List (ℕ × Outbound)). record { server = z.server; outs = os; entry = Server.or_entry (Server.or_entry x.entry y.entry) z.entry }) (append_assoc x.outs y.outs z.outs)
    ∙ ap (λ (e : Option Entry). record { server = z.server; outs = x.outs ++ (y.outs ++ z.outs); entry = e }) (or_or x.entry y.entry z.entry)

from_all : (x : Served) (k a : ℕ) (waits : Option Update) (ms : List ClientMsg) → act_from x k a waits ms ≡ Server.then_served x (Server.act_all x.server k a waits ms)
from_all x k a waits [] = sym (no_more x)
from_all x k a waits (m ∷ ms) =
    let out = Server.acts x.server k a waits m in
    from_all (Server.then_served x out) k a (Server.waits_after waits m) ms ∙ in_turn x out (Server.act_all out.server k a (Server.waits_after waits m) ms)

pub all_from : (v : Server.Server) (k a : ℕ) (waits : Option Update) (ms : List ClientMsg) → Server.act_all v k a waits ms ≡ act_from (Server.nothing v) k a waits ms
all_from v k a waits ms = sym (from_all (Server.nothing v) k a waits ms)

-- what is taken, told so
abbrev pub taken_from : Server.Server → ℕ → Link → ℕ → List ClientMsg → Taken → Served
taken_from v k l a ms Nothing = act_from (Server.nothing v) k a None ms
taken_from v k l a ms (Gap expected got) = Server.shut v k l 4402 (Server.expected_got (codes "clock gap") expected got)
taken_from v k l a ms (Takes u) =
    cond (nat_le v.limits.updates v.state.count) (Server.shut v k l 4406 (codes "room full " ++ decimal v.state.count)) (act_from (Server.nothing v) k a (Some u) ms)

pub taken_is : (v : Server.Server) (k : ℕ) (l : Link) (a : ℕ) (ms : List ClientMsg) (t : Taken) → Server.taken v k l a ms t ≡ taken_from v k l a ms t
taken_is v k l a ms Nothing = all_from v k a None ms
taken_is v k l a ms (Gap expected got) = refl
taken_is v k l a ms (Takes u) =
    ap (λ out. cond (nat_le v.limits.updates v.state.count) (Server.shut v k l 4406 (codes "room full " ++ decimal v.state.count)) out) (all_from v k a (Some u) ms)
