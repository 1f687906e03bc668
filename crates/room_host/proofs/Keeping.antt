-- What is kept of a host while its files stay.
use Rattle.std.proofs.Common.{◌≡◌, ℕ, List, false, sym, ap, ◌∙◌, subst}
use Rattle.std.specs.Prelude.{Bool, Option, Some, None, is_some}
use Rattle.std.specs.Ordering.{nat_cmp}
use Rattle.std.specs.FinMap.{get, get-empty}
use Rattle.room_disk.specs.Model.{Reads}
use Rattle.room_log.specs.Log.{State}
use Rattle.room_bytes.specs.declared.entries.Format.TheVariants.{Two}
use Rattle.room_journal.specs.Rest.{Place}
use Rattle.room_replay.specs.Files.{Files}
use Rattle.room_store.specs.Consistent.{Settled}
use Rattle.room_store.specs.Stored.{held_state}
use Rattle.room_store.specs.declared.fault.Cause.{Cause}
use Rattle.room_server.specs.Faults.{cause_of}
use Rattle.room_server.specs.Hosted.{Hosted}
use Rattle.room_model.specs.World.{links_of, state_in}
use Rattle.room_host.specs.Rests.{Runs, Lies, Holds, IsKept, SameFiles}
use Rattle.room_host.specs.Seen.{host_in, room_files}
use Rattle.room_host.proofs.Lying.{stands_state}

pub lies_none : (seen : Reads) (now : ℕ → List ℕ → Type 0) (o : Option Hosted) → o ≡ None → IsKept seen now o → Lies now
lies_none seen now None is k = k
lies_none seen now (Some h) is k = cc

pub none_attached : (o : Option Hosted) (fs : Files) (k : ℕ) → o ≡ None
    → false ≡ is_some (get (links_of (host_in o fs)) k)
none_attached None fs k is = sym (ap is_some (get-empty nat_cmp k))
none_attached (Some h) fs k is = cc

-- a call that leaves the files alone
pub kept_stays : (seen : Reads) (now : ℕ → List ℕ → Type 0) (a b : Option Hosted) → SameFiles a b → IsKept seen now a
    → IsKept seen now b
kept_stays seen now (Some h) (Some n) s k = record {
  whole = ap (λ (x : Bool). cause_of x n.store.broken) s.0
      ∙ ap (λ (o : Option Cause). cause_of h.spent o) s.1 ∙ k.whole;
  base = ap (λ (p : Place). p.base) s.2 ∙ k.base;
  settled = λ whole.
      subst (λ (p : Place). Settled Two seen now p (held_state n.store.before n.store.state)) (sym s.2)
      (subst (λ (o : Option State). Settled Two seen now h.store.place (held_state o n.store.state)) (sym s.4)
      (subst (λ (z : State). Settled Two seen now h.store.place (held_state h.store.before z)) (sym s.3)
      (k.settled (sym s.1 ∙ whole))));
  holds = subst (λ (z : State). Holds now z) (sym s.3) k.holds;
}
kept_stays seen now (Some h) None s k = absurd s
kept_stays seen now None (Some n) s k = absurd s
kept_stays seen now None None s k = k

-- each image stands for the host's state
pub kept_holds : (seen : Reads) (now : ℕ → List ℕ → Type 0) (o : Option Hosted) → ((f : ℕ) → now f (seen f))
    → IsKept seen now o → Holds now (state_in (host_in o (room_files seen)))
kept_holds seen now (Some h) here k = k.holds
kept_holds seen now None here k =
    subst (λ (s : State). Holds now s) (sym (stands_state k.0 (room_files seen) ((k.1).stands seen here))) k.1
