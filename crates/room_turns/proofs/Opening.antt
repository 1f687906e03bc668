-- The opening, and then the turns.
use Rattle.std.proofs.Common.{◌≡◌, ◌≤◌, ◌<◌, ◌+◌, ℕ, List, refl, sym, ◌∙◌, arith}
use Rattle.std.proofs.Common.{inl, inr, ⊎_elim, Option}
use Rattle.std.proofs.lemmas.Bool.{cases_lt}
use Rattle.std.specs.Prelude.{Result, Ok, Err}
use Rattle.room_disk.specs.Model.{Reads, Images, Keeps, WithinWhole}
use Rattle.room_host.specs.Seen.{room_files}
use Rattle.room_hub.specs.declared.hub.Happening.{Happening}
use Rattle.room_journal.specs.Files.{reading}
use Rattle.room_log.specs.Log.{State, Entry, empty_state}
use Rattle.room_model.specs.Access.{Access}
use Rattle.room_replay.specs.Files.{Files, New, Room, Stands, StandsFor}
use Rattle.room_serving.specs.Serving.{Serving, opening, served}
use Rattle.room_store.specs.Consistent.{BeforeOr, IsStill, Since}
use Rattle.room_turns.specs.Faults.{IsOfFiles}
use Rattle.room_turns.specs.Holding.{StandsWithin}
use Rattle.room_turns.specs.Serves.{Served, Opened, Unopened, ServesRoom}
use Rattle.room_turns.specs.declared.ended.Ended.{Ended}
use Rattle.room_turns.specs.declared.fault.ServeFault.{ServeFault}

-- files stand for one state
pub one_state : (s t : State) (fs : Files) → Stands s fs → Stands t fs → s ≡ t
one_state s t fs h k = ⊎_elim
    (λ (a : fs ≡ Room s). ⊎_elim
    (λ (b : fs ≡ Room t). same_room s t (sym a ∙ b))
    (λ (b : (fs ≡ New) × (t ≡ empty_state)). absurd (no_room s (sym b.0 ∙ a))) k)
    (λ (a : (fs ≡ New) × (s ≡ empty_state)). ⊎_elim
    (λ (b : fs ≡ Room t). absurd (no_room t (sym a.0 ∙ b)))
    (λ (b : (fs ≡ New) × (t ≡ empty_state)). a.1 ∙ sym b.1) k) h
  where
    same_room : (x y : State) → Room x ≡ Room y → x ≡ y
    same_room x y e = cc e

    no_room : (x : State) → New ≡ Room x → ⊥
    no_room x e = cc

-- an image of the opened state
opened_within : (s : State) (turns : List (List Entry)) (image : Reads) → StandsFor 0 s image
    → StandsWithin s turns 0 image
opened_within s turns image h = record { count = 0; enough = omega arith; within = omega arith; stands = h }

-- since an earlier moment
since_opening : (s : State) (m : Serving) (was is : List Happening) (seen : Reads) (images : Images)
    (since opened till : ℕ) (r : Result Ended ServeFault)
    → ((k : ℕ) (image : Reads) → since ≤ k → k ≤ opened → ((f : ℕ) → images k f (image f)) → StandsFor 0 s image)
    → Served s m was is seen images opened opened till r → Served s m was is seen images since opened till r
since_opening s m was is seen images since opened till r before h = record {
  happened = h.happened;
  happened_is = h.happened_is;
  serves = h.serves;
  stands = λ k image low high left. ⊎_elim
      (λ (early : k < opened).
      opened_within s (served m h.happened).groups image (before k image low (omega (arith, early)) left))
      (λ (late : opened ≤ k). h.stands k image late high left)
      (cases_lt k opened);
  holds = h.holds;
  later = h.later;
  calls = h.calls;
  unbroken = h.unbroken;
  done = h.done;
}

module _ {D : Type 0} (seen : D → Reads) (moment : D → ℕ) (images : D → Images) (s : State) where
  -- what was so of the opening's images is so of the last disk's
  opens_still : (old mid new : D) → Keeps (moment mid) (images mid) (images new)
      → WithinWhole moment images old mid (BeforeOr (images old (moment old)) (StandsFor 0 s))
      → Since (moment old) (moment mid) (images new) (BeforeOr (images new (moment old)) (StandsFor 0 s))
  opens_still old mid new keeps run k image low high left = ⊎_elim
      (λ (was : (f : ℕ) → images old (moment old) f (image f)).
      inl (λ f.
      keeps.kept (moment old) f (image f) run.later
      (run.keeps.kept (moment old) f (image f) (omega arith) (was f))))
      (λ (h : StandsFor 0 s image). inr h)
      (run.each k image low high (λ f. keeps.nothing_else k f (image f) high (left f)))

  stays : (m : ℕ) (is : Images) → Keeps m is is
  stays m is = record { kept = λ k f c le left. left; nothing_else = λ k f c le left. left }

  pub unopened : (was : List Happening) (old mid : D) (f : ServeFault) → IsOfFiles (room_files (seen old)) f
      → WithinWhole moment images old mid (BeforeOr (images old (moment old)) (StandsFor 0 s))
      → Unopened s was was (seen old) (images mid) (moment old) (moment mid) f
  unopened was old mid f of run = record {
    untouched = refl;
    opens = opens_still old mid mid (stays (moment mid) (images mid)) run;
    of_files = of;
  }

  pub opened_then : (room : List ℕ) (access : Option Access) (turns : ℕ) (was is : List Happening)
      (old mid new : D) (r : Result Ended ServeFault) → moment mid ≤ moment old + 8
      → (IsStill (reading 0 (seen old 0) (seen old 1)) → moment mid ≡ moment old + 2)
      → WithinWhole moment images old mid (BeforeOr (images old (moment old)) (StandsFor 0 s))
      → Since (moment old + 2) (moment mid) (images mid) (StandsFor 0 s)
      → Keeps (moment mid) (images mid) (images new)
      → Served s (opening s room access turns) was is (seen new) (images new) (moment mid) (moment mid) (moment new) r
      → Opened s room access turns was is (seen old) (seen new) (images new) (moment old) (moment new) r
  opened_then room access turns was is old mid new r most two run since keeps h = record {
    opened = moment mid;
    most = most;
    two = two;
    opens = opens_still old mid new keeps run;
    served =
        since_opening s (opening s room access turns) was is (seen new) (images new) (moment old + 2) (moment mid)
        (moment new) r
        (λ k image low high left.
        since k image low high (λ f. keeps.nothing_else k f (image f) high (left f))) h;
  }

pub serves_room : (s : State) (room : List ℕ) (access : Option Access) (turns : ℕ) (was is : List Happening)
    (old seen : Reads) (images : Images) (from till : ℕ) (r : Result Ended ServeFault)
    → Opened s room access turns was is old seen images from till r
    → ServesRoom s room access turns was is old seen images from till r
serves_room s room access turns was is old seen images from till (Ok e) h = h
serves_room s room access turns was is old seen images from till (Err f) h = inr h
