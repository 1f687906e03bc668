-- A line that leaves the server's files alone leaves what stands on the disk.
use Rattle.std.proofs.Common.{◌≡◌, ◌≤◌, ℕ, zero, suc, ◌+◌, Bool, List, [], Option, Some, None, refl, sym, subst, ap}
use Rattle.std.proofs.Common.{◌∙◌, arith}
use Rattle.room_disk.specs.Model.{Reads, Images, Only}
use Rattle.room_disk.specs.Stops.{Left, Stays}
use Rattle.room_disk.specs.declared.disk.Stop.{Stop}
use Rattle.room_log.specs.Log.{State}
use Rattle.room_journal.specs.Rest.{Place}
use Rattle.room_bytes.specs.declared.entries.Format.TheVariants.{Two}
use Rattle.room_model.specs.Lines as lines
use Rattle.room_moves.specs.Fuses.{how_of, fuse_on}
use Rattle.room_store.specs.Consistent.{Settled, Holding}
use Rattle.room_store.specs.Stored.{held}
use Rattle.room_server.specs.Hosted.{Hosted}
use Rattle.room_host.specs.Rests.{IsKept, Holds, SameFiles, Rests}
use Rattle.room_host.specs.Seen.{room_files}
use Rattle.room_host.proofs.Keeping.{kept_stays}
use Rattle.room_world.specs.Did.{DoesOn}
use Rattle.room_world.specs.Seen.{Peopled, world_in}

pub keeps_on : (seen : Reads) (now : ℕ → List ℕ → Type 0) (a b : Option Hosted) → SameFiles a b → IsKept seen now a
    → IsKept seen now b
keeps_on seen now a b s k = kept_stays seen now a b s k

pub same_then : (a b c : Option Hosted) → SameFiles a b → c ≡ b → SameFiles a c
same_then a b c s e = subst (SameFiles a) (sym e) s

-- A disk that is armed holds what it held.

module _ (a b : Reads) (was is : ℕ → List ℕ → Type 0) (same : b ≡ a) (fewer : (f : ℕ) (c : List ℕ) → is f c → was f c)
  where
    only_yet : (f : ℕ) → Only (a f) (was f) → Only (b f) (is f)
    only_yet f only c left = only c (fewer f c left) ∙ ap (λ (x : Reads). x f) (sym same)

    holds_yet : (s : State) → Holds was s → Holds is s
    holds_yet s h = record {
      stands = λ image each. h.stands image (λ f. fewer f (image f) (each f));
      written = λ image each. h.written image (λ f. fewer f (image f) (each f));
    }

    settled_yet : (p : Place) (s : State) → Settled Two a was p s → Settled Two b is p s
    settled_yet p s h = record {
      holds = subst (λ (x : Reads). Holding Two x p s) (sym same) h.holds;
      first = only_yet p.base h.first;
      second = only_yet (p.base + 1) h.second;
      valid = h.valid;
    }

    pub kept_yet : (o : Option Hosted) → IsKept a was o → IsKept b is o
    kept_yet (Some h) r = record {
      whole = r.whole;
      base = r.base;
      settled = λ e. settled_yet h.store.place (held h.store) (r.settled e);
      holds = holds_yet h.store.state r.holds;
    }
    kept_yet None l = (l.0, holds_yet l.0 l.1)

module _ {D : Type 0} (seen : D → Reads) (moment : D → ℕ) (images : D → Images) (stopped : D → Bool) (leaves : D → Left)
    (old new : D) (stays : Stays seen moment images stopped leaves old new) where
  pub same_seen : seen new ≡ seen old
  same_seen = λ i f. stays.files.seen f i

  fewer_images : (f : ℕ) (c : List ℕ) → images new (moment new) f c → images old (moment old) f c
  fewer_images f c left =
      stays.files.keeps.nothing_else (moment old) f c (omega arith)
      (subst (λ (n : ℕ). images new n f c) stays.files.moment left)

  pub arms_kept : (o : Option Hosted) → IsKept (seen old) (images old (moment old)) o
      → IsKept (seen new) (images new (moment new)) o
  arms_kept o k =
      kept_yet (seen old) (seen new) (images old (moment old)) (images new (moment new)) same_seen fewer_images o k

  pub arms_rests : Rests seen stopped leaves old → Rests seen stopped leaves new
  arms_rests r = record {
    going = stays.stop ∙ r.going;
    clean = λ how f. stays.left how f ∙ r.clean how f ∙ sym (stays.files.seen f);
  }

-- and its fuse is the model's

armed_for : (calls : ℕ) (way : Stop) → 1 ≤ calls
    → fuse_on calls way ≡ Some (record { left = calls; how = how_of way })
armed_for zero way some = absurd (omega (arith, some))
armed_for (suc n) way some = refl

pub does_fuse : {D : Type 0} (seen : D → Reads) (armed : D → ℕ) (way : D → Stop) (p : Peopled) (old new : D)
    (number calls : ℕ) (how : Stop) → 1 ≤ calls → armed new ≡ calls → way new ≡ how → seen new ≡ seen old
    → DoesOn seen armed way p old p new number (lines.OfServer (lines.Fuse calls (how_of how))) []
does_fuse seen armed way p old new number calls how some is by same = record {
  lines_are = refl;
  world_is =
      ap (λ (x : Reads). world_in p (room_files x) (Some (record { left = calls; how = how_of how }))) (sym same)
      ∙ ap (world_in p (room_files (seen new)))
      (sym (ap (λ (n : ℕ). fuse_on n (way new)) is ∙ ap (fuse_on calls) by ∙ armed_for calls how some));
}
