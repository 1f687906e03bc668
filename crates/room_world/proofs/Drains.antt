-- A drain, move by move.
use Rattle.std.proofs.Common.{◌≡◌, ℕ, zero, suc, ◌-◌, ◌<◌, List, [], ◌∷◌, ◌++◌, Option, Some, None, refl, sym, ap, ◌∙◌, subst}
use Rattle.std.proofs.Common.{append_assoc, append-nil}
use native.Mathlib.Omega.{arith}
use Rattle.room_model.specs.Lines as lines
use Rattle.room_disk.specs.Model.{Reads, Images, WithinWhole}
use Rattle.room_disk.specs.declared.disk.Stop.{Stop}
use Rattle.room_log.specs.Log.{State}
use Rattle.room_model.specs.World.{World, Stopped, drain, drain_once, drain_next, then_stepped, step, state_in}
use Rattle.room_moves.proofs.Parts.{drains_one, drains_nothing, drain_ends}
use Rattle.room_moves.specs.Moments.{OfFirst}
use Rattle.room_moves.specs.Reading.{DrainReads, NextReads}
use Rattle.room_replay.specs.Files.{StandsFor}
use Rattle.room_world.specs.Did.{Did}
use Rattle.room_host.specs.Rests.{IsKept}
use Rattle.room_world.specs.Moving.{Moves, TriesNext, next_tries}
use Rattle.room_world.specs.Seen.{Peopled, world_on}
use Rattle.room_world.specs.Trying.{drain_tries}
use Rattle.room_world.proofs.Joining.{in_front, joins}
use Rattle.room_world.proofs.Leaving.{once_leaves, stopped_tries}
use Rattle.room_world.proofs.Moments.{staying_line}

-- from the world w on so many moves were to be made; what is left is to be made from the world v on
pub record Drains (w : World) (number n : ℕ) (so_far : List (List ℕ)) (v : World) (left : ℕ) : Type 0 where
  pub lines_are : so_far ++ (drain v number left).lines ≡ (drain w number n).lines
  pub world_is : (drain v number left).world ≡ (drain w number n).world
  pub reads : DrainReads v number left

pub begins : (w : World) (number n : ℕ) → DrainReads w number n → Drains w number n [] w n
begins w number n r = record { lines_are = refl; world_is = refl; reads = r }

-- nothing is left to be made

pub runs_out : (w v : World) (number n : ℕ) (so_far : List (List ℕ)) → Drains w number n so_far v zero
    → Did (step w number (lines.Drain n)) so_far v
runs_out w v number n so_far d = record {
  lines_are = sym d.lines_are ∙ ap (λ o. so_far ++ o.lines) (drains_nothing v number) ∙ append-nil so_far;
  world_is = sym d.world_is ∙ ap (λ o. o.world) (drains_nothing v number);
}

-- nothing waits

pub ends : (w v u : World) (number n left : ℕ) (so_far : List (List ℕ)) → Drains w number n so_far v left
    → Moves v number u None → Did (step w number (lines.Drain n)) so_far u
ends w v u number n left so_far d m = record {
  lines_are = sym d.lines_are ∙ ap (λ o. so_far ++ o.lines) (drain_ends v number left m.0) ∙ append-nil so_far;
  world_is = sym d.world_is ∙ ap (λ o. o.world) (drain_ends v number left m.0) ∙ sym m.1;
}

-- a move is made

on_suc : (w v u : World) (number n left : ℕ) (so_far more : List (List ℕ)) → Drains w number n so_far v (suc left)
    → Moves v number u (Some more) → Drains w number n (so_far ++ more) u left
on_suc w v u number n left so_far more d m =
    let one = drains_one v number left in record {
      lines_are = append_assoc so_far more _
          ∙ ap (λ ls. so_far ++ (ls ++ (drain u number left).lines)) (sym m.lines_are)
          ∙ ap (λ x. so_far ++ ((drain_once v number).lines ++ (drain x number left).lines)) (sym m.world_is)
          ∙ ap (λ o. so_far ++ o.lines) (sym one) ∙ d.lines_are;
      world_is = ap (λ x. (drain x number left).world) (sym m.world_is) ∙ ap (λ o. o.world) (sym one) ∙ d.world_is;
      reads = subst (λ x. DrainReads x number left) m.world_is d.reads.1;
    }

pub goes_on : (w v u : World) (number n left : ℕ) (so_far more : List (List ℕ)) → Drains w number n so_far v left
    → 0 < left → Moves v number u (Some more) → Drains w number n (so_far ++ more) u (left - 1)
goes_on w v u number n zero so_far more d some m = absurd (omega (arith, some))
goes_on w v u number n (suc left) so_far more d some m =
    subst (λ k. Drains w number n (so_far ++ more) u k) (omega arith) (on_suc w v u number n left so_far more d m)

pub next_read : (w v : World) (number n left : ℕ) (so_far : List (List ℕ)) → Drains w number n so_far v left
    → 0 < left → NextReads v
next_read w v number n zero so_far d some = absurd (omega (arith, some))
next_read w v number n (suc left) so_far d some = d.reads.0

-- what images stand for

module _ {D : Type 0} (moment : D → ℕ) (images : D → Images) where
  -- each image of a drain to the disk d from a world on
  abbrev pub TriesTo : D → World → (number n : ℕ) → D → Type 0
  TriesTo old w number n d =
      WithinWhole moment images old d (OfFirst (StandsFor 0) (state_in w.host) (drain_tries w number n))

  -- a drain came from the disk `first` to the disk `now`: what is tried from there on is what is left of all
  abbrev pub Tries : D → World → (number n : ℕ) → D → World → (left : ℕ) → Type 0
  Tries first w number n now v left = (d : D) → TriesTo now v number left d → TriesTo first w number n d

  -- one move to the disk `next`
  abbrev pub TriesOne : D → World → D → Type 0
  TriesOne now v next = WithinWhole moment images now next (OfFirst (StandsFor 0) (state_in v.host) (next_tries v))

  on_more : (first now next : D) (w v u : World) (number n left : ℕ) → Tries first w number n now v (suc left)
      → TriesOne now v next → (drain_once v number).world ≡ u → Tries first w number n next u left
  on_more first now next w v u number n left c one moved d rest =
      let x = (drain_once v number).world in
      c d (joins moment images (StandsFor 0) (state_in v.host) x.host (next_tries v) (drain_tries x number left)
      now next d (once_leaves v number) (λ (t : State) (is : x.host ≡ Stopped t). stopped_tries left x number t is) one
      (subst (λ (y : World). TriesTo next y number left d) (sym moved) rest))

  pub tries_on : (first now next : D) (w v u : World) (number n left : ℕ) (more : List (List ℕ))
      → Tries first w number n now v left → 0 < left → TriesOne now v next → Moves v number u (Some more)
      → Tries first w number n next u (left - 1)
  tries_on first now next w v u number n zero more c some one m = absurd (omega (arith, some))
  tries_on first now next w v u number n (suc left) more c some one m =
      subst (λ (k : ℕ). Tries first w number n next u k) (omega arith)
      (on_more first now next w v u number n left c one m.world_is)

  -- a move after which no other is made
  pub tries_last : (first now next : D) (w v : World) (number n left : ℕ) → Tries first w number n now v left
      → 0 < left → TriesOne now v next → TriesTo first w number n next
  tries_last first now next w v number n zero c some one = absurd (omega (arith, some))
  tries_last first now next w v number n (suc left) c some one =
      c next (in_front moment images (StandsFor 0) (state_in v.host) (next_tries v)
      (drain_tries (drain_once v number).world number left) now next one)

-- a move that leaves the disk as it is
module _ {D : Type 0} (seen : D → Reads) (armed : D → ℕ) (way : D → Stop) (moment : D → ℕ) (images : D → Images) where
  pub stays_next : (p : Peopled) (d : D) → ((f : ℕ) → images d (moment d) f (seen d f))
      → IsKept (seen d) (images d (moment d)) p.hosting.server → TriesNext seen armed way moment images p d d
  stays_next p d here kept =
      staying_line seen moment images p (next_tries (world_on seen armed way p d)) d here kept
