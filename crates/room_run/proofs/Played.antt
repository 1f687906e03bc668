-- One line, done and told.
use Rattle.std.proofs.Common.{◌≡◌, ℕ, List, [], ◌∷◌, ◌++◌, length, take, Option, Result, Ok, Err}
use Rattle.std.proofs.Common.{refl, sym, ◌∙◌, subst, append_assoc}
use Rattle.std.specs.Prelude.{OnOk, OnErr, IfErr}
use Rattle.std.specs.Io.KnownBytes.{Appends}
use Rattle.room_disk.specs.Model.{Reads, Images, WholeBetween}
use Rattle.room_host.specs.Rests.{IsKept}
use Rattle.room_host.specs.Seen.{host_in, room_files}
use Rattle.room_host.proofs.Keeping.{kept_holds}
use Rattle.room_model.specs.Lines.{Line}
use Rattle.room_model.specs.Run.{report_from, text_of_lines}
use Rattle.room_model.specs.World.{World, state_in, step}
use Rattle.room_moves.specs.Moments.{OfFirst}
use Rattle.room_replay.specs.Files.{StandsFor}
use Rattle.room_server.specs.Hosted.{Hosted}
use Rattle.room_world.specs.Did.{Did}
use Rattle.room_world.specs.Trying.{tries}
use Rattle.room_run.specs.Halting.{IsDone, IsOfDisk}
use Rattle.room_run.specs.Running.{Along, At, InLine, Plays, Ran, Halted, after_lines, text_behind}
use Rattle.room_run.specs.declared.halt.Halt.{Halt}
use Rattle.room_run.proofs.Along.{along_kept, along_more, after_more, report_more}
use Rattle.room_run.proofs.Appending.{appends_all, appends_more, appends_none}
use Rattle.room_run.proofs.Halts.{done_alike}

-- each image of the inner disk, by what is kept of the other
pub stands_at : (seen : Reads) (now : ℕ → List ℕ → Type 0) (inner : Images) (till : ℕ) (o : Option Hosted)
    → ((f : ℕ) → now f (seen f)) → ((f : ℕ) (c : List ℕ) → inner till f c → now f c) → IsKept seen now o
    → At inner till (StandsFor 0 (state_in (host_in o (room_files seen))))
stands_at seen now inner till o here is_image kept =
    λ image left. (kept_holds seen now o here kept).stands image (λ f. is_image f (image f) (left f))

-- each image within a line of the inner disk
abbrev pub TriesIn : World → ℕ × Line → Reads → Type 0
TriesIn w l = OfFirst (StandsFor 0) (state_in w.host) (tries w l.0 l.1)

pub in_line : (was is : Images) (w : World) (l : ℕ × Line) (from till : ℕ) → WholeBetween from till was is (TriesIn w l)
    → InLine is w l from till
in_line was is w l from till run = record { later = run.later; each = run.each }

module _ {T : Type 0} (was is : Images) (w v : World) (l : ℕ × Line) (told now : Option (List ℕ)) (from till : ℕ) where
  -- what is told of a line that was done
  pub tells : (r : Result T Halt) (lines : List (List ℕ)) → WholeBetween from till was is (TriesIn w l)
      → Did (step w l.0 l.1) lines v → At is till (StandsFor 0 (state_in v.host))
      → OnOk r (Appends told now (text_of_lines lines))
      → OnErr r ((n : ℕ) × Appends told now (take n (text_of_lines lines)))
      → IfErr r (λ e. IsOfDisk e → ⊥) → Plays was is w v l told now from till r
  tells (Ok x) lines run did at ok err apart =
      let text = text_of_lines (step w l.0 l.1).lines in
      let all : Appends told now text =
      subst (λ (ls : List (List ℕ)). Appends told now (text_of_lines ls)) (sym did.lines_are) ok in
      record {
        keeps = run.keeps;
        in_line = in_line was is w l from till run;
        part = length text;
        told = appends_all told now text all;
        all = λ y is. all;
        none = λ e is of_disk. absurd cc;
        world_is = λ done. sym did.world_is;
        ends = λ done. at;
      }
  tells (Err e) lines run did at ok err apart = record {
    keeps = run.keeps;
    in_line = in_line was is w l from till run;
    part = err.0;
    told = subst (λ (ls : List (List ℕ)). Appends told now (take err.0 (text_of_lines ls))) (sym did.lines_are) err.1;
    all = λ y is. absurd cc;
    none = λ f is of_disk. absurd (apart (subst IsOfDisk (same e f is) of_disk));
    world_is = λ done. sym did.world_is;
    ends = λ done. at;
  }
    where
      same : (e f : Halt) → ◌≡◌ {A = Result T Halt} (Err e) (Err f) → f ≡ e
      same e f is = cc

-- or of one whose call failed
pub fails : (T : Type 0) (was is : Images) (w v : World) (l : ℕ × Line) (told : Option (List ℕ)) (from till : ℕ)
    (e : Halt)
    → (IsDone {T = T} (Err e) → ⊥) → WholeBetween from till was is (TriesIn w l)
    → Plays {T = T} was is w v l told told from till (Err e)
fails T was is w v l told from till e not_done run = record {
  keeps = run.keeps;
  in_line = in_line was is w l from till run;
  part = 0;
  told = appends_none told;
  all = λ y is. absurd cc;
  none = λ f is of_disk. refl;
  world_is = λ done. absurd (not_done done);
  ends = λ done. absurd (not_done done);
}

-- A run so far, and one line more.

module _ (was is : Images) (w : World) (ls : List (ℕ × Line)) (first told now : Option (List ℕ)) (from mid till : ℕ)
    (v u : World) (l : ℕ × Line) (left : List (ℕ × Line)) where
  -- the line is behind those that were done
  along_line : {T : Type 0} (r : Result T Halt) (ran : Ran was w ls first told from mid v (l ∷ left))
      → Plays was is (after_lines w ran.done) u l told now mid till r → Along is w (ran.done ++ l ∷ []) from till
  along_line r ran plays =
      along_more is w ran.done l from mid till (along_kept was is w ran.done from mid plays.keeps ran.along)
      plays.in_line

  abbrev PlaysBehind : {T : Type 0} → Result T Halt → Ran was w ls first told from mid v (l ∷ left) → Type 0
  PlaysBehind r ran = Plays was is (after_lines w ran.done) u l told now mid till r

  pub behind : {T : Type 0} (r : Result T Halt) (ran : Ran was w ls first told from mid v (l ∷ left))
      → Plays was is v u l told now mid till r → PlaysBehind r ran
  behind r ran plays = subst (λ (x : World). Plays was is x u l told now mid till r) ran.world_is plays

  goes_on : {T : Type 0} (x : T) (ran : Ran was w ls first told from mid v (l ∷ left)) → PlaysBehind (Ok x) ran
      → Ran is w ls first now from till u left
  goes_on x ran plays = record {
    done = ran.done ++ l ∷ [];
    lines_are = append_assoc ran.done (l ∷ []) left ∙ ran.lines_are;
    told = subst (λ (bs : List ℕ). Appends first now bs) (sym (report_more w ran.done l))
        (appends_more first told now (report_from w ran.done) (text_behind w ran.done l) ran.told (plays.all x refl));
    world_is = plays.world_is tt ∙ sym (after_more w ran.done l);
    along = along_line (Ok x) ran plays;
    ends = plays.ends tt;
  }

  pub ran_more : {T : Type 0} (x : T) → Ran was w ls first told from mid v (l ∷ left)
      → Plays was is v u l told now mid till (Ok x) → Ran is w ls first now from till u left
  ran_more x ran plays = goes_on x ran (behind (Ok x) ran plays)

  ends : (T : Type 0) (e : Halt) (ran : Ran was w ls first told from mid v (l ∷ left)) → PlaysBehind {T = T} (Err e) ran
      → Halted e is w ls first now from till
  ends T e ran plays = record {
    done = ran.done;
    line = l;
    left = left;
    lines_are = ran.lines_are;
    part = plays.part;
    told = appends_more first told now (report_from w ran.done) (take plays.part (text_behind w ran.done l)) ran.told
        plays.told;
    none = plays.none e refl;
    along = along_line (Err e) ran plays;
    ends = λ done.
        let so : IsDone {T = T} (Err e) = done_alike Halt T e done in
        subst (λ (x : World). At is till (StandsFor 0 (state_in x.host)))
        (plays.world_is so ∙ sym (after_more w ran.done l)) (plays.ends so);
  }

  pub halts : (T : Type 0) (e : Halt) → Ran was w ls first told from mid v (l ∷ left)
      → Plays {T = T} was is v u l told now mid till (Err e) → Halted e is w ls first now from till
  halts T e ran plays = ends T e ran (behind (Err e) ran plays)

-- nothing was done yet
pub begins : (images : Images) (w : World) (ls : List (ℕ × Line)) (told : Option (List ℕ)) (from : ℕ)
    → At images from (StandsFor 0 (state_in w.host)) → Ran images w ls told told from from w ls
begins images w ls told from at = record {
  done = [];
  lines_are = refl;
  told = appends_none told;
  world_is = refl;
  along = refl;
  ends = at;
}
