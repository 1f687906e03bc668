-- The next line of those that are left.
use Rattle.std.proofs.Common.{◌≡◌, ◌<◌, ◌+◌, ◌≤◌, ℕ, List, [], ◌∷◌, length, get_or, drop, Option, Some, Ok, Err}
use Rattle.std.proofs.Common.{sym, ap, ◌∙◌, subst}
use Rattle.std.proofs.lemmas.List.{drop_all, drop_more}
use Rattle.room_disk.specs.Model.{Images}
use Rattle.room_model.specs.Lines as model
use Rattle.room_model.specs.World.{World}
use Rattle.room_moves.specs.Reading.{AllRead}
use Rattle.room_script.specs.Forms.{AreScheduled, lines_of}
use Rattle.room_script.specs.Told.{line_of}
use Rattle.room_script.specs.declared.lines.Line.{Line}
use Rattle.room_run.specs.Running.{Plays, Ran, Halted}
use Rattle.room_run.specs.declared.halt.Halt.{Halt}
use Rattle.room_run.proofs.Played.{ran_more, halts}
use Rattle.room_run.proofs.Schedules.{First, first_line}

-- what is left, from a place on
pub left_at : (es : List (ℕ × Line)) (i : ℕ) (e : ℕ × Line) → i < length es → e ≡ get_or es i e
    → drop i es ≡ e ∷ drop (i + 1) es
left_at es i e within is = drop_more es i e within ∙ ap (λ (x : ℕ × Line). x ∷ drop (i + 1) es) (sym is)

module _ (e : ℕ × Line) (left rest : List (ℕ × Line)) (is : left ≡ e ∷ rest) (scheduled : AreScheduled left) where
  first : First e rest
  first = first_line e rest (subst AreScheduled is scheduled)

  lines_left : lines_of left ≡ (e.0, first.line) ∷ lines_of rest
  lines_left = ap lines_of is ∙ first.lines_are

  -- one line more was done
  pub ran_next : {T : Type 0} (was so : Images) (w : World) (ls : List (ℕ × model.Line))
      (start told now : Option (List ℕ)) (from mid till : ℕ) (v u : World) (x : T)
      → Ran was w ls start told from mid v (lines_of left)
      → ((l : model.Line) → line_of e.1 ≡ Some l → Plays was so v u (e.0, l) told now mid till (Ok x))
      → Ran so w ls start now from till u (lines_of rest)
  ran_next was so w ls start told now from mid till v u x ran plays =
      ran_more was so w ls start told now from mid till v u (e.0, first.line) (lines_of rest) x
      (subst (λ (ms : List (ℕ × model.Line)). Ran was w ls start told from mid v ms) lines_left ran)
      (plays first.line first.is)

  -- or it ended the run
  pub halts_next : (T : Type 0) (was so : Images) (w : World) (ls : List (ℕ × model.Line))
      (start told now : Option (List ℕ)) (from mid till : ℕ) (v u : World) (h : Halt)
      → Ran was w ls start told from mid v (lines_of left)
      → ((l : model.Line) → line_of e.1 ≡ Some l → Plays {T = T} was so v u (e.0, l) told now mid till (Err h))
      → Halted h so w ls start now from till
  halts_next T was so w ls start told now from mid till v u h ran plays =
      halts was so w ls start told now from mid till v u (e.0, first.line) (lines_of rest) T h
      (subst (λ (ms : List (ℕ × model.Line)). Ran was w ls start told from mid v ms) lines_left ran)
      (plays first.line first.is)

  -- what is sent behind it is read as it was meant
  pub reads_next : {T : Type 0} (was so : Images) (told now : Option (List ℕ)) (mid till : ℕ) (v u : World) (x : T)
      → AllRead v (lines_of left)
      → ((l : model.Line) → line_of e.1 ≡ Some l → Plays was so v u (e.0, l) told now mid till (Ok x))
      → AllRead u (lines_of rest)
  reads_next was so told now mid till v u x read plays =
      let both = subst (λ (ms : List (ℕ × model.Line)). AllRead v ms) lines_left read in
      subst (λ (y : World). AllRead y (lines_of rest)) (sym ((plays first.line first.is).world_is tt)) both.1

-- nothing is left
pub none_left : (images : Images) (w : World) (ls : List (ℕ × model.Line)) (told now : Option (List ℕ)) (from till : ℕ)
    (v : World) (es : List (ℕ × Line)) (i : ℕ) → length es ≤ i
    → Ran images w ls told now from till v (lines_of (drop i es))
    → Ran images w ls told now from till v []
none_left images w ls told now from till v es i past ran =
    subst (λ (xs : List (ℕ × Line)). Ran images w ls told now from till v (lines_of xs)) (drop_all i es past) ran
