-- Lines with their moments one after the other, and one more behind them.
use Rattle.std.proofs.Common.{◌≡◌, ◌≤◌, ℕ, List, [], ◌∷◌, ◌++◌, refl, sym, ap, ◌∙◌, subst, arith}
use Rattle.std.proofs.Common.{append_assoc, append-nil}
use Rattle.std.proofs.Math.Nat.{le_trans}
use Rattle.room_disk.specs.Model.{Images, Keeps}
use Rattle.room_model.specs.Lines.{Line}
use Rattle.room_model.specs.Run.{report_from, text_of_lines}
use Rattle.room_model.specs.World.{World, step}
use Rattle.room_run.specs.Running.{Along, InLine, after_lines, text_behind}

pub along_later : (images : Images) (w : World) (ls : List (ℕ × Line)) (from till : ℕ) → Along images w ls from till
    → from ≤ till
along_later images w [] from till a = omega (arith, a)
along_later images w (l ∷ ls) from till a =
    le_trans a.1.later (along_later images (step w l.0 l.1).world ls a.0 till a.2)

-- what was up to a moment is still so

line_kept : (was is : Images) (w : World) (l : ℕ × Line) (from mid till : ℕ) → mid ≤ till → Keeps till was is
    → InLine was w l from mid → InLine is w l from mid
line_kept was is w l from mid till late keeps line = record {
  later = line.later;
  each = λ m image after before left. line.each m image after before
      (λ f. keeps.nothing_else m f (image f) (le_trans before late) (left f));
}

pub along_kept : (was is : Images) (w : World) (ls : List (ℕ × Line)) (from till : ℕ) → Keeps till was is
    → Along was w ls from till → Along is w ls from till
along_kept was is w [] from till keeps a = a
along_kept was is w (l ∷ ls) from till keeps a =
    let next = (step w l.0 l.1).world in (
      a.0,
      line_kept was is w l from a.0 till (along_later was next ls a.0 till a.2) keeps a.1,
      along_kept was is next ls a.0 till keeps a.2,
    )

-- one line more

pub along_more : (images : Images) (w : World) (done : List (ℕ × Line)) (l : ℕ × Line) (from mid till : ℕ)
    → Along images w done from mid → InLine images (after_lines w done) l mid till
    → Along images w (done ++ l ∷ []) from till
along_more images w [] l from mid till a line = (till, subst (λ (n : ℕ). InLine images w l n till) (sym a) line, refl)
along_more images w (d ∷ done) l from mid till a line =
    (a.0, a.1, along_more images (step w d.0 d.1).world done l a.0 mid till a.2 line)

pub after_more : (w : World) (done : List (ℕ × Line)) (l : ℕ × Line)
    → after_lines w (done ++ l ∷ []) ≡ (step (after_lines w done) l.0 l.1).world
after_more w [] l = refl
after_more w (d ∷ done) l = after_more (step w d.0 d.1).world done l

pub report_more : (w : World) (done : List (ℕ × Line)) (l : ℕ × Line)
    → report_from w (done ++ l ∷ []) ≡ report_from w done ++ text_behind w done l
report_more w [] l = append-nil (text_of_lines (step w l.0 l.1).lines)
report_more w (d ∷ done) l =
    let text = text_of_lines (step w d.0 d.1).lines in
    let next = (step w d.0 d.1).world in
    ap (λ (bs : List ℕ). text ++ bs) (report_more next done l)
    ∙ sym (append_assoc text (report_from next done) (text_behind next done l))
