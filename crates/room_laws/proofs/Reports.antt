-- The report of lines after others.
use Rattle.std.proofs.Common.{ℕ, List, [], ◌∷◌, ◌++◌, refl, sym, ap, ◌∙◌, append_assoc}
use Rattle.room_model.specs.World.{step}
use Rattle.room_model.specs.Run.{report_from, text_of_lines}
use Rattle.room_laws.specs.Reports.{ReportInOrder, world_after}

pub report_in_order : ReportInOrder
report_in_order w [] ms = refl
report_in_order w (l ∷ ls) ms =
    ap (λ (bs : List ℕ). text_of_lines (step w l.0 l.1).lines ++ bs) (report_in_order (step w l.0 l.1).world ls ms)
    ∙ sym (append_assoc (text_of_lines (step w l.0 l.1).lines) (report_from (step w l.0 l.1).world ls) (report_from (world_after (step w l.0 l.1).world ls) ms))
