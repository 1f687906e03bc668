-- A drain is as the lines that it stands for.
use Rattle.std.proofs.Common.{◌≡◌, ℕ, zero, suc, [], ◌∷◌, refl, sym, ap, ◌∙◌, append-nil, append_assoc}
use Rattle.std.specs.Prelude.{Option, Some, None}
use Rattle.std.specs.FinMap.{entries}
use Rattle.room_model.specs.Lines as lines
use Rattle.room_model.specs.Lines.{Line}
use Rattle.room_model.specs.World
use Rattle.room_model.specs.World.{Stepped}
use Rattle.room_model.specs.Run.{Run, run, line, with_step}
use Rattle.room_laws.specs.Moves.{move, move_lines, moves, single, singly, where_some, RunsSingly}
use Rattle.room_laws.proofs.UndoSound.{run-append}

-- one step behind another
step_after : (r : Run) (a b : Stepped) → with_step (with_step r a) b ≡ with_step r (World.then_stepped a b)
step_after r a b = rw (append_assoc r.log a.entries b.entries, append_assoc r.issued a.issues b.issues, append_assoc r.given a.given b.given) refl

nothing_first : (r : Run) → with_step r (World.quiet r.world) ≡ r
nothing_first r = rw (append-nil r.log, append-nil r.issued, append-nil r.given) refl

-- where nothing waits a drain does nothing
still : (w : World.World) (number n : ℕ) → World.drain_next w number ≡ None → World.drain w number n ≡ World.quiet w
unfolding World.drain
still w number zero e = refl
still w number (suc n) e = ap (λ o. World.then_stepped (World.or_quiet w o) (World.drain (World.or_quiet w o).world number n)) e ∙ still w number n e

module _ (r : Run) (number n : ℕ) (rest : (z : Run) → run z (move_lines number (moves n z.world number)) ≡ with_step z (World.drain z.world number n)) where
  next_is : (inbound outbound : Option ℕ) → World.least World.has_inbound (entries r.world.conns) ≡ inbound → World.least World.has_outbound (entries r.world.conns) ≡ outbound →
      run r (move_lines number (where_some (move inbound outbound) (λ m. m ∷ moves n (World.conn_line r.world number m.0 m.1).world number)))
      ≡ with_step r (World.then_stepped (World.or_quiet r.world (World.drain_step r.world number inbound outbound)) (World.drain (World.or_quiet r.world (World.drain_step r.world number inbound outbound)).world number n))
  next_is (Some k) outbound e f =
      let out = World.server_receives r.world k in
      rest (with_step r out) ∙ step_after r out (World.drain out.world number n)
  next_is None (Some k) e f =
      let out = World.peer_receives r.world number k in
      rest (with_step r out) ∙ step_after r out (World.drain out.world number n)
  next_is None None e f =
      let none : World.drain_next r.world number ≡ None = ap (λ o. World.drain_step r.world number o (World.least World.has_outbound (entries r.world.conns))) e ∙ ap (World.drain_step r.world number None) f in
      sym (nothing_first r) ∙ ap (with_step r) (sym (still r.world number n none))

drained : (number n : ℕ) (r : Run) → run r (move_lines number (moves n r.world number)) ≡ line r number (lines.Drain n)
unfolding World.drain
drained number zero r = sym (nothing_first r)
drained number (suc n) r = next_is r number n (drained number n) (World.least World.has_inbound (entries r.world.conns)) (World.least World.has_outbound (entries r.world.conns)) refl refl

single_is : (r : Run) (number : ℕ) (l : Line) → run r (single r.world number l) ≡ line r number l
single_is r number (lines.OfClient c call) = refl
single_is r number (lines.AsksClient c question) = refl
single_is r number (lines.OfConnection k traffic) = refl
single_is r number (lines.OfServer service) = refl
single_is r number (lines.Drain n) = drained number n r
single_is r number lines.Link = refl

pub runs_singly : RunsSingly
runs_singly r [] = refl
runs_singly r (l ∷ ls) = run-append (single r.world l.0 l.1) (singly (World.step r.world l.0 l.1).world ls) r
    ∙ ap (λ z. run z (singly (World.step r.world l.0 l.1).world ls)) (single_is r l.0 l.1)
    ∙ runs_singly (line r l.0 l.1) ls
