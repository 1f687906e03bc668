-- The samples, by their definitions.
use Rattle.std.proofs.Common.{◌≡◌, ◌<◌, ◌||◌, ◌==◌, nat_le, ℕ, Bool, true, false, List, [], ◌∷◌, ◌++◌, length, refl}
use Rattle.std.proofs.Common.{sym, ap, subst, arith}
use Rattle.std.specs.Prelude.{codes, Option, Some, Ok}
use Rattle.std.specs.Fmt.{digits}
use Rattle.std.specs.FinMap.{get}
use Rattle.std.proofs.lemmas.Bool.Decides.{nat_tests}
use Rattle.room_hub.specs.declared.hub.Deed.{Deed}
use Rattle.room_hub.specs.declared.hub.Deed.TheVariants.{Sent, Closed, Dialled}
use Rattle.room_msg.specs.declared.messages.ClientFrame.TheVariants.{Ping}
use Rattle.room_model.specs.Server.{Server, Link, Pong, serve_from}
use Rattle.room_serving.specs.Serving.{Serving, end_lines, GoesOn, is_full, treat, with_lost}
use Rattle.room_serving.specs.Samples.{Samples}

pinged : (v : Server) (l : Link) (o : Option Link) → o ≡ Some l
    → (serve_from v 1 (Ok Ping) o).outs ++ [] ≡ (1, Pong) ∷ []
pinged v l o e = subst (λ (p : Option Link). (serve_from v 1 (Ok Ping) p).outs ++ [] ≡ (1, Pong) ∷ []) (sym e) refl

is_64 : (m : Serving) → length m.gathered ≡ 64 → is_full m ≡ true
is_64 m e = subst (λ n. (nat_le 64 n || m.left == 0) ≡ true) (sym e) refl

or_true : (b c : Bool) → c ≡ true → (b || c) ≡ true
or_true true c e = refl
or_true false c e = e

no_call : (m : Serving) → m.left ≡ 0 → is_full m ≡ true
no_call m e = or_true (nat_le 64 (length m.gathered)) (m.left == 0) (subst (λ n. (n == 0) ≡ true) (sym e) refl)

is_63 : (m : Serving) → length m.gathered ≡ 63 → 0 < m.left → is_full m ≡ false
is_63 m e p = subst (λ n. (nat_le 64 n || m.left == 0) ≡ false) (sym e) (grind (arith, nat_tests, p))

lost_as : (m : Serving) → m.lost ≡ [] → with_lost m.lost 1 ≡ 1 ∷ []
lost_as m e = ap (λ l. with_lost l 1) e

not_pong : Sent 1 (codes "ping") false ≡ Sent 1 (codes "pong") false → ⊥
not_pong e = absurd_text (ap second e)
  where
    second_of : List ℕ → ℕ
    second_of [] = 0
    second_of (b ∷ []) = 0
    second_of (b ∷ c ∷ bs) = c

    second : Deed → ℕ
    second (Sent k text lost) = second_of text
    second (Closed k code text lost) = 0
    second (Dialled k) = 0

    absurd_text : ◌≡◌ {A = ℕ} 105 111 → ⊥
    absurd_text h = omega (arith, h)

turns_line : end_lines 3 GoesOn ≡ codes "turns 3" ∷ []
unfolding digits
turns_line = refl

pub cases : Samples
cases = record {
  reaches = refl;
  passes = refl;
  below = refl;
  behind = refl;
  ping = λ v l e. pinged v l (get v.links 1) e;
  pong = refl;
  close = refl;
  quiet = λ m. refl;
  the_end = λ m. refl;
  fails = λ m. refl;
  full = is_64;
  last_call = no_call;
  room_left = is_63;
  between = refl;
  again = refl;
  on = λ m. refl;
  noted = λ m e. lost_as m e;
  treated = λ m e. ap (λ l. treat (record m { owed = length m.groups }) [] l) (lost_as m e);
  not_asked = λ m h. h;
  not_text = λ m h. not_pong h;
  turns = turns_line;
  no_line = refl;
  fault = refl;
}
