-- The samples, by their definitions.
use Rattle.std.proofs.Common.{◌≡◌, ℕ, cond, refl, sym, subst}
use Rattle.std.specs.Prelude.{Option}
use Rattle.std.specs.Fmt.{digits}
use Rattle.room_hub.specs.declared.hub.Event.TheVariants.{End}
use Rattle.room_script.specs.Grammar.{Takes}
use Rattle.room_msg.specs.Frame.{server_frame_in}
use Rattle.room_model.specs.Receive.{frame}
use Rattle.room_playing.specs.Scripted.{Client, Over, Awaits, Asking, given, goes_on, is_present, line, loses}
use Rattle.room_playing.specs.Scripted.{received_on}
use Rattle.room_playing.specs.Samples.{Samples, taking, took_none}

none_left : (c : Client) → line c 2 (Takes 0 3) ≡ Over (took_none c)
unfolding digits
none_left c = refl

no_tries : (c : Client) → line c 2 (Takes 3 0) ≡ Over (took_none c)
unfolding digits
no_tries c = refl

ended : (c : Client) → given c (taking 2 9) End ≡ Over (took_none c)
unfolding digits
ended c = refl

pub cases : Samples
cases = record {
  no_frame = none_left;
  no_try = no_tries;
  asks = λ c. refl;
  quiet = λ c. refl;
  opened = λ c. refl;
  other_frame = λ c text e.
      subst (λ (o : Option ℕ). cond (is_present 2 o)
      (received_on c (taking 2 9) (frame c.account (server_frame_in text))) (goes_on c (taking 2 9))
      ≡ Awaits c (Asking (taking 2 9))) (sym e) refl;
  other_end = λ c e. subst (λ (o : Option ℕ). cond (is_present 1 o) (goes_on (loses c) (taking 2 9))
      (goes_on c (taking 2 9)) ≡ Awaits c (Asking (taking 2 9))) (sym e) refl;
  its_end = λ c e. subst (λ (o : Option ℕ). cond (is_present 1 o) (goes_on (loses c) (taking 2 9))
      (goes_on c (taking 2 9)) ≡ Awaits (loses c) (Asking (taking 2 9))) (sym e) refl;
  end = ended;
  dials = λ c. refl;
  hello = λ c. refl;
  loss = λ c f. refl;
  on = λ c f. refl;
  taken_on = λ c f. refl;
  fails = λ p. refl;
  not_asked = λ c f h. h;
}
