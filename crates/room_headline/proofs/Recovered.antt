-- Each image stands for a log, at each moment of a run over lines.
use Rattle.std.proofs.Common.{◌≡◌, ◌≤◌, ◌<◌, ℕ, zero, suc, List, [], ◌∷◌, ◌++◌, take, drop}
use Rattle.std.proofs.Common.{Option, append-nil, append_assoc, refl, sym, ap, ◌∙◌, subst, arith, ⊎_elim}
use Rattle.std.proofs.lemmas.Bool.{cases_lt}
use Rattle.room_disk.specs.Model.{Reads, Images}
use Rattle.room_log.specs.Log.{State, Entry, after, state_after}
use Rattle.room_log.specs.Follows.{IsValidLog, IsValidState}
use Rattle.room_model.specs.Lines.{Line}
use Rattle.room_model.specs.World.{World, opening, state_in, step}
use Rattle.room_model.specs.Run.{run, opened}
use Rattle.room_laws.specs.Validity.{AreLines}
use Rattle.room_laws.proofs.SoundLines.{state_after-append}
use Rattle.room_moves.specs.Moments.{OfFirst}
use Rattle.room_replay.specs.Files.{StandsFor}
use Rattle.room_world.specs.Trying.{tries}
use Rattle.room_run.specs.Running.{Along, At, Broken, InLine, Replayed, after_lines}
use Rattle.room_run.specs.declared.halt.Halt.{Halt}
use Rattle.room_headline.specs.Headline.{Headline}
use Rattle.room_headline.specs.Recovering.{Found}
use Rattle.room_headline.proofs.Everywhere.{everywhere}

after_one : (w : World) (ls : List (ℕ × Line)) (l : ℕ × Line)
    → after_lines w (ls ++ l ∷ []) ≡ (step (after_lines w ls) l.0 l.1).world
after_one w [] l = refl
after_one w (x ∷ xs) l = after_one (step w x.0 x.1).world xs l

both_parts : (es : List Entry) (n : ℕ) → take n es ++ drop n es ≡ es
both_parts [] zero = refl
both_parts [] (suc n) = refl
both_parts (e ∷ es) zero = refl
both_parts (e ∷ es) (suc n) = ap (λ xs. e ∷ xs) (both_parts es n)

valid_first : (s : State) (es fs : List Entry) → IsValidLog s (es ++ fs) → IsValidLog s es
valid_first s [] fs h = tt
valid_first s (e ∷ es) fs h = (h.0, valid_first (after s e) es fs h.1)

-- the line in which the moment lies

pub record Within (w : World) (done ls : List (ℕ × Line)) (image : Reads) : Type 0 where
  pub before : List (ℕ × Line)
  pub line : ℕ × Line
  pub left : List (ℕ × Line)
  pub lines_are : before ++ line ∷ left ≡ done ++ ls
  pub first : OfFirst (StandsFor 0) (state_in (after_lines w before).host)
      (tries (after_lines w before) line.0 line.1) image

module _ (images : Images) (w : World) (till m : ℕ) (image : Reads) (sooner : m ≤ till)
    (each : (f : ℕ) → images m f (image f)) where
  here : (done : List (ℕ × Line)) (l : ℕ × Line) (ls : List (ℕ × Line)) (from mid : ℕ)
      → InLine images (after_lines w done) l from mid → from ≤ m → m ≤ mid → Within w done (l ∷ ls) image
  here done l ls from mid h later less = record {
    before = done;
    line = l;
    left = ls;
    lines_are = refl;
    first = h.each m image later less each;
  }

  pub within : (done : List (ℕ × Line)) (l : ℕ × Line) (ls : List (ℕ × Line)) (from : ℕ)
      → Along images (after_lines w done) (l ∷ ls) from till → from ≤ m → Within w done (l ∷ ls) image
  within done l [] from along later = here done l [] from along.0 along.1 later (omega (arith, along.2, sooner))
  within done l (x ∷ xs) from along later = ⊎_elim
      (λ (less : along.0 < m).
      let next : Along images (after_lines w (done ++ l ∷ [])) (x ∷ xs) along.0 till =
      subst (λ (v : World). Along images v (x ∷ xs) along.0 till) (sym (after_one w done l)) along.2 in
      let h = within (done ++ l ∷ []) x xs along.0 next (omega (arith, less)) in
      record {
        before = h.before;
        line = h.line;
        left = h.left;
        lines_are = h.lines_are ∙ append_assoc done (l ∷ []) (x ∷ xs);
        first = h.first;
      })
      (λ (more : m ≤ along.0). here done l (x ∷ xs) from along.0 along.1 later more)
      (cases_lt along.0 m)

found : (s : State) (ls : List (ℕ × Line)) (image : Reads) → IsValidState s → AreLines ls
    → Within (opening s) [] ls image → Found s ls image
found s ls image valid are h =
    let all : Headline s ls = everywhere s ls valid are in
    let w = after_lines (opening s) h.before in
    let log = (run (opened s) h.before).log in
    let tried = tries w h.line.0 h.line.1 in
    let adds = all.adds h.before h.left h.line h.lines_are in
    let more = take h.first.count tried in
    let rest = drop h.first.count tried in
    let parts : more ++ rest ≡ tried = both_parts tried h.first.count in
    let follow : IsValidLog s ((log ++ more) ++ rest) =
    subst (IsValidLog s) (ap (λ es. log ++ es) (sym adds.tries ∙ sym parts) ∙ sym (append_assoc log more rest))
    adds.valid in
    let leads : state_after (state_in w.host) more ≡ state_after s (log ++ more)
    = ap (λ z. state_after z more) (all.holds h.before (h.line ∷ h.left) h.lines_are).state
    ∙ sym (state_after-append s log more) in
    record {
      done = h.before;
      left = h.line ∷ h.left;
      lines_are = h.lines_are;
      more = more;
      rest = rest;
      part = parts;
      valid = valid_first s (log ++ more) rest follow;
      stands = subst (λ z. StandsFor 0 z image) leads h.first.stands;
    }

at_each : (s : State) (ls : List (ℕ × Line)) (images : Images) (from till m : ℕ) (image : Reads)
    → IsValidState s → AreLines ls → Along images (opening s) ls from till → (ls ≡ [] → At images till (StandsFor 0 s))
    → from ≤ m → m ≤ till → ((f : ℕ) → images m f (image f)) → Found s ls image
at_each s [] images from till m image valid are along none later sooner each =
    let now : m ≡ till = omega (arith, along, later, sooner) in
    record {
      done = [];
      left = [];
      lines_are = refl;
      more = [];
      rest = [];
      part = refl;
      valid = tt;
      stands = none refl image (λ f. subst (λ n. images n f (image f)) now (each f));
    }
at_each s (l ∷ ls) images from till m image valid are along none later sooner each =
    found s (l ∷ ls) image valid are (within images (opening s) till m image sooner each [] l ls from along later)

pub each_is_found : {D : Type 0} (images : D → Images) (s : State) (ls : List (ℕ × Line)) (disk : D) (from till m : ℕ)
    (image : Reads) → IsValidState s → AreLines ls → Along (images disk) (opening s) ls from till
    → (ls ≡ [] → At (images disk) till (StandsFor 0 s)) → from ≤ m → m ≤ till
    → ((f : ℕ) → images disk m f (image f)) → Found s ls image
each_is_found images s ls disk = at_each s ls (images disk)

-- a replay that came to its end

ended : (s : State) (ls : List (ℕ × Line)) (images : Images) (held now : Option (List ℕ)) (from till m : ℕ)
    (image : Reads) → IsValidState s → AreLines ls → (h : Replayed images s ls held now from till) → h.opened ≤ m
    → m ≤ till → ((f : ℕ) → images m f (image f)) → Found s ls image
ended s ls images held now from till m image valid are h later sooner each =
    let ran = h.ran in
    let all : ran.done ≡ ls = sym (append-nil ran.done) ∙ ran.lines_are in
    let none : ls ≡ [] → At images till (StandsFor 0 s) =
    λ (e : ls ≡ []).
    subst (λ (z : State). At images till (StandsFor 0 z))
    (ap (λ (v : World). state_in v.host) (ran.world_is ∙ ap (after_lines (opening s)) (all ∙ e))) ran.ends in
    at_each s ls images h.opened till m image valid are
    (subst (λ (ds : List (ℕ × Line)). Along images (opening s) ds h.opened till) all ran.along) none later sooner each

pub replay_is_found : {D : Type 0} (images : D → Images) (s : State) (ls : List (ℕ × Line)) (disk : D)
    (held now : Option (List ℕ)) (from till m : ℕ) (image : Reads) → IsValidState s → AreLines ls
    → (h : Replayed (images disk) s ls held now from till) → h.opened ≤ m → m ≤ till
    → ((f : ℕ) → images disk m f (image f)) → Found s ls image
replay_is_found images s ls disk = ended s ls (images disk)

-- and one that ended within a line

wider : (w : World) (ls more all : List (ℕ × Line)) (image : Reads) → ls ++ more ≡ all → Within w [] ls image
    → Within w [] all image
wider w ls more all image is h = record {
  before = h.before;
  line = h.line;
  left = h.left ++ more;
  lines_are = sym (append_assoc h.before (h.line ∷ h.left) more) ∙ ap (λ xs. xs ++ more) h.lines_are ∙ is;
  first = h.first;
}

in_last : (images : Images) (w : World) (till m : ℕ) (image : Reads) → m ≤ till → ((f : ℕ) → images m f (image f))
    → (done : List (ℕ × Line)) (l : ℕ × Line) (from : ℕ) → Along images w (done ++ l ∷ []) from till → from ≤ m
    → Within w [] (done ++ l ∷ []) image
in_last images w till m image sooner each [] l from along later =
    within images w till m image sooner each [] l [] from along later
in_last images w till m image sooner each (d ∷ ds) l from along later =
    within images w till m image sooner each [] d (ds ++ l ∷ []) from along later

broke : (fault : Halt) (s : State) (ls : List (ℕ × Line)) (images : Images) (held now : Option (List ℕ))
    (from till m : ℕ) (image : Reads) → IsValidState s → AreLines ls
    → (h : Broken fault images s ls held now from till) → h.opened ≤ m → m ≤ till
    → ((f : ℕ) → images m f (image f)) → Found s ls image
broke fault s ls images held now from till m image valid are h later sooner each =
    let last = h.halted in
    let all : (last.done ++ last.line ∷ []) ++ last.left ≡ ls =
    append_assoc last.done (last.line ∷ []) last.left ∙ last.lines_are in
    found s ls image valid are
    (wider (opening s) (last.done ++ last.line ∷ []) last.left ls image all
    (in_last images (opening s) till m image sooner each last.done last.line h.opened last.along later))

pub broken_is_found : {D : Type 0} (images : D → Images) (fault : Halt) (s : State) (ls : List (ℕ × Line)) (disk : D)
    (held now : Option (List ℕ)) (from till m : ℕ) (image : Reads) → IsValidState s → AreLines ls
    → (h : Broken fault (images disk) s ls held now from till) → h.opened ≤ m → m ≤ till
    → ((f : ℕ) → images disk m f (image f)) → Found s ls image
broken_is_found images fault s ls disk = broke fault s ls (images disk)
