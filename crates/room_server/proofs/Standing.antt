-- Which state each image of a store's disk stands for, where nothing is left to a stop.
use Rattle.std.proofs.Common.{◌≡◌, inl, inr, ℕ, ◌+◌, ◌<◌, List, true, false, refl, sym, ◌∙◌, ap, subst, arith}
use Rattle.std.specs.Prelude.{nat_lt, Option, Some, None}
use Rattle.std.proofs.lemmas.Bool.Decides.{nat_tests}
use Rattle.room_disk.specs.Model.{Reads, Only}
use Rattle.room_log.specs.Log.{State}
use Rattle.room_bytes.specs.declared.entries.Format.{Format}
use Rattle.room_bytes.specs.declared.entries.Format.TheVariants.{Two}
use Rattle.room_journal.specs.Files.{Held, Holds, Says, Opens, Closed, Headless, chosen, reading, says}
use Rattle.room_journal.specs.Rest.{Place}
use Rattle.room_replay.specs.Files.{held_of, files_read, StandsFor}
use Rattle.room_store.specs.Consistent.{IsBelow, AreTwo, Settled, IsWritten, AreWritten}
use Rattle.room_store.specs.Stored.{Stored, IsOnDisk, held_state}

less : (k g : ℕ) → k < g → nat_lt k g ≡ true
less k g lt = grind (arith, nat_tests)

not_less : (g k : ℕ) → k < g → nat_lt g k ≡ false
not_less g k lt = grind (arith, nat_tests)

low : (base g : ℕ) (f : Format) (h : Held) (y : Says) → IsBelow g y
    → chosen base (Opens f g (Some h)) y ≡ Holds base f g h
low base g f h Closed below = refl
low base g f h Headless below = absurd below
low base g f h (Opens e k i) lt = rw (less k g lt, not_less g k lt) refl

high : (base g : ℕ) (f : Format) (h : Held) (x : Says) → IsBelow g x
    → chosen base x (Opens f g (Some h)) ≡ Holds (base + 1) f g h
high base g f h Closed below = refl
high base g f h Headless below = absurd below
high base g f h (Opens e k i) lt = rw (less k g lt) refl

module _ (base g : ℕ) (f : Format) (h : Held) (image : Reads) where
  counts : (file other : ℕ) → AreTwo base file other → says (image file) ≡ Opens f g (Some h)
      → IsBelow g (says (image other)) → reading base (image base) (image (base + 1)) ≡ Holds file f g h
  counts file other (inl two) is below =
      let at : says (image base) ≡ Opens f g (Some h) =
      subst (λ (n : ℕ). says (image n) ≡ Opens f g (Some h)) two.0 is
      in
      let under : IsBelow g (says (image (base + 1))) =
      subst (λ (n : ℕ). IsBelow g (says (image n))) two.1 below
      in
      ap (λ (x : Says). chosen base x (says (image (base + 1)))) at
      ∙ low base g f h (says (image (base + 1))) under
      ∙ ap (λ (n : ℕ). Holds n f g h) (sym two.0)
  counts file other (inr two) is below =
      let at : says (image (base + 1)) ≡ Opens f g (Some h) =
      subst (λ (n : ℕ). says (image n) ≡ Opens f g (Some h)) two.0 is
      in
      let under : IsBelow g (says (image base)) = subst (λ (n : ℕ). IsBelow g (says (image n))) two.1 below in
      ap (λ (y : Says). chosen base (says (image base)) y) at
      ∙ high base g f h (says (image base)) under
      ∙ ap (λ (n : ℕ). Holds n f g h) (sym two.0)

turned : (base file other : ℕ) → AreTwo base file other → AreTwo base other file
turned base file other (inl two) = inr (two.1, two.0)
turned base file other (inr two) = inl (two.1, two.0)

only_other : (base file other : ℕ) (seen : Reads) (now : ℕ → List ℕ → Type 0) → AreTwo base file other
    → Only (seen base) (now base) → Only (seen (base + 1)) (now (base + 1)) → Only (seen other) (now other)
only_other base file other seen now (inl two) first second =
    subst (λ (f : ℕ). Only (seen f) (now f)) (sym two.1) second
only_other base file other seen now (inr two) first second =
    subst (λ (f : ℕ). Only (seen f) (now f)) (sym two.1) first

standing : (f : Format) (p : Place) (s : State) (seen : Reads) (now : ℕ → List ℕ → Type 0) → Settled f seen now p s
    → (image : Reads) → ((n : ℕ) → now n (image n)) → StandsFor p.base s image
standing f p s seen now st image each =
    let h = st.holds in
    let back = turned p.base p.file h.other h.two in
    let here : image p.file ≡ seen p.file =
    only_other p.base h.other p.file seen now back st.first st.second (image p.file) (each p.file)
    in
    let there : image h.other ≡ seen h.other =
    only_other p.base p.file h.other seen now h.two st.first st.second (image h.other) (each h.other)
    in
    let is = ap says here ∙ h.is in
    let below = subst (λ (l : List ℕ). IsBelow p.generation (says l)) (sym there) h.below in
    let at = counts p.base p.generation f (held_of h.snapshot h.bodies None) image p.file h.other h.two is below in
    inl (ap files_read at ∙ h.state_is)

-- the files of a store that isn't broken hold a room in the format that is written
pub written_state : (s : Stored) (seen : Reads) (now : ℕ → List ℕ → Type 0) → IsOnDisk seen now s → s.broken ≡ None
    → AreWritten s.place.base seen
written_state s seen now on whole =
    let p = s.place in
    let h = (on whole).holds in
    subst IsWritten
    (sym (counts p.base p.generation Two (held_of h.snapshot h.bodies None) seen p.file h.other h.two h.is h.below)) tt

-- a store that isn't broken, and of which no group is open
pub holds_state : (s : Stored) (seen : Reads) (now : ℕ → List ℕ → Type 0) → IsOnDisk seen now s → s.broken ≡ None
    → s.before ≡ None → (image : Reads) → ((n : ℕ) → now n (image n)) → StandsFor s.place.base s.state image
holds_state s seen now on whole closed image each =
    let shown = λ (o : Option State). StandsFor s.place.base (held_state o s.state) image in
    subst shown closed (standing Two s.place (held_state s.before s.state) seen now (on whole) image each)
