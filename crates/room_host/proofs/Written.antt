-- Files that hold a state in the format that is written, beyond any stop: each image of them holds a room so.
use Rattle.std.proofs.Common.{◌≡◌, inl, inr, ℕ, ◌+◌, ◌<◌, List, true, false, refl, sym, ◌∙◌, ap, subst, arith}
use Rattle.std.specs.Prelude.{nat_lt, Some, None}
use Rattle.std.proofs.lemmas.Bool.Decides.{nat_tests}
use Rattle.room_disk.specs.Model.{Reads, Only}
use Rattle.room_log.specs.Log.{State}
use Rattle.room_bytes.specs.declared.entries.Format.TheVariants.{Two}
use Rattle.room_journal.specs.Files.{Held, Holds, Says, Opens, Closed, Headless, chosen, reading, says}
use Rattle.room_journal.specs.Rest.{Place}
use Rattle.room_replay.specs.Files.{held_of}
use Rattle.room_store.specs.Consistent.{IsBelow, AreTwo, Settled, IsWritten, AreWritten}

less : (k g : ℕ) → k < g → nat_lt k g ≡ true
less k g lt = grind (arith, nat_tests)

not_less : (g k : ℕ) → k < g → nat_lt g k ≡ false
not_less g k lt = grind (arith, nat_tests)

low : (base g : ℕ) (h : Held) (y : Says) → IsBelow g y → chosen base (Opens Two g (Some h)) y ≡ Holds base Two g h
low base g h Closed below = refl
low base g h Headless below = absurd below
low base g h (Opens e k i) lt = rw (less k g lt, not_less g k lt) refl

high : (base g : ℕ) (h : Held) (x : Says) → IsBelow g x
    → chosen base x (Opens Two g (Some h)) ≡ Holds (base + 1) Two g h
high base g h Closed below = refl
high base g h Headless below = absurd below
high base g h (Opens e k i) lt = rw (less k g lt) refl

counts : (base g : ℕ) (h : Held) (image : Reads) (file other : ℕ) → AreTwo base file other
    → says (image file) ≡ Opens Two g (Some h) → IsBelow g (says (image other)) → AreWritten base image
counts base g h image file other (inl two) is below =
    let at : says (image base) ≡ Opens Two g (Some h) =
    subst (λ (n : ℕ). says (image n) ≡ Opens Two g (Some h)) two.0 is
    in
    let under : IsBelow g (says (image (base + 1))) = subst (λ (n : ℕ). IsBelow g (says (image n))) two.1 below in
    subst IsWritten
    (sym
    (ap (λ (x : Says). chosen base x (says (image (base + 1)))) at ∙ low base g h (says (image (base + 1))) under))
    tt
counts base g h image file other (inr two) is below =
    let at : says (image (base + 1)) ≡ Opens Two g (Some h) =
    subst (λ (n : ℕ). says (image n) ≡ Opens Two g (Some h)) two.0 is
    in
    let under : IsBelow g (says (image base)) = subst (λ (n : ℕ). IsBelow g (says (image n))) two.1 below in
    subst IsWritten
    (sym (ap (λ (y : Says). chosen base (says (image base)) y) at ∙ high base g h (says (image base)) under)) tt

only_file : (base file other : ℕ) (seen : Reads) (now : ℕ → List ℕ → Type 0) → AreTwo base file other
    → Only (seen base) (now base) → Only (seen (base + 1)) (now (base + 1))
    → Only (seen file) (now file) × Only (seen other) (now other)
only_file base file other seen now (inl two) first second = (
  subst (λ (f : ℕ). Only (seen f) (now f)) (sym two.0) first,
  subst (λ (f : ℕ). Only (seen f) (now f)) (sym two.1) second,
)
only_file base file other seen now (inr two) first second = (
  subst (λ (f : ℕ). Only (seen f) (now f)) (sym two.0) second,
  subst (λ (f : ℕ). Only (seen f) (now f)) (sym two.1) first,
)

pub settled_written : (p : Place) (s : State) (seen : Reads) (now : ℕ → List ℕ → Type 0) → Settled Two seen now p s
    → (image : Reads) → ((n : ℕ) → now n (image n)) → AreWritten p.base image
settled_written p s seen now st image each =
    let h = st.holds in
    let only = only_file p.base p.file h.other seen now h.two st.first st.second in
    let here : image p.file ≡ seen p.file = only.0 (image p.file) (each p.file) in
    let there : image h.other ≡ seen h.other = only.1 (image h.other) (each h.other) in
    counts p.base p.generation (held_of h.snapshot h.bodies None) image p.file h.other h.two (ap says here ∙ h.is)
    (subst (λ (l : List ℕ). IsBelow p.generation (says l)) (sym there) h.below)
