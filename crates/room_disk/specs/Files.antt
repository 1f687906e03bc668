-- Files in memory.
use Rattle.std.specs.Prelude.{◌≡◌, ◌<◌, ◌^◌, ℕ, List, [], length, Vec, Option, Some, None}
use Rattle.std.specs.declared.alloc.Global.{Global}
use Rattle.std.proofs.Common.{subst}
use Rattle.std.proofs.Math.Bridge.{le_prop}
use Rattle.std.specs.Ordering.{nat_cmp}
use Rattle.std.specs.BTreeMap.{BTreeMap, get}

-- what stands at a file's number; nothing there is an empty file
abbrev pub bytes_at : Option (Vec ℕ Global) → List ℕ
bytes_at None = []
bytes_at (Some bytes) = bytes.items

abbrev pub content_in : BTreeMap ℕ (Vec ℕ Global) → ℕ → List ℕ
content_in files f = bytes_at (get nat_cmp files f)

pub small_prop : (files : BTreeMap ℕ (Vec ℕ Global)) → (p q : (f : ℕ) → length (content_in files f) < 2 ^ 62) → p ≡ q
small_prop files p q = λ i f. le_prop (p f) (q f) i

pub small_seen : (files : BTreeMap ℕ (Vec ℕ Global)) (seen : ℕ → List ℕ) → content_in files ≡ seen
    → ((f : ℕ) → length (content_in files f) < 2 ^ 62) → (f : ℕ) → length (seen f) < 2 ^ 62
small_seen files seen kept small f = subst (λ (h : ℕ → List ℕ). length (h f) < 2 ^ 62) kept (small f)
