-- What came of a test, of a step, of a map.
use Rattle.std.proofs.Common.{◌≡◌, Bool, true, false, cond, ◌&&◌, Option, Some, None, option_map, option_and_then}
use Rattle.std.proofs.Common.{refl, subst}

pub by_cond : {A : Type 0} (P : Type 0) (b : Bool) (x y : Option A) (s : A) → (b ≡ true → x ≡ Some s → P)
    → (b ≡ false → y ≡ Some s → P) → cond b x y ≡ Some s → P
by_cond P true x y s f g e = f refl e
by_cond P false x y s f g e = g refl e

pub both : (a b : Bool) → (a && b) ≡ true → (a ≡ true) × (b ≡ true)
both true b e = (refl, e)
both false b e = cc

-- a test that held
pub kept : {A : Type 0} (b : Bool) (o : Option A) (y : A) → cond b o None ≡ Some y → (b ≡ true) × (o ≡ Some y)
kept true o y e = (refl, e)
kept false o y e = cc

pub stepped : {A B : Type 0} (P : Type 0) (o : Option A) (f : A → Option B) (y : B)
    → ((x : A) → o ≡ Some x → f x ≡ Some y → P) → option_and_then f o ≡ Some y → P
stepped P None f y k e = cc
stepped P (Some x) f y k e = k x refl e

pub from_map : {A B : Type 0} (Has : B → Type 0) (f : A → B) (o : Option A) (y : B)
    → ((x : A) → o ≡ Some x → Has (f x)) → option_map f o ≡ Some y → Has y
from_map Has f None y h e = cc
from_map Has f (Some x) y h e = let is : f x ≡ y = cc in subst Has is (h x refl)

pub same : {A : Type 0} (Has : A → Type 0) (x y : A) → Has x → Some x ≡ Some y → Has y
same Has x y h e = let is : x ≡ y = cc in subst Has is h
