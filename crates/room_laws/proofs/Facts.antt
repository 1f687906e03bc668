-- What equations between options, results and tests say.
use Rattle.std.proofs.Common.{◌≡◌, Bool, true, false, cond, ◌&&◌, Some, None}
use Rattle.std.specs.Prelude.{Result, Ok, Err}

pub some_is : {A : Type 0} (x y : A) → Some x ≡ Some y → x ≡ y
some_is x y p = cc

pub none_some : {A : Type 0} (x : A) → None ≡ Some x → ⊥
none_some x p = cc

pub some_none : {A : Type 0} (x : A) → Some x ≡ None → ⊥
some_none x p = cc

pub ok_is : {A E : Type 0} (x y : A) → ◌≡◌ {A = Result A E} (Ok x) (Ok y) → x ≡ y
ok_is x y p = cc

pub true_false : true ≡ false → ⊥
true_false p = cc

-- what a test lets through

pub under : {A E : Type 0} (b : Bool) (e : E) (x y : A) → cond b (Err e) (Ok x) ≡ Ok y → x ≡ y
under true e x y p = cc
under false e x y p = cc

pub over : {A E : Type 0} (b : Bool) (e : E) (x y : A) → cond b (Ok x) (Err e) ≡ Ok y → x ≡ y
over true e x y p = cc
over false e x y p = cc

pub both : (a b : Bool) → a ≡ true → b ≡ true → (a && b) ≡ true
both true b p q = q
both false b p q = cc
